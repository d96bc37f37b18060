use Rattle.std.proofs.Common.{◌≡◌, List, ℕ, [], ◌∷◌, refl, arith}
use Rattle.hex.specs.Hex.{encode_lower}
use Rattle.relay_shared.specs.Lines.{hexadecimal}
use Rattle.relay_streams.proofs.Parts.{part_more}
use Rattle.relay_shared.proofs.Writing.{puts, puts_both, puts_first, puts_next, puts_part}
use Rattle.relay_world_command.proofs.reply_lines.put_document.Goals as goal

-- the digits of some bytes
digits_of : (bytes : List ℕ) → (bytes ≡ [] → ⊥) → encode_lower bytes ≡ hexadecimal bytes
digits_of [] some = absurd (some refl)
digits_of (byte ∷ bytes) some = refl

pub returns-in_err-put : goal.returns-in_err-put
returns-in_err-put g c =
    puts_part _ _ c.from_residual.ensures.1 (part_more _ _ _ _ c.put-2.ensures.part) c.in_err-put.ensures.failed

pub returns-in_err-put_hex : goal.returns-in_err-put_hex
returns-in_err-put_hex g c =
    let digits = digits_of c.args.bytes.now (λ e. grind (arith, e, c.is_empty.ensures, c.if-is_empty.false)) in
    puts_next _ _ c.in_ok-put.ensures.written
    (puts_first _ _ _ c.from_residual-in_err-put_hex.ensures.1 (rw digits at c.in_err-put_hex.ensures))

pub returns : goal.returns
returns g c =
    let digits = digits_of c.args.bytes.now (λ e. grind (arith, e, c.is_empty.ensures, c.if-is_empty.false)) in
    puts_next _ _ c.in_ok-put.ensures.written (puts_both _ (rw digits at c.in_ok-put_hex.ensures)
    (puts _ _ _ c.put-3.result c.put-3.ensures.written c.put-3.ensures.part c.put-3.ensures.failed))
