use Rattle.std.proofs.Common.{◌≡◌, ◌<◌, rules, true, false, nat_lt, arith}
use Rattle.relay_shared.proofs.Writing.{puts}
use Rattle.relay_desk_commands.proofs.lines.put_unsound.Goals as goal

pub returns-in-Some : goal.returns-in-Some
returns-in-Some g c =
    let below : c.args.key < 64516 = search rules in
    let test : nat_lt c.args.key 64516 ≡ true = grind (arith, below) in
    rw (test, ← c.word_digits-file.ensures, ← c.as_bytes-name.ensures.value, ← c.in-Some.ensures.same, ← c.id_digits.ensures) (puts _ _ _ c.put_all.result c.put_all.ensures.written c.put_all.ensures.part
    c.put_all.ensures.failed)

pub returns-in-None : goal.returns-in-None
returns-in-None g c =
    let none : c.args.key < 64516 → ⊥ = search rules in
    let test : nat_lt c.args.key 64516 ≡ false = grind (arith, none) in
    rw (test, ← c.word_digits-file.ensures, ← c.as_bytes-name.ensures.value) (puts _ _ _ c.put_all-in-None.result c.put_all-in-None.ensures.written c.put_all-in-None.ensures.part
    c.put_all-in-None.ensures.failed)
