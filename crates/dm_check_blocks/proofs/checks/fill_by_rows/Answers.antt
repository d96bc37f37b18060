use Rattle.std.proofs.Common.{◌≡◌, ◌++◌, ℕ, List, sym, ◌∙◌, ap, arith, length, length-append, length-drop, take, drop, replicate}
use Rattle.std.proofs.lemmas.List.{take_at}
use Rattle.dm_gf256.specs.Field.{power, value}
use Rattle.dm_check_blocks.specs.inner.Remainders.{row_at, IsDivided}
use Rattle.dm_check_blocks.proofs.DivisionSteps.{divided_message, zeros_after}
use Rattle.dm_check_blocks.proofs.checks.fill_by_rows.Goals as goal

pub returns : goal.returns
returns c = λ k p q.
    let zs : List ℕ = replicate 336 0 in
    let message : List ℕ = c.copy_from_slice.new.self in
    let d : ℕ = length c.args.message.now in
    let n : ℕ = length c.args.checks.now in
    let old : List ℕ = message ++ drop d zs in
    let new : List ℕ = row_at c.divide.new.windows 0 in
    let same : message ≡ c.args.message.now = c.copy_from_slice.ensures.after in
    let first : length message ≡ d = ap length same in
    let size : length old ≡ 336 = simp (length-append, length-drop) (omega arith) in
    let divided : IsDivided n d old new = c.divide.ensures 0 (omega arith) in
    ap (λ t. value (t ++ c.copy_from_slice-2.new.self) (power 2 k))
    (sym same ∙ sym (take_at message (drop d zs) d first))
    ∙ ap (λ t. value (take d old ++ t) (power 2 k)) c.copy_from_slice-2.ensures.after
    ∙ divided_message n d old new divided size (omega arith) (λ i h. zeros_after 336 message d i first h) k p q
