use Rattle.std.proofs.Common.{◌≡◌, ◌<◌, ℕ, length, take, ◌∷◌}
use Rattle.dm_gf256.specs.Field.{product, power, value}
use Rattle.dm_check_blocks.proofs.checks.fill_word_by_word.Given as goal

abbrev pub invariant-loop-word : goal.invariant-loop-word
invariant-loop-word l =
    (x : ℕ) → x < 256 → value (1 ∷ l.generator) x ≡ 0 →
    value l.checks x ≡ product (value (take l.word-index l.message) x) (power x (length l.generator))
