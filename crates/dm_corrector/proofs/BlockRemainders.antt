-- The remainder of a block: the sum of its error correction codewords and of those that its data codewords have in a
-- sound block.
use Rattle.std.proofs.Common.{◌≡◌, ℕ, ◌+◌, ◌<◌, ◌≤◌, ◌↔◌, sym, ◌∙◌, ap, arith, List, length, length-drop, get_or, take, drop, replicate}
use Rattle.std.proofs.lemmas.{List.length-replicate, List.take-append-drop, Nat.xor_comm}
use Rattle.std.proofs.lemmas.List.Elements.{All-get_or, All-from_get_or, recursion_from_All}
use Rattle.std.specs.List.{All}
use Rattle.dm_gf256.specs.Field.{power, add_scaled, value, IsSoundBlock}
use Rattle.dm_gf256.proofs.Divide.{length-add_scaled, value-add_scaled, value-append, xor_solve}
use Rattle.dm_gf256.proofs.{OneBlockWord.one_block_word, Ring.one-product, Ring.power_byte, Ring.product_byte}
use Rattle.dm_check_blocks.proofs.{DivisionSteps.zeros_at, OneCompletion.differ_most, Remainders.zeros_value}
use Rattle.dm_corrector.specs.inner.Polynomials.{IsRemainder}

-- a remainder with the values of a block at the generator polynomial's roots is zero exactly for a sound block
zero_remainder : (c : ℕ) (rest block : List ℕ) → c ≤ 255 → length rest ≡ c → All (λ word. word < 256) rest →
    ((k : ℕ) → 1 ≤ k → k ≤ c → value rest (power 2 k) ≡ value block (power 2 k)) →
    All (λ word. word ≡ 0) rest ↔ IsSoundBlock c block
zero_remainder c rest block most long bytes same =
    let zs : List ℕ = replicate c 0 in
    let lz : length zs ≡ c = length-replicate c 0 in
    let zero_bytes : All (λ word. word < 256) zs =
    All-from_get_or (λ word. word < 256) zs 0 (λ i h. rw (zeros_at c i) (omega arith)) in (
      (λ z k p q. sym (same k p q) ∙
          zeros_value rest (power 2 k) (λ i h. All-get_or (λ word. word ≡ 0) rest i 0 h z)),
      (λ b.
          let is : rest ≡ zs = one_block_word c rest zs (long ∙ sym lz) (omega arith) (recursion_from_All _ rest bytes)
          (recursion_from_All _ zs zero_bytes) (λ k p q. same k p q ∙ b k p q)
          (λ k p q. zeros_value zs (power 2 k) (λ i h. zeros_at c i))
          (let d = differ_most rest zs in omega arith) in
          All-from_get_or (λ word. word ≡ 0) rest 0 (λ i h. ap (λ t. get_or t i 0) is ∙ zeros_at c i)),
    )

-- the remainder of a block, given a sound block with the same data codewords
pub is_remainder : (checks d : ℕ) (block word rest : List ℕ) → length block ≡ d + checks → length word ≡ d + checks →
    checks ≤ 255 → take d word ≡ take d block → IsSoundBlock checks word → All (λ x. x < 256) rest →
    rest ≡ add_scaled 1 (drop d block) (drop d word) → IsRemainder checks block rest
is_remainder checks d block word rest lb lw most same holds bytes is =
    grind (
      arith,
      length-drop d block,
      length-drop d word,
      length-add_scaled 1 (drop d block) (drop d word),
      take-append-drop d block,
      take-append-drop d word,
      length-drop,
      length-add_scaled,
      power_byte,
      take-append-drop,
      value-append,
      xor_solve,
      value-add_scaled,
      one-product,
      product_byte,
      xor_comm,
      zero_remainder,
    )
