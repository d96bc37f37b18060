use Rattle.std.proofs.Common.{◌≡◌, ◌+◌, ◌-◌, ◌<◌, ◌++◌, ℕ, List, sym, ◌∙◌, ap, subst, arith, length, length-take, length-drop, take, drop, replicate}
use Rattle.std.specs.Prelude.{slice_range}
use Rattle.std.proofs.lemmas.List.{get_or-take, get_or-drop}
use Rattle.dm_gf256.specs.Field.{power, value}
use Rattle.dm_size.specs.Sizes.{blocks, block_data, block_checks}
use Rattle.dm_check_blocks.specs.{Blocks.position, Blocks.block_of, inner.Remainders.row_at, inner.Remainders.IsDivided}
use Rattle.dm_size.proofs.Sound.{sound}
use Rattle.dm_check_blocks.proofs.DivisionSteps.{divided_message}
use Rattle.dm_check_blocks.proofs.Interleaving.{block_of-parts, position_in_data}
use Rattle.dm_check_blocks.proofs.symbol.complete_in_turns.Goals as goal

pub returns-clause-completed : goal.returns-clause-completed
returns-clause-completed c = λ b h.
    let s = c.args.size in
    let d = block_data s in let n = block_checks s in
    let most = (sound s).most_checks in let few = (sound s).most_block_data in
    let old : List ℕ = row_at c.read_blocks.new.windows b in
    let new : List ℕ = row_at c.divide.new.windows b in
    let held = c.read_blocks.ensures b h in
    let wide : length (take c.blocks-2.result (let z : List (List ℕ) = replicate 8 (replicate 336 0) in z)) ≡ blocks s =
    simp length-take (omega (arith, c.blocks-2.ensures.sound.most_blocks, c.blocks-2.ensures.value)) in
    let inside : b < length c.read_blocks.new.windows = omega (arith, c.read_blocks.auto.windows, wide) in
    let divided : IsDivided n d old new =
    subst (λ (t : ℕ). IsDivided n t old new) c.block_data.ensures.value
    (subst (λ (t : ℕ). IsDivided t c.block_data.result old new) c.block_checks.ensures.value (c.divide.ensures b inside)) in
    let words : List ℕ = c.write_blocks.new.words in
    let message : List ℕ = take d old in
    let rest : List ℕ = slice_range new d (d + n) in
    let first : length message ≡ d = simp length-take (omega (arith, held.size)) in
    let long : length rest ≡ n = simp (length-take, length-drop) (omega (arith, held.size, divided.size)) in
    let parts : block_of s b words ≡ message ++ rest =
    block_of-parts s b message rest words first long
    (λ i l. get_or-take d old i 0 l ∙ held.words_read i l ∙
    sym (c.write_blocks.ensures.message (position s b i) (position_in_data s b i h l)))
    (λ k l. c.write_blocks.ensures.written b h k l ∙ sym (get_or-take (d + n - d) (drop d new) k 0 (omega arith) ∙
    get_or-drop d new k 0)) in
    λ k p q. ap (λ t. value t (power 2 k)) parts ∙
    divided_message n d old new divided held.size (omega arith) held.zeros k p q
