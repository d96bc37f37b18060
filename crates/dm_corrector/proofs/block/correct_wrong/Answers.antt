use Rattle.std.proofs.Common.{refl, sym, ap, ◌∙◌, ◌≡◌, ◌<◌, ◌≤◌, ◌*◌, ◌/◌, arith, length, ℕ, List}
use Rattle.std.proofs.lemmas.{List.length-map, Bool.false≢true}
use Rattle.dm_gf256.specs.{declared.element.Gf.Gf, Field.numbers, Field.differ, Field.sum_word, Field.IsSoundBlock}
use Rattle.dm_corrector.specs.{inner.Polynomials.AreSyndromes, Symbols.Corrects, Symbols.IsLocator}
use Rattle.dm_corrector.proofs.Corrected.{recovered, block_syndromes, one_correction}
use Rattle.dm_corrector.proofs.block.correct_wrong.Goals as goal

pub locate-locator-requires : goal.locate-locator-requires
locate-locator-requires g c =
    let n : length c.as_slice-used.result.now ≡ c.args.checks / 2 * 2 = ap length c.as_slice-used.ensures.value ∙
    c.syndromes_of-syndromes.ensures.count in
    (c.args.checks / 2, omega arith, omega arith)

pub roots_of-roots-requires-clause-locator : goal.roots_of-roots-requires-clause-locator
roots_of-roots-requires-clause-locator g c =
    let n : length c.as_slice-used.result.now ≡ c.args.checks / 2 * 2 = ap length c.as_slice-used.ensures.value ∙
    c.syndromes_of-syndromes.ensures.count in (
      c.args.checks / 2,
      numbers c.as_slice-used.result.now,
      omega arith,
      (rw c.as_slice.ensures.value (c.locate-locator.ensures (c.args.checks / 2) (omega arith))),
    )

few_roots : (t n : ℕ) (s : List ℕ) (p : List Gf) → n < length p → IsLocator t s (numbers p) → n ≤ t
few_roots t n s p h i = grind (arith, length-map)

-- there are at most as many roots as wrong codewords may be put right
pub take_out-requires-clause-given : goal.take_out-requires-clause-given
take_out-requires-clause-given g c =
    let t = c.args.checks / 2 in
    let n : length c.as_slice-used.result.now ≡ t * 2 = ap length c.as_slice-used.ensures.value ∙
    c.syndromes_of-syndromes.ensures.count in
    let i : IsLocator t (numbers c.as_slice-used.result.now) (numbers c.as_slice.result.now) =
    rw c.as_slice.ensures.value (c.locate-locator.ensures t (omega arith)) in
    let f : length c.roots_of-roots.result.items ≤ t =
    few_roots t _ _ c.as_slice.result.now c.roots_of-roots.ensures.few i in
    let r : length c.as_slice-2.result.now ≡ length c.roots_of-roots.result.items =
    ap length c.as_slice-2.ensures.value in
    omega arith

pub returns-else-is_block_word : goal.returns-else-is_block_word
returns-else-is_block_word g c = record {
  near = tt;
  changed = tt;
  only = tt;
  none =
      λ w r.
      let checks = c.args.checks in
      let t = checks / 2 in
      let old = c.args.block.now in
      let used = c.as_slice-used.result.now in
      let n : length used ≡ t * 2 = ap length c.as_slice-used.ensures.value ∙ c.syndromes_of-syndromes.ensures.count in
      let i : IsLocator t (numbers used) (numbers c.as_slice.result.now) =
      rw c.as_slice.ensures.value (c.locate-locator.ensures t (omega arith)) in
      let are : AreSyndromes (t * 2) (numbers used) old =
      block_syndromes checks (t * 2) (numbers used) c.args.remainder.now old (omega arith) c.requires.remainder
      (rw c.as_slice-used.ensures.value c.syndromes_of-syndromes.ensures.values) in
      let copied : c.copy_from_slice.new.self ≡ old = c.copy_from_slice.ensures.after in
      let same : c.take_out.new.block ≡ w =
      recovered checks old w c.take_out.new.block (numbers used) (numbers c.as_slice.result.now)
      c.as_slice-2.result.now r c.requires.fits c.requires.bytes i are
      (λ f h z. rw c.as_slice-2.ensures.value (c.roots_of-roots.ensures.all f h z))
      (λ e l b s d. c.take_out.ensures.taken e (l ∙ sym (ap length copied)) b (λ k h. s k (omega arith)) d ∙
      ap (λ v. sum_word v e) copied) in
      let word : IsSoundBlock checks c.take_out.new.block = rw same r.block_word in
      false≢true (c.if-is_block_word.ensures.1 word);
  unchanged = refl;
}

pub returns-then-is_block_word : goal.returns-then-is_block_word
returns-then-is_block_word g c =
    let checks = c.args.checks in
    let t = checks / 2 in
    let old = c.args.block.now in
    let n : length c.as_slice-used.result.now ≡ t * 2 = ap length c.as_slice-used.ensures.value ∙
    c.syndromes_of-syndromes.ensures.count in
    let i : IsLocator t (numbers c.as_slice-used.result.now) (numbers c.as_slice.result.now) =
    rw c.as_slice.ensures.value (c.locate-locator.ensures t (omega arith)) in
    let f : length c.roots_of-roots.result.items ≤ t =
    few_roots t _ _ c.as_slice.result.now c.roots_of-roots.ensures.few i in
    let r : length c.as_slice-2.result.now ≡ length c.roots_of-roots.result.items =
    ap length c.as_slice-2.ensures.value in
    let few : differ c.copy_from_slice.new.self c.take_out.new.block ≤ length c.as_slice-2.result.now =
    c.take_out.ensures.few in
    let copied : differ old c.take_out.new.block ≡ differ c.copy_from_slice.new.self c.take_out.new.block =
    ap (λ v. differ v c.take_out.new.block) (sym c.copy_from_slice.ensures.after) in
    let near : Corrects checks old c.take_out.new.block = record {
      bytes = c.differing-changed.ensures.bytes;
      size = c.take_out.auto.block ∙ ap length c.copy_from_slice.ensures.after;
      block_word = c.if-is_block_word.ensures.0 refl;
      near = omega arith;
    } in
    rw c.copy_from_slice-then-is_block_word.ensures.after (record {
      near = near;
      changed = omega (arith, c.differing-changed.ensures.places);
      only = λ w s. one_correction checks old c.take_out.new.block w c.requires.fits near s;
      none = tt;
      unchanged = tt;
    })
