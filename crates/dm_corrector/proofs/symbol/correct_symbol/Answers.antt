use Rattle.std.proofs.Common.{◌≡◌, ◌<◌, ℕ, List, sym, ◌∙◌, subst, arith, length, rules}
use Rattle.std.specs.List.{All}
use Rattle.dm_size.specs.{declared.size.Size.Size, Sizes.all_words, Sizes.blocks, Sizes.block_checks}
use Rattle.dm_check_blocks.specs.Blocks.{block_of}
use Rattle.dm_corrector.specs.Symbols.{Corrects, CorrectsSymbol}
use Rattle.dm_gf256.specs.Field.{IsSoundBlock}
use Rattle.dm_gf256.proofs.OneBlockWord.{differ-self}
use Rattle.dm_corrector.proofs.SymbolBlocks.{block_alone, one_symbol, sound_symbol, symbol_alone}
use Rattle.dm_corrector.proofs.symbol.correct_symbol.Goals as goal

-- words that were completed to themselves are clean
clean : (s : Size) (words completed : List ℕ) → completed ≡ words → length words ≡ all_words s
    → ((b : ℕ) → b < blocks s → IsSoundBlock (block_checks s) (block_of s b completed))
    → All (λ word. word < 256) completed → CorrectsSymbol s words words
clean s words completed same count sound bytes =
    sound_symbol s words count
    (subst (λ (v : List ℕ). (b : ℕ) → b < blocks s → IsSoundBlock (block_checks s) (block_of s b v)) same sound)
    (subst (λ (v : List ℕ). All (λ word. word < 256) v) same bytes)

pub returns-in-Ok-clause-near : goal.returns-in-Ok-clause-near
returns-in-Ok-clause-near c = block_alone c.args.size _ _ c.args.words.now c.correct.new.block
    c.blocks-blocks.ensures.value c.if-blocks-eq1.true c.block_checks.ensures.value c.requires c.in-Ok.ensures.near

pub returns-in-Ok-clause-block_words : goal.returns-in-Ok-clause-block_words
returns-in-Ok-clause-block_words c =
    let is = block_alone c.args.size _ _ c.args.words.now c.correct.new.block
    c.blocks-blocks.ensures.value c.if-blocks-eq1.true c.block_checks.ensures.value c.requires c.in-Ok.ensures.near in
    record { count = is.count; bytes = c.in-Ok.ensures.near.bytes; block_words = λ b l. (is.each_block b l).block_word }

pub returns-in-Ok-clause-only : goal.returns-in-Ok-clause-only
returns-in-Ok-clause-only c = λ w r. c.in-Ok.ensures.only w (symbol_alone c.args.size _ _ c.args.words.now w
    c.blocks-blocks.ensures.value c.if-blocks-eq1.true c.block_checks.ensures.value c.requires r)

pub returns-in-Err-correct_block-clause-first : goal.returns-in-Err-correct_block-clause-first
returns-in-Err-correct_block-clause-first c =
    let s = c.args.size in
    let k = c.loop-block.block in
    let inside : k < blocks s = (let e : c.blocks-blocks.result ≡ blocks s = c.blocks-blocks.ensures.value in
    let l : k < c.blocks-blocks.result = c.loop-block-test.true in omega arith) in
    let P : List ℕ → Type 0 = λ v. (w : List ℕ) → Corrects (block_checks s) v w → ⊥ in
    record {
      in_range = inside;
      faulty = subst P (c.loop-block.invariant.rest k (omega arith) inside) c.in-Err-correct_block.ensures.none;
      earlier = λ b l. (block_of s b c.loop-block.corrected, c.loop-block.invariant.done b l);
    }

pub returns-then-eq-clause-near : goal.returns-then-eq-clause-near
returns-then-eq-clause-near c = clean c.args.size c.args.words.now c.complete_blocks.new.words (search rules) c.requires
    c.complete_blocks.ensures.completed c.complete_blocks.ensures.bytes

pub returns-then-eq-clause-changed : goal.returns-then-eq-clause-changed
returns-then-eq-clause-changed c = sym (differ-self c.args.words.now)

pub returns-then-eq-clause-only : goal.returns-then-eq-clause-only
returns-then-eq-clause-only c = λ w. one_symbol c.args.size c.args.words.now c.args.words.now w
    (clean c.args.size c.args.words.now c.complete_blocks.new.words (search rules) c.requires
    c.complete_blocks.ensures.completed c.complete_blocks.ensures.bytes)

pub returns-clause-only : goal.returns-clause-only
returns-clause-only c = λ w r.
    let s = c.args.size in
    let new = c.loop-block.corrected in
    let e : c.blocks-blocks.result ≡ blocks s = c.blocks-blocks.ensures.value in
    one_symbol s c.args.words.now new w (record {
      count = c.loop-block.invariant.count;
      each_block = λ b l. c.loop-block.invariant.done b (omega arith);
    }) r
    ∙ sym c.copy_from_slice-3.ensures.after
