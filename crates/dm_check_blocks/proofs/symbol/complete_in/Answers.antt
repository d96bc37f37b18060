use Rattle.std.proofs.Common.{◌≡◌, ◌++◌, ◌∙◌, ap, arith, drop, get_or, length, length-append, length-drop}
use Rattle.std.proofs.lemmas.List.{get_or_append_left}
use Rattle.dm_size.specs.Sizes.{all_words}
use Rattle.dm_check_blocks.proofs.Symbols.{completes}
use Rattle.dm_check_blocks.proofs.symbol.complete_in.Goals as goal

pub returns : goal.returns
returns c =
    let message = c.args.message.now in
    let same : c.copy_from_slice.new.self ≡ message = c.copy_from_slice.ensures.after in
    let long : length c.complete_blocks.new.words ≡ all_words c.args.size =
    c.complete_blocks.auto.words ∙ simp (length-append, length-drop) (omega (arith, ap length same)) in
    completes c.args.size message c.complete_blocks.new.words c.requires.message long c.complete_blocks.ensures.bytes
    (λ p h. c.complete_blocks.ensures.message p h
    ∙ ap (λ t. get_or (t ++ drop (length message) c.args.words.now) p 0) same
    ∙ get_or_append_left message _ 0 p (omega arith)) c.complete_blocks.ensures.completed
