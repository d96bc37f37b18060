use Rattle.std.proofs.{Common.◌∙◌, lemmas.List.take_at}
use Rattle.dm_check_blocks.proofs.Symbols.{one_symbol}
use Rattle.dm_check_blocks.proofs.symbol.complete.Goals as goal

pub returns : goal.returns
returns g c =
    let words = c.complete_in.new.words in
    rw (take_at words _ _ (c.complete_in.auto.words ∙ c.as_mut_slice.ensures.len)) (record {
      completed = c.complete_in.ensures;
      only = λ others h. one_symbol c.args.size c.args.message.now others words h c.complete_in.ensures;
    })
