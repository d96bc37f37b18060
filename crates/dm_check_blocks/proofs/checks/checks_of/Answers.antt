use Rattle.std.proofs.{Common.length, Common.arith, lemmas.List.Elements.recursion_from_All}
use Rattle.dm_gf256.proofs.OneBlockWord.{bytes_from_places}
use Rattle.dm_check_blocks.proofs.OneCompletion.{one_list_of_checks}
use Rattle.dm_check_blocks.proofs.checks.checks_of.Goals as goal

pub returns-then-message-lt-FEWEST_BY_ROWS-clause-only : goal.returns-then-message-lt-FEWEST_BY_ROWS-clause-only
returns-then-message-lt-FEWEST_BY_ROWS-clause-only c = λ others same bytes word.
    one_list_of_checks (length c.args.checks.now) c.args.message.now others c.fill_word_by_word.new.checks same
    (omega arith) c.requires.fits
    (bytes_from_places c.args.message.now (λ i. (c.type_inv.message i).fits)) (recursion_from_All _ others bytes)
    (bytes_from_places c.fill_word_by_word.new.checks (λ i. (c.type_inv.checks i).fits)) word c.fill_word_by_word.ensures

pub returns-else-message-lt-FEWEST_BY_ROWS-clause-only : goal.returns-else-message-lt-FEWEST_BY_ROWS-clause-only
returns-else-message-lt-FEWEST_BY_ROWS-clause-only c = λ others same bytes word.
    one_list_of_checks (length c.args.checks.now) c.args.message.now others c.fill_by_rows.new.checks same
    (omega arith) c.requires.fits
    (bytes_from_places c.args.message.now (λ i. (c.type_inv.message i).fits)) (recursion_from_All _ others bytes)
    (bytes_from_places c.fill_by_rows.new.checks (λ i. (c.type_inv.checks i).fits)) word c.fill_by_rows.ensures
