use Rattle.std.proofs.{lemmas.Grind.common_steps, Common.arith, Common.sym, lemmas.Bool.eqb-false}
use Rattle.std.proofs.lemmas.List.{take_rest}
use Rattle.dm_encodation.proofs.AsciiWords.{ascii-digits, ascii-character, ascii-upper}
use Rattle.dm_encodation.proofs.ascii.first_piece.Goals as goal

pub returns-then-begins_with_digits-clause-words : goal.returns-then-begins_with_digits-clause-words
returns-then-begins_with_digits-clause-words c =
    rw take_rest (ascii-digits c.args.bytes.now (sym c.if-begins_with_digits.ensures))

pub returns-then-bytes-lt128-clause-words : goal.returns-then-bytes-lt128-clause-words
returns-then-bytes-lt128-clause-words c = grind (arith, common_steps, take_rest, ascii-character, eqb-false)

pub returns-else-bytes-lt128-clause-words : goal.returns-else-bytes-lt128-clause-words
returns-else-bytes-lt128-clause-words c = grind (arith, common_steps, take_rest, ascii-upper, eqb-false)
