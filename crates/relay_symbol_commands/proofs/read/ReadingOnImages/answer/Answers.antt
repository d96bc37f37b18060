use Rattle.std.proofs.{Common.refl, lemmas.Result.err_from_is_err_and}
use Rattle.relay_symbol_commands.specs.Symbols.PrintsPicture.{read, refused}
use Rattle.relay_symbol_commands.proofs.read.ReadingOnImages.answer.Goals as goal

pub returns-in_ok-put_refusal-in-Err-clause-answer : goal.returns-in_ok-put_refusal-in-Err-clause-answer
returns-in_ok-put_refusal-in-Err-clause-answer g c = record {
  said = _;
  answers = refused c.in-Err.refusal c.in-Err.ensures c.note_change.ensures;
  told = (rw c.name-name.ensures at c.in_ok-put_refusal-in-Err.ensures.written, refl, refl);
}

pub returns-in_err-put_refusal-in-Err-clause-answer : goal.returns-in_err-put_refusal-in-Err-clause-answer
returns-in_err-put_refusal-in-Err-clause-answer g c =
    let last = c.from_residual-in_err-put_refusal-in-Err in
    let p = err_from_is_err_and last.result last.ensures.1 in
    rw p.1 record {
      said = _;
      answers = refused c.in-Err.refusal c.in-Err.ensures c.note_change.ensures;
      told = (rw c.name-name.ensures at c.put_refusal.ensures.part, c.in_err-put_refusal-in-Err.ensures.failed);
    }

pub returns-in_ok-put-in-Ok-clause-answer : goal.returns-in_ok-put-in-Ok-clause-answer
returns-in_ok-put-in-Ok-clause-answer g c = record {
  said = _;
  answers = read c.in-Ok.ensures;
  told = (rw c.as_bytes.ensures.value at c.in_ok-put-in-Ok.ensures.written, refl, refl);
}

pub returns-in_err-put-in-Ok-clause-answer : goal.returns-in_err-put-in-Ok-clause-answer
returns-in_err-put-in-Ok-clause-answer g c =
    let last = err_from_is_err_and c.from_residual.result c.from_residual.ensures.1 in
    rw last.1 record {
      said = _;
      answers = read c.in-Ok.ensures;
      told = (rw c.as_bytes.ensures.value at c.put.ensures.part, c.in_err-put-in-Ok.ensures.failed);
    }
