use Rattle.std.proofs.Common.{rules, ◌≡◌, Ok, Err, refl, sym, ◌∙◌}
use Rattle.std.proofs.lemmas.Result.{err_from_is_err_and}
use Rattle.relay_desk_commands.specs.Desks.{ScansPicture.accepted, ScansPicture.no_grid, ScansPicture.refused, ScansPicture.unsettled}
use Rattle.relay_desk_commands.proofs.ScanLaws.{after_scan, ends_note, no_save}
use Rattle.relay_desk_commands.proofs.scan.ScanningOnImages.answer.Goals.{in-Save, in_default-matches}
use Rattle.relay_desk_commands.proofs.scan.ScanningOnImages.answer.Goals as goal

pub returns-in_default-clause-answer : goal.returns-in_default-clause-answer
returns-in_default-clause-answer g c = record {
  said = _;
  answers = no_grid (search rules) (
    c.deref.result.now,
    ends_note (λ e. e) c.deref.ensures c.note_ending-ending.ensures,
    rw c.name-name.ensures at c.put_image_note.ensures,
  );
  told = rw c.requires.running (rw c.name-name.ensures at c.put_refused.ensures);
}

pub returns-in-Err-clause-answer : goal.returns-in-Err-clause-answer
returns-in-Err-clause-answer g c =
    let why = c.in-Err.ensures.answers in
    rw why.1 record {
      said = _;
      answers = unsettled c.in-Some.grid c.in-Err.fault c.in-Some.ensures.0 c.in-Some.ensures.1 why.0
          (rw (c.name-name-in-Err.ensures, c.from.ensures) at c.put_image_note-in-Err.ensures);
      told = rw (c.requires.running, ← c.from.ensures, ← c.name-name-in-Err.ensures) c.put_refused-in-Err.ensures;
    }

pub returns-in_ok-put_accepted-in-Ok-accepted-clause-answer : goal.returns-in_ok-put_accepted-in-Ok-accepted-clause-answer
returns-in_ok-put_accepted-in-Ok-accepted-clause-answer g c =
    let accepts = rw c.in-Ok-accepted.is at c.in-Ok.ensures.answers in
    let reply = Ok c.in-Ok-accepted.accepted in
    let runs = after_scan accepts.opened _ reply c.accept.new.self.desk c.requires.running accepts.scans in record {
      said = _;
      answers = accepted c.in-Some.grid c.in-Ok-accepted.accepted c.in-Some.ensures.0 c.in-Some.ensures.1 accepts;
      told = (rw c.name-kind.ensures at c.in_ok-put_accepted-in-Ok-accepted.ensures.written, refl, sym runs);
    }

pub returns-in_err-put_accepted-in-Ok-accepted-clause-answer : goal.returns-in_err-put_accepted-in-Ok-accepted-clause-answer
returns-in_err-put_accepted-in-Ok-accepted-clause-answer g c =
    let last = err_from_is_err_and c.from_residual.result c.from_residual.ensures.1 in
    rw last.1 record {
      said = _;
      answers = accepted c.in-Some.grid c.in-Ok-accepted.accepted c.in-Some.ensures.0 c.in-Some.ensures.1
          (rw c.in-Ok-accepted.is at c.in-Ok.ensures.answers);
      told = (rw c.name-kind.ensures at c.put_accepted.ensures.part, c.in_err-put_accepted-in-Ok-accepted.ensures.failed);
    }

pub returns-after-matches-clause-answer : goal.returns-after-matches-clause-answer
returns-after-matches-clause-answer g c =
    let fault = c.in-Err-accepted.fault in
    let accepts = rw c.in-Err-accepted.is at c.in-Ok.ensures.answers in
    let ends = after_scan accepts.opened _ (Err fault) c.accept.new.self.desk c.requires.running accepts.scans in
    let last : c.match-matches.matches ≡ c.accept.new.self.desk.is_failed = elim c.match-matches.branch [
      | in-Save w ↦ w.matches-is ∙ sym (rw w.in-Save.is at ends)
      | in_default-matches w ↦ w.matches-is ∙ sym (ends ∙ no_save fault w.in_default-matches.not-Save)
    ] in record {
      said = _;
      answers = refused c.in-Some.grid fault c.id_of_label-id.result c.in-Some.ensures.0 c.in-Some.ensures.1 accepts
          c.id_of_label-id.ensures (
            c.deref-in-Err-accepted.result.now,
            rw c.deref-in-Err-accepted.ensures c.ending_of-ending.ensures,
            rw c.name-name-in-Err-accepted.ensures at c.put_image_note-in-Err-accepted.ensures,
          );
      told = rw (c.name-name-in-Err-accepted.ensures, last) at c.put_refused-in-Err-accepted.ensures;
    }
