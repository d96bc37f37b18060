use Rattle.std.proofs.Common.{◌∙◌, inl, inr, refl, sym}
use Rattle.relay.proofs.standard.StandardStreams.noted.Goals as goal

pub returns-in-Some : goal.returns-in-Some
returns-in-Some g c =
    let same = c.as_bytes.ensures.value ∙ c.as_str.ensures.same in
    record {
      notes = inr (c.as_bytes.result.now, rw c.as_bytes.ensures.value c.as_str.ensures.is_note, c.show_on_errors.ensures);
      text = rw (c.in-Some.is, sym same) c.show_on_errors.ensures;
    }

pub returns-in-None : goal.returns-in-None
returns-in-None g c = record { notes = inl refl; text = rw c.in-None.is refl }
