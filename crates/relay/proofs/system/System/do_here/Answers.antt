use Rattle.std.proofs.Common.{refl, sym, ◌∙◌}
use Rattle.relay.proofs.system.System.do_here.Goals as goal

pub returns-in_default-clause-does : goal.returns-in_default-clause-does
returns-in_default-clause-does g c = record {
  before = _;
  after = _;
  done = c.do_between-done.result.standard;
  between = c.do_between-done.ensures;
  is_at = rw (sym c.in_default.ensures.path) refl;
  noted = c.noted-standard.ensures.notes;
}

pub returns-clause-does : goal.returns-clause-does
returns-clause-does g c = record {
  before = _;
  after = _;
  done = c.do_between-done-2.result.standard;
  between = c.do_between-done-2.ensures;
  is_at = rw (sym c.in-Some.ensures.path) (
    c.in-Ok.ensures.there,
    c.close-note.ensures.there,
    λ other is_other. c.close-note.ensures.others other is_other ∙ c.open.ensures.others other is_other,
  );
  noted = c.noted-standard-2.ensures.notes;
}

pub returns-clause-absent : goal.returns-clause-absent
returns-clause-absent g c = λ absent. rw (sym c.in-Some.ensures.path) (c.close-note.ensures.absent absent)
