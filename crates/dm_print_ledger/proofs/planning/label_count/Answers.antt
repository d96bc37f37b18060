use Rattle.std.proofs.Common.{Some, ap, sym, ◌∙◌, length}
use Rattle.dm_print_ledger.proofs.planning.label_count.Goals as goal

pub returns-in_default-clause-exact : goal.returns-in_default-clause-exact
returns-in_default-clause-exact c = λ count labels. absurd (c.in_default.ensures.none labels.0 labels.1)

pub returns-clause-some : goal.returns-clause-some
returns-clause-some c = (c.in-Ok.ends.items, c.in-Ok.ensures.ends, c.len.ensures.value)

pub returns-clause-exact : goal.returns-clause-exact
returns-clause-exact c = λ count labels.
    ap Some (c.len.ensures.value
    ∙ ap length (c.parts_of_a_document.ensures.one _ _ _ _ _ c.in-Ok.ensures.ends labels.1) ∙ sym labels.2)
