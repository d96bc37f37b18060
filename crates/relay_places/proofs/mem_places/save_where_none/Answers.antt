use Rattle.std.proofs.Common.{◌∙◌, inr, sym}
use Rattle.relay_places.proofs.Nothing.{is_zero, no_keys, nothing_found}
use Rattle.relay_places.proofs.mem_places.save_where_none.Goals as goal

pub returns-in-None-clause-saves : goal.returns-in-None-clause-saves
returns-in-None-clause-saves c = inr (
  (
    λ honest. nothing_found _ _ _ c.content.ensures c.in-None.is,
    λ honest. no_keys _ _ (c.in_ok-keys.ensures.lists.saved honest) (sym c.in_ok-keys.field-0.ok.0 ∙ is_zero _ c.if-not-is_empty.ensures),
  ),
  c.replace.ensures.replaces,
)
