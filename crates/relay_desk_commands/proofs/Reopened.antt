-- A desk that was opened opens again as it was, from the files that the opening left.
use Rattle.std.proofs.Common.{ℕ, Option, Ok, Err, List, refl, sym, subst, ◌∙◌}
use Rattle.std.specs.{Prelude.IsTrue, FinMap.empty}
use Rattle.dm_store.specs.Saved.{Saved, SavedSet}
use Rattle.dm_assembly_desk.specs.Desk.{EndsMove, HoldsJointFile, early, at_key, at_last}
use Rattle.dm_assembly_desk.specs.Documents.{DeskView}
use Rattle.dm_assembly_desk.proofs.JointContents.{holds_none}
use Rattle.dm_assembly_desk.proofs.MovingLaws.{keeps_all}
use Rattle.relay_shared.specs.Files.{DeskFiles}
use Rattle.relay_desk_commands.specs.Desks.{OpensDesk}

-- after a move the joint file holds no document
none_left : (old : Saved) (set : SavedSet) (written : ℕ) (old_after : Saved) (set_after : SavedSet) →
    EndsMove old set (Ok written) old_after set_after → IsTrue old_after.is_honest → HoldsJointFile old_after.content empty
none_left old set written old_after set_after (early ends same_old same_set) =
    subst (λ (s : Saved). IsTrue s.is_honest → HoldsJointFile s.content empty) (sym same_old) ends.1
none_left old set written old_after set_after (at_key held k now next fault reaches is saves same result_is) =
    absurd (cc (result_is))
none_left old set written old_after set_after (at_last held k (Ok done) reaches all replaced memory result_is) =
    λ honest. subst (λ (c : Option (List ℕ)). HoldsJointFile c empty)
    (sym (replaced.done refl (sym replaced.same_honesty ∙ honest))) holds_none
none_left old set written old_after set_after (at_last held k (Err fault) reaches all replaced memory result_is) =
    absurd (cc (result_is))

pub reopens : (before : DeskFiles) (capacity : ℕ) (joint : Saved) (desk : DeskView) → OpensDesk before capacity joint desk →
    OpensDesk (record { joint = joint; set = desk.saved }) capacity joint desk
reopens before capacity joint desk o = record {
  moves = (0, keeps_all (early (refl, none_left _ _ _ _ _ o.moves.1.ends) refl refl));
  opens = o.opens;
}
