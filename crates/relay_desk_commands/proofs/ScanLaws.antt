-- What a desk is after a scan: if a save failed, it has failed, and else it runs on.
use Rattle.dm_pbm_io.specs.Image.{Picture}
use Rattle.relay_shared.specs.Command.{EndsNote}
use Rattle.std.specs.Prelude.{◌≡◌, ℕ, List, Bool, true, false, Result, Ok, Err}
use Rattle.std.proofs.Common.{inl, inr, refl, ap, sym, ◌∙◌}
use Rattle.dm_append_label.specs.{declared.fault.LabelFault.LabelFault, Labels.PageView}
use Rattle.dm_assembly_desk.specs.{Desk.lone, Desk.scan_of, Desk.Scans, Documents.DeskView}
use Rattle.dm_assembly_desk.specs.declared.{adding.AddFault.AddFault, fault.ScanFault.ScanFault}
use Rattle.dm_assembly_desk.specs.declared.adding.AddFault.TheVariants as adds
use Rattle.dm_assembly_desk.specs.declared.fault.ScanFault.TheVariants as scans
use Rattle.dm_assembly_desk.specs.declared.reply.{Accepted.Accepted, Imported.Imported}
use Rattle.dm_assembly_desk.proofs.AddLaws.{says_save, adds_failed}

-- the answer says that a save failed
abbrev pub is_save : Result Accepted ScanFault → Bool
is_save (Err scans.Save) = true
is_save _ = false

pub no_save : (fault : ScanFault) → (fault ≡ scans.Save → ⊥) → is_save (Err fault) ≡ false
no_save scans.Save other = absurd (other refl)
no_save _ other = refl

same_save : (p : PageView) (added : Result Imported AddFault) → is_save (scan_of p added) ≡ says_save added
same_save p (Ok reply) = refl
same_save p (Err adds.Conflict) = refl
same_save p (Err adds.Full) = refl
same_save p (Err adds.Memory) = refl
same_save p (Err adds.Save) = refl

pub after_scan : (opened : Result PageView LabelFault) (before : DeskView) (reply : Result Accepted ScanFault)
    (after : DeskView) → before.is_failed ≡ false → Scans opened before reply after → after.is_failed ≡ is_save reply
after_scan (Ok page) before reply after running done =
    adds_failed page.id (lone page) before after running done.0 done.2
    ∙ sym (ap is_save done.1 ∙ same_save page done.0)
after_scan (Err fault) before reply after running done = cc (ap is_save done.0)

-- the end of a note: no more is tried than may be
pub ends_note : {tried wanted : Bool} {p : Picture} {text ending : List ℕ} → (tried ≡ true → wanted ≡ true)
    → text ≡ ending → EndsNote tried p ending → EndsNote wanted p text
ends_note may same (inl is) = inl (same ∙ is)
ends_note may same (inr (tried, cure, is, ends)) = inr (may tried, cure, is, same ∙ ends)
