-- What comes out of a command that delivers: the document of its ID, on the output or as the file where it is saved.
use Rattle.std.proofs.Common.{◌≡◌, ◌≢◌, ◌++◌, ◌∷◌, ◌⊎◌, inl, inr, ℕ, List, [], None, Option, Some, Result, Ok, Err, refl, sym, ap, subst, ◌∙◌, append-nil, append_assoc, arith}
use Rattle.std.specs.{Prelude.IsTrue, Io.KnownBytes.Appends, Io.KnownBytes.Keeps, Io.KnownBytes.append_known}
use Rattle.dm_store.specs.Saved.{HeldAfterFault, Saved, SavePlan, SavesFine, SavesOpen, FaultOld, FaultNew}
use Rattle.dm_store.specs.declared.store.StoreFault.{StoreFault}
use Rattle.dm_store.specs.declared.store.StoreFault.TheVariants as faults
use Rattle.relay_command.specs.declared.command.Command.{Command}
use Rattle.relay_shared.specs.Files.{DeskFiles}
use Rattle.relay_shared.specs.Command.{FileView}
use Rattle.relay_desk_commands.specs.Desks.{IsTextOfId}
use Rattle.relay_buffers.specs.Buffers.{IsPartOut}
use Rattle.relay_streams.specs.Streams.{AppendsPart, OutputView}
use Rattle.relay.specs.Places.{PlacesView, SavesNew}
use Rattle.relay.specs.Program.{DoesAndSaves, DoesAt, Notes, PutsOut, StandardView, SystemView, TellsSave, lets_all_out, says_nothing, says_so}
use Rattle.relay_program_runs.specs.Law.{PrintsUnder, Ran, SomeRan, WritesPrinted, passed, writes, writes_nothing}
use Rattle.relay_program_runs.specs.Lines.{PutsTheDocument, SavesTheDocument, ran_at}
use Rattle.relay_program_runs.proofs.{GotOut.refused_one, Lists.before_or_now}

-- ---- known bytes

pub part_all : (o : Option (List ℕ)) → IsPartOut o o
part_all None = ([], tt)
part_all (Some xs) = ([], append-nil xs)

part_kept : (wrote out : Option (List ℕ)) → Keeps wrote out → IsPartOut wrote out
part_kept None out keeps = ([], tt)
part_kept (Some w) None keeps = absurd keeps
part_kept (Some w) (Some z) keeps = ([], append-nil z ∙ keeps)

pub part_of : (old wrote out : Option (List ℕ)) (text : List ℕ) → AppendsPart old wrote text → IsPartOut wrote out →
    IsPartOut (append_known old text) out
part_of None wrote out text part is = ([], tt)
part_of (Some xs) None out text part is = absurd part.2
part_of (Some xs) (Some w) None text part is = absurd is.1
part_of (Some xs) (Some w) (Some z) text (part, (rest, is), added) (r, keeps) = (
  r ++ rest,
  sym (append_assoc z r rest) ∙ ap (λ (l : List ℕ). l ++ rest) (keeps ∙ added) ∙ append_assoc xs part rest
      ∙ ap (λ (l : List ℕ). xs ++ l) (sym is),
)

pub all_of : (old wrote out : Option (List ℕ)) (text : List ℕ) → Appends old wrote text → Keeps wrote out → Appends old out text
all_of None wrote out text all keeps = tt
all_of (Some xs) None out text all keeps = absurd all
all_of (Some xs) (Some w) None text all keeps = absurd keeps
all_of (Some xs) (Some w) (Some z) text all keeps = keeps ∙ all

-- ---- what is out

pub not_zero : {status : ℕ} → status ≡ 1 → status ≢ 0
not_zero one zero = omega arith

pub noted_same : (old new : StandardView) → Notes old new → new.output ≡ old.output
noted_same old new (inl is) = ap (λ (s : StandardView). s.output) is
noted_same old new (inr (note, is, shows)) = shows.1

module _ {wrote out errors : Option (List ℕ)} {told : OutputView} {ended status : ℕ} where
  out_part : PutsOut wrote told ended status out errors → IsPartOut wrote out
  out_part (lets_all_out keeps same part told) = part_kept wrote out keeps
  out_part (says_nothing not_done part same tells) = part
  out_part (says_so after part tells so) = part

  pub out_all : PutsOut wrote told ended status out errors → status ≡ 0 → (ended ≡ 0) × Keeps wrote out
  out_all (lets_all_out keeps same part told) zero = (sym same ∙ zero, keeps)
  out_all (says_nothing not_done part same tells) zero = absurd (not_done (sym same ∙ zero))
  out_all (says_so after part tells so) zero = absurd (not_zero (refused_one tells) zero)

  out_one : PutsOut wrote told ended status out errors → ended ≡ 1 → status ≡ 1
  out_one (lets_all_out keeps same part told) one = same ∙ one
  out_one (says_nothing not_done part same tells) one = same ∙ one
  out_one (says_so after part tells so) one = refused_one tells

-- ---- what is saved

told_save : (answer : Result (Unit {0}) StoreFault) (old new : StandardView) (status : ℕ) →
    TellsSave answer old status new →
    (new.output ≡ old.output) × ((fault : StoreFault) → answer ≡ Err fault → status ≡ 1)
told_save (Ok done) old new status tells =
    (noted_same old new tells.0, λ fault is. cc (is))
told_save (Err why) old new status (told, puts, notes) =
    (noted_same told new notes ∙ puts.2, λ fault is. refused_one puts.0.1)

abbrev IsError : Result (Unit {0}) StoreFault → Type 0
IsError answer = (fault : StoreFault) × (answer ≡ Err fault)

after_fault : (plan : SavePlan) (old wanted held : Option (List ℕ)) → HeldAfterFault plan old wanted held →
    (held ≡ old) ⊎ (held ≡ wanted)
after_fault FaultOld old wanted held is = inl is
after_fault FaultNew old wanted held is = inr is
after_fault SavesFine old wanted held is = is
after_fault SavesOpen old wanted held is = is

pub saved_so : (path bytes : List ℕ) (old new : PlacesView) (answer : Result (Unit {0}) StoreFault) →
    SavesNew path bytes old answer new → IsTrue (old path).joint.is_honest →
    (IsError answer × ((new path).joint.content ≡ (old path).joint.content)) ⊎ ((new path).joint.content ≡ Some bytes)
saved_so path bytes old new answer (inl (same, inl fault)) honest =
    inl (fault, ap (λ (p : PlacesView). (p path).joint.content) same)
saved_so path bytes old new answer (inl (same, inr saved)) honest =
    inr (ap (λ (p : PlacesView). (p path).joint.content) same ∙ saved.1 honest)
saved_so path bytes old new (Ok done) (inr (holds, replaced, set, keeps)) honest = inr (replaced.done refl honest)
saved_so path bytes old new (Err faults.Memory) (inr (holds, replaced, set, keeps)) honest =
    inl ((faults.Memory, refl), ap (λ (s : Saved). s.content) (replaced.refused refl))
saved_so path bytes old new (Err faults.Device) (inr (holds, replaced, set, keeps)) honest =
    elim (after_fault (old path).joint.save_plan (old path).joint.content (Some bytes) (new path).joint.content
    (replaced.faulted refl honest)) [
      | inl same ↦ inl ((faults.Device, refl), same)
      | inr is ↦ inr is
    ]

-- ---- one document

-- what one of these printed is the document of its ID
abbrev pub PrintIt : {A : Type 0} → (List ℕ → List ℕ → Type 0) → List (Ran A) → Type 0
PrintIt IsIt rans = (id : ℕ) (text document : List ℕ) → IsTextOfId text id → SomeRan (PrintsUnder id document) rans →
    IsIt text document

-- and so it is after one more command that prints nothing
pub one_more : {A : Type 0} (IsIt : List ℕ → List ℕ → Type 0) (earlier : List (Ran A)) (ran : Ran A) →
    (passed ran).printed ≡ None → PrintIt IsIt earlier → PrintIt IsIt (earlier ++ ran ∷ [])
one_more IsIt earlier ran none print id text document is printed =
    elim (before_or_now (PrintsUnder id document) earlier ran printed) [
      | inl before ↦ print id text document is before
      | inr now ↦ (let job = now.job_is in cc (job, none))
    ]

module _ (A : Type 0) (earlier : List (Ran A)) (IsIt : List ℕ → List ℕ → Type 0) (is_it : PrintIt IsIt earlier) where
  pub put_out : (command : Command) (inputs : List FileView) (text : List ℕ) (old new : SystemView) (status : ℕ)
      (at : DoesAt A command inputs old status new) → WritesPrinted earlier text (ran_at at) →
      PutsTheDocument (IsIt text) old status new
  put_out command inputs text old new status at (writes_nothing (same, is)) =
      let noted = noted_same at.done new.standard at.noted in
      inl (
        out_one at.between.out is,
        subst (λ (o : Option (List ℕ)). IsPartOut o new.standard.output) (ap (λ (o : OutputView). o.contents) same)
            (subst (λ (o : Option (List ℕ)). IsPartOut at.between.wrote.output.contents o) (sym noted)
            (out_part at.between.out)),
      )
  put_out command inputs text old new status at (writes id document is printed (part, whole)) =
      let noted = noted_same at.done new.standard at.noted in
      let wrote : Option (List ℕ) = at.between.wrote.output.contents in
      inr (
        document,
        is_it id text document is printed,
        part_of old.standard.output wrote new.standard.output document part
            (subst (λ (o : Option (List ℕ)). IsPartOut wrote o) (sym noted) (out_part at.between.out)),
        λ zero. let all = out_all at.between.out zero in
            all_of old.standard.output wrote new.standard.output document (whole all.0)
            (subst (λ (o : Option (List ℕ)). Keeps wrote o) (sym noted) all.1),
      )

  module _ (command : Command) (text path : List ℕ) (old new : SystemView) (status : ℕ)
      (to : DoesAndSaves A command path old status new) (kept : to.done.places path ≡ old.places path)
      (w : WritesPrinted earlier text (ran_at to.does)) where
    content_kept : (to.done.places path).joint.content ≡ (old.places path).joint.content
    content_kept = ap (λ (f : DeskFiles). f.joint.content) kept

    document_is : to.ended ≡ 0 → (document : List ℕ) × IsIt text document × (to.bytes ≡ document)
    document_is zero = elim (put_out command [] text _ _ to.ended to.does w) [
      | inl nothing ↦ absurd (not_zero nothing.0 zero)
      | inr puts ↦ (puts.0, puts.1, puts.3 zero)
    ]

    pub save_out : (new.standard.output ≡ old.standard.output) × SavesTheDocument (IsIt text) path old status new
    save_out = elim to.saves [
      | inl (fails, is, same) ↦ (
        ap (λ (s : SystemView). s.standard.output) same ∙ to.output,
        λ honest. inl (
          λ zero. fails (sym is ∙ zero),
          ap (λ (s : SystemView). (s.places path).joint.content) same ∙ content_kept,
        ),
      )
      | inr (zero, saves) ↦
          let told = told_save saves.answer to.done.standard new.standard status saves.tells in
          let d = document_is zero in (
            told.0 ∙ to.output,
            λ honest. elim (saved_so path to.bytes to.done.places new.places saves.answer saves.saves
                (subst (λ (f : DeskFiles). IsTrue f.joint.is_honest) (sym kept) honest)) [
                  | inl (fault, same) ↦ inl (not_zero (told.1 fault.0 fault.1), same ∙ content_kept)
                  | inr is ↦ inr (d.0, d.1, is ∙ ap Some d.2)
                ],
          )
    ]
