-- Paths that are not the same.
use Rattle.std.proofs.Common.{◌≡◌, ◌≢◌, ◌∙◌, List, ℕ, Bool, true, false, Some, IsTrue, Decides, Result, Ok, Err, IsErr, ◌⊎◌, inl, inr, ap, refl, sym, subst}
use Rattle.std.specs.Str.{bytes_eq}
use Rattle.std.proofs.lemmas.Slice.Eq.{bytes_eq-Decides}
use Rattle.dm_store.specs.{Saved.Replaces, Saved.Saved, Saved.SavedSet, declared.store.StoreFault.StoreFault}
use Rattle.relay_shared.specs.Files.{DeskFiles}
use Rattle.relay_places.specs.Places.{HasSaved, HoldNothing, KeepsOthers, PlacesView, SavesNew, files_of}

not_true : (b : Bool) → b ≢ true → b ≡ false
not_true true isnt = absurd (isnt refl)
not_true false isnt = refl

pub is_other : (own path other : List ℕ) → own ≡ path → other ≢ path → bytes_eq own other ≡ false
is_other own path other is apart =
    not_true (bytes_eq own other) (λ same. apart (sym ((bytes_eq-Decides own other).0 same) ∙ is))

there_or_other : (b : Bool) (path other : List ℕ) (old new : PlacesView) → Decides b (path ≡ other)
    → KeepsOthers path old new → new path ≡ old path → new other ≡ old other
there_or_other true path other old new d others there =
    subst (λ (at : List ℕ). new at ≡ old at) (d.0 refl) there
there_or_other false path other old new d others there = others other (λ same. cc (d.1 (sym same)))

-- where a path has what it had, and so has every other, all is as it was
pub same_places : (path : List ℕ) (old new : PlacesView) → KeepsOthers path old new → new path ≡ old path → new ≡ old
same_places path old new others there =
    λ i other. there_or_other (bytes_eq path other) path other old new (bytes_eq-Decides path other) others there i

fault_in : (answer : Result (Unit {0}) StoreFault) → IsErr answer → (fault : StoreFault) × (answer ≡ Err fault)
fault_in (Ok done) err = cc
fault_in (Err fault) err = (fault, refl)

-- a file is taken out, saved where neither a file nor a desk was, and put back
pub saves_new : (path bytes : List ℕ) (old mid new : PlacesView) (file after : Saved) (folder kept : SavedSet)
    (answer : Result (Unit {0}) StoreFault) → files_of file folder ≡ old path → KeepsOthers path old mid → kept ≡ folder
    → ((after ≡ file) × (IsErr answer ⊎ HasSaved bytes answer file)) ⊎ (HoldNothing (files_of file folder) × Replaces file bytes answer after)
    → new path ≡ files_of after kept → KeepsOthers path mid new → SavesNew path bytes old answer new
saves_new path bytes old mid new file after folder kept answer there taken same ends back put =
    let others : KeepsOthers path old new = λ other apart. put other apart ∙ taken other apart in
    elim ends [
      | inl refused ↦ inl (
        same_places path old new others (back ∙ (λ i. files_of (refused.0 i) (same i)) ∙ there),
        elim refused.1 [
          | inl err ↦ inl (fault_in answer err)
          | inr saved ↦ inr (
            saved.0,
            subst (λ (files : DeskFiles). IsTrue files.joint.is_honest → files.joint.content ≡ Some bytes)
                there saved.1,
          )
        ],
      )
      | inr saved ↦ inr (
        subst HoldNothing there saved.0,
        subst (λ (joint : Saved). Replaces joint bytes answer (new path).joint) (ap (λ (f : DeskFiles). f.joint) there)
            (subst (λ (joint : Saved). Replaces file bytes answer joint) (ap (λ (f : DeskFiles). f.joint) (sym back)) saved.1),
        ap (λ (f : DeskFiles). f.set) back ∙ same ∙ ap (λ (f : DeskFiles). f.set) there,
        others,
      )
    ]
