-- Printers that are created one after another.
use Rattle.std.specs.Prelude.{IsTrue, MatchBool, Option, Result, Ok, Err, Bool}
use Rattle.std.proofs.Common.{◌≡◌, ◌⊎◌, inl, inr, true, ◌++◌, ℕ, zero, suc, Some, None, List, [], ◌∷◌, length, slice_get, refl, ap, sym, ◌∙◌, subst}
use Rattle.dm_store.specs.Saved.{Saved, SavePlan, LoadsFine, SavesFine, Done, PlanAllows, Replaces}
use Rattle.dm_print_ledger.specs.{declared.range.Range.Range, Ledger.PrinterView, Ledger.is_range, Ledger.ledger_bytes}
use Rattle.dm_print_ledger.specs.Verdicts.{Creates, SavesFirst, opening, open_verdict}
use Rattle.dm_event_world.specs.{declared.actor.PrinterActor.PrinterActor, Shows.ShowsPrinter}
use Rattle.dm_event_world.specs.declared.actor.PrinterActor.TheVariants as actors
use Rattle.dm_event_history.specs.Relay as states
use Rattle.dm_print_ledger.specs.declared.fault.CreateFault.{CreateFault}
use Rattle.dm_print_ledger.specs.declared.fault.CreateFault.TheVariants as creating
use Rattle.dm_print_ledger.proofs.{LedgerLaws.opening_sound, ReadLaws.ledgers_are_held}

-- the printer of this number, of whose range nothing was used
abbrev pub IsFresh : {A : Type 0} → ℕ → Range → PrinterActor A → Type 0
IsFresh number range actor = ShowsPrinter actor (states.Running (opening number range))

-- an element of a list with one more was there, or is that one
pub get_pushed : {X : Type 0} (xs : List X) (x y : X) (i : ℕ) → slice_get (xs ++ x ∷ []) i ≡ Some y →
    (slice_get xs i ≡ Some y) ⊎ ((i ≡ length xs) × (x ≡ y))
get_pushed [] x y zero is = inr (refl, cc)
get_pushed [] x y (suc i) is = cc
get_pushed (z ∷ zs) x y zero is = inl is
get_pushed (z ∷ zs) x y (suc i) is = elim (get_pushed zs x y i is) [
  | inl was ↦ inl was
  | inr new ↦ inr (ap suc new.0, new.1)
]

-- each printer so far is the fresh one of its range
abbrev pub AreFreshSoFar : {A : Type 0} → List Range → List (PrinterActor A) → Type 0
AreFreshSoFar {A} ranges printers = (number : ℕ) (range : Range) (actor : PrinterActor A) →
    slice_get ranges number ≡ Some range → slice_get printers number ≡ Some actor → IsFresh number range actor

pub one_more : {A : Type 0} (ranges : List Range) (old new : List (PrinterActor A)) (range : Range)
    (actor : PrinterActor A) (number : ℕ) →
    number ≡ length old → new ≡ old ++ actor ∷ [] → slice_get ranges number ≡ Some range → IsFresh number range actor →
    AreFreshSoFar ranges old → AreFreshSoFar ranges new
one_more {A} ranges old new range actor number last new_is here fresh so_far i other one at there =
    elim (get_pushed old actor one i (sym (ap (λ (l : List (PrinterActor A)). slice_get l i) new_is) ∙ there)) [
      | inl was ↦ so_far i other one at was
      | inr is ↦
          let place : number ≡ i = last ∙ sym is.0 in
          let same : range ≡ other = (let e = ap (slice_get ranges) place in cc) in
          subst (λ (n : ℕ). IsFresh n other one) place
          (subst (λ (r : Range). IsFresh number r one) same
          (subst (λ (a : PrinterActor A). IsFresh number range a) is.1 fresh))
    ]

-- a store that is new
abbrev pub empty_store : Saved
empty_store = record {
  content = None;
  is_honest = true;
  may_lack_memory = true;
  load_plan = LoadsFine;
  save_plan = SavesFine;
}

-- a printer that was created over one is fresh
pub created_fresh : (A : Type 0) (saved : Saved) (number : ℕ) (range : Range) (view : PrinterView) →
    saved ≡ empty_store → is_range range ≡ true → Creates saved number range (Ok view) view.saved →
    (let actor : PrinterActor A = actors.Running view in IsFresh number range actor)
created_fresh A saved number range view is ranged creates =
    let ok : Result PrinterView CreateFault = Ok view in
    let saves : (IsTrue saved.is_honest → saved.content ≡ None)
    × Replaces saved (ledger_bytes (opening number range)) (Ok tt) view.saved =
    subst (λ (b : Bool). MatchBool b (SavesFirst saved (opening number range) (Ok view) view.saved)
    ((ok ≡ Err creating.Range) × (view.saved ≡ saved))) ranged creates.saves in
    let honest = ap (λ (s : Saved). s.is_honest) is in
    let content : view.saved.content ≡ Some (ledger_bytes (opening number range)) = saves.1.done refl honest in (
      record {
        ready = record {
          honest = saves.1.same_honesty ∙ honest;
          loads_fine = saves.1.same_load_plan ∙ ap (λ (s : Saved). s.load_plan) is;
          saves_fine = subst (λ (plan : SavePlan). PlanAllows plan Done view.saved.save_plan)
              (ap (λ (s : Saved). s.save_plan) is) saves.1.follows;
        };
        holds = λ yes. ap (λ (bytes : Option (List ℕ)). open_verdict bytes number) content ∙
            ledgers_are_held (opening number range) (opening_sound number range ranged);
      },
      ap (λ (v : PrinterView). v.is_failed) creates.runs,
      ap (λ (v : PrinterView). v.ledger) creates.runs,
    )
