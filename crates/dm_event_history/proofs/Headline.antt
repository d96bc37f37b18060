-- The headline, of every run.
use Rattle.std.proofs.Common.{◌≡◌, ◌+◌, ◌≤◌, ℕ, zero, suc, Some, List, [], ◌∷◌, slice_get, refl, sym, ap, subst, arith, eq-eqb}
use Rattle.dm_print_ledger.specs.{declared.range.Range.Range, Ledger.LedgerView}
use Rattle.dm_assembly_desk.specs.Documents.{Documents}
use Rattle.dm_event_history.specs.declared.{event.Event.Event, reply.Reply.Reply}
use Rattle.dm_event_history.specs.Relay.{Actor, Label, Move, Relay, Used, start}
use Rattle.dm_event_history.specs.Steps.{Ending, Acts, DeskGoes, PrinterGoes, Step, IsRun, Moment}
use Rattle.dm_event_history.specs.Headline.{AreOfOneDocument, ArePrinted, AreDisjoint, RelayIsSound, gone, places, AreAllClean, AreSavedFair, AreTrueMoments, EachRunIsSound, EachRunIsTrue, EachRunKeepsNumbers, PrintsOnce}
use Rattle.dm_event_history.proofs.{Gotten.get_more, AllClean.all_stay_so, Gives.each_clean_desk_gives}
use Rattle.dm_event_history.proofs.Beginning.{fresh_free, start_clean, start_printed, start_sound}
use Rattle.dm_event_history.proofs.{KeepsNumbers.each_step_keeps_numbers, Once.each_step_is_sound}
use Rattle.dm_event_history.proofs.Printed.{each_step_prints}

abbrev IsSoundAndPrinted : Relay → Type 0
IsSoundAndPrinted relay = RelayIsSound relay × ArePrinted relay.labels

pub each_run_is_sound : (A : Type 0) → EachRunIsSound A
each_run_is_sound A ranges capacities [] end apart run =
    subst (λ (r : Relay). IsSoundAndPrinted r) (sym run) (start_sound ranges capacities apart, start_printed ranges capacities)
each_run_is_sound A ranges capacities (moment ∷ earlier) end apart run =
    (let before = each_run_is_sound A ranges capacities earlier moment.before apart run.0 in
    grind (arith, each_step_is_sound, each_step_prints))

-- ---- clean

pub each_fair_run_is_clean : (A : Type 0) (ranges : List Range) (capacities : List ℕ) (h : List (Moment A)) (end : Relay) →
    AreDisjoint ranges → IsRun (start ranges capacities) h end → AreSavedFair h → AreAllClean end
each_fair_run_is_clean A ranges capacities [] end apart run fair = grind (arith, start_clean)
each_fair_run_is_clean A ranges capacities (moment ∷ earlier) end apart run fair =
    all_stay_so moment.before end moment.event moment.reply
    (each_run_is_sound A ranges capacities earlier moment.before apart run.0).1
    (each_fair_run_is_clean A ranges capacities earlier moment.before apart run.0 fair.1) fair.0 run.1

-- ---- labels that left have left for good

abbrev Stay : List Label → List Label → Type 0
Stay old new = (n : ℕ) (label : Label) → slice_get old n ≡ Some label → slice_get new n ≡ Some label

printer_stay : {A : Type 0} (old new : Relay) (printer : ℕ) (Acts : Actor LedgerView → Ending A LedgerView → Type 0)
    (reply : Reply A) → PrinterGoes old printer Acts reply new → Stay old.labels new.labels
printer_stay old new printer Acts reply g n label is = grind (arith, get_more)

desk_stay : {A : Type 0} (old new : Relay) (desk : ℕ) (Acts : ℕ → Actor Documents → Ending A Documents → Type 0)
    (reply : Reply A) → DeskGoes old desk Acts reply new → Stay old.labels new.labels
desk_stay old new desk Acts reply g n label is = grind (arith, get_more)

step_stay : {A : Type 0} (old new : Relay) (event : Event A) (reply : Reply A) → Step old event reply new →
    Stay old.labels new.labels
step_stay old new event reply step = grind (arith, desk_stay, get_more, printer_stay)

-- ---- no number is used twice

-- a move counts at its place, and one that comes after it no less
used_here : (move : Move) (moves : List Move) (id : ℕ) → Some move ≡ Some (Used id) →
    gone (move ∷ moves) id ≡ 1 + gone moves id
used_here move moves id is = grind (arith, eq-eqb)

used_later : (move : Move) (moves : List Move) (id : ℕ) → gone moves id ≤ gone (move ∷ moves) id
used_later move moves id = grind arith

one_more : (moves : List Move) (n id : ℕ) → slice_get moves n ≡ Some (Used id) → 1 ≤ gone moves id
one_more [] n id is = cc (is)
one_more (move ∷ moves) zero id is = (let here = used_here move moves id is in omega arith)
one_more (move ∷ moves) (suc n) id is = grind (arith, used_later, (one_more moves n id is))

used_once : (moves : List Move) (i j id : ℕ) → gone moves id ≤ 1 → slice_get moves i ≡ Some (Used id) →
    slice_get moves j ≡ Some (Used id) → i ≡ j
used_once [] i j id most is there = cc (is)
used_once (move ∷ moves) zero zero id most is there = refl
used_once (move ∷ moves) zero (suc j) id most is there = grind (arith, one_more, used_here)
used_once (move ∷ moves) (suc i) zero id most is there = grind (arith, one_more, used_here)
used_once (move ∷ moves) (suc i) (suc j) id most is there =
    (let later = used_later move moves id in ap suc (used_once moves i j id (omega arith) is there))

prints_once : (relay : Relay) → RelayIsSound relay → PrintsOnce relay
prints_once relay sound = record {
  used = λ i j id is there. used_once relay.moves i j id (let most = sound.apart id in omega arith) is there;
  once = sound.once;
  one_document = sound.one_document;
}

-- ---- each moment

true_moments : (A : Type 0) (ranges : List Range) (capacities : List ℕ) (labels : List Label) → AreOfOneDocument labels →
    AreDisjoint ranges → (h : List (Moment A)) (end : Relay) → IsRun (start ranges capacities) h end →
    Stay end.labels labels → AreTrueMoments labels h
true_moments A ranges capacities labels one apart [] end run stay = tt
true_moments A ranges capacities labels one apart (moment ∷ earlier) end run stay =
    let before = each_run_is_sound A ranges capacities earlier moment.before apart run.0 in
    let still : Stay moment.before.labels labels =
    (λ n label is. stay n label (step_stay moment.before end moment.event moment.reply run.1 n label is)) in (
      record {
        given = grind (arith, each_clean_desk_gives);
        clean = each_fair_run_is_clean A ranges capacities earlier moment.before apart run.0;
      },
      true_moments A ranges capacities labels one apart earlier moment.before run.0 still,
    )

pub each_run_is_true : (A : Type 0) → EachRunIsTrue A
each_run_is_true A ranges capacities moments end apart run = grind (arith, each_run_is_sound, prints_once, true_moments)

-- ---- where numbers are

run_places : (A : Type 0) (ranges : List Range) (capacities : List ℕ) (h : List (Moment A)) (end : Relay) →
    AreDisjoint ranges → IsRun (start ranges capacities) h end → (number : ℕ) →
    places end number ≡ places (start ranges capacities) number
run_places A ranges capacities [] end apart run number = ap (λ (r : Relay). places r number) run
run_places A ranges capacities (moment ∷ earlier) end apart run number =
    (let before = run_places A ranges capacities earlier moment.before apart run.0 number in
    grind (arith, each_run_is_sound, each_step_keeps_numbers))

pub each_run_keeps_numbers : (A : Type 0) → EachRunKeepsNumbers A
each_run_keeps_numbers A ranges capacities moments end apart run number =
    let most = (start_sound ranges capacities apart).apart number in
    grind (arith, fresh_free, run_places, start_sound)
