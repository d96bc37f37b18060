-- Lists of commands, each at its place of a site: that the site is new, that they ran one after another, and which
-- ledgers they made.
use Rattle.std.proofs.Common.{◌≡◌, ◌≢◌, ◌≤◌, ◌<◌, ◌+◌, ◌++◌, ℕ, zero, suc, List, [], ◌∷◌, None, Option, Some, slice_get, slice_set, refl, sym, ap, subst, ◌∙◌, arith}
use Rattle.std.specs.{Prelude.AllPairs, Prelude.IfSome, Prelude.IsSomeAnd, List.AllByRecursion}
use Rattle.std.proofs.lemmas.Option.{slice_get-get_or}
use Rattle.std.specs.FinMap as finite
use Rattle.dm_store.specs.Saved.{with_open_plans, Contents, Saved, SavedIn, SavedSet}
use Rattle.dm_print_ledger.specs.Ledger.{JobView, TicketView}
use Rattle.relay_command.specs.declared.command.Command.{Command}
use Rattle.relay_shared.specs.Files.{DeskFiles}
use Rattle.relay.specs.Program.{path_of}
use Rattle.relay_program_runs.specs.Passed.{Made}
use Rattle.relay_program_runs.specs.Law.{At, Each, IsBlank, IsFirstOfItsId, IsNew, Ran, RunInTurn, SomeRan, StoreAt, TakesGiven, all_made, cut_short, exited, passed, store_of}
use Rattle.relay_program_runs.specs.InTurn.{set_of}
use Rattle.relay_program_runs.proofs.Lists.{all_so}
use Rattle.relay_program_runs.specs.Worked.{BothInTurn, Breaks, IsDone, two_files, given, no_files}

-- ---- lists

pub also : {X Y : Type 0} → X → Y → X × Y
also x y = (x, y)

pub found : {X : Type 0} (P : X → Type 0) (xs : List X) → AllByRecursion P xs → (i : ℕ) (x : X) → slice_get xs i ≡ Some x →
    P x
found P [] all i x is = cc (is)
found P (y ∷ ys) all zero x is = subst P (cc (is)) all.0
found P (y ∷ ys) all (suc i) x is = found P ys all.1 i x is

abbrev pub Pairs : {X : Type 0} → (X → X → Type 0) → List X → Type 0
Pairs R [] = Unit {0}
Pairs R (x ∷ xs) = AllByRecursion (R x) xs × Pairs R xs

pub pairs_so : {X : Type 0} (R : X → X → Type 0) (xs : List X) → Pairs R xs → AllPairs R xs
pairs_so R [] all i j d below within = absurd (omega (arith, within))
pairs_so R (x ∷ xs) all zero zero d below within = absurd (omega (arith, below))
pairs_so R (x ∷ xs) all zero (suc j) d below within = found (R x) xs all.0 j _ (slice_get-get_or xs j d (omega arith))
pairs_so R (x ∷ xs) all (suc i) zero d below within = absurd (omega (arith, below))
pairs_so R (x ∷ xs) all (suc i) (suc j) d below within = pairs_so R xs all.1 i j d (omega arith) (omega arith)

-- ---- sites

module _ {X : Type 0} where
  abbrev pub there : List ℕ → SavedIn X → At X
  there path saved = record { path = path; saved = saved }

  pub at_same : {p q : List ℕ} {x y : SavedIn X} → p ≡ q → x ≡ y → there p x ≡ there q y
  at_same path saved = λ i. record { path = path i; saved = saved i }

abbrev pub first_byte : List ℕ → ℕ
first_byte [] = 0
first_byte (x ∷ xs) = x

-- each path begins with a greater byte than the one before
abbrev pub Rise : ℕ → List (List ℕ) → Type 0
Rise from [] = Unit {0}
Rise from (path ∷ paths) = (from ≤ first_byte path) × Rise (first_byte path + 1) paths

-- at each of these paths is the same
abbrev pub all_at : {X : Type 0} → SavedIn X → List (List ℕ) → List (At X)
all_at saved [] = []
all_at saved (path ∷ paths) = there path saved ∷ all_at saved paths

module _ {X : Type 0} (saved : SavedIn X) where
  above : (m from : ℕ) (paths : List (List ℕ)) → m < from → Rise from paths →
      AllByRecursion (λ (at : At X). m < first_byte at.path) (all_at saved paths)
  above m from [] below rise = tt
  above m from (path ∷ paths) below (first, rest) =
      (omega arith, above m (first_byte path + 1) paths (omega arith) rest)

  abbrev PathsApart : At X → At X → Type 0
  PathsApart one other = one.path ≢ other.path

  paths_apart : (from : ℕ) (paths : List (List ℕ)) → Rise from paths → Pairs PathsApart (all_at saved paths)
  paths_apart from [] rise = tt
  paths_apart from (path ∷ paths) (first, rest) = (
    all_so (λ (other : At X). first_byte path < first_byte other.path) (PathsApart (there path saved)) (all_at saved paths)
        (λ other below same. omega (arith, below, ap first_byte same))
        (above (first_byte path) (first_byte path + 1) paths (omega arith) rest),
    paths_apart (first_byte path + 1) paths rest,
  )

  all_blank : (none : X) → IsBlank none saved → (paths : List (List ℕ)) →
      AllByRecursion (λ (at : At X). IsBlank none at.saved) (all_at saved paths)
  all_blank none is [] = tt
  all_blank none is (path ∷ paths) = (is, all_blank none is paths)

  pub new : (none : X) → IsBlank none saved → (paths : List (List ℕ)) → Rise 0 paths → IsNew none (all_at saved paths)
  new none is paths rise = record {
    paths = pairs_so PathsApart (all_at saved paths) (paths_apart 0 paths rise);
    blank = found (λ (at : At X). IsBlank none at.saved) (all_at saved paths) (all_blank none is paths);
  }

abbrev pub no_stores : List (List ℕ) → List StoreAt
no_stores paths = all_at no_files.joint paths

abbrev pub no_sets : List (List ℕ) → List (At Contents)
no_sets paths = all_at no_files.set paths

pub blank_store : IsBlank None no_files.joint
blank_store = record { honest = refl; empty = refl }

pub blank_set : IsBlank finite.empty no_files.set
blank_set = record { honest = refl; empty = refl }

-- ---- commands

-- a command, the place at which it ran, and what it left there
pub record Step (A : Type 0) : Type 0 where
  pub place : ℕ
  pub path : List ℕ
  pub did : Ran A
  pub named : path_of did.command ≡ path
  pub after : DeskFiles
  pub leaves : did.after.files ≡ after

module _ {A : Type 0} {command : Command} {x y : DeskFiles} {input output : List ℕ} {status : ℕ} where
  abbrev pub ran : IsDone A command x input status y output → Ran A
  ran d = record { command = command; inputs = []; before = given x input; after = d.after; ends = exited status d.does }

  abbrev pub cut : IsDone A command x input status y output → Ran A
  cut d = record { command = command; inputs = []; before = given x input; after = d.after; ends = cut_short status d.does }

  abbrev pub exits : {path : List ℕ} → ℕ → IsDone A command x input status y output → path_of command ≡ path → Step A
  exits {path} place d named =
      record { place = place; path = path; did = ran d; named = named; after = y; leaves = d.files_are }

  abbrev pub stops : {path : List ℕ} → ℕ → IsDone A command x input status y output → path_of command ≡ path → Step A
  stops {path} place d named =
      record { place = place; path = path; did = cut d; named = named; after = y; leaves = d.files_are }

  -- said of the same files, input and status
  pub done_so : {z : DeskFiles} {other : List ℕ} {ended : ℕ} → x ≡ z → input ≡ other → status ≡ ended →
      IsDone A command x input status y output → IsDone A command z other ended y output
  done_so {z} {other} files reads ends d = subst (λ (s : ℕ). IsDone A command z other s y output) ends
      (subst (λ (xs : List ℕ). IsDone A command z xs status y output) reads
      (subst (λ (f : DeskFiles). IsDone A command f input status y output) files d))

pub store_so : {store other : Saved} {set : SavedSet} → store ≡ other →
    two_files (with_open_plans store) set ≡ two_files (with_open_plans other) set
store_so {set = set} same = ap (λ (s : Saved). two_files (with_open_plans s) set) same

abbrev pub rans_of : {A : Type 0} → List (Step A) → List (Ran A)
rans_of [] = []
rans_of (step ∷ steps) = step.did ∷ rans_of steps

-- each found what is at its place
abbrev pub Fit : {A X : Type 0} → (DeskFiles → SavedIn X) → List (At X) → List (Step A) → Type 0
Fit of site [] = Unit {0}
Fit of site (step ∷ steps) = (slice_get site step.place ≡ Some (there step.path (of step.did.before.files)))
    × Fit of (slice_set site step.place (there step.path (of step.after))) steps

pub run_so : {A X : Type 0} (of : DeskFiles → SavedIn X) (site : List (At X)) (steps : List (Step A)) → Fit of site steps →
    RunInTurn of site (rans_of steps)
run_so of site [] fit = tt
run_so {X = X} of site (step ∷ steps) (finds, rest) = (
  step.place,
  finds ∙ ap Some (at_same (sym step.named) refl),
  subst (λ (at : At X). RunInTurn of (slice_set site step.place at) (rans_of steps))
      (at_same (sym step.named) (sym (ap of step.leaves)))
      (run_so of (slice_set site step.place (there step.path (of step.after))) steps rest),
)

pub and_made : {one : Made} {first more rest : List Made} → first ≡ one ∷ [] → more ≡ rest → first ++ more ≡ one ∷ rest
and_made {one} {more = more} is are =
    ap (λ (ms : List Made). ms ++ more) is ∙ ap (λ (ms : List Made). one ∷ ms) are

-- ---- premises and conclusions

-- it has a job of this ID
pub record PrintsId {A : Type 0} (id : ℕ) (ran : Ran A) : Type 0 where
  pub job : JobView
  pub job_is : (passed ran).printed ≡ Some job
  pub id_is : job.id ≡ id

pub again : {A : Type 0} (earlier : List (Ran A)) {one other : Ran A} {id : ℕ} (number : ℕ) →
    slice_get earlier number ≡ Some one → PrintsId id one → PrintsId id other → IsFirstOfItsId earlier other → ⊥
again {A} earlier {one} {other} number at p q first =
    subst (λ (o : Option JobView). IfSome o (λ job. ¬ SomeRan {A = A}
    (λ ran. IsSomeAnd (passed ran).printed (λ its. its.id ≡ job.id)) earlier)) q.job_is first (
      number,
      one,
      at,
      subst (λ (o : Option JobView). IsSomeAnd o (λ its. its.id ≡ q.job.id)) (sym p.job_is) (p.id_is ∙ sym q.id_is),
    )

pub takes_given : {A : Type 0} (earlier : List (Ran A)) {giver : Ran A} (taker : Ran A) {ticket : TicketView} (number : ℕ) →
    slice_get earlier number ≡ Some giver → (passed giver).given ≡ Some ticket → (passed taker).taken ≡ Some ticket →
    TakesGiven earlier taker
takes_given {A} earlier {giver} taker number at gives takes =
    subst (λ (o : Option TicketView). IfSome o (λ ticket. SomeRan {A = A} (λ ran. (passed ran).given ≡ Some ticket) earlier))
    (sym takes) (number, giver, at, gives)

-- the list of these steps, which lacks a premise
pub broken : {A : Type 0} (Run : List StoreAt → List (Ran A) → Type 0) (Apart : Made → Made → Type 0)
    (Takes So : List (Ran A) → Ran A → Type 0) (paths : List (List ℕ)) (steps : List (Step A)) → Rise 0 paths →
    Run (no_stores paths) (rans_of steps) → (made : List Made) → all_made (rans_of steps) ≡ made → Pairs Apart made →
    Each Takes [] (rans_of steps) → (Each So [] (rans_of steps) → ⊥) → Breaks A Run Apart Takes So
broken Run Apart Takes So paths steps rise runs made are apart takes fails = record {
  site = no_stores paths;
  rans = rans_of steps;
  is_new = new no_files.joint None blank_store paths rise;
  runs = runs;
  apart = subst (AllPairs Apart) (sym are) (pairs_so Apart made apart);
  tickets = takes;
  fails = fails;
}

pub stores_so : {A : Type 0} (paths : List (List ℕ)) (steps : List (Step A)) → Fit store_of (no_stores paths) steps →
    RunInTurn store_of (no_stores paths) (rans_of steps)
stores_so paths steps fit = run_so store_of (no_stores paths) steps fit

pub sets_so : {A : Type 0} (paths : List (List ℕ)) (steps : List (Step A)) → Fit set_of (no_sets paths) steps →
    RunInTurn set_of (no_sets paths) (rans_of steps)
sets_so paths steps fit = run_so set_of (no_sets paths) steps fit

pub both_so : {A : Type 0} (paths : List (List ℕ)) (steps : List (Step A)) → Rise 0 paths →
    Fit store_of (no_stores paths) steps → Fit set_of (no_sets paths) steps → BothInTurn (no_stores paths) (rans_of steps)
both_so paths steps rise stores sets =
    (stores_so paths steps stores, no_sets paths, new no_files.set finite.empty blank_set paths rise, sets_so paths steps sets)
