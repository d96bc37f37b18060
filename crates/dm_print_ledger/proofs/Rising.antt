-- Ranges and givers that rise, as facts.
use Rattle.std.proofs.Common.{arith, ◌≡◌, ◌≤◌, ◌+◌, ℕ, true, List, [], ◌∷◌, refl, length}
use Rattle.std.specs.{Prelude.IsTrue, List.All}
use Rattle.std.proofs.lemmas.Bool.{leb-true, le-leb, and_parts, and_from}
use Rattle.std.proofs.lemmas.List.Elements.{All-cons, All-nil}
use Rattle.dm_print_ledger.specs.declared.{range.Range.Range, giver.Giver.Giver}
use Rattle.dm_print_ledger.specs.Ledger.{is_range, rise_from, are_ranges, givers_from, are_givers, is_sound, LedgerView}

-- there are numbers in a range, each of an ID
pub record IsRange (range : Range) : Type 0 where
  pub not_empty : range.first ≤ range.last
  pub within : range.last ≤ 64515

pub range_fact : (range : Range) → is_range range ≡ true → IsRange range
range_fact range is = grind arith

pub range_test : (range : Range) → IsRange range → is_range range ≡ true
range_test range is = and_from _ _ (le-leb _ _ is.not_empty) (le-leb _ _ is.within)

abbrev pub RiseFrom : ℕ → List Range → Type 0
RiseFrom from [] = Unit {0}
RiseFrom from (range ∷ ranges) = (from ≤ range.first) × IsRange range × RiseFrom (range.last + 2) ranges

pub rise_fact : (from : ℕ) (ranges : List Range) → rise_from from ranges ≡ true → RiseFrom from ranges
rise_fact from [] is = tt
rise_fact from (one ∷ ranges) is =
    let front = (and_parts _ _ is).0 in (
      leb-true _ _ (and_parts _ _ front).0,
      range_fact one (and_parts _ _ front).1,
      rise_fact (one.last + 2) ranges (and_parts _ _ is).1,
    )

pub rise_test : (from : ℕ) (ranges : List Range) → RiseFrom from ranges → rise_from from ranges ≡ true
rise_test from [] rise = refl
rise_test from (one ∷ ranges) rise =
    and_from _ _ (and_from _ _ (le-leb _ _ rise.0) (range_test one rise.1))
    (rise_test (one.last + 2) ranges rise.2)

-- each is a range
pub each_is_range : (from : ℕ) (ranges : List Range) → RiseFrom from ranges →
    All (λ range. IsTrue (is_range range)) ranges
each_is_range from [] rise = All-nil (λ range. IsTrue (is_range range))
each_is_range from (one ∷ ranges) rise =
    All-cons (λ range. IsTrue (is_range range)) one ranges (range_test one rise.1)
    (each_is_range (one.last + 2) ranges rise.2)

abbrev pub GiversFrom : ℕ → List Giver → Type 0
GiversFrom from [] = Unit {0}
GiversFrom from (giver ∷ givers) = (from ≤ giver.number) × GiversFrom (giver.number + 1) givers

pub givers_fact : (from : ℕ) (givers : List Giver) → givers_from from givers ≡ true → GiversFrom from givers
givers_fact from [] is = tt
givers_fact from (one ∷ givers) is =
    (leb-true _ _ (and_parts _ _ is).0, givers_fact (one.number + 1) givers (and_parts _ _ is).1)

pub givers_test : (from : ℕ) (givers : List Giver) → GiversFrom from givers → givers_from from givers ≡ true
givers_test from [] rise = refl
givers_test from (one ∷ givers) rise =
    and_from _ _ (le-leb _ _ rise.0) (givers_test (one.number + 1) givers rise.1)

-- what a sound ledger is
pub record IsSound (ledger : LedgerView) : Type 0 where
  pub ranges : RiseFrom 0 ledger.free
  pub few_ranges : length ledger.free ≤ 64
  pub givers : GiversFrom 0 ledger.givers
  pub few_givers : length ledger.givers ≤ 64

pub sound_fact : (ledger : LedgerView) → is_sound ledger ≡ true → IsSound ledger
sound_fact ledger is = grind (arith, and_parts, rise_fact, leb-true, givers_fact)

-- a ledger of these parts is sound
pub sound_of : (ledger : LedgerView) → are_ranges ledger.free ≡ true → length ledger.free ≤ 64 →
    are_givers ledger.givers ≡ true → length ledger.givers ≤ 64 → is_sound ledger ≡ true
sound_of ledger ranges few givers few_givers =
    and_from _ _ (and_from _ _ (and_from _ _ ranges (le-leb _ _ few)) givers) (le-leb _ _ few_givers)

pub sound_ranges : (ledger : LedgerView) → is_sound ledger ≡ true → are_ranges ledger.free ≡ true
sound_ranges ledger is = (and_parts _ _ (and_parts _ _ (and_parts _ _ is).0).0).0

pub sound_givers : (ledger : LedgerView) → is_sound ledger ≡ true → are_givers ledger.givers ≡ true
sound_givers ledger is = (and_parts _ _ (and_parts _ _ is).0).1
