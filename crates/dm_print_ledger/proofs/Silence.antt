-- What the tests of two ledgers, or of a ledger and a ticket, find, and what they do not.
use Rattle.std.proofs.Common.{◌≡◌, ◌<◌, ◌≤◌, ◌+◌, inl, inr, ℕ, Bool, true, false, ◌&&◌, Some, None, Option, List, [], ◌∷◌, refl, sym, ap, subst, ◌∙◌, arith}
use Rattle.std.specs.Prelude.{◌==◌, nat_le}
use Rattle.std.specs.{List.list_any, List.Contains, Option.option_map_or}
use Rattle.std.proofs.lemmas.List.Folds.{Any-from_list_any, list_any-from_Any}
use Rattle.std.proofs.lemmas.Bool.{and_from, and_left, and_parts, cases_Bool, eq-eqb, eqb-true, false≢true, leb-false, leb-true, or_from, or_parts}
use Rattle.dm_print_ledger.specs.declared.{giver.Giver.Giver, range.Range.Range}
use Rattle.dm_print_ledger.specs.Ledger.{ShownView, are_ranges, is_free}
use Rattle.dm_print_ledger.specs.Verdicts.{AreBeside, IsSilent, SilenceIsExact, are_of_one, has_free, is_behind, is_of, lacks_gift, share_ticket}
use Rattle.dm_print_ledger.proofs.{LedgerLaws.ranges_are_numbers, Rising.RiseFrom, Rising.range_test, Rising.rise_fact}
use Rattle.dm_print_ledger.proofs.RangeTests.{both, free_after, free_cases, free_here}

finds : {X : Type 0} (p : X → Bool) (xs : List X) → list_any p xs ≡ true → (x : X) × Contains xs x × (p x ≡ true)
finds p xs is = let any = Any-from_list_any p xs is in (any.1, (any.0, any.2, any.3), any.4)

found : {X : Type 0} (p : X → Bool) (xs : List X) (x : X) → Contains xs x → p x ≡ true → list_any p xs ≡ true
found p xs x there is = list_any-from_Any p xs (there.0, x, there.1, there.2, is)

none_passes : {X : Type 0} (p : X → Bool) (xs : List X) (x : X) → Contains xs x → list_any p xs ≡ false → p x ≡ false
none_passes p xs x there none = elim (cases_Bool (p x)) [
  | inl is ↦ both (list_any p xs) (found p xs x there is) none
  | inr is ↦ is
]

none_found : {X : Type 0} (p : X → Bool) (xs : List X) → ((x : X) → Contains xs x → p x ≡ true → ⊥) → list_any p xs ≡ false
none_found p xs none = elim (cases_Bool (list_any p xs)) [
  | inl is ↦ let one = finds p xs is in absurd (none one.0 one.1 one.2)
  | inr is ↦ is
]

-- the number that a ledger is of
own_is : (own : Option ℕ) (number : ℕ) → option_map_or (λ n. n == number) own false ≡ true → own ≡ Some number
own_is None number is = absurd (false≢true is)
own_is (Some n) number is = ap Some (eqb-true n number is)

is_own : (own : Option ℕ) (number : ℕ) → own ≡ Some number → option_map_or (λ n. n == number) own false ≡ true
is_own own number e = ap (λ o. option_map_or (λ n. n == number) o false) e ∙ eq-eqb number number refl

-- ---- numbers

two_numbers : (one other : ShownView) → are_of_one one other ≡ false → (number : ℕ) → one.number ≡ Some number →
    other.number ≡ Some number → ⊥
two_numbers one other none number e f =
    false≢true (sym none ∙ ap (λ o. option_map_or (is_of other) o false) e ∙ is_own other.number number f)

no_number : (own : Option ℕ) (other : ShownView) → ((number : ℕ) → own ≡ Some number → other.number ≡ Some number → ⊥) →
    option_map_or (is_of other) own false ≡ false
no_number None other apart = refl
no_number (Some n) other apart = elim (cases_Bool (is_of other n)) [
  | inl is ↦ absurd (apart n refl (own_is other.number n is))
  | inr is ↦ is
]

-- ---- free numbers

apart_from : (from : ℕ) (ranges others : List Range) → RiseFrom from ranges → are_ranges others ≡ true →
    list_any (has_free others) ranges ≡ false → (n : ℕ) → is_free ranges n ≡ true → is_free others n ≡ false
apart_from from [] others rise sound none n free = absurd (false≢true free)
apart_from from (one ∷ ranges) others rise sound none n free =
    let parts = or_parts (has_free others one) (list_any (has_free others) ranges) none in
    elim (free_cases one ranges n free) [
      | inl here ↦ (ranges_are_numbers others one sound (range_test one rise.1)).none.0 parts.0 n here
      | inr after ↦ apart_from (one.last + 2) ranges others rise.2 sound parts.1 n after
    ]

none_shared : (from : ℕ) (ranges others : List Range) → RiseFrom from ranges → are_ranges others ≡ true →
    ((n : ℕ) → is_free ranges n ≡ true → is_free others n ≡ false) → list_any (has_free others) ranges ≡ false
none_shared from [] others rise sound apart = refl
none_shared from (one ∷ ranges) others rise sound apart = or_from _ _
    ((ranges_are_numbers others one sound (range_test one rise.1)).none.1 (λ n here. apart n (free_here one ranges n here)))
    (none_shared (one.last + 2) ranges others rise.2 sound (λ n after. apart n (free_after one ranges n after)))

-- ---- serials

is_ahead : (one other : ShownView) → is_behind one other ≡ false → (last : Giver) → Contains other.givers last →
    one.number ≡ Some last.number → last.serial < one.next_serial
is_ahead one other none last there e =
    let lacks : lacks_gift one other ≡ false = (or_parts _ _ none).0 in
    let test = λ (its : Giver). is_of one its.number && nat_le one.next_serial its.serial in
    let passes : test last ≡ false = none_passes test other.givers last there lacks in
    elim (cases_Bool (nat_le one.next_serial last.serial)) [
      | inl is ↦ both (test last) (and_from _ _ (is_own one.number last.number e) is) passes
      | inr is ↦ leb-false one.next_serial last.serial is
    ]

not_behind : (one other : ShownView) → are_of_one one other ≡ false → ((last : Giver) → Contains other.givers last →
    one.number ≡ Some last.number → last.serial < one.next_serial) → is_behind one other ≡ false
not_behind one other two ahead =
    let test = λ (its : Giver). is_of one its.number && nat_le one.next_serial its.serial in
    or_from _ _ (none_found test other.givers (λ last there is.
    let parts = and_parts (is_of one last.number) (nat_le one.next_serial last.serial) is in
    let next : one.next_serial ≤ last.serial = leb-true _ _ parts.1 in
    let before : last.serial < one.next_serial = ahead last there (own_is one.number last.number parts.0) in
    omega arith)) (and_left _ _ two)

-- ---- all

beside : (one other : ShownView) → are_ranges one.free ≡ true → are_ranges other.free ≡ true →
    IsSilent one other → AreBeside one other
beside one other sound its silent = record {
  numbers = two_numbers one other silent.numbers;
  apart = apart_from 0 one.free other.free (rise_fact 0 one.free sound) its silent.apart;
  ahead = is_ahead one other silent.ahead;
  other_ahead = is_ahead other one silent.other_ahead;
}

silent : (one other : ShownView) → are_ranges one.free ≡ true → are_ranges other.free ≡ true →
    AreBeside one other → IsSilent one other
silent one other sound its beside = record {
  numbers = no_number one.number other beside.numbers;
  apart = none_shared 0 one.free other.free (rise_fact 0 one.free sound) its beside.apart;
  ahead = not_behind one other (no_number one.number other beside.numbers) beside.ahead;
  other_ahead = not_behind other one (no_number other.number one (λ n e f. beside.numbers n f e)) beside.other_ahead;
}

same_giver : (one other : Giver) → ((one.number == other.number) && (one.serial == other.serial)) ≡ true → one ≡ other
same_giver one other is = grind (arith, and_parts, eqb-true)

shared : (one other : ShownView) → share_ticket one other ≡ true →
    (last : Giver) × Contains one.givers last × Contains other.givers last
shared one other is =
    let last = finds _ one.givers is in
    let its = finds _ other.givers last.2 in
    let same : its.0 ≡ last.0 = sym (same_giver last.0 its.0 its.2) in
    (last.0, last.1, subst (λ (one : Giver). Contains other.givers one) same its.1)

is_shared : (one other : ShownView) (last : Giver) → Contains one.givers last → Contains other.givers last →
    share_ticket one other ≡ true
is_shared one other last here there =
    found _ one.givers last here (found _ other.givers last there
    (and_from _ _ (eq-eqb last.number last.number refl) (eq-eqb last.serial last.serial refl)))

pub silence_is_exact : SilenceIsExact
silence_is_exact one other sound its = (
  (beside one other sound its, silent one other sound its),
  (shared one other, λ last. is_shared one other last.0 last.1 last.2),
)
