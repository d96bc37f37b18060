-- A relay that begins is sound and clean.
use Rattle.std.proofs.Common.{◌≡◌, ◌+◌, ◌≤◌, inl, inr, ℕ, zero, suc, Bool, true, false, ◌||◌, Option, Some, None, List, [], ◌∷◌, map, slice_get, refl, IsSome, ap, ◌∙◌, arith, ◌≢◌, ◌<◌, length, subst, slice_index_or, ◌⊎◌}
use Rattle.std.specs.{Prelude.unwrap_or, FinMap.get-empty, Ordering.nat_cmp}
use Rattle.std.specs.FinMap as finite
use Rattle.dm_print_ledger.specs.{declared.range.Range.Range, Ledger.is_in, Ledger.LedgerView}
use Rattle.dm_assembly_desk.specs.Documents.{Pages, page, Documents, page_at}
use Rattle.dm_event_history.specs.Headline.{AreDisjoint, IsApart, ArePrinted, HaveLeft, AreAllClean, RelayIsSound, free_at, one_if, opened}
use Rattle.dm_event_history.proofs.{Deciding.decided, Told.page_none}
use Rattle.dm_event_history.specs.Relay.{Actor, Running, stored_of, Desk, Label, empty_desk, fresh_from, start}
use Rattle.std.proofs.{Math.Decide.dec_lt, lemmas.Option.get_or_from_slice_get, lemmas.Option.slice_get_within}
use Rattle.dm_print_ledger.specs.declared.range.Range.{Range}

-- Of disjoint opening ranges any two are apart.

-- of disjoint ranges any two are apart
apart_of : (ranges : List Range) → AreDisjoint ranges → (p q : ℕ) (r s : Range) → p ≢ q →
    slice_get ranges p ≡ Some r → slice_get ranges q ≡ Some s → IsApart r s
apart_of ranges apart p q r s other here there =
    let r_is : slice_index_or ranges p r ≡ r = get_or_from_slice_get ranges p r r here in
    let s_is : slice_index_or ranges q r ≡ s = get_or_from_slice_get ranges q s r there in
    let u : p < length ranges = slice_get_within ranges p r here in
    let v : q < length ranges = slice_get_within ranges q s there in
    elim (order p q other) [
      | inl below ↦ subst (λ (x : Range). IsApart x s) r_is
          (subst (λ (x : Range). IsApart (slice_index_or ranges p r) x) s_is (apart p q r below v))
      | inr above ↦ swap_apart s r (subst (λ (x : Range). IsApart x r) s_is
          (subst (λ (x : Range). IsApart (slice_index_or ranges q r) x) r_is (apart q p r above u)))
    ]
  where
    swap_apart : (r s : Range) → IsApart r s → IsApart s r
    swap_apart r s (inl a) = inr a
    swap_apart r s (inr b) = inl b

    order : (m n : ℕ) → m ≢ n → (m < n) ⊎ (n < m)
    order m n other = elim (dec_lt m n) [ yes a ↦ inl a | no b ↦ inr (omega arith) ]

-- ---- numbers

or_false : (b : Bool) → (b || false) ≡ b
or_false b = grind arith

-- a number of none of the ranges is free at no printer
free_none : (from : ℕ) (ranges : List Range) (number : ℕ) →
    ((q : ℕ) (range : Range) → slice_get ranges q ≡ Some range → is_in range number ≡ false) →
    free_at (fresh_from from ranges) number ≡ 0
free_none from [] number none = refl
free_none from (range ∷ ranges) number none =
    let here : one_if (is_in range number || false) ≡ 0 =
    ap one_if (or_false (is_in range number) ∙ none 0 range refl) in
    let rest = free_none (from + 1) ranges number (λ q other there. none (suc q) other there) in
    omega arith

-- a number of a range is of none that is apart from it
not_in_other : (range other : Range) (number : ℕ) → IsApart range other → is_in range number ≡ true →
    is_in other number ≡ false
not_in_other range other number apart inside = grind arith

-- of disjoint ranges it is free at one printer at most
free_once : (from : ℕ) (ranges : List Range) (number : ℕ) → AreDisjoint ranges →
    free_at (fresh_from from ranges) number ≤ 1
free_once from [] number apart = omega arith
free_once from (range ∷ ranges) number apart =
    let rest = free_once (from + 1) ranges number
    (λ i j d below within. apart (suc i) (suc j) d (omega arith) (omega arith)) in
    elim (decided (is_in range number)) [
      | inl inside ↦
          let here : one_if (is_in range number || false) ≡ 1 =
          ap one_if (or_false (is_in range number) ∙ inside) in
          let none = free_none (from + 1) ranges number (λ q other there.
          not_in_other range other number (apart_of (range ∷ ranges) apart 0 (suc q) range other (λ e. omega arith) refl
          there) inside) in
          omega arith
      | inr outside ↦
          let here : one_if (is_in range number || false) ≡ 0 =
          ap one_if (or_false (is_in range number) ∙ outside) in
          omega arith
    ]

-- how many of the ranges a number is in
pub fresh_free : (from : ℕ) (ranges : List Range) (number : ℕ) →
    free_at (fresh_from from ranges) number ≡ opened ranges number
fresh_free from [] number = refl
fresh_free from (range ∷ ranges) number = grind (arith, or_false, (fresh_free (from + 1) ranges number))

fresh_number : (from : ℕ) (ranges : List Range) (p : ℕ) (actor : Actor LedgerView) →
    slice_get (fresh_from from ranges) p ≡ Some actor → (stored_of actor).number ≡ from + p
fresh_number from [] p actor is = cc
fresh_number from (range ∷ ranges) zero actor is = grind arith
fresh_number from (range ∷ ranges) (suc p) actor is = (let h = fresh_number (from + 1) ranges p actor is in omega arith)

pub start_sound : (ranges : List Range) (capacities : List ℕ) → AreDisjoint ranges → RelayIsSound (start ranges capacities)
start_sound ranges capacities apart = grind (arith, free_once, fresh_number)

pub start_printed : (ranges : List Range) (capacities : List ℕ) → ArePrinted (start ranges capacities).labels
start_printed ranges capacities i label is = absurd (cc (is))

-- ---- desks

abbrev pub none_held : Documents
none_held = finite.empty

empty_left : (labels : List Label) → HaveLeft labels none_held
empty_left labels = record {
  pages = λ id m bytes is.
      let none : page_at none_held id m ≡ None =
      ap (λ (o : Option Pages). page (unwrap_or o []) m) (get-empty nat_cmp id) ∙ page_none m in
      absurd (cc (none, is));
  counts = λ id pages is. (let none : finite.get none_held id ≡ None = get-empty nat_cmp id in absurd (cc (none, is)));
  some = λ id pages is. (let none : finite.get none_held id ≡ None = get-empty nat_cmp id in absurd (cc (none, is)));
}

pub nothing_at : (id m : ℕ) → ¬ IsSome (page_at none_held id m)
nothing_at id m some =
    let none : page_at none_held id m ≡ None =
    ap (λ (o : Option Pages). page (unwrap_or o []) m) (get-empty nat_cmp id) ∙ page_none m in
    no_some (page_at none_held id m) none some
  where
    no_some : (o : Option (List ℕ)) → o ≡ None → IsSome o → ⊥
    no_some None none some = cc
    no_some (Some x) none some = cc

pub empty_there : (capacities : List ℕ) (d : ℕ) (desk : Desk) → slice_get (map empty_desk capacities) d ≡ Some desk →
    Running none_held ≡ desk.actor
empty_there [] d desk is = cc
empty_there (capacity ∷ capacities) zero desk is = grind arith
empty_there (capacity ∷ capacities) (suc d) desk is = empty_there capacities d desk is

pub start_clean : (ranges : List Range) (capacities : List ℕ) → AreAllClean (start ranges capacities)
start_clean ranges capacities = grind (arith, empty_left, empty_there)
