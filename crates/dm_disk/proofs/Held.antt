-- The finite map of what is found at each key.
use Rattle.std.proofs.Common.{List, ◌≡◌, ◌≢◌, ◌<◌, ◌≤◌, ◌∙◌, ⊎_elim, ℕ, zero, suc, cond, Bool, true, false, Some, None, refl, sym, ap, arith}
use Rattle.std.specs.Prelude.{IsTrue, if◌then◌else◌}
use Rattle.std.specs.{Ordering.nat_cmp, Ordering.eq_by_cmp, Cmp.nat_cmp_total}
use Rattle.std.specs.FinMap.{get, insert, remove, get-empty, get-insert, get-remove, same_map, nat_cmp-IsAntisymmetric}
use Rattle.std.proofs.lemmas.Bool.{cases_lt, cases_eq}
use Rattle.dm_disk.specs.Disk.{DiskState, Content, with_found, held_below, found_in, key_path}
use Rattle.dm_store.specs.Saved.{Contents}

pub told_apart : (q n : ℕ) → q ≢ n → eq_by_cmp nat_cmp q n ≡ false
told_apart q n apart = grind arith

pub told_same : (n : ℕ) → eq_by_cmp nat_cmp n n ≡ true
told_same n = grind arith

pub inserted_other : (m : Contents) (n q : ℕ) (bytes : List ℕ) → q ≢ n → get (insert m n bytes) q ≡ get m q
inserted_other m n q bytes apart =
    get-insert nat_cmp_total m n bytes q ∙ ap (λ b. cond b (Some bytes) (get m q)) (told_apart q n apart)

pub inserted_same : (m : Contents) (n : ℕ) (bytes : List ℕ) → get (insert m n bytes) n ≡ Some bytes
inserted_same m n bytes =
    get-insert nat_cmp_total m n bytes n ∙ ap (λ b. cond b (Some bytes) (get m n)) (told_same n)

found_other : (m : Contents) (n q : ℕ) (found : Content) → q ≢ n → get (with_found m n found) q ≡ get m q
found_other m n q None apart = refl
found_other m n q (Some bytes) apart = inserted_other m n q bytes apart

found_same : (m : Contents) (n : ℕ) (found : Content) → get m n ≡ None → get (with_found m n found) n ≡ found
found_same m n None none = none
found_same m n (Some bytes) none = inserted_same m n bytes

-- nothing is held at or above n
pub held_above : (found : ℕ → Content) (n q : ℕ) → n ≤ q → get (held_below found n) q ≡ None
unfolding held_below
held_above found zero q le = get-empty nat_cmp q
held_above found (suc n) q le =
    found_other (held_below found n) n q (found n) (omega (arith, le)) ∙ held_above found n q (omega (arith, le))

-- and below n what is found
pub held_at : (found : ℕ → Content) (n q : ℕ) → q < n → get (held_below found n) q ≡ found q
unfolding held_below
held_at found zero q lt = absurd (let no : ⊥ = omega (arith, lt) in no)
held_at found (suc n) q lt = ⊎_elim
    (λ (below : q < n). found_other (held_below found n) n q (found n) (omega (arith, below)) ∙ held_at found n q below)
    (λ (above : n ≤ q). let is : q ≡ n = omega (arith, lt, above) in
    rw is (found_same (held_below found n) n (found n) (held_above found n n (omega arith))))
    (cases_lt q n)

-- of an honest disk what is found is what a reader finds
pub found_is : (disk : DiskState) (folder : List ℕ) (key : ℕ) → IsTrue disk.is_honest →
    found_in disk folder key ≡ disk.seen (key_path folder key)
found_is disk folder key honest = ap (λ (b : Bool). if b then disk.seen (key_path folder key) else None) honest

pub removed_other : (m : Contents) (n q : ℕ) → q ≢ n → get (remove m n) q ≡ get m q
removed_other m n q apart =
    get-remove nat_cmp_total m n q ∙ ap (λ b. cond b None (get m q)) (told_apart q n apart)

pub removed_same : (m : Contents) (n : ℕ) → get (remove m n) n ≡ None
removed_same m n = get-remove nat_cmp_total m n n ∙ ap (λ b. cond b None (get m n)) (told_same n)

module _ (found later : ℕ → Content) (n : ℕ) where
  -- a map is known by what it has below n, if it has nothing above
  pub known : (m : Contents) → ((q : ℕ) → q < n → get m q ≡ later q) → ((q : ℕ) → n ≤ q → get m q ≡ None) →
      held_below later n ≡ m
  known m below above = same_map nat_cmp_total nat_cmp-IsAntisymmetric (held_below later n) m (λ q. ⊎_elim
      (λ (lt : q < n). held_at later n q lt ∙ sym (below q lt))
      (λ (le : n ≤ q). held_above later n q le ∙ sym (above q le))
      (cases_lt q n))

  pub held_same : ((q : ℕ) → q < n → later q ≡ found q) → held_below later n ≡ held_below found n
  held_same same = known (held_below found n) (λ q lt. held_at found n q lt ∙ sym (same q lt)) (held_above found n)

  pub held_replaced : (key : ℕ) (bytes : List ℕ) → key < n → later key ≡ Some bytes
      → ((q : ℕ) → q < n → q ≢ key → later q ≡ found q) → held_below later n ≡ insert (held_below found n) key bytes
  held_replaced key bytes lt now same = let m = held_below found n in known (insert m key bytes)
      (λ q q_lt. ⊎_elim
      (λ (is : q ≡ key). rw is (inserted_same m key bytes ∙ sym now))
      (λ (apart : q ≢ key). inserted_other m key q bytes apart ∙ held_at found n q q_lt ∙ sym (same q q_lt apart))
      (cases_eq q key))
      (λ q le. inserted_other m key q bytes (omega (arith, lt, le)) ∙ held_above found n q le)

  pub held_removed : (key : ℕ) → key < n → later key ≡ None
      → ((q : ℕ) → q < n → q ≢ key → later q ≡ found q) → held_below later n ≡ remove (held_below found n) key
  held_removed key lt now same = let m = held_below found n in known (remove m key)
      (λ q q_lt. ⊎_elim
      (λ (is : q ≡ key). rw is (removed_same m key ∙ sym now))
      (λ (apart : q ≢ key). removed_other m key q apart ∙ held_at found n q q_lt ∙ sym (same q q_lt apart))
      (cases_eq q key))
      (λ q le. removed_other m key q (omega (arith, lt, le)) ∙ held_above found n q le)

  pub held_kept : (key : ℕ) → later key ≡ found key
      → ((q : ℕ) → q < n → q ≢ key → later q ≡ found q) → held_below later n ≡ held_below found n
  held_kept key now same = held_same (λ q q_lt. ⊎_elim
      (λ (is : q ≡ key). rw is now) (λ (apart : q ≢ key). same q q_lt apart) (cases_eq q key))
