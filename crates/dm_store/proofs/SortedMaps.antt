-- The entries of a map from numbers, and the finite map that they make.
use Rattle.std.proofs.Common.{◌≡◌, ℕ, Bool, true, false, cond, T, List, [], ◌∷◌, length, Some, None, refl, sym, ap, subst, ◌∙◌}
use Rattle.std.specs.Prelude.{◌&&◌}
use Rattle.std.specs.{Ordering.nat_cmp, Ordering.is_lt, declared.cmp.Ordering.TheVariants.Less, List.AllByRecursion}
use Rattle.std.specs.{Cmp.nat_cmp_total, Cmp.eq_by_cmp_equiv, List.Sorted.IsStrictlySortedBy, Map.lookup, Map.keys_of}
use Rattle.std.specs.{BTreeMap.is_at, FinMap.Entries.below_all}
use Rattle.std.specs.FinMap.{FinMap, entries, get, insert, remove, len, from_entries, from_sorted, find, is_sorted, get-from_entries, get-from_sorted, get-insert, get-remove, entries-from_sorted, same_map, nat_cmp-IsAntisymmetric, len-entries}

-- two tests that pass, pass together
both : (a b : Bool) → T a → T b → T (a && b)
both true b p q = q
both false b p q = p

-- a key that is below each of these keys is below each of these entries
below : {X : Type 0} (k : ℕ) (es : List (ℕ × X)) → AllByRecursion (λ y. nat_cmp k y ≡ Less) (keys_of es) →
    T (below_all nat_cmp k es)
below k [] h = tt
below k (e ∷ es) h = both _ _ (subst (λ r. T (is_lt r)) (sym h.0) tt) (below k es h.1)

-- entries whose keys rise strictly are sorted by the test of a finite map
pub sorted : {X : Type 0} (es : List (ℕ × X)) → IsStrictlySortedBy nat_cmp (keys_of es) → T (is_sorted nat_cmp es)
unfolding IsStrictlySortedBy
sorted [] h = tt
sorted (e ∷ es) h = both _ _ (below e.0 es h.0) (sorted es h.1)

module _ {X : Type 0} where
  -- the map of these entries
  abbrev pub as_map : List (ℕ × X) → FinMap nat_cmp X
  as_map es = from_entries es

  -- a finite map looks a key up as a tree does
  find_is : (es : List (ℕ × X)) (q : ℕ) → find nat_cmp q es ≡ lookup (is_at (nat_cmp q)) es
  find_is [] q = refl
  find_is (e ∷ es) q = ap (cond (is_at (nat_cmp q) e.0) (Some e.1)) (find_is es q)

  -- what the map has at a key
  pub get_is : (es : List (ℕ × X)) (q : ℕ) → get (as_map es) q ≡ lookup (is_at (nat_cmp q)) es
  get_is es q = get-from_entries nat_cmp_total es q ∙ find_is es q

  -- maps that have the same at each key are one
  pub same : (m n : FinMap nat_cmp X) → ((q : ℕ) → get m q ≡ get n q) → m ≡ n
  same m n h = same_map nat_cmp_total nat_cmp-IsAntisymmetric m n h

  -- entries that differ at one key make maps that differ there
  pub one_given : (es fs : List (ℕ × X)) (k : ℕ) (v : X)
      → ((q : ℕ) → lookup (is_at (nat_cmp q)) fs ≡ cond (is_at (nat_cmp k) q) (Some v)
      (lookup (is_at (nat_cmp q)) es)) → as_map fs ≡ insert (as_map es) k v
  one_given es fs k v h = same _ _ (λ q.
      get_is fs q ∙ h q ∙ ap (λ b. cond b (Some v) (lookup (is_at (nat_cmp q)) es))
      ((eq_by_cmp_equiv nat_cmp_total).symm k q)
      ∙ sym (get-insert nat_cmp_total (as_map es) k v q ∙ ap (cond (is_at (nat_cmp q) k) (Some v)) (get_is es q)))

  -- entries that differ by one key that is gone make maps that do
  pub one_removed : (es fs : List (ℕ × X)) (k : ℕ)
      → ((q : ℕ) → lookup (is_at (nat_cmp q)) fs ≡ cond (is_at (nat_cmp k) q) None (lookup (is_at (nat_cmp q)) es)) →
      as_map fs ≡ remove (as_map es) k
  one_removed es fs k h = same _ _ (λ q.
      get_is fs q ∙ h q ∙ ap (λ b. cond b None (lookup (is_at (nat_cmp q)) es))
      ((eq_by_cmp_equiv nat_cmp_total).symm k q)
      ∙ sym (get-remove nat_cmp_total (as_map es) k q ∙ ap (cond (is_at (nat_cmp q) k) None) (get_is es q)))

  -- entries in order are those of their map
  pub entries_are : (es : List (ℕ × X)) → IsStrictlySortedBy nat_cmp (keys_of es) → entries (as_map es) ≡ es
  entries_are es h =
      let s = sorted es h in
      let is : as_map es ≡ from_sorted es = same _ _ (λ q. get-from_entries nat_cmp_total es q ∙
      sym (get-from_sorted nat_cmp es q s)) in
      ap entries is ∙ entries-from_sorted nat_cmp es s

  -- there are as many keys in the map as entries in order
  pub len_is : (es : List (ℕ × X)) → IsStrictlySortedBy nat_cmp (keys_of es) → len (as_map es) ≡ length es
  len_is es h = len-entries (as_map es) ∙ ap (λ (fs : List (ℕ × X)). length fs) (entries_are es h)
