-- Counts of wrong modules over a row and then the next.
use Rattle.std.specs.Prelude.{◌%◌, not}
use Rattle.std.specs.List.{between}
use mir.Val.{bool_byte}
use Rattle.std.proofs.Common.{◌≡◌, ◌⊎◌, inl, inr, ℕ, zero, suc, ◌+◌, ◌-◌, ◌*◌, ◌<◌, ◌≤◌, Bool, List, get_or, false, ◌||◌, eqb, cond, refl, true, ap, sym, ◌∙◌, arith, add-zero, zero-add}
use Rattle.std.proofs.{lemmas.Bool.Decides.nat_tests, lemmas.List.Edits.get_or-between, Math.Nat.mul-le-mul_right}
use Rattle.std.proofs.lemmas.{List.FromFn.sum_by-map-range_with_len_more, Nat.div-mul-add, Nat.mod-mul-add}
use Rattle.dm_size.specs.Sizes.{side, region, across}
use Rattle.dm_finder_frame.specs.Frame.{is_wrong, is_wrong_at, wrong_module, is_on_frame, frame_value, GridView, grid_module_at}
use Rattle.dm_finder_frame.proofs.GridPlaces.{fills_side}
use Rattle.dm_finder_frame.specs.inner.Filled.{wrong_among}

-- one module more is looked at
pub one_more : (g : GridView) (first n : ℕ) →
    wrong_among g first (n + 1) ≡ wrong_among g first n + cond (is_wrong g (first + n)) 1 0
one_more g first n = grind (arith, sum_by-map-range_with_len_more)

-- some modules, and those after them
pub joined : (g : GridView) (m n : ℕ) → wrong_among g 0 (m + n) ≡ wrong_among g 0 m + wrong_among g m n
joined g m zero = ap (λ x. wrong_among g 0 x) (add-zero m) ∙ sym (add-zero (wrong_among g 0 m))
joined g m (suc n) =
    let a = one_more g 0 (m + n) in
    let b = one_more g m n in
    let c = joined g m n in
    let one : ℕ → ℕ = λ i. cond (is_wrong g i) 1 0 in
    let z : one (0 + (m + n)) ≡ one (m + n) = ap one (zero-add (m + n)) in
    let after : m + suc n ≡ m + n + 1 = omega arith in
    let next : suc n ≡ n + 1 = omega arith in
    let left : wrong_among g 0 (m + suc n) ≡ wrong_among g 0 (m + n + 1) = ap (wrong_among g 0) after in
    let right : wrong_among g m (suc n) ≡ wrong_among g m (n + 1) = ap (wrong_among g m) next in
    omega (arith, a, b, c, z, left, right)

-- the test of a module by its row and column is that by its place in the list
pub is_test : (g : GridView) (r c : ℕ) → c < side g.size → is_wrong_at g r c ≡ is_wrong g (r * side g.size + c)
is_test g r c hc = grind (arith, div-mul-add, mod-mul-add)

-- modules that are not wrong add nothing
none_more : (g : GridView) (first n len : ℕ) → ((k : ℕ) → k < len → is_wrong g (first + (n + k)) ≡ false)
    → wrong_among g first (n + len) ≡ wrong_among g first n
none_more g first n zero right = ap (wrong_among g first) (add-zero n)
none_more g first n (suc len) right =
    let next : n + suc len ≡ n + len + 1 = omega arith in
    let one : Bool → ℕ = λ x. cond x 1 0 in
    let nothing : one (is_wrong g (first + (n + len))) ≡ 0 = ap one (right len (omega arith)) in
    ap (wrong_among g first) next
    ∙ omega (arith, one_more g first (n + len), nothing, none_more g first n len (λ k h. right k (omega arith)))

-- inside of a framed region no module is of the finder pattern
not_wrong : (h p k : ℕ) (dark : Bool) → 1 ≤ p → p ≤ h → k < h → wrong_module h dark p (1 + k) ≡ false
not_wrong h p k dark low high below = grind arith

-- a module of the finder pattern is wrong if it is not what it is to be
pub wrong_is : (h r c : ℕ) (dark wanted : Bool) → is_on_frame h r c ≡ true → frame_value h r c ≡ wanted
    → wrong_module h dark r c ≡ cond dark (not wanted) wanted
wrong_is h r c dark wanted on value = cc

-- a module that was compared with what it is to be
pub differs_is : (x dark at wanted is : Bool) → x ≡ cond dark (not wanted) wanted → dark ≡ at → wanted ≡ is
    → x ≡ cond at (not is) is
differs_is x dark at wanted is e d w = e ∙ ap (λ y. cond y (not wanted) wanted) d ∙ ap (λ v. cond at (not v) v) w

-- the first and the last row of a framed region are on its frame, and so are the first and the last column
pub on_ends : (h p c : ℕ) → (p ≡ 0) ⊎ (p ≡ h + 1) → is_on_frame h p c ≡ true
on_ends h p c (inl first) = grind (arith, nat_tests, first)
on_ends h p c (inr last) = grind (arith, nat_tests, last)

pub on_first_column : (h p : ℕ) → is_on_frame h p 0 ≡ true
on_first_column h p = grind (arith, nat_tests)

pub on_last_column : (h p : ℕ) → is_on_frame h p (h + 1) ≡ true
on_last_column h p = grind (arith, nat_tests)

-- what a module of the first or the last row is to be
pub ends_value : (h p c : ℕ) → (p ≡ 0) ⊎ (p ≡ h + 1) → frame_value h p c ≡ (eqb p (h + 1) || eqb (c % 2) 0)
ends_value h p c x3 = grind arith

-- what a module of the last column is to be, in a row inside of its region
pub last_column_value : (h p : ℕ) → 1 ≤ p → p ≤ h → frame_value h p (h + 1) ≡ eqb (p % 2) 1
last_column_value h p low high = grind (arith, nat_tests, low, high)

-- the module of the first column of a region, and that of the last, in a row inside of it
pub first_column : (g : GridView) (r b h : ℕ) (x dark : Bool) → h ≡ region g.size
    → dark ≡ grid_module_at g r (b * (h + 2)) → x ≡ cond dark false true → x ≡ is_wrong_at g r (b * (region g.size + 2))
first_column g r b h x dark same at is =
    let s = region g.size in
    let p = r % (s + 2) in
    let there = grid_module_at g r (b * (s + 2)) in
    let rest : b * (s + 2) % (s + 2) ≡ 0 =
    ap (λ i. i % (s + 2)) (sym (add-zero (b * (s + 2)))) ∙ mod-mul-add b (s + 2) 0 (omega arith) in
    differs_is x dark there true true is (at ∙ ap (λ n. grid_module_at g r (b * (n + 2))) same) refl
    ∙ sym (wrong_is s p 0 there true (on_first_column s p) refl) ∙ ap (wrong_module s there p) (sym rest)

pub last_column : (g : GridView) (r b h : ℕ) (x dark : Bool) → h ≡ region g.size → 1 ≤ r % (region g.size + 2)
    → r % (region g.size + 2) ≤ region g.size → dark ≡ grid_module_at g r (b * (h + 2) + (h + 2) - 1)
    → x ≡ cond dark (not (eqb (r % (h + 2) % 2) 1)) (eqb (r % (h + 2) % 2) 1)
    → x ≡ is_wrong_at g r (b * (region g.size + 2) + (region g.size + 1))
last_column g r b h x dark same low high at is =
    grind (arith, mod-mul-add, differs_is, wrong_is, on_last_column, last_column_value)

-- the modules of one framed region in a row inside of it
pub region_more : (g : GridView) (r b : ℕ) (x y : Bool) (wrong more : ℕ) → r < side g.size
    → 1 ≤ r % (region g.size + 2) → r % (region g.size + 2) ≤ region g.size → b < across g.size
    → wrong ≡ wrong_among g (r * side g.size) (b * (region g.size + 2)) → x ≡ is_wrong_at g r (b * (region g.size + 2))
    → y ≡ is_wrong_at g r (b * (region g.size + 2) + (region g.size + 1)) → more ≡ wrong + (cond x 1 0 + cond y 1 0)
    → more ≡ wrong_among g (r * side g.size) ((b + 1) * (region g.size + 2))
region_more g r b x y wrong more row_in low high b_in so_far left right sum =
    let h = region g.size in
    let n = side g.size in
    let f = h + 2 in
    let first = r * n in
    let at = b * f in
    let one : Bool → ℕ = λ t. cond t 1 0 in
    let fits : (b + 1) * f ≤ across g.size * f = mul-le-mul_right f (let l : b + 1 ≤ across g.size = omega arith in l) in
    let all = fills_side g.size in
    let whole : at + f ≤ n = omega (arith, fits, all) in
    let inner : (k : ℕ) → k < h → is_wrong g (first + (at + 1 + k)) ≡ false = λ k l.
    (let place : at + 1 + k ≡ at + (1 + k) = omega arith in
    sym (is_test g r (at + 1 + k) (omega (arith, whole)))
    ∙ ap (λ c. is_wrong_at g r c) place
    ∙ ap (λ p. wrong_module h (grid_module_at g r (at + (1 + k))) (r % f) p) (mod-mul-add b f (1 + k) (omega arith))
    ∙ not_wrong h (r % f) k (grid_module_at g r (at + (1 + k))) low high l) in
    let a : one x ≡ one (is_wrong g (first + at)) = ap one (left ∙ is_test g r at (omega (arith, whole))) in
    let last : at + (h + 1) ≡ at + 1 + h = omega arith in
    let z : one y ≡ one (is_wrong g (first + (at + 1 + h))) = ap one (right ∙ ap (λ c. is_wrong_at g r c) last
    ∙ is_test g r (at + 1 + h) (omega (arith, whole))) in
    let next : at + 1 + h + 1 ≡ (b + 1) * f = omega arith in
    omega (
      arith,
      so_far,
      sum,
      a,
      z,
      one_more g first at,
      none_more g first (at + 1) h inner,
      one_more g first (at + 1 + h),
    ) ∙ ap (wrong_among g first) next

-- a test as a number
pub test_number : (x : Bool) → bool_byte x ≡ cond x 1 0
test_number true = refl
test_number false = refl

-- a test counts at most one
pub at_most_one : (x : Bool) → cond x 1 0 ≤ 1
at_most_one true = omega arith
at_most_one false = omega arith

-- a module of a row of the grid
pub line_module : (g : GridView) (r c : ℕ) (line : List Bool) → r < side g.size → c < side g.size
    → line ≡ between (r * side g.size) ((r + 1) * side g.size) g.modules → get_or line c false ≡ grid_module_at g r c
line_module g r c line row_in column_in is = grind (arith, get_or-between)

-- the place of the next row in its framed regions: the first after the last, else the one after
pub turned : (f r p q : ℕ) → 0 < f → p ≡ r % f → p ≡ f - 1 → q ≡ 0 → q ≡ (r + 1) % f
turned f r p q some is last next = grind arith

pub passed : (f r p q : ℕ) → 0 < f → p ≡ r % f → (p ≡ f - 1 → ⊥) → q ≡ p + 1 → q ≡ (r + 1) % f
passed f r p q some is other next = grind arith
