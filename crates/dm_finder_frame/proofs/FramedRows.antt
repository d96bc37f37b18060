-- What stands in a row of a grid and of a mapping matrix, by the framed region and the place within it.
use Rattle.std.specs.{Prelude.◌/◌, Prelude.◌%◌, List.range_with_len}
use Rattle.std.proofs.Common.{◌≡◌, ℕ, ◌+◌, ◌-◌, ◌*◌, ◌<◌, ◌≤◌, List, [], ◌∷◌, ◌++◌, length, get_or, take, zero, suc, Bool, true, false, ◌==◌, cond, map, refl, inl, inr, ap, sym, ◌∙◌, arith, zero-add}
use Rattle.std.proofs.lemmas.{Bool.cases_lt, Bool.Decides.nat_tests, List.FromFn.get_or-map-range_with_len}
use Rattle.std.proofs.lemmas.Nat.{div-mul-add, mod-mul-add, mod_below, div-add-mod'}
use Rattle.std.proofs.lemmas.List.{get_or_append_left, get_or-append_right, get_or-take}
use Rattle.dm_size.specs.{declared.size.Size.Size, Sizes.region, Squares.Square, Squares.module_at}
use Rattle.dm_finder_frame.specs.declared.framing.TheConstants.{TOP, BOTTOM}
use Rattle.dm_finder_frame.specs.Frame.{is_on_frame, frame_value, mapping_place, grid_place, grid_module, matrix_module, GridView, grid_module_at}

-- the module at a place of a framed region, the row's place in its region being p
abbrev module_within : ℕ → ℕ → ℕ → Bool → Bool
module_within h p k inner = cond (is_on_frame h p k) (frame_value h p k) inner

-- a module of the grid by its region and its place within it
within : (s : Size) (m : Square) (r b k : ℕ) → k < region s + 2
    → grid_module s m r (b * (region s + 2) + k)
    ≡ module_within (region s) (r % (region s + 2)) k (module_at m (mapping_place (region s) r) (b * region s + k - 1))
within s m r b k h = grind (arith, div-mul-add, mod-mul-add)

-- at the left
left : (h p : ℕ) (inner : Bool) → module_within h p 0 inner ≡ true
left h p inner = grind (arith, nat_tests)

-- between
between_sides : (h p k : ℕ) (inner : Bool) → 1 ≤ p → p ≤ h → 1 ≤ k → k ≤ h → module_within h p k inner ≡ inner
between_sides h p k inner a b d e = grind (arith, nat_tests)

-- at the right
right : (h p : ℕ) (inner : Bool) → 1 ≤ p → p ≤ h → module_within h p (h + 1) inner ≡ (p % 2 == 1)
right h p inner a b = grind (arith, nat_tests)

-- at the top
top : (h k : ℕ) (inner : Bool) → module_within h 0 k inner ≡ (k % 2 == 0)
top h zero inner = refl
top h (suc k) inner = grind (arith, nat_tests)

-- at the bottom
bottom : (h k : ℕ) (inner : Bool) → module_within h (h + 1) k inner ≡ true
bottom h k inner = grind (arith, nat_tests)

-- a row inside of its region: the part of one region
pub inner_piece : (s : Size) (m : Square) (r b k : ℕ) (piece : List Bool) → 1 ≤ r % (region s + 2)
    → r % (region s + 2) ≤ region s → length piece ≡ region s → k < region s + 2
    → ((j : ℕ) → j < region s → get_or piece j false ≡ module_at m (mapping_place (region s) r) (b * region s + j))
    → get_or (true ∷ (piece ++ (r % (region s + 2) % 2 == 1) ∷ [])) k false
    ≡ grid_module s m r (b * (region s + 2) + k)
inner_piece s m r b zero piece low high size h each =
    sym (within s m r b 0 h ∙ left (region s) (r % (region s + 2)) _)
inner_piece s m r b (suc k) piece low high size h each = elim (cases_lt k (region s)) [
  | inl l ↦ (let at : b * region s + suc k - 1 ≡ b * region s + k = omega arith in
      let in_piece : k < length piece = omega (arith, size) in
      get_or_append_left piece _ false k in_piece ∙ each k l
      ∙ ap (λ c. module_at m (mapping_place (region s) r) c) (sym at)
      ∙ sym (within s m r b (suc k) h ∙ between_sides (region s) (r % (region s + 2)) (suc k) _ low high (omega arith)
      (omega arith)))
  | inr l ↦ (let last : k ≡ region s = omega arith in
      let next : suc k ≡ region s + 1 = omega arith in
      let none : k - region s ≡ 0 = omega arith in
      get_or-append_right piece _ (region s) k false size l
      ∙ ap (λ j. get_or ((r % (region s + 2) % 2 == 1) ∷ []) j false) none
      ∙ sym (within s m r b (suc k) h
      ∙ ap (λ j. module_within (region s) (r % (region s + 2)) j
      (module_at m (mapping_place (region s) r) (b * region s + suc k - 1))) next
      ∙ right (region s) (r % (region s + 2)) _ low high))
]

-- the patterns of the rows on the frame, by computing
top_is : TOP ≡ map (λ k. k % 2 == 0) (range_with_len 0 132)
top_is = refl

bottom_is : BOTTOM ≡ map (λ k. true) (range_with_len 0 132)
bottom_is = refl

-- a place in a framed region has the parity of its column
same_parity : (f c : ℕ) → f % 2 ≡ 0 → c % f % 2 ≡ c % 2
same_parity f c even =
    let half : f ≡ 2 * (f / 2) = omega arith in
    let whole = div-add-mod' c f in
    let twice : c / f * f ≡ 2 * (c / f * (f / 2)) = ap (λ x. c / f * x) half ∙ omega arith in
    omega (arith, whole, twice)

-- the top row of a framed region
pub top_piece : (s : Size) (m : Square) (r n k : ℕ) → region s % 2 ≡ 0 → r % (region s + 2) ≡ 0 → n ≤ 132 → k < n
    → get_or (take n TOP) k false ≡ grid_module s m r (0 + k)
top_piece s m r n k even at most h =
    let f = region s + 2 in
    let col : 0 + k ≡ k / f * f + k % f = omega (arith, div-add-mod' k f) in
    let below = mod_below k f (omega arith) in
    let parity : k % f % 2 ≡ k % 2 = same_parity f k (omega arith) in
    let inner = module_at m (mapping_place (region s) r) (k / f * region s + k % f - 1) in
    get_or-take n TOP k false h ∙ ap (λ (x : List Bool). get_or x k false) top_is
    ∙ get_or-map-range_with_len (λ k. k % 2 == 0) 0 132 k k false (omega arith) (zero-add k)
    ∙ sym (ap (grid_module s m r) col ∙ within s m r (k / f) (k % f) below
    ∙ ap (λ p. module_within (region s) p (k % f) inner) at ∙ top (region s) (k % f) inner ∙ ap (λ p. p == 0) parity)

-- the bottom row of a framed region
pub bottom_piece : (s : Size) (m : Square) (r n k : ℕ) → r % (region s + 2) ≡ region s + 1 → n ≤ 132 → k < n
    → get_or (take n BOTTOM) k false ≡ grid_module s m r (0 + k)
bottom_piece s m r n k at most h =
    let f = region s + 2 in
    let col : 0 + k ≡ k / f * f + k % f = omega (arith, div-add-mod' k f) in
    let below = mod_below k f (omega arith) in
    let inner = module_at m (mapping_place (region s) r) (k / f * region s + k % f - 1) in
    get_or-take n BOTTOM k false h ∙ ap (λ (x : List Bool). get_or x k false) bottom_is
    ∙ get_or-map-range_with_len (λ k. true) 0 132 k k false (omega arith) (zero-add k)
    ∙ sym (ap (grid_module s m r) col ∙ within s m r (k / f) (k % f) below
    ∙ ap (λ p. module_within (region s) p (k % f) inner) at ∙ bottom (region s) (k % f) inner)

-- a module of the mapping matrix by its region and its place within it
pub matrix_piece : (g : GridView) (r b k : ℕ) → k < region g.size
    → grid_module_at g (grid_place (region g.size) r) (b * (region g.size + 2) + 1 + k)
    ≡ matrix_module g r (b * region g.size + k)
matrix_piece g r b k h = grind (arith, div-mul-add, mod-mul-add)
