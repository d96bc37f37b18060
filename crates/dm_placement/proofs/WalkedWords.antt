-- The codewords that the walk comes to. For each size the checker computes that they are those of the closed form.
use Rattle.std.specs.{Option.option_map, Prelude.nat_le}
use Rattle.std.proofs.Common.{arith, ◌≡◌, ℕ, zero, suc, ◌+◌, ◌-◌, ◌*◌, ◌⊎◌, refl, List, [], ◌∷◌, ◌++◌, Option, Some, None, ltb, ◌&&◌, ◌||◌, if◌then◌else◌, ap, sym, ◌∙◌, append_assoc, map, ◌<◌, ◌≤◌, length, length-append}
use Rattle.std.proofs.lemmas.{Grind.flat_map-append, List.get_or_append_left, List.get_or-append-add}
use Rattle.dm_size.specs.declared.size.Size.{Size, TheVariants.Side10}
use Rattle.dm_size.specs.Sizes.{row, mapping, all_words}
use Rattle.dm_placement.specs.declared.{shape.Shape.Shape, shape.Shape.TheVariants.Plain}
use Rattle.dm_placement.specs.Placement.{shapes, shape_cells, bit_cells, cell_at, anchors, corner_before, is_anchor, is_left_out, is_in_square, rising_diagonal, falling_diagonal, place_of}
use Rattle.dm_placement.specs.inner.Places.{AreOfWord, ComesTo, IsPlaceable, corner_at, word_at}
use Rattle.dm_placement.proofs.{CellLists.cells_of_all, CellLists.length-shape_cells, Places.place_at}
use Rattle.dm_placement.proofs.ShapesSound.{AllSound-append, length-words, shape_count, sound_size}

-- ---- where the walk stands

-- the walk is at the start of an upward sweep, in it, or in the downward one
pub data Position : Type 0 where
  Start : ℕ → ℕ → Position
  Up : ℕ → ℕ → Position
  Down : ℕ → ℕ → Position

-- the codewords that the walk places from here, and where it goes next, unless it has ended
abbrev pub next : ℕ → Position → Option (List Shape × Position)
next n (Start r c) = if ltb r (n + 2) || ltb c (n + 2) then Some (corner_at n r c, Up r c) else None
next n (Up r c) =
    if nat_le 2 r && ltb c (n + 2) then Some (word_at n r c, Up (r - 2) (c + 2)) else Some ([], Down (r + 1) (c + 3))
next n (Down r c) =
    if ltb r (n + 2) && nat_le 2 c then Some (word_at n r c, Down (r + 2) (c - 2)) else Some ([], Start (r + 3) (c + 1))

-- the shapes that it places from here on, if it ends within this many steps
abbrev pub shapes_ahead : ℕ → ℕ → Position → Option (List Shape)
shapes_ahead zero n at = None
shapes_ahead (suc steps) n at = elim (next n at) [
  | None ↦ Some []
  | Some step ↦ option_map (λ later. step.0 ++ later) (shapes_ahead steps n step.1)
]

-- how far outside of the matrix it may be
abbrev pub IsNear : ℕ → Position → Type 0
IsNear n (Start r c) = (r < n + 2 → c ≤ 2) × (c < n + 2 → r ≤ n + 6)
IsNear n (Up r c) = (r ≤ n + 6) × (c ≤ n + 3)
IsNear n (Down r c) = (r ≤ n + 7) × (c ≤ n + 6) × (c < n + 2 → r ≤ n + 3)

-- the walk over the matrix of side n is here, and has come to k codewords
pub record Stands (n : ℕ) (at : Position) (k : ℕ) : Type 0 where
  pub near : IsNear n at
  pub here : ComesTo n k []
  pub steps : ℕ
  pub ahead : shapes_ahead steps n at ≡ Some here.later

-- the walk gives the shapes of each size, by computing
gives_shapes : (s : Size) → shapes_ahead (mapping s * mapping s) (mapping s) (Start 6 2) ≡ Some (shapes (mapping s))
unfolding row shapes anchors corner_before is_anchor is_left_out is_in_square rising_diagonal falling_diagonal word_at
    corner_at
gives_shapes Side10 = refl
gives_shapes _ = refl

-- the start
pub stands_first : (s : Size) (n : ℕ) → n ≡ mapping s → Stands n (Start 6 2) 0
stands_first s n side =
    let first : Stands (mapping s) (Start 6 2) 0 = record {
      near = (λ h. omega arith, λ h. omega arith);
      here = record { done = []; later = shapes (mapping s); count = refl; whole = refl };
      steps = mapping s * mapping s;
      ahead = gives_shapes s;
    } in rw side first

-- ---- one step

-- shapes that some were put before
parted : (new later : List Shape) (o : Option (List Shape)) → option_map (λ rest. new ++ rest) o ≡ Some later
    → (rest : List Shape) × (o ≡ Some rest) × (new ++ rest ≡ later)
parted new later (Some rest) e = (rest, refl, cc)
parted new later None e = absurd (cc)

-- the shapes ahead are those of the step, and then others
goes_on : (n steps : ℕ) (at at' : Position) (new later : List Shape) → next n at ≡ Some (new, at')
    → shapes_ahead steps n at ≡ Some later
    → (fewer : ℕ) × (rest : List Shape) × (shapes_ahead fewer n at' ≡ Some rest) × (new ++ rest ≡ later)
goes_on n zero at at' new later h e = absurd (cc)
goes_on n (suc steps) at at' new later h e =
    let p = parted new later (shapes_ahead steps n at') (rw (h, shapes_ahead) at e) in (steps, p.0, p.1, p.2)

-- the codewords of a step, and where the walk then is
stepped : (n k : ℕ) (at at' : Position) (new : List Shape) → Stands n at k → next n at ≡ Some (new, at') → IsNear n at'
    → ComesTo n k new × Stands n at' (k + length new)
stepped n k at at' new w h near =
    let i = w.here in
    let g = goes_on n w.steps at at' new i.later h w.ahead in
    let all : i.done ++ (new ++ g.1) ≡ shapes n = ap (λ l. i.done ++ l) g.3 ∙ i.whole in
    let next : ComesTo n (k + length new) [] = record {
      done = i.done ++ new;
      later = g.1;
      count = length-append i.done new ∙ ap (λ j. j + length new) i.count;
      whole = append_assoc i.done new g.1 ∙ all;
    } in (
      record { done = i.done; later = g.1; count = i.count; whole = all },
      record { near = near; here = next; steps = g.0; ahead = g.2 },
    )

-- a sweep begins, with a corner shape or none
pub begun : (n r c k : ℕ) (new : List Shape) → Stands n (Start r c) k → (r < n + 2) ⊎ (c < n + 2) → new ≡ corner_at n r c
    → ComesTo n k new × Stands n (Up r c) (k + length new)
begun n r c k new w h e = let near = w.near in stepped n k _ _ new w (grind arith) (grind arith, grind arith)

-- one step of the upward sweep
pub risen : (n r c k : ℕ) → Stands n (Up r c) k → 2 ≤ r → c < n + 2
    → ComesTo n k (word_at n r c) × Stands n (Up (r - 2) (c + 2)) (k + length (word_at n r c))
risen n r c k w hr hc = let near = w.near in stepped n k _ _ _ w (grind arith) (omega arith, omega arith)

-- the upward sweep has ended
pub turned : (n r c k : ℕ) → Stands n (Up r c) k → (r < 2) ⊎ (n + 2 ≤ c) → Stands n (Down (r + 1) (c + 3)) (k + 0)
turned n r c k w h =
    let near = w.near in (stepped n k _ _ [] w (grind arith) (omega arith, omega arith, λ l. grind arith)).1

-- one step of the downward sweep
pub fallen : (n r c k : ℕ) → Stands n (Down r c) k → r < n + 2 → 2 ≤ c
    → ComesTo n k (word_at n r c) × Stands n (Down (r + 2) (c - 2)) (k + length (word_at n r c))
fallen n r c k w hr hc =
    let near = w.near in stepped n k _ _ _ w (grind arith) (omega arith, omega arith, λ l. omega arith)

-- the downward sweep has ended
pub returned : (n r c k : ℕ) → Stands n (Down r c) k → (n + 2 ≤ r) ⊎ (c < 2) → Stands n (Start (r + 3) (c + 1)) (k + 0)
returned n r c k w h = let near = w.near in (stepped n k _ _ [] w (grind arith) (λ l. grind arith, λ l. grind arith)).1

-- a walk that has ended has come to all codewords
ended : (n steps : ℕ) (at : Position) (later : List Shape) → next n at ≡ None → shapes_ahead steps n at ≡ Some later → later ≡ []
ended n zero at later h e = absurd (cc)
ended n (suc steps) at later h e = let x = rw (h, shapes_ahead) at e in cc

pub stands_last : (s : Size) (n r c k : ℕ) → n ≡ mapping s → Stands n (Start r c) k → n + 2 ≤ r → n + 2 ≤ c
    → k ≡ all_words s
stands_last s n r c k side w hr hc =
    let i = w.here in
    let none = ended n w.steps _ i.later (grind arith) w.ahead in
    let all = ap (λ m. length (shapes m)) side ∙ shape_count s in
    omega (arith, ap length i.whole, length-append i.done i.later, ap length none, i.count, all)

-- ---- the codewords that it comes to

-- they stand where they may
pub fits_here : (s : Size) (k n : ℕ) (new : List Shape) (shape : Shape) → ComesTo n k new → n ≡ mapping s → new ≡ shape ∷ []
    → IsPlaceable n shape
fits_here s k n new shape w side e =
    grind (arith, AllSound-append (mapping s) w.done (shape ∷ w.later), sound_size s)

-- their bits stand at the places of their shapes
pub places_here : (s : Size) (k n : ℕ) (new : List Shape) (shape : Shape) (places : List ℕ) → ComesTo n k new → n ≡ mapping s
    → new ≡ shape ∷ [] → places ≡ map (place_of n) (shape_cells n shape) → AreOfWord s k places
unfolding bit_cells
places_here s k n new shape places w side e at =
    let m = mapping s in
    let whole : w.done ++ shape ∷ w.later ≡ shapes m =
    ap (λ l. w.done ++ (l ++ w.later)) (sym e) ∙ w.whole ∙ ap shapes side in
    let before = cells_of_all m w.done in
    let here = shape_cells m shape in
    let after = cells_of_all m w.later in
    let cells : bit_cells m ≡ before ++ (here ++ after) =
    sym (ap (cells_of_all m) whole) ∙ flat_map-append (shape_cells m) w.done (shape ∷ w.later) in
    let count : length before ≡ 8 * k = length-words m w.done ∙ ap (λ i. 8 * i) w.count in
    let eight = length-shape_cells m shape in
    record {
      is_word = omega (arith, length-append w.done (shape ∷ w.later), ap length whole, w.count, shape_count s);
      stand = λ b h. grind (
        arith,
        cells,
        count,
        get_or-append-add before (here ++ after) b (cell_at 0 0),
        get_or_append_left here after (cell_at 0 0) b (omega arith),
        place_at m here b,
      );
    }

-- a position two or more inside is that of a codeword
pub word_inside : (n r c : ℕ) → 4 ≤ r → r < n + 2 → 4 ≤ c → c < n + 2
    → word_at n r c ≡ Plain (cell_at (r - 2) (c - 2)) ∷ []
unfolding word_at is_left_out
word_inside n r c hr hrn hc hcn = grind arith
