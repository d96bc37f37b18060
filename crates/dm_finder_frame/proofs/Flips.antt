-- Lists of flipped modules.
use Rattle.std.specs.Prelude.{not}
use Rattle.std.proofs.Common.{◌≡◌, ℕ, zero, suc, ◌+◌, ◌*◌, ◌<◌, refl, List, [], ◌∷◌, ◌++◌, length, get_or, take, ◌∙◌, arith, length-set}
use Rattle.dm_size.specs.Sizes.{side}
use Rattle.dm_finder_frame.specs.Frame.{GridView, IsWholeGrid, grid_module_at, grid_with_flipped, flipped}

-- Flipped modules leave the size of a grid as it is.
pub flips_keep_the_size : (g : GridView) (flips : List (ℕ × ℕ)) → (flipped g flips).size ≡ g.size
flips_keep_the_size g [] = refl
flips_keep_the_size g (flip ∷ flips) = flips_keep_the_size (grid_with_flipped g flip.0 flip.1) flips

-- They leave the number of its modules as it is.
pub flips_keep_it_whole : (g : GridView) (flips : List (ℕ × ℕ)) → IsWholeGrid g → IsWholeGrid (flipped g flips)
flips_keep_it_whole g [] whole = whole
flips_keep_it_whole g (flip ∷ flips) whole =
    flips_keep_it_whole (grid_with_flipped g flip.0 flip.1) flips
    (length-set g.modules (flip.0 * side g.size + flip.1) (not (grid_module_at g flip.0 flip.1)) ∙ whole)

-- One flip more stands at the end of the list.
pub one_flip_more : (g : GridView) (flips : List (ℕ × ℕ)) (flip : ℕ × ℕ)
    → flipped g (flips ++ flip ∷ []) ≡ grid_with_flipped (flipped g flips) flip.0 flip.1
one_flip_more g [] flip = refl
one_flip_more g (first ∷ flips) flip = one_flip_more (grid_with_flipped g first.0 first.1) flips flip

-- After the first i flips, the flip of place i is the next.
pub next_flip : (g : GridView) (flips : List (ℕ × ℕ)) (i : ℕ) (other : ℕ × ℕ) → i < length flips
    → flipped g (take (suc i) flips) ≡ grid_with_flipped (flipped g (take i flips)) (get_or flips i other).0
    (get_or flips i other).1
next_flip g [] i other h = absurd (omega arith)
next_flip g (flip ∷ flips) zero other h = refl
next_flip g (flip ∷ flips) (suc i) other h = next_flip (grid_with_flipped g flip.0 flip.1) flips i other (omega arith)
