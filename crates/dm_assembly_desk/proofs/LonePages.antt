-- The pages of a document of which one alone is given.
use Rattle.std.proofs.Common.{◌≡◌, ℕ, zero, suc, ◌-◌, ◌<◌, ◌≤◌, List, [], ◌∷◌, length, map, take, Bor, Option, Some, None, refl, ap, arith, replicate}
use Rattle.std.specs.Prelude.{◌≢◌, slice_set}
use Rattle.std.specs.List.{AllByRecursion}
use Rattle.dm_append_label.specs.Labels.{PageView}
use Rattle.dm_assembly_desk.specs.Documents.{Pages, page, lent_bytes, mask, IsEntry, IsShort}
use Rattle.dm_assembly_desk.specs.Desk.{lone}

blanks : (n k : ℕ) → n ≤ k → map lent_bytes (take n (replicate k None)) ≡ replicate n None
blanks zero k le = refl
blanks (suc n) zero le = absurd (omega arith)
blanks (suc n) (suc k) le = ap (λ (ps : Pages). None ∷ ps) (blanks n k (omega arith))

placed : (n k i : ℕ) (o : Option (Bor (List ℕ))) → n ≤ k →
    map lent_bytes (take n (slice_set (replicate k None) i o)) ≡ slice_set (replicate n None) i (lent_bytes o)
placed zero k i o le = refl
placed (suc n) zero i o le = absurd (omega arith)
placed (suc n) (suc k) zero o le = ap (λ (ps : Pages). lent_bytes o ∷ ps) (blanks n k (omega arith))
placed (suc n) (suc k) (suc i) o le = ap (λ (ps : Pages). None ∷ ps) (placed n k i o (omega arith))

-- one place of sixteen is filled, and as many are lent as the document has pages
pub lone_lent : (p : PageView) (m n : ℕ) (b : Bor (List ℕ)) → m ≡ p.m → n ≡ p.n → b.now ≡ p.bytes → n ≤ 16 →
    map lent_bytes (take n (slice_set (replicate 16 None) (m - 1) (Some b))) ≡ lone p
lone_lent p m n b m_is n_is b_is le = cc (placed n 16 (m - 1) (Some b) le)

pub length-set_at : (ps : Pages) (i : ℕ) (o : Option (List ℕ)) → length (slice_set ps i o) ≡ length ps
length-set_at [] i o = refl
length-set_at (p ∷ ps) zero o = refl
length-set_at (p ∷ ps) (suc i) o = ap suc (length-set_at ps i o)

short_set : (ps : Pages) (i : ℕ) (o : Option (List ℕ)) → IsShort o → AllByRecursion IsShort ps →
    AllByRecursion IsShort (slice_set ps i o)
short_set [] i o h all = tt
short_set (p ∷ ps) zero o h all = (h, all.1)
short_set (p ∷ ps) (suc i) o h all = (all.0, short_set ps i o h all.1)

some_set : (ps : Pages) (i : ℕ) (b : List ℕ) → i < length ps → 1 ≤ mask (slice_set ps i (Some b))
some_set [] i b lt = absurd (omega arith)
some_set (p ∷ ps) zero b lt = omega arith
some_set (p ∷ ps) (suc i) b lt = omega (arith, some_set ps i b (omega arith))

short_blank : (n : ℕ) → AllByRecursion IsShort (replicate n None)
short_blank zero = tt
short_blank (suc n) = (tt, short_blank n)

pub length-blank : (n : ℕ) → length {A = Option (List ℕ)} (replicate n None) ≡ n
length-blank zero = refl
length-blank (suc n) = ap suc (length-blank n)

pub lone_entry : (p : PageView) → p.id < 64516 → 2 ≤ p.n → p.n ≤ 16 → 1 ≤ p.m → p.m ≤ p.n → length p.bytes ≤ 2600 →
    IsEntry p.id (lone p)
lone_entry p fits least most first last short =
    grind (arith, length-blank, length-set_at, some_set, short_set, short_blank)

-- ---- page by page

blank_at : (n m : ℕ) → page (replicate n None) (suc m) ≡ None
blank_at zero m = refl
blank_at (suc n) zero = refl
blank_at (suc n) (suc m) = blank_at n m

one_here : (n i : ℕ) (b : List ℕ) → i < n → page (slice_set (replicate n None) i (Some b)) (suc i) ≡ Some b
one_here zero i b lt = absurd (omega arith)
one_here (suc n) zero b lt = refl
one_here (suc n) (suc i) b lt = one_here n i b (omega arith)

one_else : (n i m : ℕ) (b : List ℕ) → m ≢ i → page (slice_set (replicate n None) i (Some b)) (suc m) ≡ None
one_else zero i m b other = refl
one_else (suc n) zero zero b other = absurd (other refl)
one_else (suc n) zero (suc m) b other = blank_at n m
one_else (suc n) (suc i) zero b other = refl
one_else (suc n) (suc i) (suc m) b other = one_else n i m b (λ e. other (ap suc e))

-- the page is given
pub lone_here : (p : PageView) → 1 ≤ p.m → p.m ≤ p.n → page (lone p) p.m ≡ Some p.bytes
lone_here p first last = grind (arith, one_here)

-- no other page is
pub lone_else : (p : PageView) (m : ℕ) → 1 ≤ p.m → m ≢ p.m → page (lone p) m ≡ None
lone_else p m first other = grind (arith, one_else)
