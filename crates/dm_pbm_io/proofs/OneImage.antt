-- No image's spelling begins another's.
use Rattle.std.proofs.Common.{◌≡◌, ℕ, suc, ◌+◌, ◌<◌, ◌≤◌, min, Bool, true, false, cond, ◌⊎◌, inl, inr, Some, List, [], ◌∷◌, ◌++◌, length, map, refl, sym, ap, ◌∙◌, arith, append_assoc, append-nil, length-append}
use Rattle.std.specs.List.{concat, filter, AllByRecursion}
use Rattle.std.proofs.lemmas.List.Elements.{filter-append}
use Rattle.dm_pbm_io.specs.Header.{is_hidden, in_comment, signs_from, signs, magic, IsHeaderBody, stride, IsPackedRaster, digit_of, is_pixel_digit, IsPlainRaster}
use Rattle.dm_pbm_io.specs.{Image.Picture, Image.IsRaster, Image.SpellsAfterMagic, Laws.HasOneImage}
use Rattle.dm_pbm_io.specs.inner.Streaming.{walk}
use Rattle.dm_pbm_io.specs.declared.header.HeaderState.TheVariants.{AfterMagic, Done}
use Rattle.dm_pbm_io.proofs.Walking.{walk-append, spelled_walks, at_done}
use Rattle.dm_pbm_io.proofs.{Stage.in_comment-append, Stage.signs-append, Rows.digit_kept, Rows.length-packed}

-- of two fronts of one list, one is a front of the other
pub fronts : (a b x y : List ℕ) → a ++ x ≡ b ++ y
    → ((d : List ℕ) × (b ≡ a ++ d) × (x ≡ d ++ y)) ⊎ ((d : List ℕ) × (a ≡ b ++ d) × (y ≡ d ++ x))
fronts [] b x y e = inl (b, refl, e)
fronts (u ∷ a) [] x y e = inr (u ∷ a, refl, sym e)
fronts (u ∷ a) (v ∷ b) x y e = let h : u ≡ v = cc in grind (arith, fronts a b x y (cc))

-- what shows no sign and ends outside of a comment is nothing
open_stays : (d : List ℕ) → signs_from true d ≡ [] → in_comment true d ≡ true
open_stays [] e = refl
open_stays (b ∷ d) e =
    elim (is_hidden true b) as (λ h. cond h (signs_from true d) (b ∷ signs_from false d) ≡ [] → in_comment h d ≡ true) [
      | true ↦ λ f. open_stays d f
      | false ↦ λ f. cc
    ] e

pub closed_none : (d : List ℕ) → signs_from false d ≡ [] → in_comment false d ≡ false → d ≡ []
closed_none [] e c = refl
closed_none (b ∷ d) e c = grind (arith, open_stays)

pub signs_after : (a d : List ℕ) → in_comment false a ≡ false
    → (signs (a ++ d) ≡ signs a ++ signs d) × (in_comment false (a ++ d) ≡ in_comment false d)
signs_after a d c = grind (arith, signs-append, in_comment-append)

pub done_walk : (body : List ℕ) (w h : ℕ) → IsHeaderBody body w h
    → walk (Some AfterMagic) (signs body) ≡ Some (Done (min w 1025) (min h 1025))
done_walk body w h b = spelled_walks (signs body) w h b.size

-- a header that goes on with d is no header, unless d is nothing
header_ends : (a d : List ℕ) (w h w' h' : ℕ) → IsHeaderBody a w h → IsHeaderBody (a ++ d) w' h'
    → (d ≡ []) × (min w' 1025 ≡ min w 1025) × (min h' 1025 ≡ min h 1025)
header_ends a d w h w' h' p q =
    let s = signs_after a d p.closed in
    let runs : walk (Some (Done (min w 1025) (min h 1025))) (signs d) ≡ Some (Done (min w' 1025) (min h' 1025)) =
    cc (done_walk a w h p, walk-append (Some AfterMagic) (signs a) (signs d), done_walk (a ++ d) w' h' q) in
    let ends = at_done (min w 1025) (min h 1025) (signs d) (min w' 1025) (min h' 1025) runs in
    (closed_none d ends.0 (sym s.1 ∙ q.closed), ends.1, ends.2)

-- lists of one length with equal continuations
pub same_fronts : {X : Type 0} (a b x y : List X) → length a ≡ length b → a ++ x ≡ b ++ y → (a ≡ b) × (x ≡ y)
same_fronts [] [] x y n e = (refl, e)
same_fronts [] (v ∷ b) x y n e = absurd (omega arith)
same_fronts (u ∷ a) [] x y n e = absurd (omega arith)
same_fronts (u ∷ a) (v ∷ b) x y n e =
    let h : u ≡ v = cc in let m = same_fronts a b x y (omega arith) (cc) in (cc (h, m.0), m.1)

same_rows : (n : ℕ) (a b : List (List ℕ)) → AllByRecursion (λ r. length r ≡ n) a → AllByRecursion (λ r. length r ≡ n) b
    → length a ≡ length b → concat a ≡ concat b → a ≡ b
same_rows n [] [] p q l e = refl
same_rows n [] (v ∷ b) p q l e = absurd (omega arith)
same_rows n (u ∷ a) [] p q l e = absurd (omega arith)
same_rows n (u ∷ a) (v ∷ b) p q l e = grind (
  arith,
  same_fronts,
  same_rows n a b p.1 q.1 (omega arith) (same_fronts u v
      (concat a) (concat b) (p.0 ∙ sym q.0) e).1,
)

one_packed : (a b x y : List ℕ) (w h : ℕ) (p q : List Bool) → IsPackedRaster a w h p → IsPackedRaster b w h q
    → a ++ x ≡ b ++ y → (a ≡ b) × (p ≡ q)
one_packed a b x y w h p q r s e =
    grind (
      arith,
      length-packed a w h p r,
      same_rows (stride w) r.rows s.rows r.each s.each (r.count ∙ sym s.count) (sym
          r.raster_is ∙ (same_fronts a b x y (length-packed a w h p r ∙ sym (length-packed b w h q s)) e).0 ∙ s.raster_is),
    )

same_digits : (p q : List Bool) → map digit_of p ≡ map digit_of q → p ≡ q
same_digits [] [] e = refl
same_digits [] (v ∷ q) e = cc
same_digits (u ∷ p) [] e = cc
same_digits (u ∷ p) (v ∷ q) e =
    let h : digit_of u ≡ digit_of v = cc in grind (arith, same_digits p q (cc))

pub length-digits : (p : List Bool) → length (map digit_of p) ≡ length p
length-digits [] = refl
length-digits (x ∷ p) = ap suc (length-digits p)

-- the last of a list after a front that isn't all of it
pub last_after : (a d f : List ℕ) (z : ℕ) → a ++ d ≡ f ++ z ∷ [] → 0 < length d → (g : List ℕ) × (d ≡ g ++ z ∷ [])
last_after [] d f z e n = (f, e)
last_after (u ∷ a) d [] z e n = grind (arith, length-append a d)
last_after (u ∷ a) d (v ∷ f) z e n = let t : a ++ d ≡ f ++ z ∷ [] = cc in last_after a d f z t n

-- a byte outside of a comment at the end is a sign
pub shown_last : (h : Bool) (z : ℕ) → in_comment h (z ∷ []) ≡ false → signs_from h (z ∷ []) ≡ z ∷ []
shown_last h z c = ap (λ v. cond v [] (z ∷ [])) c

digits_after : (d g : List ℕ) (p : Bool) → d ≡ g ++ digit_of p ∷ [] → in_comment false d ≡ false
    → 0 < length (filter is_pixel_digit (signs d))
digits_after d g p e c =
    grind (arith, in_comment-append, signs-append, shown_last, filter-append, digit_kept, length-append)

pub no_more : (d : List ℕ) → (0 < length d → ⊥) → d ≡ []
no_more [] n = refl
no_more (b ∷ d) n = absurd (n (omega arith))

-- a plain raster that goes on with d is none of as many pixels, unless d is nothing
plain_ends : (a d : List ℕ) (count : ℕ) (p q : List Bool) → IsPlainRaster a count p → IsPlainRaster (a ++ d) count q →
    (d ≡ []) × (p ≡ q)
plain_ends a d count p q r s =
    let b = signs_after a d r.closed in
    let shut = sym b.1 ∙ s.closed in
    let kept : map digit_of q ≡ map digit_of p ++ filter is_pixel_digit (signs d) = grind (arith, filter-append) in
    let long : length q ≡ length p + length (filter is_pixel_digit (signs d)) =
    grind (arith, length-digits, length-append) in
    let none : length (filter is_pixel_digit (signs d)) ≡ 0 = omega (arith, r.count_is, s.count_is) in
    let empty : d ≡ [] = no_more d (λ n. grind (arith, last_after, digits_after)) in
    let same : map digit_of q ≡ map digit_of p = grind (arith, append-nil) in grind (arith, same_digits)

one_plain : (a b x y : List ℕ) (count : ℕ) (p q : List Bool) → IsPlainRaster a count p → IsPlainRaster b count q
    → a ++ x ≡ b ++ y → (a ≡ b) × (p ≡ q)
one_plain a b x y count p q r s e =
    elim (fronts a b x y e) [
      | inl d ↦ let m = plain_ends a d.0 count p q r (rw d.1 at s) in
          (sym (append-nil a) ∙ ap (λ t. a ++ t) (sym m.0) ∙ sym d.1, m.1)
      | inr d ↦ grind (arith, plain_ends b d.0 count q p s (rw d.1 at r), append-nil b)
    ]

one_raster : (plain : Bool) (a b x y : List ℕ) (w h : ℕ) (p q : List Bool) → IsRaster plain a w h p
    → IsRaster plain b w h q → a ++ x ≡ b ++ y → (a ≡ b) × (p ≡ q)
one_raster plain a b x y w h p q r s e = grind (arith, one_plain, one_packed)

pub one_header : (a b x y : List ℕ) (w h w' h' : ℕ) → IsHeaderBody a w h → IsHeaderBody b w' h' → a ++ x ≡ b ++ y
    → (a ≡ b) × (min w 1025 ≡ min w' 1025) × (min h 1025 ≡ min h' 1025)
one_header a b x y w h w' h' p q e =
    elim (fronts a b x y e) [
      | inl d ↦ let m = header_ends a d.0 w h w' h' p (rw d.1 at q) in
          (sym (append-nil a) ∙ ap (λ t. a ++ t) (sym m.0) ∙ sym d.1, sym m.1, sym m.2)
      | inr d ↦ grind (arith, header_ends b d.0 w' h' w h q (rw d.1 at p), append-nil b)
    ]

pub one_magic : (p q : Bool) (x y : List ℕ) → magic p ++ x ≡ magic q ++ y → (p ≡ q) × (x ≡ y)
one_magic p q x y e = grind arith

-- pictures with the same fields
pub same_picture : (p q : Picture) → p.width ≡ q.width → p.height ≡ q.height → p.pixels ≡ q.pixels →
    p.plain ≡ q.plain → p ≡ q
same_picture p q w h x f = λ i. record { width = w i; height = h i; pixels = x i; plain = f i }

pub capped_same : (m n : ℕ) → m ≤ 1024 → n ≤ 1024 → min m 1025 ≡ min n 1025 → m ≡ n
capped_same m n a b e = omega arith

pub raster_moved : (b c : Bool) (raster : List ℕ) (w h w' h' : ℕ) (pixels : List Bool) → b ≡ c → w ≡ w' → h ≡ h'
    → IsRaster c raster w' h' pixels → IsRaster b raster w h pixels
raster_moved b c raster w h w' h' pixels e f g r = rw (e, f, g) r

one_after_magic : (a b x y : List ℕ) (p q : Picture) → p.plain ≡ q.plain → SpellsAfterMagic a p → SpellsAfterMagic b q
    → a ++ x ≡ b ++ y → (a ≡ b) × (p ≡ q)
one_after_magic a b x y p q form r s e =
    let split : r.body ++ (r.raster ++ x) ≡ s.body ++ (s.raster ++ y) =
    grind (arith, append_assoc) in
    let head = one_header r.body s.body (r.raster ++ x)
    (s.raster ++ y) p.width p.height q.width q.height r.header.header s.header.header split in
    let w = capped_same p.width q.width r.header.width_within s.header.width_within head.1 in
    let h = capped_same p.height q.height r.header.height_within s.header.height_within head.2 in
    let rest = same_fronts r.body s.body (r.raster ++ x) (s.raster ++ y) (ap length head.0) split in
    let one = one_raster p.plain r.raster s.raster x y p.width p.height p.pixels q.pixels r.raster_is
    (raster_moved p.plain q.plain s.raster p.width p.height q.width q.height q.pixels form w h s.raster_is) rest.1 in
    grind arith

pub one_image : HasOneImage
one_image a b x y p q r s e =
    let split : magic p.plain ++ (r.rest ++ x) ≡ magic q.plain ++ (s.rest ++ y) =
    sym (append_assoc (magic p.plain) r.rest x) ∙ ap (λ t. t ++ x) (sym r.bytes_are) ∙ e ∙ ap (λ t. t ++ y) s.bytes_are
    ∙ append_assoc (magic q.plain) s.rest y in
    let m = one_magic p.plain q.plain (r.rest ++ x) (s.rest ++ y) split in
    let one = one_after_magic r.rest s.rest x y p q m.0 r.spells s.spells m.1 in
    (r.bytes_are ∙ ap (λ f. magic f ++ r.rest) m.0 ∙ ap (λ t. magic q.plain ++ t) one.0 ∙ sym s.bytes_are, one.1)
