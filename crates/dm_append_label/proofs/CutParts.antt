-- The parts of a document: how many there are, that each fits a label, that joined they are the document, and that
-- there is one list of them at most.
use Rattle.std.specs.{Prelude.slice_range, List.concat}
use Rattle.std.proofs.Common.{◌≡◌, ◌+◌, ◌-◌, ◌≤◌, ◌<◌, ◌++◌, ℕ, zero, suc, List, [], ◌∷◌, length, take, drop, refl, sym, ap, subst, ◌∙◌, arith, length-drop}
use Rattle.std.proofs.{Math.Seq.drop-nil, Math.Seq.drop-length, lemmas.List.take-append-drop}
use Rattle.dm_size.specs.{declared.size.Size.Size, Sizes.data_words}
use Rattle.dm_encodation.specs.declared.scheme.Scheme.{Scheme}
use Rattle.dm_encodation.specs.declared.scheme.Scheme.TheVariants.{Ascii, C40, Text, Base256}
use Rattle.dm_encodation.specs.Written.{IsGreatestPrefix, need_of, text, ascii, run_and_rest, run_length, greatest, base_256}
use Rattle.dm_append_label.specs.Labels.{Fits, AreFullEnds, until_two, parts_from, PartsFit, IsCut, EachCutIs, HasOneCut}

-- ---- each part fits

-- The empty text needs no codeword.
empty_need : (scheme : Scheme) → need_of scheme [] ≡ 0
unfolding need_of text ascii run_and_rest run_length greatest base_256
empty_need Ascii = refl
empty_need C40 = refl
empty_need Text = refl
empty_need Base256 = refl

-- An empty part fits.
empty_fits : (size : Size) (scheme : Scheme) (document : List ℕ) (at : ℕ) → 4 ≤ data_words size →
    Fits size scheme (slice_range document at at)
empty_fits size scheme document at head =
    let zero : at - at ≡ 0 = omega arith in
    let none : slice_range document at at ≡ [] = ap (λ n. take n (drop at document)) zero in
    subst (λ (bytes : List ℕ). Fits size scheme bytes) (sym none)
    (record { head = head; text = let e = empty_need scheme in omega arith })

-- Parts that are not empty fit.
full_fit : (size : Size) (scheme : Scheme) (document : List ℕ) (from : ℕ) (full : List ℕ) → 4 ≤ data_words size →
    AreFullEnds scheme (data_words size - 4) document from full → PartsFit size scheme document from full
full_fit size scheme document from [] head parts = tt
full_fit size scheme document from (end ∷ ends) head parts =
    let rises : from < end = parts.0 in
    let within : end - from ≤ length (drop from document) = parts.1.within in
    let len : length (drop from document) ≡ length document - from = length-drop from document in (
      omega arith,
      omega arith,
      record { head = head; text = parts.1.fits },
      full_fit size scheme document end ends head parts.2,
    )

-- So do all parts, with the empty ones that make two.
two_fit : (size : Size) (scheme : Scheme) (document full : List ℕ) → 4 ≤ data_words size →
    AreFullEnds scheme (data_words size - 4) document 0 full →
    PartsFit size scheme document 0 (until_two (length document) full)
two_fit size scheme document [] head parts =
    let none : 0 ≡ length document = parts in
    let first : Fits size scheme (slice_range document 0 (length document)) =
    subst (λ (k : ℕ). Fits size scheme (slice_range document 0 k)) none (empty_fits size scheme document 0 head) in (
      omega arith,
      omega arith,
      first,
      (omega arith, omega arith, empty_fits size scheme document (length document) head, tt),
    )
two_fit size scheme document (end ∷ []) head parts =
    let fit : PartsFit size scheme document 0 (end ∷ []) = full_fit size scheme document 0 (end ∷ []) head parts in
    let all : end ≡ length document = parts.2 in
    let second : Fits size scheme (slice_range document end (length document)) =
    subst (λ (k : ℕ). Fits size scheme (slice_range document end k)) all (empty_fits size scheme document end head) in
    (fit.0, fit.1, fit.2, (omega arith, omega arith, second, tt))
two_fit size scheme document (first ∷ second ∷ ends) head parts = full_fit size scheme document 0
    (first ∷ second ∷ ends) head parts

-- ---- how many there are

two_at_least : (n : ℕ) (full : List ℕ) → 2 ≤ length (until_two n full)
two_at_least n [] = omega arith
two_at_least n (end ∷ []) = omega arith
two_at_least n (first ∷ second ∷ ends) = omega arith

sixteen_at_most : (n : ℕ) (full : List ℕ) → length full ≤ 16 → length (until_two n full) ≤ 16
sixteen_at_most n [] few = omega arith
sixteen_at_most n (end ∷ []) few = omega arith
sixteen_at_most n (first ∷ second ∷ ends) few = few

-- ---- joined they are the document

drop_twice : (a b c : ℕ) (l : List ℕ) → c ≡ b + a → drop a (drop b l) ≡ drop c l
drop_twice a zero c l e = let same : a ≡ c = omega arith in ap (λ n. drop n l) same
drop_twice a (suc b) zero l e = let no : ⊥ = omega arith in absurd no
drop_twice a (suc b) (suc c) [] e = drop-nil a
drop_twice a (suc b) (suc c) (x ∷ l) e = let less : c ≡ b + a = omega arith in drop_twice a b c l less

-- Parts that are not empty are, joined, what remains of the document.
full_joined : (scheme : Scheme) (room : ℕ) (document : List ℕ) (from : ℕ) (ends : List ℕ) →
    AreFullEnds scheme room document from ends
    → concat (parts_from document from ends) ≡ drop from document
full_joined scheme room document from [] p = sym (ap (λ n. drop n document) p ∙ drop-length document)
full_joined scheme room document from (end ∷ ends) p =
    let first : from < end = p.0 in
    let sum : end ≡ from + (end - from) = omega arith in
    let rest : drop end document ≡ drop (end - from) (drop from document) =
    sym (drop_twice (end - from) from end document sum) in
    ap (λ l. take (end - from) (drop from document) ++ l) (full_joined scheme room document end ends p.2 ∙ rest)
    ∙ take-append-drop (end - from) (drop from document)

-- an empty part adds nothing
nothing_added : (document : List ℕ) (at : ℕ) → slice_range document at at ≡ []
nothing_added document at = let zero : at - at ≡ 0 = omega arith in ap (λ n. take n (drop at document)) zero

two_joined : (scheme : Scheme) (room : ℕ) (document full : List ℕ) → AreFullEnds scheme room document 0 full
    → concat (parts_from document 0 (until_two (length document) full)) ≡ document
two_joined scheme room [] [] p = refl
two_joined scheme room (byte ∷ document) [] p = absurd (omega (arith, p))
two_joined scheme room document (end ∷ []) p =
    let all : end ≡ length document = p.2 in
    let none : slice_range document end (length document) ≡ [] =
    ap (λ k. slice_range document k (length document)) all ∙ nothing_added document (length document) in
    ap (λ l. slice_range document 0 end ++ (l ++ [])) none ∙ full_joined scheme room document 0 (end ∷ []) p
two_joined scheme room document (first ∷ second ∷ ends) p = full_joined scheme room document 0 (first ∷ second ∷ ends) p

-- What is cut is 2 to 16 parts that fit and are, joined, the document.
pub each_cut_is : EachCutIs
each_cut_is size scheme document ends h =
    let n = length document in
    subst (λ (x : List ℕ). IsCut size scheme document x) (sym h.padded) (record {
      least = two_at_least n h.full;
      most = sixteen_at_most n h.full h.few;
      fit = two_fit size scheme document h.full h.head h.full_ends;
      joined = two_joined scheme (data_words size - 4) document h.full h.full_ends;
    })

-- ---- there is one list

one_greatest : (scheme : Scheme) (room : ℕ) (bytes : List ℕ) (j k : ℕ) → IsGreatestPrefix scheme room bytes j →
    IsGreatestPrefix scheme room bytes k → j ≡ k
one_greatest scheme room bytes j k a b = let up = b.greatest j a.within a.fits in
    let down = a.greatest k b.within b.fits in omega arith

-- Nothing is left to cut where the document has ended.
nothing_left : (scheme : Scheme) (room : ℕ) (document : List ℕ) (from end : ℕ) (ends : List ℕ) → from ≡ length document
    → AreFullEnds scheme room document from (end ∷ ends) → ⊥
nothing_left scheme room document from end ends all p =
    let rises : from < end = p.0 in
    let within : end - from ≤ length (drop from document) = p.1.within in
    let len = length-drop from document in
    omega (arith, all, rises, within, len)

one_full : (scheme : Scheme) (room : ℕ) (document : List ℕ) (from : ℕ) (one other : List ℕ)
    → AreFullEnds scheme room document from one → AreFullEnds scheme room document from other → one ≡ other
one_full scheme room document from [] [] p q = refl
one_full scheme room document from [] (end ∷ ends) p q = absurd (nothing_left scheme room document from end ends p q)
one_full scheme room document from (end ∷ ends) [] p q = absurd (nothing_left scheme room document from end ends q p)
one_full scheme room document from (end ∷ ends) (last ∷ others) p q =
    let same = one_greatest scheme room (drop from document) (end - from) (last - from) p.1 q.1 in
    let first : from < end = p.0 in
    let second : from < last = q.0 in
    let is : end ≡ last = omega arith in
    let rest : AreFullEnds scheme room document last ends =
    subst (λ (k : ℕ). AreFullEnds scheme room document k ends) is p.2 in
    ap (λ k. k ∷ ends) is ∙ ap (λ l. last ∷ l) (one_full scheme room document last ends others rest q.2)

-- A document has one list of ends.
pub one_cut : HasOneCut
one_cut size scheme document one other p q =
    let full = one_full scheme (data_words size - 4) document 0 p.full q.full p.full_ends q.full_ends in
    p.padded ∙ ap (until_two (length document)) full ∙ sym q.padded
