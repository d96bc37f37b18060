-- Cutting from the left finds the one list of parts.
use Rattle.std.proofs.Common.{◌≡◌, ℕ, ◌+◌, ◌-◌, ◌<◌, List, [], ◌∷◌, ◌++◌, length, take, drop, sym, ap, subst, ◌∙◌, append_assoc, length-append, length-drop, arith}
use Rattle.std.proofs.lemmas.List.{append-nil, take_all}
use Rattle.dm_encodation.specs.{declared.scheme.Scheme.Scheme, Written.IsGreatestPrefix}
use Rattle.dm_append_label.specs.Labels.{AreFullEnds}

-- The document up to `from` is cut at these ends: ends of the rest complete them to ends of the whole, and all ends of
-- the whole begin with them.
pub record CutSoFar (scheme : Scheme) (room : ℕ) (document : List ℕ) (from : ℕ) (ends : List ℕ) : Type 0 where
  pub forward : (rest : List ℕ) → AreFullEnds scheme room document from rest →
      AreFullEnds scheme room document 0 (ends ++ rest)
  pub back : (full : List ℕ) → AreFullEnds scheme room document 0 full → (rest : List ℕ) × (full ≡ ends ++ rest) ×
      AreFullEnds scheme room document from rest

module _ (scheme : Scheme) (room : ℕ) (document : List ℕ) where
  one_greatest : (bytes : List ℕ) (j k : ℕ) → IsGreatestPrefix scheme room bytes j →
      IsGreatestPrefix scheme room bytes k → j ≡ k
  one_greatest bytes j k a b =
      let up = b.greatest j a.within a.fits in
      let down = a.greatest k b.within b.fits in
      omega arith

  pub one_more : (from taken : ℕ) (ends : List ℕ) → from < length document → 0 < taken →
      IsGreatestPrefix scheme room (drop from document) taken → CutSoFar scheme room document from ends →
      CutSoFar scheme room document (from + taken) (ends ++ (from + taken) ∷ [])
  one_more from taken ends lt some greatest so_far = record { forward = forward; back = back }
    where
      step : IsGreatestPrefix scheme room (drop from document) (from + taken - from)
      step =
          let e : taken ≡ from + taken - from = omega arith in
          subst (λ (k : ℕ). IsGreatestPrefix scheme room (drop from document) k) e greatest

      forward : (rest : List ℕ) → AreFullEnds scheme room document (from + taken) rest →
          AreFullEnds scheme room document 0 ((ends ++ (from + taken) ∷ []) ++ rest)
      forward rest h =
          let lt : from < from + taken = omega arith in
          subst (λ (x : List ℕ). AreFullEnds scheme room document 0 x)
          (sym (append_assoc ends ((from + taken) ∷ []) rest))
          (so_far.forward ((from + taken) ∷ rest) (lt, step, h))

      follow : (full rest : List ℕ) → full ≡ ends ++ rest → AreFullEnds scheme room document from rest →
          (more : List ℕ) × (full ≡ (ends ++ (from + taken) ∷ []) ++ more) ×
          AreFullEnds scheme room document (from + taken) more
      follow full [] is h = absurd (omega arith)
      follow full (end ∷ more) is h =
          let same : end - from ≡ from + taken - from = one_greatest (drop from document)
          (end - from) (from + taken - from) h.1 step in
          let end_is : end ≡ from + taken = let lt = h.0 in omega arith in (
            more,
            is ∙ ap (λ (k : ℕ). ends ++ k ∷ more) end_is ∙ sym (append_assoc ends ((from + taken) ∷ []) more),
            subst (λ (k : ℕ). AreFullEnds scheme room document k more) end_is h.2,
          )

      back : (full : List ℕ) → AreFullEnds scheme room document 0 full →
          (more : List ℕ) × (full ≡ (ends ++ (from + taken) ∷ []) ++ more) ×
          AreFullEnds scheme room document (from + taken) more
      back full h = let r = so_far.back full h in follow full r.0 r.1 r.2

  -- a rest that isn't empty, of which only the empty prefix fits
  nothing_fits : (from : ℕ) (rest : List ℕ) → from < length document →
      IsGreatestPrefix scheme room (drop from document) 0 → AreFullEnds scheme room document from rest → ⊥
  nothing_fits from [] lt g h = omega arith
  nothing_fits from (end ∷ rest) lt g h =
      let lt2 = h.0 in
      let up = g.greatest (end - from) h.1.within h.1.fits in
      omega arith

  pub stuck : (from : ℕ) (ends full : List ℕ) → from < length document →
      IsGreatestPrefix scheme room (drop from document) 0 → CutSoFar scheme room document from ends →
      AreFullEnds scheme room document 0 full → ⊥
  stuck from ends full lt g so_far h = let r = so_far.back full h in nothing_fits from r.0 lt g r.2

  -- a rest after sixteen parts
  too_many : (from : ℕ) (ends full rest : List ℕ) → from < length document → length ends ≡ 16 → full ≡ ends ++ rest →
      AreFullEnds scheme room document from rest → 16 < length full
  too_many from ends full [] lt count is h = absurd (omega arith)
  too_many from ends full (end ∷ rest) lt count is h =
      omega (arith, ap (λ (x : List ℕ). length x) is, length-append ends (end ∷ rest))

  pub crowded : (from : ℕ) (ends full : List ℕ) → from < length document → length ends ≡ 16 →
      CutSoFar scheme room document from ends → AreFullEnds scheme room document 0 full → 16 < length full
  crowded from ends full lt count so_far h = let r = so_far.back full h in too_many from ends full r.0 lt count r.1 r.2

  pub whole : (from : ℕ) (ends : List ℕ) → from ≡ length document → CutSoFar scheme room document from ends →
      AreFullEnds scheme room document 0 ends
  whole from ends all so_far = subst (λ (x : List ℕ). AreFullEnds scheme room document 0 x) (append-nil ends)
      (so_far.forward [] all)

  -- `&document[from..]`
  pub of_rest : (from taken : ℕ) →
      IsGreatestPrefix scheme room (take (length document - from) (drop from document)) taken →
      IsGreatestPrefix scheme room (drop from document) taken
  of_rest from taken h = subst (λ (x : List ℕ). IsGreatestPrefix scheme room x taken)
      (take_all (length document - from) (drop from document) (omega (arith, length-drop from document))) h
