-- The lines of bytes, as `split_inclusive` gives them one after another, each with its end.
use Rattle.std.proofs.Common.{◌≡◌, ◌<◌, ◌≤◌, ◌+◌, ◌-◌, ◌++◌, ◌∷◌, ◌∙◌, ℕ, Bool, Bor, false, List, [], Option, ap, append-nil, append_assoc, arith, get_or, inl, inr, length, length-append, refl, subst, sym, take}
use Rattle.std.proofs.lemmas.{Bool.cases_Bool, Bool.cases_lt, Bool.cond-false, Bool.cond-true, Bool.eq-eqb, Bool.eqb-true, Bool.ne_eqb, Fn.always_returns_same, Grind.common_steps, Iterator.Splits.YieldsList-from_shown_while, List.Splits.slice_split_at, List.Splits.slice_split_none, List.Splits.length-slice_split, List.Sums.count_by-le-length, List.get_or-take, List.length-take, List.nil_from_length, List.take_more}
use Rattle.std.proofs.Math.Seq.{take-append_seam}
use Rattle.std.specs.{Fn.CalledAt, Fn.ComputesKey, Iterator.AlwaysYields, List.All, List.IsFirstMatchOrLen, List.slice_split, Prelude.MatchOption, Prelude.◌==◌, Prelude.min, Str.Lines.lines, Str.Lines.lines_of_parts, Str.Lines.strip_carriage_return}
use Rattle.std.specs.Slice.Iter.{split_inclusive_callee, split_inclusive_rest}
use Rattle.std.specs.declared.slice.SplitInclusive.{SplitInclusive}
use Rattle.relay_printer_commands.specs.inner.Kept.{without_end}
use denote.Param.Members.{Mut}

-- the byte is a line feed
abbrev pub is_feed : ℕ → Bool
is_feed byte = byte == 10

parts-cons : (line : List ℕ) (parts : List (List ℕ)) → 0 < length parts →
    lines_of_parts (line ∷ parts) ≡ strip_carriage_return line ∷ lines_of_parts parts
parts-cons line [] some = absurd (omega arith)
parts-cons line (next ∷ more) some = refl

end_of_feed : (line : List ℕ) → without_end (line ++ 10 ∷ []) ≡ strip_carriage_return line
end_of_feed line =
    let last : get_or (line ++ 10 ∷ []) (length (line ++ 10 ∷ []) - 1) 0 ≡ 10 = grind (arith, common_steps) in
    let front : take (length (line ++ 10 ∷ []) - 1) (line ++ 10 ∷ []) ≡ line = grind (arith, common_steps) in
    cond-true _ _ _ (eq-eqb _ 10 last) ∙ ap strip_carriage_return front

end_of_none : (line : List ℕ) → 0 < length line → All (λ byte. is_feed byte ≡ false) line → without_end line ≡ line
end_of_none line some none = cond-false _ _ _ (none (length line - 1) 0 (omega arith))

-- bytes up to the first line feed are the first line with its end
first_line : (bytes line rest : List ℕ) (i : ℕ) → bytes ≡ line ++ rest → length line ≡ min (i + 1) (length bytes) →
    IsFirstMatchOrLen is_feed bytes i → 0 < length bytes → lines bytes ≡ without_end line ∷ lines rest
first_line bytes line rest i cut long first some = elim (cases_lt i (length bytes)) [
  | inl before ↦
      let front : List ℕ = take i bytes in
      let size : length line ≡ i + 1 = omega arith in
      let whole : line ≡ front ++ 10 ∷ [] = sym (ap (take (length line)) cut ∙ take-append_seam line rest)
      ∙ ap (λ n. take n bytes) size ∙ take_more bytes i 0 before ∙ ap (λ byte. front ++ byte ∷ []) (eqb-true _ 10 (first.1 before 0)) in
      let none : All (λ byte. is_feed byte ≡ false) front = λ k d l.
      let below : k < i = omega (arith, length-take i bytes) in
      rw get_or-take (first.0 k d (omega arith) below) in
      ap lines (cut ∙ ap (λ xs. xs ++ rest) whole ∙ append_assoc front (10 ∷ []) rest)
      ∙ ap lines_of_parts (slice_split_at is_feed front 10 rest none refl)
      ∙ parts-cons front (slice_split is_feed rest) (omega (arith, length-slice_split is_feed rest))
      ∙ ap (λ text. text ∷ lines rest) (sym (ap without_end whole ∙ end_of_feed front))
  | inr after ↦
      let none : All (λ byte. is_feed byte ≡ false) bytes = λ k d l. first.0 k d (omega arith) (omega arith) in
      let end : rest ≡ [] = nil_from_length rest (omega (arith, ap length cut, length-append line rest)) in
      let same : bytes ≡ line = cut ∙ ap (λ xs. line ++ xs) end ∙ append-nil line in
      ap lines_of_parts (slice_split_none is_feed bytes none) ∙ cond-false _ _ _ (ne_eqb (length bytes) 0 (λ z. omega arith))
      ∙ ap (λ xs. bytes ∷ xs) (sym (ap lines end))
      ∙ ap (λ text. text ∷ lines rest) (sym (end_of_none bytes some none) ∙ ap without_end same)
]

-- one step of `split_inclusive`
abbrev pub inclusive_steps : {F : Type 0} → Mut F (Bor ℕ × Unit {0}) Bool → SplitInclusive ℕ F → Option (Bor (List ℕ))
    → SplitInclusive ℕ F → Type 0
inclusive_steps g s r t = MatchOption r ((length (split_inclusive_rest s) ≡ 0) × (t ≡ s))
    (λ x. (split_inclusive_rest s ≡ x.now ++ split_inclusive_rest t)
    × ((i : ℕ) × (length x.now ≡ min (i + 1) (length (split_inclusive_rest s)))
    × ((p : ℕ → Bool) → ComputesKey g p (split_inclusive_callee s)
    → ComputesKey g p (split_inclusive_callee t) × IsFirstMatchOrLen p (split_inclusive_rest s) i))
    × (0 < length (split_inclusive_rest s)))

-- what `split_inclusive` gives at line feeds are the lines with their ends
pub lines_with_ends : {F : Type 0} (s : SplitInclusive ℕ F) (g : Mut F (Bor ℕ × Unit {0}) Bool) {f : F} (bytes : List ℕ) →
    split_inclusive_rest s ≡ bytes → split_inclusive_callee s ≡ f →
    ((x : ℕ) (b : Bool) (q : F) → CalledAt g f x b q → (q ≡ f) × (b ≡ (x == 10))) →
    AlwaysYields (inclusive_steps g) (λ line. without_end line.now) s (lines bytes)
lines_with_ends s g {f} bytes rest closure tests =
    subst (λ xs. AlwaysYields (inclusive_steps g) (λ line. without_end line.now) s (lines xs)) rest
    (YieldsList-from_shown_while (inclusive_steps g) (λ line. without_end line.now) (λ t. lines (split_inclusive_rest t))
    (λ t. ComputesKey g is_feed (split_inclusive_callee t))
    (λ t u h k. ap (λ xs. length (lines xs)) (nil_from_length _ k.0))
    (λ t x u h k. ((k.1.2 is_feed h).0, first_line _ x.now _ k.1.0 k.0 k.1.1 (k.1.2 is_feed h).1 k.2))
    s (subst (ComputesKey g is_feed) (sym closure) (always_returns_same g (λ a r. r ≡ is_feed a.0.now) f
    (λ a r q k. let m = tests a.0.now r q (record { shown = a.0; shows = refl; called = k }) in (m.1, m.0))))).runs

-- ---- how many

few_of_parts : (parts : List (List ℕ)) → length (lines_of_parts parts) ≤ length parts
few_of_parts [] = omega arith
few_of_parts (line ∷ []) = elim (cases_Bool (length line == 0)) [
  | inl none ↦ rw (cond-true _ [] (line ∷ []) none) (omega arith)
  | inr some ↦ rw (cond-false _ [] (line ∷ []) some) (omega arith)
]
few_of_parts (line ∷ next ∷ more) = omega (arith, few_of_parts (next ∷ more))

pub few_lines : (bytes : List ℕ) → length (lines bytes) ≤ length bytes + 1
few_lines bytes =
    omega (arith, few_of_parts (slice_split is_feed bytes), length-slice_split is_feed bytes, count_by-le-length is_feed bytes)
