-- Two error correction codewords: ten bytes have one pair of them, and they tell apart twelve bytes that differ in one
-- or two places; and the check form of twelve bytes, by its places.
use Rattle.std.proofs.Common.{◌≡◌, ◌∙◌, ◌+◌, ◌*◌, ◌<◌, ◌≤◌, ℕ, List, [], ◌∷◌, ◌++◌, Ok, inl, inr, length, take, drop, get_or, refl, ap, sym, subst, arith, below_more}
use borrow.Author.Count.{below_none}
use Rattle.std.specs.List.{All}
use Rattle.std.proofs.lemmas.{Bool.cases_lt, List.take-append-drop, List.length-drop, List.get_or_past}
use Rattle.std.proofs.lemmas.List.Elements.{All-get_or, All-drop, recursion_from_All}
use Rattle.dm_gf256.specs.Field.{differ, IsSoundBlock}
use Rattle.dm_gf256.proofs.OneBlockWord.{one_block_word}
use Rattle.hex.specs.Hex.{decode_sized, encode_lower, encode_with, IsBytes}
use Rattle.hex.proofs.HexLemmas.{decode_sized-ok, decode_sized-encode_lower}
use Rattle.relay_printer_commands.specs.Printers.{check_text, grouped, HasTicket, IsCheckText, IsChecked, IsGroupedText, digits_in_groups}

-- twelve bytes that differ in at most two places, and have their error correction codewords, are the same
pub same_checked : (bytes whole other_bytes other : List ℕ) → IsChecked bytes whole → IsChecked other_bytes other
    → differ whole other ≤ 2 → whole ≡ other
same_checked bytes whole other_bytes other c d near =
    one_block_word 2 whole other (c.count ∙ sym d.count) (omega (arith, c.count))
    (recursion_from_All _ whole c.words) (recursion_from_All _ other d.words) c.block_word d.block_word near

-- ten bytes with error correction codewords are these bytes and the two error correction codewords, of which there is
-- one pair
pub only_checked : (bytes checks : List ℕ) → ((others : List ℕ) → length others ≡ 2 → All (λ word. word < 256) others
    → IsSoundBlock 2 (bytes ++ others) → others ≡ checks) → (whole : List ℕ) → IsChecked bytes whole
    → whole ≡ bytes ++ checks
only_checked bytes checks only whole c =
    let rest = drop 10 whole in
    let parts : bytes ++ rest ≡ whole = ap (λ t. t ++ rest) (sym c.begins) ∙ take-append-drop 10 whole in
    let same = only rest (omega (arith, length-drop 10 whole, c.count)) (All-drop (λ word. word < 256) 10 whole c.words)
    (subst (λ (t : List ℕ). IsSoundBlock 2 t) (sym parts) c.block_word) in
    sym parts ∙ ap (λ t. bytes ++ t) same

-- a text in groups is the check form of the ten bytes with which its twelve begin alone
pub begins_with : (text whole bytes : List ℕ) → IsGroupedText text whole → IsCheckText text bytes
    → (take 10 whole ≡ bytes) × IsChecked bytes whole
begins_with text whole bytes g form =
    let read : Ok form.whole ≡ Ok whole = sym form.in_groups.decoded ∙ g.decoded in
    let same : form.whole ≡ whole = cc in (
      ap (take 10) (sym same) ∙ form.checked.begins,
      subst (λ (t : List ℕ). IsChecked bytes t) same form.checked,
    )

-- A text in groups, whose bytes differ in one or two places from those of a text in the check form, is no ticket's: it
-- is too long for twenty digits, and has not the error correction codewords of its ten bytes.
pub changed_is_refused : (text bytes other changed : List ℕ) (check : IsCheckText text bytes)
    → IsGroupedText other changed → differ check.whole changed ≤ 2 → (check.whole ≡ changed → ⊥)
    → HasTicket other → ⊥
changed_is_refused text bytes other changed check g near apart (ten, inl bare, is) =
    omega (arith, g.size, decode_sized-ok other 10 ten bare)
changed_is_refused text bytes other changed check g near apart (ten, inr form, is) =
    apart (same_checked bytes check.whole ten changed check.checked (begins_with other changed ten g form).1 near)

-- the places of bytes hold bytes
are_bytes : (xs : List ℕ) → All (λ word. word < 256) xs → IsBytes xs
are_bytes xs all i =
    elim (cases_lt i (length xs)) [
      | inl below ↦ All-get_or (λ word. word < 256) xs i 0 below all
      | inr past ↦
          let none : get_or xs i 0 ≡ 0 = get_or_past xs i 0 past in
          rw none (omega arith)
    ]

-- the check form of twelve bytes has its hyphens and digits in their places
places : (whole : List ℕ) → length whole ≡ 12 → (length (check_text whole) ≡ 29)
    × ((j : ℕ) → j < 5 → get_or (check_text whole) (5 * j + 4) 0 ≡ 45)
    × (digits_in_groups (check_text whole) ≡ encode_lower whole)
unfolding grouped encode_with digits_in_groups
places (a ∷ b ∷ c ∷ d ∷ e ∷ f ∷ g ∷ h ∷ i ∷ j ∷ k ∷ l ∷ []) twelve =
    let whole : List ℕ = a ∷ b ∷ c ∷ d ∷ e ∷ f ∷ g ∷ h ∷ i ∷ j ∷ k ∷ l ∷ [] in
    let Hyphen : ℕ → Type 0 = λ j. get_or (check_text whole) (5 * j + 4) 0 ≡ 45 in (
      refl,
      below_more Hyphen 4 (below_more Hyphen 3 (below_more Hyphen 2 (below_more Hyphen 1 (below_more Hyphen 0
          (below_none Hyphen) refl) refl) refl) refl) refl,
      refl,
    )
places _ twelve = absurd (omega arith)

-- the check form that is shown is read
pub check_text_reads : (bytes whole : List ℕ) → IsChecked bytes whole → IsCheckText (check_text whole) bytes
check_text_reads bytes whole c = let at = places whole c.count in record {
  whole = whole;
  in_groups = record {
    size = at.0;
    hyphens = at.1;
    decoded = ap (λ t. decode_sized t 12) at.2
        ∙ decode_sized-encode_lower whole 12 c.count (are_bytes whole c.words);
  };
  checked = c;
}
