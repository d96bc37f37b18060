-- What bytes are read as: a sound ledger's as that ledger, and those of which a load gave the front as the whole.
use Rattle.std.proofs.Common.{◌≡◌, ◌≢◌, ◌<◌, ◌+◌, ◌*◌, ℕ, Bool, true, false, ◌&&◌, not, List, [], ◌∷◌, length, take, get_or, Option, Some, None, Result, Ok, Err, refl, sym, ap, ◌∙◌, arith, option_map, inl, inr, min}
use Rattle.std.specs.Prelude.{nat_eq, nat_lt, ◌==◌, if◌then◌else◌}
use Rattle.std.specs.{Cmp.Lexicographic.pointwise, Cmp.Lexicographic.bytes_decides, List.starts_with}
use Rattle.std.proofs.lemmas.Bool.{and_parts, and_left, and_right, le-ltb, eq-eqb, cond-true, cases_lt}
use Rattle.std.proofs.lemmas.{List.length-take, List.take_all, Grind.common_steps}
use Rattle.dm_print_ledger.specs.declared.{range.Range.Range, giver.Giver.Giver, fault.OpenFault.OpenFault}
use Rattle.dm_print_ledger.specs.declared.fault.OpenFault.TheVariants.{NotALedger, Version, Damaged}
use Rattle.dm_print_ledger.specs.Ledger.{LedgerView, ShownView, are_givers, are_ranges, number_in, is_sound, ledger_bytes, numbers_in, pairs_in, make_range, make_giver, range_count, giver_count, shown_of, FirstLedger, first_bytes, is_first, read_first, read_second, read_ledger}
use Rattle.dm_print_ledger.specs.Verdicts.{open_verdict, show_verdict}
use Rattle.dm_print_ledger.proofs.Rising.{sound_fact}
use Rattle.dm_print_ledger.proofs.FormatLaws.{HasSize, view_of, size_spelled, read_again, length-ledger_bytes}

-- the bytes are those of the numbers in them, which are sound
abbrev is_second : List ℕ → LedgerView → Bool
is_second bytes numbers = is_sound numbers && pointwise nat_eq bytes (ledger_bytes numbers)

second_by : (bytes : List ℕ) (b : Bool) → is_second bytes (numbers_in bytes) ≡ b →
    read_second bytes ≡ (if b then Ok (shown_of (numbers_in bytes)) else Err Damaged)
second_by bytes b e = ap (λ (t : Bool). if t then Ok (shown_of (numbers_in bytes)) else Err Damaged) e

-- bytes of another size than their counts ask for are damaged
pub no_size : (bytes : List ℕ) → ¬ HasSize bytes → read_second bytes ≡ Err Damaged
no_size bytes none = go (is_second bytes (numbers_in bytes)) refl
  where
    go : (b : Bool) → is_second bytes (numbers_in bytes) ≡ b → read_second bytes ≡ Err Damaged
    go true e = absurd (none (size_spelled bytes (numbers_in bytes) (sound_fact (numbers_in bytes) (and_parts _ _ e).0)
        ((bytes_decides bytes (ledger_bytes (numbers_in bytes))).0 (and_parts _ _ e).1)))
    go false e = second_by bytes false e

-- the numbers in bytes, as the code has read them
pub numbers_are : (bytes : List ℕ) (number serial n m : ℕ) (free : List Range) (givers : List Giver) →
    number ≡ number_in bytes 5 → serial ≡ number_in bytes 7 → n ≡ range_count bytes → m ≡ giver_count bytes →
    free ≡ pairs_in make_range bytes 10 n → givers ≡ pairs_in make_giver bytes (11 + 4 * n) m →
    numbers_in bytes ≡ view_of number serial free givers
unfolding numbers_in
numbers_are bytes number serial n m free givers a b en em ef eg = cc

-- where they are not sound, the bytes are damaged
pub not_sound : (bytes : List ℕ) (l : LedgerView) → numbers_in bytes ≡ l → is_sound l ≡ false →
    read_second bytes ≡ Err Damaged
not_sound bytes l e none = second_by bytes false (and_left _ _ (ap is_sound e ∙ none))

-- the ranges among them
free_in : (bytes : List ℕ) → (numbers_in bytes).free ≡ pairs_in make_range bytes 10 (range_count bytes)
unfolding numbers_in
free_in bytes = refl

-- the same, of the ranges alone
pub not_ranges : (bytes : List ℕ) (n : ℕ) (free : List Range) → n ≡ range_count bytes →
    free ≡ pairs_in make_range bytes 10 n → are_ranges free ≡ false → read_second bytes ≡ Err Damaged
not_ranges bytes n free en ef none = grind (arith, free_in, not_sound, and_left)

-- the same, of the givers
pub not_givers : (bytes : List ℕ) (l : LedgerView) → numbers_in bytes ≡ l → are_givers l.givers ≡ false →
    read_second bytes ≡ Err Damaged
not_givers bytes l e none = not_sound bytes l e (and_left _ _ (and_right _ _ none))

-- where they are those of other bytes, the bytes are damaged
pub not_same : (bytes : List ℕ) (l : LedgerView) → numbers_in bytes ≡ l →
    pointwise nat_eq bytes (ledger_bytes l) ≡ false → read_second bytes ≡ Err Damaged
not_same bytes l e none =
    second_by bytes false (and_right _ _ (ap (λ (m : LedgerView). pointwise nat_eq bytes (ledger_bytes m)) e ∙ none))

-- else they are read
pub read_as : (bytes : List ℕ) (l : LedgerView) → numbers_in bytes ≡ l → is_sound l ≡ true →
    pointwise nat_eq bytes (ledger_bytes l) ≡ true → read_second bytes ≡ Ok (shown_of l)
read_as bytes l e sound same = grind arith

-- ---- version 1

pub length-first_bytes : (l : FirstLedger) → length (first_bytes l) ≡ 13
unfolding first_bytes
length-first_bytes l = refl

-- bytes of another length are none
pub not_first : (bytes : List ℕ) → length bytes ≢ 13 → is_first bytes ≡ false
not_first bytes other = grind (arith, pointwise, bytes_decides, length-first_bytes, and_right)

-- ---- both versions

-- the verdict by its tests
abbrev pub verdict_of : Bool → Bool → ℕ → Result ShownView OpenFault → Result ShownView OpenFault →
    Result ShownView OpenFault
verdict_of starts short version first second =
    if not starts then Err NotALedger else
    if short then Err Damaged else
    if version == 1 then first else
    if version == 2 then second else
    Err Version

abbrev pub mark : List ℕ
mark = 68 ∷ 77 ∷ 76 ∷ 71 ∷ []

pub by_tests : (bytes : List ℕ) (starts short : Bool) (version : ℕ) (first second : Result ShownView OpenFault) →
    starts_with nat_eq bytes mark ≡ starts → nat_lt (length bytes) 5 ≡ short → get_or bytes 4 0 ≡ version →
    read_first bytes ≡ first → read_second bytes ≡ second →
    read_ledger bytes ≡ verdict_of starts short version first second
by_tests bytes starts short version first second a b c d e = cc

-- the mark and the version of a ledger
begins : (l : LedgerView) → starts_with nat_eq (ledger_bytes l) mark ≡ true
unfolding ledger_bytes
begins l = refl

fifth : (l : LedgerView) → get_or (ledger_bytes l) 4 0 ≡ 2
unfolding ledger_bytes
fifth l = refl

-- a sound ledger is read from its bytes
pub ledger_read : (l : LedgerView) → is_sound l ≡ true → read_ledger (ledger_bytes l) ≡ Ok (shown_of l)
ledger_read l sound =
    grind (arith, length-ledger_bytes, by_tests, begins, le-ltb, fifth, read_as, read_again, bytes_decides)

-- held, it opens the printer of its number
pub ledgers_are_held : (l : LedgerView) → is_sound l ≡ true → open_verdict (Some (ledger_bytes l)) l.number ≡ Ok l
ledgers_are_held l sound = search (arith, ledger_read, cond-true, eq-eqb)

-- so it is of a store that holds its bytes
pub held_by : (l : LedgerView) (content : Option (List ℕ)) (bytes : List ℕ) → is_sound l ≡ true →
    bytes ≡ ledger_bytes l → content ≡ Some bytes → open_verdict content l.number ≡ Ok l
held_by l content bytes sound e holds =
    ap (λ (c : Option (List ℕ)). open_verdict c l.number) (holds ∙ ap Some e) ∙ ledgers_are_held l sound

-- ---- a load that is cut

-- bytes that are longer than a ledger are none
long_first : (bytes : List ℕ) → 525 < length bytes → read_first bytes ≡ Err Damaged
long_first bytes long = let no : is_first bytes ≡ false = not_first bytes (λ e. omega arith) in rw no refl

long_second : (bytes : List ℕ) → 525 < length bytes → read_second bytes ≡ Err Damaged
long_second bytes long = grind (arith, no_size)

long_read : (bytes : List ℕ) → 525 < length bytes →
    read_ledger bytes ≡ verdict_of (starts_with nat_eq bytes mark) false (get_or bytes 4 0) (Err Damaged) (Err Damaged)
long_read bytes long = grind (arith, by_tests, le-ltb, long_first, long_second)

-- a cut leaves the first four bytes, and the fifth
mark_cut : (c : List ℕ) → take 4 (take 526 c) ≡ take 4 c
mark_cut c = grind (arith, common_steps)

fifth_cut : (c : List ℕ) → get_or (take 526 c) 4 0 ≡ get_or c 4 0
fifth_cut c = grind (arith, common_steps)

min_is : (n : ℕ) → 526 < n → min 526 n ≡ 526
min_is n long = omega arith

-- a front is read as the whole
read_front : (c : List ℕ) → read_ledger (take 526 c) ≡ read_ledger c
read_front c = elim (cases_lt 526 (length c)) [
  | inl long ↦
      let len : length (take 526 c) ≡ 526 = length-take 526 c ∙ min_is (length c) long in
      long_read (take 526 c) (omega arith)
      ∙ ap (λ (t : List ℕ). verdict_of (pointwise nat_eq mark t) false (get_or (take 526 c) 4 0)
      (Err Damaged) (Err Damaged)) (mark_cut c)
      ∙ ap (λ (n : ℕ). verdict_of (starts_with nat_eq c mark) false n (Err Damaged) (Err Damaged)) (fifth_cut c)
      ∙ sym (long_read c (omega arith))
  | inr short ↦ ap read_ledger (take_all 526 c short)
]

pub read_cut : (content : Option (List ℕ)) (bytes : List ℕ) → Some bytes ≡ option_map (take 526) content →
    read_ledger bytes ≡ show_verdict content
read_cut None bytes e = cc
read_cut (Some c) bytes e = grind (arith, read_front)

-- ---- a load
