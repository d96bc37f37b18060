-- The names of two keys' files are apart, and each is apart from the draft of another.
use Rattle.std.proofs.Common.{◌≡◌, ◌∙◌, ◌≢◌, ◌<◌, ◌+◌, ◌-◌, ◌*◌, ◌/◌, ◌%◌, ◌^◌, ◌++◌, ℕ, List, false, length, get_or, refl, sym, ap, arith, length-append}
use Rattle.std.specs.Prelude.{codes, if◌then◌else◌, nat_lt}
use Rattle.std.specs.Fmt.{digit_glyph}
use Rattle.std.proofs.lemmas.List.{append_cancel_left}
use Rattle.dm_disk.specs.Disk.{draft_of, key_name, key_path}

-- the digit that a letter shows
abbrev digit_of : ℕ → ℕ
digit_of letter = if nat_lt letter 58 then letter - 48 else letter - 87

digit_of-glyph : (d : ℕ) → d < 16 → digit_of (digit_glyph false d) ≡ d
digit_of-glyph d lt = grind arith

abbrev key_of : List ℕ → ℕ
key_of name = (digit_of (get_or name 0 0) * 16 + digit_of (get_or name 1 0)) * 256
    + (digit_of (get_or name 2 0) * 16 + digit_of (get_or name 3 0))

key_of-name : (key : ℕ) → key < 2 ^ 16 → key_of (key_name key) ≡ key
unfolding key_name
key_of-name key lt =
    let a = digit_of-glyph (key / 256 / 16) (omega (arith, lt)) in
    let b = digit_of-glyph (key / 256 % 16) (omega arith) in
    let x = digit_of-glyph (key % 256 / 16) (omega arith) in
    let y = digit_of-glyph (key % 256 % 16) (omega arith) in
    rw (a, b, x, y) (omega (arith, lt))

pub names_apart : (folder : List ℕ) (key other : ℕ) → key < 2 ^ 16 → other < 2 ^ 16 → other ≢ key
    → key_path folder other ≢ key_path folder key
names_apart folder key other lt other_lt apart same =
    let names = append_cancel_left (folder ++ codes "/") (key_name other) (key_name key) same in
    apart (sym (key_of-name other other_lt) ∙ ap key_of names ∙ key_of-name key lt)

name_length : (folder : List ℕ) (key : ℕ) → length (key_path folder key) ≡ length folder + 5
unfolding key_name
name_length folder key =
    let four : length (key_name key) ≡ 4 = refl in
    omega (arith, four, length-append (folder ++ codes "/") (key_name key), length-append folder (codes "/"))

pub draft_apart : (folder : List ℕ) (key other : ℕ) → key_path folder other ≢ draft_of (key_path folder key)
draft_apart folder key other same =
    let longer : length (draft_of (key_path folder key)) ≡ length folder + 5 + 4 =
    length-append (key_path folder key) (codes ".new") ∙ ap (λ (n : ℕ). n + 4) (name_length folder key) in
    let equal = ap (λ (name : List ℕ). length name) same in
    omega (arith, longer, equal, name_length folder other)
