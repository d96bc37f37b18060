-- Lines, and words of lines, that commands of several crates write; they are this project's own.
use Rattle.std.specs.Prelude.{ℕ, List, [], ◌∷◌, ◌++◌, codes, ◌/◌, ◌%◌}
use Rattle.std.specs.Fmt.{decimal}
use Rattle.hex.specs.Hex.{encode_lower}
use Rattle.dm_append_label.specs.Labels.{id_words}

-- the two codewords of an ID in hexadecimal
abbrev pub id_text : ℕ → List ℕ
id_text id = encode_lower (id_words id)

-- a number of two bytes in hexadecimal
abbrev pub word_text : ℕ → List ℕ
word_text number = encode_lower (number / 256 ∷ number % 256 ∷ [])

-- the ID, m and n, and whether the page was new
abbrev pub accepted_line : ℕ → ℕ → ℕ → List ℕ → List ℕ
accepted_line id m n kind = id_text id ++ (32 ∷ (decimal m ++ (47 ∷ (decimal n ++ (32 ∷ (kind ++ 10 ∷ []))))))

-- the ID, n, the pages that were added, bit m - 1 for page m, and the kind of the import
abbrev pub imported_line : ℕ → ℕ → ℕ → List ℕ → List ℕ
imported_line id n added kind =
    id_text id ++ (32 ∷ (decimal n ++ (codes " added " ++ (word_text added ++ (32 ∷ (kind ++ 10 ∷ []))))))

-- bytes in lower-case hexadecimal, or a hyphen if there are none
abbrev pub hexadecimal : List ℕ → List ℕ
hexadecimal [] = codes "-"
hexadecimal (byte ∷ bytes) = encode_lower (byte ∷ bytes)
