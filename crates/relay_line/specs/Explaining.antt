-- What `relay explain` says, by a table of texts. The first line of each is the name of a refusal.
use Rattle.std.specs.{Borrow.Bor, List.before_first, Str.bytes_eq}
use Rattle.std.specs.Prelude.{ℕ, List, [], ◌∷◌, ◌++◌, ◌==◌, Option, Some, None, if◌then◌else◌, flat_map}

-- the bytes before the first line end
abbrev pub first_line : List ℕ → List ℕ
first_line text = before_first (λ byte. byte == 10) text

-- what explains a refusal: the first text whose first line is its name
abbrev pub explained : List (Bor (List ℕ)) → List ℕ → Option (List ℕ)
explained [] name = None
explained (text ∷ rest) name = if bytes_eq (first_line text.now) name then Some text.now else explained rest name

-- the names, a line each
abbrev pub name_lines : List (Bor (List ℕ)) → List ℕ
name_lines table = flat_map (λ text. first_line text.now ++ 10 ∷ []) table
