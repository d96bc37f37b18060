-- What goes to the standard error beside the line of a refusal.
use Rattle.std.specs.{Prelude.◌==◌, Prelude.◌++◌, Prelude.◌∷◌, Prelude.[], Prelude.List, Prelude.IsFalse, Prelude.codes, Prelude.ℕ, List.list_any}

-- the line `relay: TEXT`
abbrev pub note_line : List ℕ → List ℕ
note_line text = codes "relay: " ++ (text ++ 10 ∷ [])

-- Each line of a note begins with `relay: `. So none is the line of a refusal, nor is what stands before its end.
pub data IsNote : List ℕ → Type 0 where
  no_line : IsNote []
  next_line : (text later : List ℕ) → IsFalse (list_any (λ byte. byte == 10) text) → IsNote later →
      IsNote (note_line text ++ later)
