-- Parts of a text that were appended.
use Rattle.std.proofs.Common.{ℕ, List, [], ◌++◌, Option, refl, sym, ap, ◌∙◌, append_assoc, append-nil}
use Rattle.std.specs.Io.KnownBytes.{Appends}
use Rattle.std.proofs.KnownBytes.{Appends-nil, Appends-trans}
use Rattle.relay_streams.specs.Streams.{AppendsPart}

-- nothing is a part of each text
pub part_none : (a : Option (List ℕ)) (text : List ℕ) → AppendsPart a a text
part_none a text = ([], (text, refl), Appends-nil a)

-- the whole is a part
pub part_whole : (a b : Option (List ℕ)) (text : List ℕ) → Appends a b text → AppendsPart a b text
part_whole a b text all = (text, ([], sym (append-nil text)), all)

-- a part of the first text is one of both
pub part_more : (a b : Option (List ℕ)) (first next : List ℕ) → AppendsPart a b first → AppendsPart a b (first ++ next)
part_more a b first next (part, (rest, is), p) =
    (part, (rest ++ next, ap (λ l. l ++ next) is ∙ append_assoc part rest next), p)

-- the first text, and a part of the next
pub part_after : (a b c : Option (List ℕ)) (first next : List ℕ) → Appends a b first → AppendsPart b c next
    → AppendsPart a c (first ++ next)
part_after a b c first next p (part, (rest, is), q) = (
  first ++ part,
  (rest, ap (λ l. first ++ l) is ∙ sym (append_assoc first part rest)),
  Appends-trans a b c first part p q,
)
