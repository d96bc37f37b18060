-- The lines of `held --long`, one after another.
use Rattle.std.proofs.Common.{◌≡◌, ◌<◌, ◌+◌, ◌++◌, ◌∷◌, ◌∙◌, ℕ, List, [], Some, append-nil, ap, get_or, length, take, subst, sym}
use Rattle.std.specs.{FinMap.entries, FinMap.get, List.flat_map}
use Rattle.std.proofs.lemmas.{Grind.flat_map-append, List.get_or-map, List.length-map, List.take_more}
use Rattle.std.proofs.lemmas.List.Elements.{All-from_recursion, All-get_or}
use Rattle.dm_assembly_desk.specs.Documents.{Documents, Pages, summaries, summary}
use Rattle.dm_assembly_desk.specs.declared.reply.Held.{Held}
use Rattle.dm_assembly_desk.proofs.Found.{known}
use Rattle.relay_desk_commands.specs.Desks.{long_line}

-- the document that follows so many has these pages, and its line follows theirs
pub record IsNextLine (held : Documents) (number id : ℕ) : Type 0 where
  pub pages : Pages
  pub there : get held id ≡ Some pages
  pub more : flat_map long_line (take (number + 1) (entries held))
      ≡ flat_map long_line (take number (entries held)) ++ long_line (id, pages)

of_entry : (held : Documents) (number : ℕ) (d : ℕ × Pages) → number < length (entries held) →
    IsNextLine held number (get_or (entries held) number d).0
of_entry held number d within = let e : ℕ × Pages = get_or (entries held) number d in record {
  pages = e.1;
  there = All-get_or (λ e. get held e.0 ≡ Some e.1) (entries held) number d within
      (All-from_recursion (λ e. get held e.0 ≡ Some e.1) (entries held) (known held));
  more = ap (flat_map long_line) (take_more (entries held) number d within)
      ∙ flat_map-append long_line (take number (entries held)) (e ∷ [])
      ∙ ap (λ (line : List ℕ). flat_map long_line (take number (entries held)) ++ line) (append-nil (long_line e));
}

pub next_line : (held : Documents) (number : ℕ) (found : Held) → number < length (summaries held) →
    found ≡ get_or (summaries held) number found → IsNextLine held number found.id
next_line held number found within is =
    let d : ℕ × Pages = (0, []) in
    let there : number < length (entries held) = subst (λ n. number < n) (length-map (entries held) summary) within in
    let same : found ≡ summary (get_or (entries held) number d) = is ∙ get_or-map summary (entries held) number d found there in
    subst (IsNextLine held number) (sym (ap (λ (h : Held). h.id) same)) (of_entry held number d there)
