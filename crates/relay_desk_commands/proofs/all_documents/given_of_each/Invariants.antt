use Rattle.std.proofs.Common.{◌≡◌, ◌+◌, Ok, length, map, take}
use Rattle.std.specs.{Prelude.All, Prelude.filter, FinMap.entries}
use Rattle.relay_desk_commands.specs.Desks.{Yields, is_given}
use Rattle.relay_desk_commands.proofs.all_documents.given_of_each.Given as goal

-- what is given of the documents so far, and how many of them are not
abbrev pub invariant-loop-held : goal.invariant-loop-held
invariant-loop-held g l = record {
  ids : map (λ given. given.id) l.documents.items
      ≡ map (λ e. e.0) (filter (λ e. is_given l.given e.1) (take l.held-index (entries l.desk.held)));
  yields : All (λ given. Yields l.given given.id l.desk.held (Ok given.bytes.items)) l.documents.items;
  others : length l.documents.items + l.incomplete ≡ l.held-index;
}
