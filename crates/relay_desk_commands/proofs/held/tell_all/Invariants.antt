use Rattle.std.specs.Prelude.{◌≡◌, ◌≤◌, List, ℕ, IfSome}
use Rattle.dm_assembly_desk.specs.Desk.{IsFirstFrom}
use Rattle.relay_shared.specs.Command.{PutsText}
use Rattle.relay_desk_commands.specs.Desks.{Lists, documents_in}
use Rattle.relay_desk_commands.proofs.held.tell_all.Given as goal

-- the lines of the numbers before are written, as far as the output took them, and `first` is the first document of the
-- joint file that is left
abbrev pub invariant-loop-number : goal.invariant-loop-number
invariant-loop-number g l = record {
  text : List ℕ;
  lists : Lists (g.T.StoreSet.state l.fn.set) l.joint l.number text l.unsound;
  puts : PutsText text l.fn.output l.put l.output;
  same : g.T.StoreSet.state l.set ≡ g.T.StoreSet.state l.fn.set;
  first : IsFirstFrom (documents_in l.joint) l.number l.first;
  count : IfSome l.first (λ held. held.n ≤ 16);
}
