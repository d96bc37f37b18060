use Rattle.std.specs.Prelude.{◌≡◌, ◌≤◌, ◌*◌, ◌+◌, ◌++◌, length}
use Rattle.relay_desk_commands.specs.Desks.{held_word, missing_pages}
use Rattle.relay_desk_commands.proofs.lines.held_end.Given as goal

-- the pages before are written, of which each takes four bytes at most
abbrev pub invariant-loop-m : goal.invariant-loop-m
invariant-loop-m l = record {
  written : l.text.bytes ≡ held_word l.fn.held ++ missing_pages l.mask l.m;
  short : length l.text.bytes ≤ 9 + 4 * l.m;
  same : (l.mask ≡ l.fn.held.mask) × (l.n ≡ l.fn.held.n);
}
