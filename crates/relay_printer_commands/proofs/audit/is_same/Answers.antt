use Rattle.std.proofs.Common.{◌≡◌, ◌∙◌, ◌&&◌, ℕ, Bool, true, arith, nat_eq, refl, ◌/◌, ◌%◌}
use Rattle.std.proofs.lemmas.Bool.{Decides.nat_tests}
use Rattle.dm_print_ledger.specs.Ledger.{ticket_bytes}
use Rattle.relay_printer_commands.proofs.audit.is_same.Goals as goal

-- two numbers are the same if their two bytes are
two_bytes : (a b : ℕ) (rest : Bool) → (nat_eq a b && rest) ≡ (nat_eq (a / 256) (b / 256) && (nat_eq (a % 256) (b % 256) && rest))
two_bytes a b rest = grind (arith, nat_tests)

last_bytes : (a b : ℕ) → nat_eq a b ≡ (nat_eq (a / 256) (b / 256) && (nat_eq (a % 256) (b % 256) && true))
last_bytes a b = grind (arith, nat_tests)

pub returns : goal.returns
unfolding ticket_bytes
returns c = c.eq.ensures ∙ rw (
  two_bytes c.args.one.giver c.args.other.giver,
  two_bytes c.args.one.serial c.args.other.serial,
  two_bytes c.args.one.receiver c.args.other.receiver,
  two_bytes c.args.one.range.first c.args.other.range.first,
  last_bytes c.args.one.range.last c.args.other.range.last,
) refl
