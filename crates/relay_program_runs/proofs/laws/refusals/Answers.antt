use Rattle.std.proofs.Common.{arith, ◌≡◌, refl, ℕ, List, None, Option, Some, []}
use Rattle.relay_program_runs.specs.Passed.{Made, made_where}
use Rattle.relay_program_runs.proofs.laws.refusals.Goals as goal

none_there : (before : Option (List ℕ)) (ledger : Made) → made_where before None ledger ≡ []
none_there None ledger = refl
none_there (Some old) ledger = refl

pub returns : goal.returns
returns c = record {
  ticket = λ fault other it. grind arith;
  grid = λ fault other it. grind arith;
  file = λ fault other it. grind arith;
  there = λ old after ledger. refl;
  absent = none_there;
}
