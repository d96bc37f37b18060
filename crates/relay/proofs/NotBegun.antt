-- What was kept of a command that was not begun.
use Rattle.std.proofs.Common.{◌≡◌, ℕ, List, [], Some}
use Rattle.relay.specs.Program.{SystemView, with_output}

pub not_begun : (old done : SystemView) (bytes : List ℕ) → with_output done (Some bytes) ≡ with_output old (Some []) →
    done.standard.output ≡ old.standard.output → done ≡ old
not_begun old done bytes same out = λ i. record {
  standard = record { input = (same i).standard.input; output = out i; errors = (same i).standard.errors };
  places = (same i).places;
}
