-- Buffers that hold nothing.
use Rattle.std.proofs.Common.{false, ◌≡◌, ℕ, List, [], Option, Some, None, refl, ap, ◌∙◌, append-nil}
use Rattle.std.specs.Io.KnownBytes.{append_known}
use Rattle.relay_shared.specs.Command.{StreamsView}
use Rattle.relay.specs.Program.{streams_over}

nothing_held : (a : Option (List ℕ)) → append_known a [] ≡ a
nothing_held None = refl
nothing_held (Some x) = ap Some (append-nil x)

-- streams over buffers that hold nothing
pub begun : (streams : StreamsView) (input output errors : Option (List ℕ))
    → streams.input ≡ record { remaining = input; has_failed = false }
    → streams.output ≡ record { contents = append_known output []; has_failed = false }
    → streams.errors ≡ record { contents = append_known errors []; has_failed = false }
    → streams ≡ streams_over (record { input = input; output = output; errors = errors })
begun streams input output errors e1 e2 e3 =
    let out : streams.output ≡ record { contents = output; has_failed = false }
    = e2 ∙ ap (λ c. record { contents = c; has_failed = false }) (nothing_held output) in
    let err : streams.errors ≡ record { contents = errors; has_failed = false }
    = e3 ∙ ap (λ c. record { contents = c; has_failed = false }) (nothing_held errors) in
    λ i. record { input = e1 i; output = out i; errors = err i }
