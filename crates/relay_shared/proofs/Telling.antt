-- From the answer of a write to what a command says.
use Rattle.std.specs.Prelude.{◌≡◌, ℕ, List, Result, MatchResult}
use Rattle.std.proofs.Common.{Ok, Err, inl, inr, refl, ap}
use Rattle.relay_streams.specs.Streams.{InputView, OutputView, write_fault_name}
use Rattle.relay_streams.specs.declared.fault.WriteFault.{WriteFault, TheVariants.Write}
use Rattle.relay_shared.specs.Command.{PutsText, StreamsView, Tells, TellsBytes, TellsRefusal}

abbrev pub streams_of : InputView → OutputView → OutputView → StreamsView
streams_of input output errors = record { input = input; output = output; errors = errors }

-- the line was written and the status is 0, or the output has refused it and a part of it is out
pub told : {line : List ℕ} {old new : OutputView} {status : ℕ} (put : Result (Unit {0}) WriteFault)
    → PutsText line old put new → MatchResult put (λ _. status ≡ 0) (λ _. status ≡ 1) → Tells line 0 old status new
told (Ok x) puts is = inl (puts.written, is)
told (Err e) puts is = inr (puts.failed, puts.part, is)

-- the status is 1 either way
pub told_else : {line : List ℕ} {old new : OutputView} (put : Result (Unit {0}) WriteFault) → PutsText line old put new
    → Tells line 1 old 1 new
told_else (Ok x) puts = inl (puts.written, refl)
told_else (Err e) puts = inr (puts.failed, puts.part, refl)

-- bytes for another program were written, or the standard error was told that they were not
pub told_bytes : {bytes : List ℕ} {input : InputView} {output errors new_output new_errors : OutputView} {status : ℕ}
    (put : Result (Unit {0}) WriteFault) → PutsText bytes output put new_output
    → MatchResult put (λ _. (status ≡ 0) × (new_errors ≡ errors))
    (λ fault. TellsRefusal (write_fault_name fault) errors status new_errors)
    → TellsBytes bytes (streams_of input output errors) status (streams_of input new_output new_errors)
told_bytes {input = input} {new_output = new_output} (Ok x) puts is =
    inl (puts.written, ap (streams_of input new_output) is.1, is.0)
told_bytes (Err Write) puts is = inr (puts.failed, puts.part, refl, is)
