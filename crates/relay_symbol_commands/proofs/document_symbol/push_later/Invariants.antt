use Rattle.std.proofs.Common.{◌≡◌, ◌∷◌, ◌++◌, take, string_bytes}
use Rattle.std.specs.{List.flat_map, Fmt.decimal}
use Rattle.relay_symbol_commands.proofs.document_symbol.push_later.Given as goal

abbrev pub invariant-loop-word : goal.invariant-loop-word
invariant-loop-word g l = string_bytes l.line ≡ string_bytes l.initial.line ++ flat_map (λ later. 32 ∷ decimal later)
    (take l.word-index l.words)
