use Rattle.std.proofs.Common.{◌≡◌, map, take}
use Rattle.relay.proofs.line.inputs_of.Given as goal

-- those of the first names
abbrev pub invariant-loop-name : goal.invariant-loop-name
invariant-loop-name g l = map g.P.Input.NamedFile.known l.files.items
    ≡ map (g.P.Places.known l.places) (map (λ name. name.now) (take l.name-index l.names))
