use Rattle.std.proofs.Common.{Global, ℕ, drop, map, max}
use Rattle.relay_shared.specs.Lines.{id_text}
use Rattle.relay.specs.Program.{ForgetsEach, SystemView, system_at}
use Rattle.relay.proofs.system.System.forget_each.Given as goal

-- so far, whatever the other documents come to
abbrev pub invariant-loop-given : goal.invariant-loop-given
invariant-loop-given g l = (others : ℕ) (new : SystemView) →
    ForgetsEach Global l.file (map (λ given. id_text given.id) (drop l.given-index l.documents))
    (system_at l.system.standard (g.P.Places.state l.system.places)) others new →
    ForgetsEach Global l.file (map (λ given. id_text given.id) l.documents)
    (system_at l.fn.self.standard (g.P.Places.state l.fn.self.places)) (max l.status others) new
