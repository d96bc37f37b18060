use Rattle.std.proofs.Common.{◌∙◌, Some, ap, inl, inr, refl}
use Rattle.relay_desk_commands.specs.Desks.TellsHeld.{unsettled}
use Rattle.relay_desk_commands.proofs.held.held_of.Goals.{in-Ok, in-Err}
use Rattle.relay_desk_commands.proofs.held.held_of.Goals as goal

pub returns-clause-ends : goal.returns-clause-ends
returns-clause-ends g c =
    let sees = c.joint_in-joint.ensures _ _ c.load_settled-loaded.ensures.loads in
    let empty = c.new-gathered.ensures.contents ∙ ap (λ bytes. Some bytes) c.new.ensures.items in
    rw (c.load_settled-loaded.ensures.loads.same, c.settle.ensures.settles.0, c.tell-status.ensures.same) (elim c.match-settle.branch [
      | in-Ok w ↦
          let told = w.put_gathered-status.ensures _ _ _ _ empty c.tell-status.ensures.tells in
          rw (w.streams-is, w.status-is, ← w.streams.view_is) record { joint = _; sees = sees; told = told; only = refl; same = refl }
      | in-Err w ↦
          let may = rw c.tell-status.ensures.same at w.in-Err.ensures.settles.1 in
          let told = unsettled w.in-Err.fault may (rw (w.name.ensures, w.from.ensures) at w.refuse-status.ensures) in
          rw (w.streams-is, w.status-is, ← w.streams-in-Err.view_is) record { joint = _; sees = sees; told = told; only = refl; same = refl }
    ])

pub returns-clause-settled : goal.returns-clause-settled
returns-clause-settled g c = elim c.match-settle.branch [
  | in-Ok w ↦ inl (w.in-Ok.ensures.settled refl)
  | in-Err w ↦
      let told = rw (w.name.ensures, w.from.ensures) at w.refuse-status.ensures in
      inr (rw (w.streams-is, w.status-is, ← w.streams-in-Err.view_is) (w.in-Err.fault, (told, refl)))
]
