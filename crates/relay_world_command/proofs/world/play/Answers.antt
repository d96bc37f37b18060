use Rattle.std.proofs.Common.{rules}
use Rattle.relay_world_command.proofs.Played.{played, put_of, unchanged}
use Rattle.relay_world_command.proofs.world.play.Goals as goal

pub returns-in-Ok-clause-played : goal.returns-in-Ok-clause-played
returns-in-Ok-clause-played g c =
    let told =
    rw (c.deref.ensures.value, c.deref-2.ensures.value, c.deref-3.ensures.value) at c.in-Ok.ensures.headline in
    let all = played (λ l. l.output.now) (λ l. l.refused) _ (λ b a f h. (h.1, h.2, h.3)) _ told.0 _ told.2 in
    let same = unchanged (λ l. l.output.ghost_name) _ (λ b a f h. h.0) _ told.0 _ told.2 in
    let put = put_of told.0 c.args.output.now c.watch.new.listener.output.now all.out in
    (told.0, told.1, all.refused, put.0, search (rules, same, put.1))

pub returns-in-Err-clause-refused : goal.returns-in-Err-clause-refused
returns-in-Err-clause-refused g c =
    rw (c.deref.ensures.value, c.deref-2.ensures.value) at c.in-Err.ensures.refused
