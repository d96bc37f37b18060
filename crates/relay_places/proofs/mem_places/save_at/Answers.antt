use Rattle.std.proofs.Common.{◌∷◌}
use Rattle.relay_places.specs.Places.{kept_at}
use Rattle.relay_places.proofs.Paths.{saves_new}
use Rattle.relay_places.proofs.mem_places.save_at.Goals as goal

pub returns : goal.returns
returns c =
    let old = kept_at (c.args.places.now.opened ∷ c.args.places.now.kept.items) in
    let mid = kept_at (c.open.new.self.opened ∷ c.open.new.self.kept.items) in
    let new = kept_at (c.close.new.self.opened ∷ c.close.new.self.kept.items) in
    saves_new c.args.path.now c.args.bytes.now old mid new _ _ _ _ c.save_where_none-answer.result c.in-Ok.ensures.there
    c.in-Ok.ensures.others c.save_where_none-answer.ensures.set c.save_where_none-answer.ensures.saves c.close.ensures.there
    c.close.ensures.others
