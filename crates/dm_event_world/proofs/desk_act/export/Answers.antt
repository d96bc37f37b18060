use Rattle.std.proofs.Common.{◌≡◌, ◌++◌, ◌∷◌, [], Ok, Option, Vec, ℕ, length, refl, sym, subst, ◌∙◌, arith}
use Rattle.dm_assembly_desk.specs.{Desk.Exports, Documents.Pages}
use Rattle.dm_event_history.specs.Steps.{Looks, ExportTells}
use Rattle.dm_event_world.proofs.{DeskCalls.down_ends, DeskCalls.lacking, DeskLooks.exported, DeskLooks.no_bytes, DeskLooks.not_held}
use Rattle.dm_event_world.proofs.desk_act.export.Goals as goal

pub returns-in_default : goal.returns-in_default
returns-in_default g c = record {
  ends = λ capacity. down_ends capacity _ _ (λ stored. refl) c.args.state.now c.in_default.field-0 c.in_default.is;
}

pub returns-then-is_err : goal.returns-then-is_err
returns-then-is_err g c = record {
  ends = λ capacity. rw c.reserve.ensures.items
      (lacking capacity _ (Looks (ExportTells (length c.args.exports.now.items) c.args.id)) _ _ _ c.in-Running.is refl);
}

pub returns-in_default-pages : goal.returns-in_default-pages
returns-in_default-pages g c = record {
  ends = λ capacity. rw c.reserve.ensures.items
      (not_held capacity _ _ _ _ _ c.in-Running.is (sym c.pages.ensures.held ∙ c.in_default-pages.is));
}

pub returns-in-Err : goal.returns-in-Err
returns-in-Err g c = record {
  ends = λ capacity. rw c.reserve.ensures.items (no_bytes {X = Vec ℕ g.row.A.Denot} (λ v. v.items) capacity _ _ _ _ _ _ _
      c.in-Running.is (sym c.pages.ensures.held ∙ c.in-Some.is) c.in-Err.ensures.exports);
}

pub returns : goal.returns
returns g c =
    let at = sym c.pages.ensures.held ∙ c.in-Some.is in
    let index : c.len-index.result ≡ length c.args.exports.now.items =
    omega (arith, c.len-index.ensures, c.reserve.ensures.len, c.args.exports.now.ok.0) in
    let all : c.push_reserved.new.self.items ≡ c.args.exports.now.items ++ record {
      bytes = c.in-Ok.bytes.items;
      id = c.args.id;
      count = c.n-n.result;
      mask = c.mask-mask.result;
    } ∷ [] = rw c.reserve.ensures.items at c.push_reserved.ensures.items in
    record {
      ends = λ capacity. exported capacity _ _ _ _ _ c.in-Some.pages c.in-Ok.bytes.items _ _ _ c.in-Running.is
          c.pages.ensures.order at
          (subst (λ (o : Option Pages). Exports {X = Vec ℕ g.row.A.Denot} (λ v. v.items) c.args.id o (Ok c.in-Ok.bytes)) at
          c.in-Ok.ensures.exports) index c.n-n.ensures c.mask-mask.ensures.mask all;
    }
