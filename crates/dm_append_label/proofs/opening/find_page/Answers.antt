use Rattle.std.proofs.Common.{◌∙◌, List, ℕ, ap, drop, subst, sym}
use Rattle.std.proofs.lemmas.Result.{err_from_is_err_and}
use Rattle.dm_encodation.specs.Grammar.{StuckOnly}
use Rattle.dm_symbol.specs.Correction.{data_of}
use Rattle.dm_append_label.specs.{Labels.head_at, inner.ReadHeads.view_of}
use Rattle.dm_append_label.proofs.Near.{bad_head}
use Rattle.dm_append_label.proofs.opening.find_page.Goals as goal

pub returns-in_err-m-clause-page : goal.returns-in_err-m-clause-page
returns-in_err-m-clause-page c =
    let p = err_from_is_err_and c.from_residual.result c.from_residual.ensures.1 in
    let symbol = c.args.symbol.now in
    rw (p.1, p.2) (bad_head (data_of symbol.size symbol.words) c.in_err-m.field-0.0
    (ap head_at (sym c.data-data.ensures.data) ∙ c.in_err-m.ensures.head))

pub returns-in-Err-clause-page : goal.returns-in-Err-clause-page
returns-in-Err-clause-page c = record {
  head = view_of c.in_ok-m.field-0;
  is_head = ap head_at (sym c.data-data.ensures.data) ∙ c.in_ok-m.ensures.head.0;
  stuck = subst (λ (d : List ℕ). StuckOnly 5 (drop 4 d) c.in-Err.fault) c.data-data.ensures.data
      c.in-Err.ensures.stuck.1;
}
