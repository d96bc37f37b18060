use Rattle.std.proofs.Common.{◌≡◌, subst, arith}
use Rattle.std.proofs.lemmas.{List.length-take, Result.err_from_is_err_and}
use Rattle.dm_finder_frame.specs.Frame.{GridView}
use Rattle.dm_append_label.specs.{Opening.OpensAs, Opening.RefusesLabel, Opening.page_at_front}
use Rattle.dm_append_label.proofs.Near.{one_page_opens, refused_opens, opens_as}
use Rattle.dm_append_label.proofs.opening.open_label.Goals as goal

pub returns-in_err-id : goal.returns-in_err-id
returns-in_err-id g c =
    let last = c.from_residual-in_err-id in
    let p = err_from_is_err_and last.result last.ensures.1 in
    let fault = c.in_err-id.field-0.0 in
    rw (p.1, p.2) (subst (λ (v : GridView). RefusesLabel v fault) c.lend.ensures
    (refused_opens c.lend.result c.in_ok-symbol.symbol fault c.in_ok-symbol.ensures.corrects
    c.in_ok-symbol.ensures.near c.in_err-id.ensures.page))

pub returns-in_default : goal.returns-in_default
returns-in_default g c =
    let symbol = c.in_ok-symbol.symbol in
    let page = page_at_front c.find_page.new.room c.in_ok-id.field-0 in (
      page,
      symbol.corrected,
      symbol.wrong,
      subst (λ (v : GridView). OpensAs v page symbol.corrected symbol.wrong) c.lend.ensures
          (opens_as c.lend.result symbol page c.in_ok-symbol.ensures.corrects c.in_ok-id.ensures.page),
    )

pub returns : goal.returns
returns g c =
    let symbol = c.in_ok-symbol.symbol in
    let found = page_at_front c.find_page.new.room c.in_ok-id.field-0 in
    let items : c.in-Ok.bytes.items ≡ found.bytes = c.in-Ok.ensures.items_if_clones_equal (λ x y e. e) in
    let is : c.in-Some.page ≡ found = rw items at c.in-Some.ensures.page in
    rw (c.corrected-corrected.ensures, c.wrong-wrong.ensures, is, ← c.lend.ensures)
    (one_page_opens c.lend.result symbol found c.in_ok-symbol.ensures.corrects c.in_ok-symbol.ensures.near
    c.in_ok-id.ensures.page (grind (arith, length-take c.in_ok-id.field-0.count c.find_page.new.room, c.in_ok-id.ensures.bounds.1)))
