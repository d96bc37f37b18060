use Rattle.std.proofs.{Common.Err, Common.rules, Common.subst, lemmas.Result.err_from_is_err_and}
use Rattle.dm_size.specs.declared.size.Size.{Size}
use Rattle.dm_finder_frame.specs.Frame.{GridView}
use Rattle.dm_symbol.specs.Correction.{CorrectedView, IsCorrectedAs, data_of}
use Rattle.dm_append_label.specs.{Labels.PageView, Opening.IsPageOf, Opening.ReadsPage}
use Rattle.relay_symbol_commands.specs.Symbols.{HasLine, HasLine.label, RefusesGrid.memory, RefusesGrid.page, RefusesGrid.symbol, label_line}
use Rattle.relay_symbol_commands.proofs.read.line_of_grid.Goals as goal

pub returns-in-Err : goal.returns-in-Err
returns-in-Err g c = rw c.from.ensures (symbol c.in-Err.fault c.in-Err.ensures.corrects)

-- the line of the page that the symbol of a grid has
line_of_page : {grid : GridView} {s : CorrectedView} {page : PageView} → IsCorrectedAs grid s →
    IsPageOf (data_of s.size s.words) page → HasLine grid (label_line page s.corrected s.wrong)
line_of_page {grid} {s} {page} is of_page = label page s.corrected s.wrong (record {
  words = s.words;
  read = is.read;
  is_page = subst (λ (size : Size). IsPageOf (data_of size s.words) page) is.same_size of_page;
  changed = is.corrected;
  wrong_is = is.wrong;
})

pub returns-in_err-line_of_label-in-Ok-find_page : goal.returns-in_err-line_of_label-in-Ok-find_page
returns-in_err-line_of_label-in-Ok-find_page g c =
    let p = err_from_is_err_and c.from_residual.result c.from_residual.ensures.1 in
    rw (p.1, p.2) (memory _ (line_of_page c.in-Ok.ensures.corrects c.in-Ok-find_page.ensures.page))

pub returns-in_ok-line_of_label-in-Ok-find_page : goal.returns-in_ok-line_of_label-in-Ok-find_page
returns-in_ok-line_of_label-in-Ok-find_page g c = rw c.in_ok-line_of_label-in-Ok-find_page.ensures
    (line_of_page c.in-Ok.ensures.corrects c.in-Ok-find_page.ensures.page)

pub returns-in-Err-find_page : goal.returns-in-Err-find_page
returns-in-Err-find_page g c =
    let s = c.in-Ok.symbol in
    let is = c.in-Ok.ensures.corrects in
    let fault = c.in-Err-find_page.fault in
    page s.words fault is.read (search rules)
    (subst (λ (size : Size). ReadsPage (data_of size s.words) (Err fault)) is.same_size c.in-Err-find_page.ensures.page)
