use Rattle.std.proofs.Common.{◌≡◌, take, rules, string_bytes}
use Rattle.std.proofs.lemmas.Result.{err_from_is_err_and}
use Rattle.dm_size.specs.Sizes.{side}
use Rattle.relay_symbol_commands.specs.Symbols.{symbol_line, HasLine.symbol, RefusesGrid.memory, RefusesGrid.text}
use Rattle.relay_symbol_commands.proofs.read.line_of_no_label.Goals as goal

pub returns-in-Err : goal.returns-in-Err
returns-in-Err g c = λ grid is none.
    text c.args.symbol.now.words c.in-Err.fault none
    (rw (c.data.ensures.data, is.same_size) at c.in-Err.ensures.stuck.1)

pub returns-in_err-write : goal.returns-in_err-write
returns-in_err-write g c =
    let p = err_from_is_err_and c.from_residual.result c.from_residual.ensures.1 in
    rw (p.1, p.2) (λ grid is none. memory _ (symbol c.args.symbol.now.words _ none
    (rw (c.data.ensures.data, is.same_size) at c.in-Ok.ensures.read.1)))

pub returns-in_err-push_line_end : goal.returns-in_err-push_line_end
returns-in_err-push_line_end g c =
    let last = c.from_residual-in_err-push_line_end in
    let p = err_from_is_err_and last.result last.ensures.1 in
    rw (p.1, p.2) (λ grid is none. memory _ (symbol c.args.symbol.now.words _ none
    (rw (c.data.ensures.data, is.same_size) at c.in-Ok.ensures.read.1)))

pub returns : goal.returns
returns g c = λ grid is none.
    let symbol_is = c.args.symbol.now in
    let read = rw (c.data.ensures.data, is.same_size) at c.in-Ok.ensures.read.1 in
    let line : string_bytes c.push_line_end.new.line ≡
    symbol_line (side symbol_is.size) symbol_is.corrected symbol_is.wrong
    (take c.in-Ok.count c.decode_to_slice.new.room) = search rules in
    rw (line, is.same_size, is.corrected, is.wrong) (symbol symbol_is.words _ none read)
