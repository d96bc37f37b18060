use Rattle.std.proofs.Common.{inr, refl}
use Rattle.relay_shared.proofs.{Writing.puts, Telling.told}
use Rattle.relay_symbol_commands.specs.{Symbols.EndsWords as ends, declared.refusal.SymbolRefusal.TheVariants.Memory}
use Rattle.relay_symbol_commands.proofs.document_symbol.words_command.Goals as goal

pub returns-in-Err-clause-ends : goal.returns-in-Err-clause-ends
returns-in-Err-clause-ends g c =
    rw (← c.streams.view_is) (ends.refused c.in-Err.refusal c.read_symbol.new.input c.in-Err.ensures.symbol
    (rw c.name.ensures at c.refuse.ensures, refl))

pub returns-in-Ok-line_of_words-clause-part : goal.returns-in-Ok-line_of_words-clause-part
returns-in-Ok-line_of_words-clause-part g c = rw (← c.streams.view_is) c.read_symbol.ensures.part

pub returns-in-Ok-line_of_words-clause-ends : goal.returns-in-Ok-line_of_words-clause-ends
returns-in-Ok-line_of_words-clause-ends g c =
    let put = c.put in
    let line = puts c.as_bytes.result.now c.streams.inside.output put.new.self put.result put.ensures.written
    put.ensures.part put.ensures.failed in
    rw (← c.streams.view_is) (ends.told c.in-Ok.symbol.size c.in-Ok.symbol.words.items c.read_symbol.new.input
    c.in-Ok.ensures.symbol (
      told _ (rw (c.as_bytes.ensures.value, c.in-Ok-line_of_words.ensures, c.deref.ensures.value) at line)
          c.status_after.ensures,
      refl,
    ))

pub returns-clause-ends : goal.returns-clause-ends
returns-clause-ends g c =
    let symbol = c.in-Ok.ensures.symbol in
    rw (← c.streams.view_is) (ends.refused Memory c.read_symbol.new.input
    ((c.in-Ok.symbol.size, symbol.2.is_side), inr (c.in-Ok.symbol.size, symbol.0, symbol.2.is_side, symbol.1, symbol.2.fits))
    (rw c.name-in-Err-line_of_words.ensures at c.refuse-in-Err-line_of_words.ensures, refl))
