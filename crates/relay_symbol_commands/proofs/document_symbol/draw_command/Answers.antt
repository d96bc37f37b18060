use Rattle.std.proofs.Common.{inr, refl, subst}
use Rattle.dm_pbm_io.specs.Image.{Picture, picture, written}
use Rattle.relay_shared.specs.Command.{PutsText}
use Rattle.relay_shared.proofs.{Writing.puts, Telling.told_bytes}
use Rattle.relay_symbol_commands.specs.Symbols.EndsDraw.{drawn, refused}
use Rattle.relay_symbol_commands.specs.declared.refusal.SymbolRefusal.TheVariants.{Memory}
use Rattle.relay_symbol_commands.proofs.document_symbol.draw_command.Goals as goal

pub returns-in-Err-clause-ends : goal.returns-in-Err-clause-ends
returns-in-Err-clause-ends g c =
    rw (← c.streams.view_is) (refused c.in-Err.refusal c.read_symbol.new.input c.in-Err.ensures.symbol
    (rw c.name.ensures at c.refuse.ensures, refl))

pub returns-in_default-clause-ends : goal.returns-in_default-clause-ends
returns-in_default-clause-ends g c =
    let symbol = c.in-Ok.ensures.symbol in
    rw (← c.streams.view_is) (refused Memory c.read_symbol.new.input
    ((c.in-Ok.symbol.size, symbol.2.is_side), inr (c.in-Ok.symbol.size, symbol.0, symbol.2.is_side, symbol.1, symbol.2.fits))
    (rw c.name-in_default.ensures at c.refuse-in_default.ensures, refl))

pub returns-clause-part : goal.returns-clause-part
returns-clause-part g c = rw (← c.streams.view_is) c.read_symbol.ensures.part

pub returns-clause-ends : goal.returns-clause-ends
returns-clause-ends g c =
    let put = c.write-put in
    let image = puts (written (picture c.in-Ok-image_of_symbol.image)) c.streams.inside.output put.new.output put.result
    put.ensures.written put.ensures.part put.ensures.failed in
    rw (← c.streams.view_is) (drawn c.in-Ok.symbol.size c.in-Ok.symbol.words.items c.read_symbol.new.input
    c.in-Ok.ensures.symbol (told_bytes put.result
    (subst (λ (p : Picture). PutsText (written p) c.streams.inside.output put.result put.new.output)
    c.in-Ok-image_of_symbol.ensures.image image) c.status_after_bytes.ensures))
