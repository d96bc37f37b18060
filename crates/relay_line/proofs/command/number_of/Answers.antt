use Rattle.clap.specs.Words.{found_of, rows_of}
use Rattle.relay_line.proofs.Kept.{number_fits, number_read}
use Rattle.relay_line.specs.declared.options.Values.TheVariants.{Number}
use Rattle.relay_line.proofs.command.number_of.Goals as goal

pub returns-in-Ok : goal.returns-in-Ok
returns-in-Ok c = λ least most small kept. number_read (rows_of (found_of c.args.options.now)) c.args.name.now _ least most
    (c.text_of.ensures (Number least most) kept) c.in-Ok.number c.in-Ok.ensures.value.0.1

pub returns-in-Err : goal.returns-in-Err
returns-in-Err c = λ least most small kept. absurd (number_fits (rows_of (found_of c.args.options.now)) c.args.name.now _ least most
    (c.text_of.ensures (Number least most) kept) small c.in-Err.ensures.value.0)
