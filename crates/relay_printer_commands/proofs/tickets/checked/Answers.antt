use Rattle.std.proofs.Common.{◌≡◌, ◌∙◌, ◌++◌, ap, length, length-append, sym, arith, rules}
use Rattle.std.proofs.lemmas.List.{take_at}
use Rattle.relay_printer_commands.proofs.CheckWords.{only_checked}
use Rattle.relay_printer_commands.proofs.tickets.checked.Goals as goal

pub returns-clause-checked : goal.returns-clause-checked
returns-clause-checked c =
    let ten : length c.args.bytes ≡ 10 = search rules in
    let two : length c.split_at_mut-message.result.1.now ≡ 2 = search rules in
    let first = c.copy_from_slice.ensures.after in
    rw first (record {
      count = omega (arith, length-append c.args.bytes c.checks_of.new.checks, c.checks_of.auto.checks, ten, two);
      words = rw first at c.bytes_are_words.ensures;
      begins = take_at c.args.bytes c.checks_of.new.checks 10 ten;
      block_word = rw two at c.checks_of.ensures.completed;
    })

pub returns-clause-only : goal.returns-clause-only
returns-clause-only c = λ other is.
    let two : length c.split_at_mut-message.result.1.now ≡ 2 = search rules in
    only_checked c.args.bytes c.checks_of.new.checks (rw two at c.checks_of.ensures.only) other is
    ∙ ap (λ t. t ++ c.checks_of.new.checks) (sym c.copy_from_slice.ensures.after)
