use Rattle.std.proofs.Common.{arith, ◌≡◌, subst, rules, Some, true, false, length}
use Rattle.std.proofs.lemmas.Result.{err_from_is_err_and}
use Rattle.dm_print_ledger.specs.declared.fault.PrintFault.TheVariants as printing
use Rattle.dm_print_ledger.specs.Verdicts.{PrinterIsInOrder, print_verdict}
use Rattle.dm_print_ledger.proofs.CarryLaws.{made_by, may_lack, none_free, prints, refuses}
use Rattle.dm_print_ledger.proofs.RangeTests.{both}
use Rattle.dm_print_ledger.proofs.printer.Printer.print.Goals as goal

pub returns-then-self : goal.returns-then-self
returns-then-self g c = grind (arith, both)

pub returns-in_default-least_free : goal.returns-in_default-least_free
returns-in_default-least_free g c =
    let running : c.args.self.now.is_failed ≡ false = search rules in
    let none : length c.args.self.now.ledger.free ≡ 0 = search rules in
    record {
      cutting = Some c.in-Ok.ends.items;
      is_cutting = λ is. c.in-Ok.ensures.ends;
      carries = refuses printing.Failed printing.Memory printing.Save (Unit {0})
          (print_verdict c.args.self.now.ledger true)
          c.args.self.now _ running
          (subst PrinterIsInOrder c.self.view_is c.self.invariant) (none_free c.args.self.now.ledger none);
      made = tt;
      lost = λ is. absurd cc;
    }

pub returns-in_default-make_job : goal.returns-in_default-make_job
returns-in_default-make_job g c = grind (arith, prints)

pub returns-in_err-save : goal.returns-in_err-save
returns-in_err-save g c = grind (arith, err_from_is_err_and, prints, made_by, may_lack)

pub returns : goal.returns
returns g c = grind (arith, prints, made_by, may_lack)
