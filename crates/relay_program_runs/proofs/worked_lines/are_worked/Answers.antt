use Rattle.std.proofs.Common.{◌≡◌, ◌∷◌, ◌∙◌, [], Bor, List, ap, arith, ℕ}
use Rattle.dm_encodation.specs.declared.scheme.Scheme.TheVariants.{Ascii}
use Rattle.relay_command.specs.declared.command.Command.TheVariants.{Give, Ledger, Print, Take}
use Rattle.relay_command.specs.declared.command.Labels.TheVariants.{OfSide}
use Rattle.relay_program_runs.proofs.worked_lines.are_worked.Goals as goal

pub returns-then-are_same : goal.returns-then-are_same
returns-then-are_same c = λ well.
    let m1 = c.in-Ledger in
    let m2 = c.in-Ledger-two in
    let m3 = c.in-Give in
    let m4 = c.in-Take in
    let m5 = c.in-Take-five in
    let m6 = c.in-Ledger-six in
    let m7 = c.in-Print in
    let m8 = c.in-Scan in
    let m9 = c.in-Deliver in
    let side = c.in-OfSide in
    let same = c.are_same.ensures c.if-are_same.true in
    let none : Bor (List ℕ) × Bor (List ℕ) = (m1.f1, m1.f1) in
    let n = c.are_equal.ensures well in
    let zero : ℕ × ℕ = (0, 0) in
    let e1 : c.args.one ≡ Ledger m1.f1 0 0 99 = m1.is
    ∙ (λ i. Ledger m1.f1 (n 0 zero (omega arith) i) (n 1 zero (omega arith) i) (n 2 zero (omega arith) i)) in
    let e2 : c.args.two ≡ Ledger m2.f2 2 100 199 = m2.is
    ∙ (λ i. Ledger m2.f2 (n 3 zero (omega arith) i) (n 4 zero (omega arith) i) (n 5 zero (omega arith) i)) in
    let e3 : c.args.three ≡ Give m3.f3 0 2 0 9 = m3.is ∙ (λ i. Give m3.f3 (n 6 zero (omega arith) i)
    (n 7 zero (omega arith) i) (n 8 zero (omega arith) i) (n 9 zero (omega arith) i)) in
    let e4 : c.args.four ≡ Take m4.f4 2 m4.t4 = m4.is ∙ (λ i. Take m4.f4 (n 10 zero (omega arith) i) m4.t4) in
    let e5 : c.args.five ≡ Take m5.f5 2 m5.t5 = m5.is ∙ (λ i. Take m5.f5 (n 11 zero (omega arith) i) m5.t5) in
    let e6 : c.args.six ≡ Ledger m6.f6 3 200 299 = m6.is
    ∙ (λ i. Ledger m6.f6 (n 12 zero (omega arith) i) (n 13 zero (omega arith) i) (n 14 zero (omega arith) i)) in
    let e7 : c.args.seven ≡ Print m7.f7 0 (OfSide 12) Ascii = m7.is ∙ (λ i. Print m7.f7 (n 15 zero (omega arith) i)
    ((side.is ∙ ap OfSide (n 16 zero (omega arith))) i) (c.in-Ascii.is i)) in
    record {
      file = (m1.f1, m2.f2, m3.f3, m4.f4, m5.f5, m6.f6, m7.f7, m8.f8, m9.f9);
      ticket = (m4.t4, m5.t5);
      id = m9.id;
      capacity = _;
      are = λ i. e1 i ∷ e2 i ∷ e3 i ∷ e4 i ∷ e5 i ∷ e6 i ∷ e7 i ∷ m8.is i ∷ m9.is i ∷ [];
      ledgers = (
        same 0 none (omega arith),
        same 1 none (omega arith),
        same 2 none (omega arith),
        same 3 none (omega arith),
        same 4 none (omega arith),
        same 5 none (omega arith),
        same 6 none (omega arith),
      );
      desk = (same 7 none (omega arith), same 8 none (omega arith));
      tickets = (same 9 none (omega arith), same 10 none (omega arith));
      id_is = same 11 none (omega arith);
    }
