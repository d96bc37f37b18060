use Rattle.std.proofs.Common.{◌≡◌, ℕ, ◌<◌, List, length, get_or, arith, subst, sym}
use Rattle.std.specs.List.{AllPairs}
use Rattle.std.proofs.lemmas.{List.get_or_default}
use Rattle.dm_size.specs.{declared.size.Size.Size, Sizes.side}
use Rattle.relay_printer_commands.specs.Printers.{Suits}
use Rattle.relay_printer_commands.proofs.print.chosen.Goals as goal

-- a smaller size stands before a greater one
before : (sizes : List Size) → AllPairs (λ a b. side a < side b) sizes → (i k : ℕ) (smaller d : Size) → i < length sizes
    → k < length sizes → get_or sizes k smaller ≡ smaller → side smaller < side (get_or sizes i d) → k < i
before sizes rising i k smaller d here inside is less =
    let up = rising i k smaller in
    let same = get_or_default sizes i smaller d here in grind arith

pub returns-then-suits : goal.returns-then-suits
returns-then-suits c =
    let suits_at = Suits c.args.labels c.args.scheme c.args.document.now in
    record {
      suits = c.suits.ensures.0 c.if-suits.true;
      smallest = λ smaller less suits.
          let there = c.all-size-items.ensures.each smaller in
          c.loop-size.invariant there.0 smaller
          (before c.all-size-items.result c.all-size-items.ensures.rising c.loop-size.size-index there.0 smaller _
          (omega arith) there.1 there.2 less) (subst suits_at (sym there.2) suits);
    }

pub returns : goal.returns
returns c = λ size suits.
    let there = c.all-size-items.ensures.each size in
    c.loop-size.invariant there.0 size (omega (arith, there.1))
    (subst (Suits c.args.labels c.args.scheme c.args.document.now) (sym there.2) suits)
