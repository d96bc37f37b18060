use Rattle.std.proofs.Common.{◌++◌, take, ap, rules, ◌≡◌, ◌+◌, ◌-◌, ◌<◌, ◌∷◌, [], ℕ, suc, List, sym, ◌∙◌, arith, append_assoc}
use Rattle.dm_print_ledger.specs.Ledger.{JobView}
use Rattle.dm_event_world.specs.inner.Calls.{left_labels}
use Rattle.dm_event_world.proofs.printer_act.let_out.Goals as goal
use Rattle.dm_finder_frame.specs.Frame.{GridView}
use Rattle.dm_event_world.specs.{declared.actor.LeftLabel.LeftLabel, inner.Calls.left_labels}

-- Labels that leave one after another.
-- one label more has left, and one fewer is to leave
one_more : {A : Type 0} (id count before most : ℕ) (grid : GridView) (rest given : List GridView)
    (xs now ys : List (LeftLabel A)) →
    before < most → given ≡ grid ∷ rest →
    now ≡ xs ++ record { id = id; number = before + 1; count = count; grid = grid } ∷ [] →
    xs ++ left_labels id count (before + 1) (take (most - before) given) ≡ ys →
    now ++ left_labels id count (before + 1 + 1) (take (most - (before + 1)) rest) ≡ ys
one_more {A} id count before most grid rest given xs now ys there given_is now_is out =
    let head : LeftLabel A = record { id = id; number = before + 1; count = count; grid = grid } in
    let left : ℕ = most - (before + 1) in
    let more : most - before ≡ suc left = omega arith in
    let all : take (most - before) given ≡ grid ∷ take left rest =
    ap (λ (n : ℕ). take n given) more ∙ ap (take (suc left)) given_is in
    ap (λ (l : List (LeftLabel A)). l ++ left_labels id count (before + 1 + 1) (take left rest)) now_is
    ∙ append_assoc xs (head ∷ []) (left_labels id count (before + 1 + 1) (take left rest))
    ∙ sym (ap (λ (grids : List GridView). xs ++ left_labels id count (before + 1) grids) all) ∙ out

pub loop-before-preserved : goal.loop-before-preserved
loop-before-preserved g c =
    let given = ap (λ (job : JobView). job.labels) c.in-Some.ensures in
    record {
      room = search rules;
      out = one_more c.id-id.result c.count-count.result c.loop-before.before c.args.most c.in-Some.grid
          c.next_label.new.self.labels
          c.loop-before.job.labels c.loop-before.labels.items c.push_reserved.new.self.items
          (c.args.labels.now.items ++ left_labels c.id-id.result c.count-count.result 1
          (take c.args.most c.args.job.labels))
          c.loop-before-test.true given c.push_reserved.ensures.items c.loop-before.invariant.out;
    }
