use Rattle.std.proofs.Common.{◌≡◌, ℕ, ◌+◌, ◌-◌, ◌<◌, ◌≤◌, List, [], ◌∷◌, ◌++◌, length, drop, sym, ap, subst, ◌∙◌, arith, rules, length-append, length-drop}
use Rattle.dm_append_label.specs.Labels.{AreFullEnds, until_two}
use Rattle.dm_encodation.specs.Written.{IsGreatestPrefix}
use Rattle.dm_append_label.proofs.CutsSoFar.{CutSoFar, one_more, stuck, crowded, whole, of_rest}
use Rattle.dm_append_label.proofs.cutting.greedy_ends.Goals as goal

pub loop-from-preserved : goal.loop-from-preserved
loop-from-preserved c =
    let doc = c.args.document.now in
    let room = c.data_words-words.result - 4 in
    let fitted = of_rest c.args.scheme room doc c.loop-from.from c.fit-taken.result c.fit-taken.ensures in
    let in_rest : c.fit-taken.result ≤ length doc - c.loop-from.from = let w = fitted.within in
    omega (arith, w, length-drop c.loop-from.from doc) in
    let more : c.push.new.self.items ≡ c.loop-from.ends.items ++ (c.loop-from.from + c.fit-taken.result) ∷ [] =
    c.push.ensures.items in
    let so_far = one_more c.args.scheme room doc c.loop-from.from c.fit-taken.result c.loop-from.ends.items
    c.loop-from-test.true (omega arith) fitted c.loop-from.invariant.0 in
    let not_full : length c.loop-from.ends.items < 16 = search rules in (
      subst (λ (x : List ℕ). CutSoFar c.args.scheme room doc (c.loop-from.from + c.fit-taken.result) x)
          (sym more) so_far,
      omega (arith, in_rest),
      omega (
        arith,
        ap (λ (x : List ℕ). length x) more,
        length-append c.loop-from.ends.items
            ((c.loop-from.from + c.fit-taken.result) ∷ []),
        not_full,
      ),
    )

pub returns-then-taken-eq0-clause-none : goal.returns-then-taken-eq0-clause-none
returns-then-taken-eq0-clause-none c = λ ends h.
    let g : IsGreatestPrefix c.args.scheme (c.data_words-words.result - 4) (drop c.loop-from.from c.args.document.now)
    0 = subst (λ (k : ℕ). IsGreatestPrefix c.args.scheme
    (c.data_words-words.result - 4) (drop c.loop-from.from c.args.document.now) k) c.if-taken-eq0.true
    (of_rest c.args.scheme (c.data_words-words.result - 4) c.args.document.now c.loop-from.from c.fit-taken.result
    c.fit-taken.ensures) in
    stuck c.args.scheme (c.data_words-words.result - 4) c.args.document.now c.loop-from.from c.loop-from.ends.items
    h.full c.loop-from-test.true g c.loop-from.invariant.0
    (subst (λ (w : ℕ). AreFullEnds c.args.scheme (w - 4) c.args.document.now 0 h.full)
    (sym c.data_words-words.ensures.value) h.full_ends)

pub returns-then-is_full-clause-none : goal.returns-then-is_full-clause-none
returns-then-is_full-clause-none c = λ ends h.
    let sixteen : length c.loop-from.ends.items ≡ 16 = search rules in
    let many = crowded c.args.scheme (c.data_words-words.result - 4) c.args.document.now c.loop-from.from
    c.loop-from.ends.items h.full c.loop-from-test.true sixteen c.loop-from.invariant.0
    (subst (λ (w : ℕ). AreFullEnds c.args.scheme (w - 4) c.args.document.now 0 h.full)
    (sym c.data_words-words.ensures.value) h.full_ends) in
    omega (arith, many, h.few)

pub returns-clause-ends : goal.returns-clause-ends
returns-clause-ends c =
    let all : c.loop-from.from ≡ length c.args.document.now = omega arith in
    record {
      head = omega arith;
      full = c.loop-from.ends.items;
      full_ends = subst (λ (w : ℕ). AreFullEnds c.args.scheme (w - 4) c.args.document.now 0 c.loop-from.ends.items)
          c.data_words-words.ensures.value (whole c.args.scheme
          (c.data_words-words.result - 4) c.args.document.now c.loop-from.from c.loop-from.ends.items all
          c.loop-from.invariant.0);
      few = c.loop-from.invariant.2;
      padded = c.pad.ensures ∙ ap (λ (n : ℕ). until_two n c.loop-from.ends.items) all;
    }
