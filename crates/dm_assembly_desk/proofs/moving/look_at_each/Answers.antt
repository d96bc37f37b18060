use Rattle.std.proofs.Common.{◌≡◌, ◌∙◌, ◌+◌, ◌-◌, ◌∷◌, ◌++◌, false, [], List, ℕ, Some, Result, Ok, Err, ap, sym, subst, refl, rules, arith, append_assoc}
use Rattle.std.proofs.lemmas.Result.{err_from_is_err_and}
use Rattle.std.specs.Prelude.{is_some}
use Rattle.std.specs.FinMap.{get}
use Rattle.dm_store.specs.Saved.{SavedSet}
use Rattle.dm_assembly_desk.specs.{Documents.Pages, Desk.AreSound, declared.fault.MoveFault.MoveFault}
use Rattle.dm_assembly_desk.specs.inner.Reading.{entry_at, entries_at, LooksAtEach, LooksAtKey, all_sound}
use Rattle.dm_assembly_desk.proofs.MovingSteps.{Splits, read_as, splits, none_left, none_more, not_stuck, some_of, these, sound_then, none_at, stops_after}
use Rattle.dm_assembly_desk.proofs.moving.look_at_each.Goals as goal
use Rattle.dm_assembly_desk.proofs.moving.look_at_each.Goals.{then-is_listed+in_ok-look_at, else-is_listed}

pub loop-init : goal.loop-init
loop-init g c =
    let all = some_of (entries_at c.args.count 0 c.args.entries.now) c.requires.entries in
    let n : c.args.count ≡ c.args.count - 0 = omega arith in (
      all.0,
      all.1,
      0,
      all.0,
      subst (λ (k : ℕ). entries_at k 0 c.args.entries.now ≡ Some all.0) n all.1,
      [],
      refl,
      refl,
      λ honest. tt,
    )

pub unreachable-requires : goal.unreachable-requires
unreachable-requires g c = grind (arith, not_stuck)

pub returns-in_err-look_at-clause-looks : goal.returns-in_err-look_at-clause-looks
returns-in_err-look_at-clause-looks g c = λ es is.
    let i = c.loop.invariant in
    let set : SavedSet = g.S.StoreSet.state c.args.set.now in
    let x = read_as c.in-Some.entry.id c.in-Some.entry.pages.items c.in-Some.after.now in
    let read : entry_at c.loop.rest.now ≡ Some x = search rules in
    let s : Splits c.args.count c.loop.counter i.2 x i.3 =
    splits c.args.count c.loop.counter i.2 c.loop.rest.now x i.3 c.loop-test.true read i.4 in
    let answered = err_from_is_err_and c.from_residual.result c.from_residual.ensures.1 in
    let why : LooksAtKey set x.0.0 (Err answered.0) =
    subst (λ (f : MoveFault). LooksAtKey set x.0.0 (Err f)) (sym answered.2)
    (subst (λ (s : SavedSet). LooksAtKey s x.0.0 (Err c.in_err-look_at.field-0.0)) i.7 c.in_err-look_at.ensures.looks) in
    subst (λ (r : Result (Unit {0}) MoveFault). LooksAtEach set es r) (sym answered.1) (stops_after set es i.5 s.others x.0 answered.0
    (sym (these c.args.count c.args.entries.now i.0 es i.1 is) ∙ i.6 ∙ ap (λ (xs : List (ℕ × Pages)). i.5 ++ xs) s.is)
    i.8 why)

pub loop-preserved : goal.loop-preserved
loop-preserved g c =
    let i = c.loop.invariant in
    let set : SavedSet = g.S.StoreSet.state c.args.set.now in
    let x = read_as c.in-Some.entry.id c.in-Some.entry.pages.items c.in-Some.after.now in
    let read : entry_at c.loop.rest.now ≡ Some x = search rules in
    let s : Splits c.args.count c.loop.counter i.2 x i.3 =
    splits c.args.count c.loop.counter i.2 c.loop.rest.now x i.3 c.loop-test.true read i.4 in
    let so_far : i.0 ≡ (i.5 ++ x.0 ∷ []) ++ s.others = i.6 ∙ ap (λ (xs : List (ℕ × Pages)). i.5 ++ xs) s.is
    ∙ sym (append_assoc i.5 (x.0 ∷ []) s.others) in
    elim c.if-is_listed.branch [
      | then-is_listed+in_ok-look_at w ↦
          let looks : LooksAtKey set x.0.0 (Ok tt) =
          subst (λ (s : SavedSet). LooksAtKey s x.0.0 (Ok tt)) i.7 w.in_ok-look_at.ensures.looks in
          rw w.set-is (
            i.0,
            i.1,
            x.0.0 + 1,
            s.others,
            s.read,
            i.5 ++ x.0 ∷ [],
            so_far,
            w.look_at.ensures.same ∙ i.7,
            λ honest. sound_then set.content i.5 x.0 (i.8 honest) (looks honest),
          )
      | else-is_listed w ↦
          rw w.set-is (
            i.0,
            i.1,
            x.0.0 + 1,
            s.others,
            s.read,
            i.5 ++ x.0 ∷ [],
            so_far,
            i.7,
            λ honest.
                let absent : is_some (get set.content x.0.0) ≡ false =
                sym (c.is_listed.ensures set.content (c.requires.listed honest)) ∙ w.if-is_listed.false in
                sound_then set.content i.5 x.0 (i.8 honest) (none_at set.content x.0.0 absent),
          )
    ]

pub returns-clause-looks : goal.returns-clause-looks
returns-clause-looks g c = λ es is.
    let i = c.loop.invariant in
    let set : SavedSet = g.S.StoreSet.state c.args.set.now in
    let done : es ≡ i.5 = sym (these c.args.count c.args.entries.now i.0 es i.1 is) ∙ i.6
    ∙ ap (λ (xs : List (ℕ × Pages)). i.5 ++ xs) (none_left c.args.count c.loop.counter i.2 c.loop.rest.now i.3 (omega (arith, c.loop-test.false)) i.4)
    ∙ none_more i.5 in
    all_sound (λ honest. subst (AreSound set.content) (sym done) (i.8 honest))
