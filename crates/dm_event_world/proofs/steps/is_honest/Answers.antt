use Rattle.std.proofs.Common.{◌≡◌, ◌↔◌, ◌<◌, true, IfOk, OnErr, length, refl, sym, subst, arith, ℕ, Bool, Some, Result, Ok, Err, IsTrue, List, slice_get}
use Rattle.dm_event_world.specs.Shows.{AreWithin, WorldView, IsFairIn, IsLookedAt}
use Rattle.dm_event_world.proofs.Changing.{read_by}
use Rattle.dm_event_world.proofs.steps.is_honest.Goals as goal
use Rattle.dm_finder_frame.specs.Frame.{flipped}
use Rattle.dm_symbol.specs.Correction.{IsNear}
use Rattle.dm_event_history.specs.declared.{event.Event.Event, event.Event.TheVariants.Scan, stop.Stop.Stop}
use Rattle.dm_event_world.specs.declared.actor.LeftLabel.{LeftLabel}

-- Scans: which of them name what is there, and which are fair.

-- one that flips a module outside is fair
outside : {A : Type 0} (old seen : WorldView A) (event : Event A) (d label : ℕ) (flips : List (ℕ × ℕ)) (stop : Stop)
    (left : LeftLabel A) → old ≡ seen → event ≡ Scan d label flips stop → slice_get old.labels label ≡ Some left →
    (¬ AreWithin left.grid flips) → IsFairIn seen event
outside {A} old seen event d label flips stop left same event_is is out = grind arith

-- what is near is fair, where the scan names what is there
fair_scan : {A E : Type 0} (old seen : WorldView A) (event : Event A) (d label : ℕ) (flips : List (ℕ × ℕ)) (stop : Stop)
    (left : LeftLabel A) (near : Result Bool E) → old ≡ seen → event ≡ Scan d label flips stop → d < length old.desks →
    slice_get old.labels label ≡ Some left → AreWithin left.grid flips →
    IfOk near (λ is_near. IsTrue is_near ↔ IsNear (flipped left.grid flips) left.grid) →
    IfOk near (λ honest. (honest ≡ true) ↔ IsFairIn seen event)
fair_scan old seen event d label flips stop left (Err e) same event_is there is within near = tt
fair_scan {A} old seen event d label flips stop left (Ok honest) same event_is there is within near =
    subst (λ (w : WorldView A). (honest ≡ true) ↔ IsFairIn w event) same
    (subst (λ (e : Event A). (honest ≡ true) ↔ IsFairIn old e) (sym event_is) (
      (λ yes named own at.
          let its : left ≡ own = cc (is, at) in
          subst (λ (l : LeftLabel A). IsNear (flipped l.grid flips) l.grid) its (near.0 yes)),
      (λ fair. near.1 (fair (there, left, is, within) left is)),
    ))

-- memory is refused only where the scan names what is there
looked_at : {A E : Type 0} (old seen : WorldView A) (event : Event A) (d label : ℕ) (flips : List (ℕ × ℕ)) (stop : Stop)
    (left : LeftLabel A) (near : Result Bool E) → old ≡ seen → event ≡ Scan d label flips stop → d < length old.desks →
    slice_get old.labels label ≡ Some left → AreWithin left.grid flips → OnErr near (IsLookedAt seen event)
looked_at {A} old seen event d label flips stop left near same event_is there is within =
    subst (λ (w : WorldView A). OnErr near (IsLookedAt w event)) same (grind arith)

pub returns-then-not-are_within-clause-honest : goal.returns-then-not-are_within-clause-honest
returns-then-not-are_within-clause-honest g c = (
  (λ yes. outside _ _ _ _ _ _ _ _ c.world.view_is c.in-Scan.is
      (read_by _ _ _ _ c.deref.ensures.value c.in-Some.ensures.lookup.1 c.in-Some.ensures.lookup.3.0)
      (λ within. (let yes = c.are_within.ensures.1 (rw (c.as_slice-flips.ensures, c.side.ensures.value) within) in
      let no = c.if-not-are_within.true in cc))),
  (λ is_fair. refl),
)

pub returns-clause-honest : goal.returns-clause-honest
returns-clause-honest g c = fair_scan _ _ _ _ _ _ _ _ _ c.world.view_is c.in-Scan.is
    (omega (arith, c.len.ensures, c.world.inside.desks.ok.0))
    (read_by _ _ _ _ c.deref.ensures.value c.in-Some.ensures.lookup.1 c.in-Some.ensures.lookup.3.0)
    (rw (c.as_slice-flips.ensures, c.side.ensures.value) at (c.are_within.ensures.0 c.if-not-are_within.false))
    (rw c.as_slice-flips.ensures at c.still_near.ensures)

pub returns-clause-refused : goal.returns-clause-refused
returns-clause-refused g c = looked_at _ _ _ _ _ _ _ _ _ c.world.view_is c.in-Scan.is
    (omega (arith, c.len.ensures, c.world.inside.desks.ok.0))
    (read_by _ _ _ _ c.deref.ensures.value c.in-Some.ensures.lookup.1 c.in-Some.ensures.lookup.3.0)
    (rw (c.as_slice-flips.ensures, c.side.ensures.value) at (c.are_within.ensures.0 c.if-not-are_within.false))
