-- A take moves numbers from a ticket to its printer, once.
use Rattle.std.proofs.Common.{◌≡◌, ◌⊎◌, ◌+◌, ◌≤◌, inl, inr, ℕ, Bool, true, false, ◌||◌, Some, List, [], ◌∷◌, ◌++◌, slice_get, ap, subst, ◌∙◌, arith}
use Rattle.std.specs.Prelude.{IsSomeAnd}
use Rattle.std.proofs.lemmas.List.{append-nil}
use Rattle.dm_print_ledger.specs.Ledger.{is_free, is_in, last_taken, LedgerView, TicketView}
use Rattle.dm_event_history.specs.declared.stop.Stop.{Stop}
use Rattle.dm_event_history.proofs.{Gotten.get_more, Gotten.set_at, Reaching.reached, Reaching.reaches}
use Rattle.dm_event_history.specs.Relay.{Actor, Running, Failed, Down, stored_of, Goods, Move, Relay, Took, with_printer}
use Rattle.dm_event_history.specs.Steps.{Answers, Calls, Course, Ending, Faults, LacksMemory, Reaches, Saves, ends, TakeComes, take_faults}
use Rattle.dm_event_history.specs.Headline.{RelayIsInOrder, IsNoted, is_taken, one_if, places}
use Rattle.dm_event_history.proofs.Numbers.{free_set, gone_more, on_taken, taken_by}
use Rattle.dm_event_history.proofs.{LedgerFacts.GainsNumbers, LedgerFacts.take_gains, Balance.IsBalanced, Balance.still}

-- the ticket of this number is taken
pub record IsTaking (held next : LedgerView) (number : ℕ) (ticket : TicketView) (goods : Goods) : Type 0 where
  pub takes : GainsNumbers held ticket next
  pub moves_are : goods.moves ≡ Took number ∷ []
  pub tickets_are : goods.tickets ≡ []

abbrev pub MayTake : LedgerView → LedgerView → ℕ → TicketView → Goods → Type 0
MayTake held next number ticket goods = IsBalanced held next goods ⊎ IsTaking held next number ticket goods

abbrev IsTakeCourse : {A : Type 0} → LedgerView → ℕ → TicketView → Course A LedgerView → Type 0
IsTakeCourse held number ticket (Saves next goods reply) = IsTaking held next number ticket goods
IsTakeCourse held number ticket (Answers reply) = Unit {0}
IsTakeCourse held number ticket LacksMemory = Unit {0}

ends_taking : {A : Type 0} (faults : Faults A) (stop : Stop) (course : Course A LedgerView) (old : Actor LedgerView)
    (number : ℕ) (ticket : TicketView) → Reaches stop (IsTakeCourse (stored_of old) number ticket course) →
    MayTake (stored_of old) (stored_of (ends faults stop course old).actor) number ticket
    (ends faults stop course old).goods
ends_taking faults stop course old number ticket t = grind arith

as_known : {A : Type 0} (held : LedgerView) (number : ℕ) (ticket : TicketView) (end known : Ending A LedgerView) →
    end ≡ known → MayTake held (stored_of known.actor) number ticket known.goods →
    MayTake held (stored_of end.actor) number ticket end.goods
as_known {A} held number ticket end known is m = grind arith

take_course : {A : Type 0} (number : ℕ) (ticket : TicketView) (held : LedgerView) (course : Course A LedgerView) →
    TakeComes number ticket held course → IsTakeCourse held number ticket course
take_course number ticket held (Saves next goods reply) comes = record {
  takes = take_gains held next ticket comes.0 comes.1 comes.2.0;
  moves_are = ap (λ (g : Goods). g.moves) comes.2.1.0;
  tickets_are = ap (λ (g : Goods). g.tickets) comes.2.1.0;
}
take_course number ticket held (Answers reply) comes = tt
take_course number ticket held LacksMemory comes = tt

pub take_ends : {A : Type 0} (stop : Stop) (number : ℕ) (ticket : TicketView) (actor : Actor LedgerView)
    (end : Ending A LedgerView) → Calls take_faults stop (TakeComes number ticket) actor end →
    MayTake (stored_of actor) (stored_of end.actor) number ticket end.goods
take_ends stop number ticket (Running held) end acts =
    as_known held number ticket end _ acts.2
    (ends_taking take_faults stop acts.0 (Running held) number ticket
    (reaches stop (take_course number ticket held acts.0) acts.1))
take_ends {A} stop number ticket (Failed shown stored) end acts = grind (arith, as_known, ends_taking, reached)
take_ends stop number ticket (Down stored) end acts = as_known stored number ticket end _ acts (inl (still stored))

-- ---- a step of a printer that takes

-- what is put in the free numbers, number by number
put_in : (free inside new : Bool) → new ≡ (inside || free) → (inside ≡ true → free ≡ false) →
    one_if new ≡ one_if free + one_if inside
put_in free inside new is were = grind arith

module _ (old : Relay) (printer number : ℕ) (ticket : TicketView) (actor next : Actor LedgerView) (goods : Goods)
    (order : RelayIsInOrder old) (was : slice_get old.printers printer ≡ Some actor)
    (there : slice_get old.tickets number ≡ Some ticket)
    (t : IsTaking (stored_of actor) (stored_of next) number ticket goods) where
  is_here : ticket.receiver ≡ printer
  is_here = t.takes.is_for ∙ order.numbers printer actor was

  -- the ticket was not taken before
  pub untaken : is_taken old.moves number ≡ false
  untaken = grind arith

  pub taking_places : (n : ℕ) → places (with_printer old printer next goods) n ≡ places old n
  taking_places n =
      let put = put_in (is_free (stored_of actor).free n) (is_in ticket.range n) (is_free (stored_of next).free n)
      (t.takes.free.free n) (t.takes.were_taken n) in
      grind (arith, append-nil, free_set, gone_more, on_taken, put_in, untaken)

  -- what was noted still is
  still_noted : (giver serial : ℕ) → IsSomeAnd (last_taken (stored_of actor).givers giver) (λ last. serial ≤ last) →
      IsSomeAnd (last_taken (stored_of next).givers giver) (λ last. serial ≤ last)
  still_noted giver serial some = grind arith

  own_noted : IsSomeAnd (last_taken (stored_of next).givers ticket.giver) (λ last. ticket.serial ≤ last)
  own_noted = grind arith

  pub taking_order : RelayIsInOrder (with_printer old printer next goods)
  taking_order = record {
    numbers = grind (arith, set_at);
    noted = λ k taken. elim (taken_by old.moves number k
        (subst (λ (ms : List Move). is_taken (old.moves ++ ms) k ≡ true) t.moves_are taken)) [
          | inl same ↦ subst (λ (j : ℕ). IsNoted (with_printer old printer next goods) j) same (record {
            ticket = ticket;
            there = get_more old.tickets goods.tickets number ticket there;
            noted = grind (arith, is_here, own_noted, set_at);
          })
          | inr before ↦
              let noted = order.noted k before in
              record {
                ticket = noted.ticket;
                there = get_more old.tickets goods.tickets k noted.ticket noted.there;
                noted = λ a is. elim (set_at old.printers printer noted.ticket.receiver next a is) [
                  | inl here ↦
                      let at : slice_get old.printers noted.ticket.receiver ≡ Some actor =
                      subst (λ (p : ℕ). slice_get old.printers p ≡ Some actor) here.0 was in
                      subst (λ (x : Actor LedgerView). IsSomeAnd (last_taken (stored_of x).givers noted.ticket.giver)
                      (λ last. noted.ticket.serial ≤ last)) here.1
                      (still_noted noted.ticket.giver noted.ticket.serial (noted.noted actor at))
                  | inr rest ↦ noted.noted a rest.1
                ];
              }
        ];
  }
