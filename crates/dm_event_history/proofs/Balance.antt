-- A step moves numbers, and makes or ends none.
use Rattle.std.proofs.Common.{◌≡◌, ◌+◌, ◌≤◌, ℕ, false, Some, List, [], ◌∷◌, length, slice_get, refl, sym, subst, ◌∙◌, arith}
use Rattle.std.proofs.lemmas.Option.{slice_get_within}
use Rattle.dm_size.specs.declared.size.Size.{Size}
use Rattle.dm_encodation.specs.declared.scheme.Scheme.{Scheme}
use Rattle.dm_store.specs.declared.fuse.Kept.TheVariants.{Old, New}
use Rattle.dm_print_ledger.specs.{declared.range.Range.Range, Ledger.is_free, Ledger.LedgerView, Ledger.TicketView}
use Rattle.dm_print_ledger.specs.Verdicts.{least, single, ticket_of}
use Rattle.dm_event_history.specs.declared.{stop.Stop.Stop, reply.Reply.Reply}
use Rattle.dm_event_history.specs.declared.stop.Stop.TheVariants as stops
use Rattle.dm_event_history.specs.declared.stop.Stop.TheVariants.{InSave, SaveFault, AfterLabels}
use Rattle.dm_event_history.proofs.{Deciding.decided, Gotten.get_more, Gotten.set_at}
use Rattle.dm_event_history.proofs.LedgerFacts.{LosesNumbers, give_loses, made_print}
use Rattle.dm_event_history.specs.Relay.{Actor, Running, Failed, Down, stored_of, Goods, Label, Relay, Used, no_goods, with_printer}
use Rattle.dm_event_history.specs.Steps.{Answers, Calls, Course, Ending, Faults, LacksMemory, MayLackFirst, Reaches, Restarts, Saves, cut_off, ends, GiveComes, PrintComes}
use Rattle.dm_event_history.specs.Headline.{RelayIsInOrder, gone, is_taken, one_if, places}
use Rattle.dm_event_history.proofs.Numbers.{all_in, free_set, gone_lost, gone_more, lost_takes_none, on_more, on_new, on_same, taken_same}
use Rattle.dm_event_history.proofs.Reaching.{reached, reaches}

-- ---- a ledger and what leaves it

-- what is free, and what leaves with these goods, was free; no ticket is taken
pub record IsBalanced (held next : LedgerView) (goods : Goods) : Type 0 where
  pub kept : (number : ℕ) → one_if (is_free next.free number) + (gone goods.moves number + all_in goods.tickets number)
      ≡ one_if (is_free held.free number)
  pub none_taken : (k : ℕ) → is_taken goods.moves k ≡ false
  pub number : next.number ≡ held.number
  pub givers : next.givers ≡ held.givers

pub still : (held : LedgerView) → IsBalanced held held no_goods
still held = record { kept = λ n. omega arith; none_taken = λ k. refl; number = refl; givers = refl }

-- the same, where the call is cut off
cut_balanced : (held next : LedgerView) (goods : Goods) (most : ℕ) → IsBalanced held next goods →
    IsBalanced held next (cut_off most goods)
cut_balanced held next goods most b = grind (arith, gone_lost, gone_more, lost_takes_none, taken_same)

abbrev IsBalancedCourse : {A : Type 0} → LedgerView → Course A LedgerView → Type 0
IsBalancedCourse held (Saves next goods reply) = IsBalanced held next goods
IsBalancedCourse held (Answers reply) = Unit {0}
IsBalancedCourse held LacksMemory = Unit {0}

ends_balanced : {A : Type 0} (faults : Faults A) (stop : Stop) (course : Course A LedgerView) (old : Actor LedgerView) →
    Reaches stop (IsBalancedCourse (stored_of old) course) →
    IsBalanced (stored_of old) (stored_of (ends faults stop course old).actor) (ends faults stop course old).goods
ends_balanced faults stops.None (Saves next goods reply) old b = b
ends_balanced faults (SaveFault New) (Saves next goods reply) old b = cut_balanced (stored_of old) next goods 0 b
ends_balanced faults (InSave New) (Saves next goods reply) old b = cut_balanced (stored_of old) next goods 0 b
ends_balanced faults (AfterLabels most) (Saves next goods reply) old b = cut_balanced (stored_of old) next goods most b
ends_balanced faults (SaveFault Old) (Saves next goods reply) old b = still (stored_of old)
ends_balanced faults stop course old b = still (stored_of old)

abbrev pub Balances : {A : Type 0} → (Actor LedgerView → Ending A LedgerView → Type 0) → Type 0
Balances {A} Acts = (actor : Actor LedgerView) (end : Ending A LedgerView) → Acts actor end →
    IsBalanced (stored_of actor) (stored_of end.actor) end.goods

as_known : {A : Type 0} (held : LedgerView) (end known : Ending A LedgerView) → end ≡ known →
    IsBalanced held (stored_of known.actor) known.goods → IsBalanced held (stored_of end.actor) end.goods
as_known {A} held end known is b = grind arith

pub calls_balance : {A : Type 0} (faults : Faults A) (stop : Stop) (Comes : LedgerView → Course A LedgerView → Type 0) →
    ((held : LedgerView) (course : Course A LedgerView) → Comes held course → IsBalancedCourse held course) →
    Balances (Calls faults stop Comes)
calls_balance faults stop Comes each (Running held) end acts = grind (arith, as_known, ends_balanced, reaches)
calls_balance faults stop Comes each (Failed shown stored) end acts = grind (arith, as_known, ends_balanced, reached)
calls_balance faults stop Comes each (Down stored) end acts = as_known stored end _ acts (still stored)

pub may_lack_balances : {A : Type 0} (Acts : Actor LedgerView → Ending A LedgerView → Type 0) → Balances Acts →
    Balances (MayLackFirst Acts)
may_lack_balances Acts each held end acts = grind arith

pub restarts_balance : {A : Type 0} (refused : Reply A) → Balances (Restarts {A = A} {C = LedgerView} refused)
restarts_balance refused actor end is = grind arith

-- ---- prints and gives

uses_balanced : (held next : LedgerView) (id : ℕ) (labels : List Label) → LosesNumbers held (single id) next →
    IsBalanced held next (record { labels = labels; tickets = []; exports = []; moves = Used id ∷ [] })
uses_balanced held next id labels loses = grind arith

gives_balanced : (held next : LedgerView) (ticket : TicketView) → LosesNumbers held ticket.range next →
    IsBalanced held next (record { labels = []; tickets = ticket ∷ []; exports = []; moves = [] })
gives_balanced held next ticket loses = grind arith

of_goods : (held next : LedgerView) (goods known : Goods) → goods ≡ known → IsBalanced held next known →
    IsBalanced held next goods
of_goods held next goods known is b = subst (λ (g : Goods). IsBalanced held next g) (sym is) b

pub print_balanced : {A : Type 0} (before : ℕ) (document : List ℕ) (size : Size) (scheme : Scheme) (held : LedgerView)
    (course : Course A LedgerView) → PrintComes before document size scheme held course → IsBalancedCourse held course
print_balanced before document size scheme held (Saves next goods reply) comes =
    let made = made_print before document size scheme held next goods reply comes in
    of_goods held next goods _ made.left.goods_are
    (uses_balanced held next (least held.free) made.left.labels made.uses.loses)
print_balanced before document size scheme held (Answers reply) comes = tt
print_balanced before document size scheme held LacksMemory comes = tt

pub give_balanced : {A : Type 0} (before receiver : ℕ) (range : Range) (held : LedgerView)
    (course : Course A LedgerView) → GiveComes before receiver range held course → IsBalancedCourse held course
give_balanced before receiver range held (Saves next goods reply) comes =
    of_goods held next goods _ comes.1.1.0
    (gives_balanced held next (ticket_of held receiver range) (give_loses held next receiver range comes.0 comes.1.0))
give_balanced before receiver range held (Answers reply) comes = tt
give_balanced before receiver range held LacksMemory comes = tt

-- ---- a step of a printer that is balanced

-- tickets that did not leave were not taken
pub later_untaken : (relay : Relay) → RelayIsInOrder relay → (k : ℕ) → length relay.tickets ≤ k →
    is_taken relay.moves k ≡ false
later_untaken relay order k late = grind (arith, decided, slice_get_within)

pub balanced_places : (old : Relay) (printer : ℕ) (actor next : Actor LedgerView) (goods : Goods) → RelayIsInOrder old →
    slice_get old.printers printer ≡ Some actor → IsBalanced (stored_of actor) (stored_of next) goods → (number : ℕ) →
    places (with_printer old printer next goods) number ≡ places old number
balanced_places old printer actor next goods order was b number =
    grind (arith, free_set, gone_more, later_untaken, on_more, on_new, on_same, taken_same)

pub balanced_order : (old : Relay) (printer : ℕ) (actor next : Actor LedgerView) (goods : Goods) → RelayIsInOrder old →
    slice_get old.printers printer ≡ Some actor → IsBalanced (stored_of actor) (stored_of next) goods →
    RelayIsInOrder (with_printer old printer next goods)
balanced_order old printer actor next goods order was b = record {
  numbers = grind (arith, set_at);
  noted = λ k taken.
      let noted = order.noted k (sym (taken_same old.moves goods.moves k (b.none_taken k)) ∙ taken) in
      record {
        ticket = noted.ticket;
        there = get_more old.tickets goods.tickets k noted.ticket noted.there;
        noted = λ a is. grind (arith, set_at);
      };
}
