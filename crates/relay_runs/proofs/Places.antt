-- A restart and a call of one printer, as a run of a relay.
use Rattle.std.proofs.Common.{◌≡◌, ◌<◌, inl, ℕ, zero, suc, List, [], ◌∷◌, Option, Some, length, slice_get, slice_set, refl, sym, subst, append_assoc}
use Rattle.std.specs.Option.{option_to_list}
use Rattle.std.proofs.lemmas.{List.append-nil, List.set-set, Option.slice_get_within}
use Rattle.dm_store.specs.Saved.{Saved}
use Rattle.dm_print_ledger.specs.Ledger.{JobView, LedgerView, PrinterView, TicketView}
use Rattle.dm_event_history.specs.declared.event.Event.{Event, TheVariants.RestartPrinter}
use Rattle.dm_event_history.specs.declared.reply.Reply.{Reply, TheVariants.Restarted}
use Rattle.dm_event_history.specs.Relay.{Actor, Running, Goods, Label, Relay, Used, no_goods, stored_of, with_printer}
use Rattle.dm_event_history.specs.Steps.{Ending, ending, PrinterGoes, Step}
use Rattle.dm_event_world.specs.{Shows.ShowsPrinter, inner.Calls.EndsSo}
use Rattle.dm_event_world.specs.declared.actor.PrinterActor.TheVariants as actors
use Rattle.dm_event_world.proofs.Changing.{same_set}
use Rattle.relay_streams.specs.Streams.{InputView}
use Rattle.relay_runs.specs.Runs.{FollowsRun, IsOfJob, KeepsLedger, grids_in, grids_of}
use Rattle.relay_runs.proofs.{Plans.fine_printer, Files.HoldsFile, Calling.keeps_shown}

-- ---- lists

pub set_there : {X : Type 0} (xs : List X) (i : ℕ) (x y : X) → slice_get xs i ≡ Some x →
    slice_get (slice_set xs i y) i ≡ Some y
set_there [] i x y is = cc
set_there (z ∷ zs) zero x y is = refl
set_there (z ∷ zs) (suc i) x y is = set_there zs i x y is

-- ---- relays

-- the relay once this printer runs over what it stores
abbrev pub restarted : Relay → ℕ → LedgerView → Relay
restarted relay printer stored = with_printer relay printer (Running stored) no_goods

pub with_twice : (relay : Relay) (printer : ℕ) (one other : Actor LedgerView) (goods : Goods) →
    with_printer (with_printer relay printer one no_goods) printer other goods ≡ with_printer relay printer other goods
with_twice relay printer one other goods = λ i. record {
  printers = set-set relay.printers printer one other i;
  desks = relay.desks;
  labels = append_assoc relay.labels [] goods.labels i;
  tickets = append_assoc relay.tickets [] goods.tickets i;
  exports = append_assoc relay.exports [] goods.exports i;
  moves = append_assoc relay.moves [] goods.moves i;
}

-- where nothing happens the printer is what it was
pub with_same : (relay : Relay) (printer : ℕ) (actor : Actor LedgerView) → slice_get relay.printers printer ≡ Some actor →
    relay ≡ with_printer relay printer actor no_goods
with_same relay printer actor was = λ i. record {
  printers = sym (same_set relay.printers printer actor was) i;
  desks = relay.desks;
  labels = sym (append-nil relay.labels) i;
  tickets = sym (append-nil relay.tickets) i;
  exports = sym (append-nil relay.exports) i;
  moves = sym (append-nil relay.moves) i;
}

-- ---- runs

module _ (A : Type 0) (relay : Relay) (printer : ℕ) (actor : Actor LedgerView)
    (was : slice_get relay.printers printer ≡ Some actor) where
  runs_over : slice_get (restarted relay printer (stored_of actor)).printers printer ≡ Some (Running (stored_of actor))
  runs_over = set_there relay.printers printer actor (Running (stored_of actor)) was

  pub still_within : printer < length (restarted relay printer (stored_of actor)).printers
  still_within = slice_get_within _ printer _ runs_over

  restarts : Step {A = A} relay (RestartPrinter printer) Restarted (restarted relay printer (stored_of actor))
  restarts = inl (
    slice_get_within relay.printers printer actor was,
    record {
      actor = actor;
      was = was;
      end = ending Restarted (Running (stored_of actor)) no_goods;
      acts = inl refl;
      reply_is = refl;
      new_is = refl;
    },
  )

  -- The printer is restarted and called. A command that did this follows that run.
  pub called : {Acts : Actor LedgerView → Ending A LedgerView → Type 0} {Lets : Goods → Type 0} (input : InputView)
      (saved : Saved) (after : PrinterView) (event : Event A) (reply : Reply A) (job : Option JobView)
      (ticket : Option TicketView) (e : EndsSo (ShowsPrinter {A = A}) Acts Lets (Running (stored_of actor)) reply
      (actors.Running (fine_printer after))) → saved ≡ after.saved → HoldsFile after.saved →
      ((new : Relay) → PrinterGoes (restarted relay printer (stored_of actor)) printer Acts reply new →
      Step (restarted relay printer (stored_of actor)) event reply new) → grids_of e.end.goods.labels ≡ grids_in job →
      ((i : ℕ) (label : Label) → slice_get e.end.goods.labels i ≡ Some label → IsOfJob input job label) →
      e.end.goods.tickets ≡ option_to_list ticket → ((it : JobView) → job ≡ Some it → e.end.goods.moves ≡ Used it.id ∷ []) →
      FollowsRun A relay printer input saved job ticket
  called input saved after event reply job ticket e same file steps labels printed tickets used = record {
    moments = record { before = restarted relay printer (stored_of actor); event = event; reply = reply }
        ∷ record { before = relay; event = RestartPrinter printer; reply = Restarted } ∷ [];
    goods = e.end.goods;
    after = with_printer (restarted relay printer (stored_of actor)) printer e.end.actor e.end.goods;
    runs = record {
      run = (
        (refl, restarts),
        steps _ (record {
          actor = Running (stored_of actor);
          was = runs_over;
          end = e.end;
          acts = e.acts;
          reply_is = e.reply_is;
          new_is = refl;
        }),
      );
      actor = e.end.actor;
      there = set_there _ printer _ e.end.actor runs_over;
      keeps = subst (λ (s : Saved). KeepsLedger s e.end.actor) (sym same) (keeps_shown A after e.end.actor file e.shows);
      after_is = with_twice relay printer (Running (stored_of actor)) e.end.actor e.end.goods;
    };
    labels = labels;
    printed = printed;
    tickets = tickets;
    used = used;
  }
