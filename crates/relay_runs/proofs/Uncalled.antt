-- A command that did not call its printer does nothing.
use Rattle.std.proofs.Common.{◌≡◌, ℕ, List, [], Some, None, slice_get, refl, sym, subst}
use Rattle.dm_store.specs.Saved.{Saved}
use Rattle.dm_print_ledger.specs.Ledger.{LedgerView}
use Rattle.dm_event_history.specs.Relay.{Actor, Label, Relay, no_goods}
use Rattle.relay_streams.specs.Streams.{InputView}
use Rattle.relay_runs.specs.Runs.{FollowsRun, KeepsLedger}
use Rattle.relay_runs.proofs.Places.{with_same}

pub none_there : (labels : List Label) (i : ℕ) (label : Label) → labels ≡ [] → slice_get labels i ≡ Some label → ⊥
none_there labels i label none there = cc (none, there)

pub uncalled : (A : Type 0) (relay : Relay) (place : ℕ) (input : InputView) (old new : Saved) (actor : Actor LedgerView) →
    slice_get relay.printers place ≡ Some actor → KeepsLedger old actor → new ≡ old →
    FollowsRun A relay place input new None None
uncalled A relay place input old new actor was keeps same = record {
  moments = [];
  goods = no_goods;
  after = relay;
  runs = record {
    run = refl;
    actor = actor;
    there = was;
    keeps = subst (λ (s : Saved). KeepsLedger s actor) (sym same) keeps;
    after_is = with_same relay place actor was;
  };
  labels = refl;
  printed = λ i label there. absurd (none_there [] i label refl there);
  tickets = refl;
  used = λ it is. absurd (cc (is));
}
