-- A world that begins.
use Rattle.std.proofs.Common.{◌≡◌, ◌+◌, ℕ, zero, suc, Some, List, [], ◌∷◌, All, length, slice_get, refl, sym, ap, subst, ◌∙◌, arith}
use Rattle.std.proofs.lemmas.List.{length-map}
use Rattle.dm_print_ledger.specs.{declared.range.Range.Range, Verdicts.opening, Ledger.LedgerView, Ledger.TicketView}
use Rattle.dm_assembly_desk.specs.Documents.{IsCapacity}
use Rattle.dm_event_history.specs.Relay.{Actor, Running, Desk, empty_desk, fresh_from, start}
use Rattle.dm_event_history.specs.Headline.{AreDisjoint}
use Rattle.dm_event_world.specs.declared.actor.{PrinterActor.PrinterActor, DeskActor.DeskActor, LeftLabel.LeftLabel}
use Rattle.dm_event_world.specs.{declared.actor.LeftExport.LeftExport, inner.Desks.AreEmpty, inner.Calls.AreFresh}
use Rattle.dm_event_world.specs.Shows.{ShowsDesk, ShowsPrinter, AreIdRanges, StandsFor}
use Rattle.dm_event_world.proofs.{Changing.world_of, Mapped.get_map_from}

length-fresh : (from : ℕ) (ranges : List Range) → length (fresh_from from ranges) ≡ length ranges
length-fresh from [] = refl
length-fresh from (r ∷ rs) = ap suc (length-fresh (from + 1) rs)

get_fresh : (from : ℕ) (ranges : List Range) (i : ℕ) (shown : Actor LedgerView) →
    slice_get (fresh_from from ranges) i ≡ Some shown →
    (range : Range) × (slice_get ranges i ≡ Some range) × (Running (opening (from + i) range) ≡ shown)
get_fresh from [] i shown is = cc
get_fresh from (r ∷ rs) zero shown is = (
  r,
  refl,
  (let e : Running (opening from r) ≡ shown = cc in
      let z : from + 0 ≡ from = omega arith in
      subst (λ (n : ℕ). Running (opening n r) ≡ shown) (sym z) e),
)
get_fresh from (r ∷ rs) (suc i) shown is =
    let more = get_fresh (from + 1) rs i shown is in
    let z : from + 1 + i ≡ from + suc i = omega arith in
    (more.0, more.1, subst (λ (n : ℕ). Running (opening n more.0) ≡ shown) z more.2)

pub begins : {A : Type 0} (ranges : List Range) (capacities : List ℕ) (printers : List (PrinterActor A))
    (desks : List (DeskActor A)) (labels : List (LeftLabel A)) (tickets : List TicketView)
    (exports : List (LeftExport A)) → AreIdRanges ranges → AreDisjoint ranges → All IsCapacity capacities →
    AreFresh ranges printers → AreEmpty capacities desks → labels ≡ [] → tickets ≡ [] → exports ≡ [] →
    StandsFor ranges capacities (world_of printers desks labels tickets exports) []
begins {A} ranges capacities printers desks labels tickets exports are_ranges disjoint allowed fresh empty no_labels
    no_tickets no_exports = record {
      are_ranges = are_ranges;
      disjoint = disjoint;
      are_capacities = allowed;
      relay = start ranges capacities;
      run = refl;
      shows = record {
        printer_count = fresh.count ∙ sym (length-fresh 0 ranges);
        printers = λ p actor shown is other.
            let own = get_fresh 0 ranges p shown other in
            let z : p ≡ 0 + p = omega arith in
            subst (λ (s : Actor LedgerView). ShowsPrinter actor s) own.2
            (subst (λ (n : ℕ). ShowsPrinter actor (Running (opening n own.0))) z (fresh.each p own.0 actor own.1 is));
        desk_count = empty.count ∙ sym (length-map capacities empty_desk);
        desks = λ d actor desk is other.
            let own = get_map_from empty_desk capacities d desk other in
            subst (λ (x : Desk). (actor.capacity ≡ x.capacity) × ShowsDesk x.capacity actor.state x.actor) own.2
            (empty.each d own.0 actor own.1 is);
        labels = no_labels;
        tickets = no_tickets;
        exports = no_exports;
        entries = λ n export is. cc;
      };
    }
