-- A script of its three parts.
use Rattle.std.proofs.Common.{◌≡◌, ◌⊎◌, inl, inr, ⊎_elim, ◌+◌, ◌<◌, ◌≤◌, ◌^◌, ℕ, List, [], length, take, drop, get_or, Option, Some, None, Result, Ok, Err, Vec, Bor, refl, arith}
use Rattle.std.proofs.lemmas.{Grind.common_steps, List.length-take, List.length-replicate}
use Rattle.std.proofs.lemmas.{Option.unwrap_or-slice_get, Slice.Zip.AllZip-long}
use Rattle.std.proofs.Math.Nat.{le_refl}
use Rattle.std.specs.{List.AllZip, List.slice_get, Option.option_map, Option.unwrap_or, Prelude.IfErr, Prelude.IfOk, Prelude.◌↔◌}
use denote.RawPtr.{null_ptr}
use Rattle.dm_print_ledger.specs.declared.range.Range.{Range}
use Rattle.dm_event_history.specs.declared.event.Event.{Event}
use Rattle.relay_script.specs.declared.{script.Script.Script, words.ScriptFault.ScriptFault}
use Rattle.relay_script.specs.declared.words.ScriptFault.TheVariants.{Script as Blamed, Memory}
use Rattle.relay_script.specs.declared.script.TheConstants.{MOST_EVENTS, MOST_PRINTERS}
use Rattle.relay_script.specs.Scripts.{AreDesks, AreLinesOf, SpellsEventLine, SpellsRange, desks_place}
use Rattle.relay_script.specs.Words.{IsRead, IsReadBy}
use Rattle.relay_script.proofs.Refused.{something}

-- a vector with these items
abbrev vec_of : {T A : Type 0} → A → (items : List T) → length items < 2 ^ 63 → Vec T A
vec_of alloc items small = record {
  ptr = null_ptr;
  len = length items;
  cap = length items;
  alloc = alloc;
  items = items;
  ok = (refl, le_refl (length items));
  small = small;
}

-- the text at a place, which is empty past the last
pub text_at : (texts : List (List ℕ)) (n : ℕ) (found : Option (Bor (List ℕ))) (none : Bor (List ℕ))
    → option_map (λ text. text.now) found ≡ slice_get texts n → none.now ≡ []
    → (unwrap_or found none).now ≡ get_or texts n []
text_at texts n (Some text) none is empty = grind (arith, common_steps, unwrap_or-slice_get texts n [])
text_at texts n None none is empty = grind (arith, common_steps, unwrap_or-slice_get texts n [])

-- a script of parts that were read
pub script_read : {A : Type 0} (alloc : A) (lines : List (List ℕ)) (ranges : Result (Vec Range A) ScriptFault)
    (capacities : Result (Vec ℕ A) ScriptFault) (events : Result (Vec (Event A) A) ScriptFault)
    (result : Result (Script A) ScriptFault) → 1 ≤ desks_place lines → desks_place lines ≤ MOST_PRINTERS
    → length (drop (desks_place lines + 1) lines) ≤ MOST_EVENTS
    → IfOk result (λ script. (ranges ≡ Ok script.ranges) × (capacities ≡ Ok script.capacities)
    × (events ≡ Ok script.events))
    → IfErr result (λ e. (e ≡ Blamed) ↔ ((ranges ≡ Err Blamed) ⊎ ((capacities ≡ Err Blamed) ⊎ (events ≡ Err Blamed))))
    → IsReadBy (λ v. v.items) ranges (AllZip SpellsRange (take (desks_place lines) lines))
    → IsReadBy (λ v. v.items) capacities (AreDesks (get_or lines (desks_place lines) []))
    → IsReadBy (λ v. v.items) events (AllZip SpellsEventLine (drop (desks_place lines + 1) lines))
    → IsRead result (AreLinesOf lines)
script_read alloc lines ranges capacities events (Ok script) some few few_events ok refused one two three = record {
  some_printers = some;
  few_printers = few;
  ranges = rw ok.0 at one;
  desks = rw ok.1 at two;
  few_events = few_events;
  events = rw ok.2 at three;
}
script_read alloc lines ranges capacities events (Err Blamed) some few few_events ok refused one two three =
    λ script is. ⊎_elim (λ e. (rw e at one) script.ranges.items is.ranges) (λ later. ⊎_elim
    (λ e. (rw e at two) script.capacities.items is.desks) (λ e. (rw e at three) script.events.items is.events) later)
    (refused.0 refl)
script_read alloc lines ranges capacities events (Err Memory) some few few_events ok refused one two three =
    let x = something _ ranges _ one (λ e. cc (refused.1 (inl e))) in
    let y = something _ capacities _ two (λ e. cc (refused.1 (inr (inl e)))) in
    let z = something _ events _ three (λ e. cc (refused.1 (inr (inr e)))) in
    let few_ranges = AllZip-long SpellsRange (take (desks_place lines) lines) x.0 x.1 in
    let few_desks : length y.0 ≡ y.1.1 = rw y.1.7 (length-replicate y.1.1 y.1.2) in (
      record {
        ranges = vec_of alloc x.0 (omega (arith, few_ranges, length-take (desks_place lines) lines));
        capacities = vec_of alloc y.0 (omega (arith, few_desks));
        events = vec_of alloc z.0 (omega (arith, AllZip-long SpellsEventLine _ z.0 z.1));
      },
      record {
        some_printers = some;
        few_printers = few;
        ranges = x.1;
        desks = y.1;
        few_events = few_events;
        events = z.1;
      },
    )
