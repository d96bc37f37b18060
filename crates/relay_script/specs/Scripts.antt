-- Scripts of worlds: the printers, the desks, and the events that follow, each by the words of its line.
use Rattle.std.specs.Prelude.{◌≡◌, ◌≤◌, ◌+◌, ℕ, List, [], length, take, drop, slice_index_or, codes, nat_eq, replicate}
use Rattle.std.specs.{Io.BufRead.strip_last, List.AllZip, List.position_or_len, List.starts_with, Str.IsUtf8}
use Rattle.dm_print_ledger.specs.declared.range.Range.{Range}
use Rattle.relay_command.specs.Schemes.{scheme_name}
use Rattle.dm_event_history.specs.declared.event.Event.{Event}
use Rattle.dm_event_history.specs.declared.event.Event.TheVariants.{Print, Scan, RestartPrinter, RestartDesk, Ask, Forget, Give, Take, Export, Import}
use Rattle.relay_script.specs.Words.{IsNumberOf, IsSideOf, IsIdOf, AreBytesOf, IsStopOf, AreFlipsOf, cut_at}
use Rattle.relay_script.specs.declared.script.Script.{Script}
use Rattle.relay_script.specs.declared.script.TheConstants.{SCRIPT_BYTES, MOST_EVENTS, MOST_PRINTERS, MOST_DESKS}

-- word i, which is empty past the last
abbrev pub word : List (List ℕ) → ℕ → List ℕ
word words i = slice_index_or words i []

-- there are this many words, and the first is the name
abbrev pub HasForm : List (List ℕ) → List ℕ → ℕ → Type 0
HasForm words name count = (length words ≡ count) × (word words 0 ≡ name)

-- the words stand for this event
abbrev pub SpellsEvent : {A : Type 0} → List (List ℕ) → Event A → Type 0
-- `print PRINTER SIDE SCHEME BYTES STOP`
SpellsEvent words (Print printer document size scheme stop) = HasForm words (codes "print") 6
    × IsNumberOf (word words 1) printer × IsSideOf (word words 2) size × (word words 3 ≡ scheme_name scheme)
    × AreBytesOf (word words 4) document × IsStopOf (word words 5) stop
-- `scan DESK LABEL STOP FLIPS`
SpellsEvent words (Scan desk label flips stop) = HasForm words (codes "scan") 5 × IsNumberOf (word words 1) desk
    × IsNumberOf (word words 2) label × IsStopOf (word words 3) stop × AreFlipsOf (word words 4) flips
-- `restart printer PRINTER`
SpellsEvent words (RestartPrinter printer) = HasForm words (codes "restart") 3 × (word words 1 ≡ codes "printer")
    × IsNumberOf (word words 2) printer
-- `restart desk DESK`
SpellsEvent words (RestartDesk desk) = HasForm words (codes "restart") 3 × (word words 1 ≡ codes "desk")
    × IsNumberOf (word words 2) desk
-- `ask DESK ID`
SpellsEvent words (Ask desk id) = HasForm words (codes "ask") 3 × IsNumberOf (word words 1) desk
    × IsIdOf (word words 2) id
-- `forget DESK ID STOP`
SpellsEvent words (Forget desk id stop) = HasForm words (codes "forget") 4 × IsNumberOf (word words 1) desk
    × IsIdOf (word words 2) id × IsStopOf (word words 3) stop
-- `give PRINTER RECEIVER FIRST LAST STOP`
SpellsEvent words (Give printer receiver range stop) = HasForm words (codes "give") 6
    × IsNumberOf (word words 1) printer × IsNumberOf (word words 2) receiver
    × IsNumberOf (word words 3) range.first × IsNumberOf (word words 4) range.last × IsStopOf (word words 5) stop
-- `take PRINTER TICKET STOP`
SpellsEvent words (Take printer ticket stop) = HasForm words (codes "take") 4 × IsNumberOf (word words 1) printer
    × IsNumberOf (word words 2) ticket × IsStopOf (word words 3) stop
-- `export DESK ID`
SpellsEvent words (Export desk id) = HasForm words (codes "export") 3 × IsNumberOf (word words 1) desk
    × IsIdOf (word words 2) id
-- `import DESK EXPORT STOP`
SpellsEvent words (Import desk export stop) = HasForm words (codes "import") 4 × IsNumberOf (word words 1) desk
    × IsNumberOf (word words 2) export × IsStopOf (word words 3) stop

-- the line spells the event: its words are what spaces separate
abbrev pub SpellsEventLine : {A : Type 0} → List ℕ → Event A → Type 0
SpellsEventLine line event = SpellsEvent (cut_at 32 line) event

-- `range FIRST LAST`
abbrev pub SpellsRange : List ℕ → Range → Type 0
SpellsRange line range = let words = cut_at 32 line in HasForm words (codes "range") 3
    × IsNumberOf (word words 1) range.first × IsNumberOf (word words 2) range.last

-- `desks COUNT CAPACITY`: the capacities are those of the desks that the line asks for, one or more
abbrev pub AreDesks : List ℕ → List ℕ → Type 0
AreDesks line capacities = let words = cut_at 32 line in HasForm words (codes "desks") 3 × (count : ℕ) × (capacity : ℕ)
    × IsNumberOf (word words 1) count × IsNumberOf (word words 2) capacity
    × (1 ≤ count) × (count ≤ MOST_DESKS) × (capacities ≡ replicate count capacity)

-- the place of the first line that begins with `desks`, as no line of a range does: how many ranges there are, or the
-- number of lines if there is no such line
abbrev pub desks_place : List (List ℕ) → ℕ
desks_place lines = position_or_len (λ line. starts_with nat_eq line (codes "desks")) lines

-- The lines are those of one or more ranges, one of desks, and then those of events, each within its limit.
pub record AreLinesOf {A : Type 0} (lines : List (List ℕ)) (script : Script A) : Type 0 where
  pub some_printers : 1 ≤ desks_place lines
  pub few_printers : desks_place lines ≤ MOST_PRINTERS
  pub ranges : AllZip SpellsRange (take (desks_place lines) lines) script.ranges.items
  pub desks : AreDesks (slice_index_or lines (desks_place lines) []) script.capacities.items
  pub few_events : length (drop (desks_place lines + 1) lines) ≤ MOST_EVENTS
  pub events : AllZip SpellsEventLine (drop (desks_place lines + 1) lines) script.events.items

-- The bytes are a script: a text whose lines are those of one. A line end follows each, except perhaps the last.
pub record IsScript {A : Type 0} (bytes : List ℕ) (script : Script A) : Type 0 where
  pub short : length bytes ≤ SCRIPT_BYTES
  pub is_text : IsUtf8 bytes
  pub lines : AreLinesOf (cut_at 10 (strip_last 10 bytes)) script
