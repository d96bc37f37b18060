-- Ledgers: ranges of numbers, givers of tickets, what contracts see, and the bytes that are saved.
use Rattle.std.specs.Prelude.{◌+◌, ◌-◌, ℕ, Bool, true, false, ◌&&◌, ◌||◌, List, [], ◌∷◌, nat_le, Option, Some, None, ◌==◌, nat_lt, if◌then◌else◌, ◌≡◌, ◌*◌, ◌/◌, ◌%◌, ◌↔◌, not, ◌++◌, length, slice_index, Result, Ok, Err, IsTrue, nat_eq, zero, suc}
use Rattle.std.specs.{Option.option_map_or, List.flat_map, List.starts_with, Cmp.Lexicographic.pointwise}
use Rattle.dm_print_ledger.specs.declared.{range.Range.Range, giver.Giver.Giver, fault.OpenFault.OpenFault}
use Rattle.dm_print_ledger.specs.declared.limits.TheConstants.{GREATEST, MOST_RANGES, MOST_GIVERS, TICKET_BYTES}
use Rattle.dm_print_ledger.specs.declared.fault.OpenFault.TheVariants.{NotALedger, Version, Damaged}
use Rattle.dm_store.specs.Saved.{Saved}
use Rattle.dm_finder_frame.specs.Frame.{GridView}

-- it has at least one number, and all of them are those of IDs
abbrev pub is_range : Range → Bool
is_range range = nat_le range.first range.last && nat_le range.last GREATEST

-- the ranges rise, from a number on, and no two touch
abbrev pub rise_from : ℕ → List Range → Bool
rise_from from [] = true
rise_from from (range ∷ ranges) = nat_le from range.first && is_range range && rise_from (range.last + 2) ranges

abbrev pub are_ranges : List Range → Bool
are_ranges ranges = rise_from 0 ranges

-- how many numbers a range has, and how many are free
abbrev pub size_of : Range → ℕ
size_of range = range.last + 1 - range.first

abbrev pub free_count : List Range → ℕ
free_count [] = 0
free_count (range ∷ ranges) = size_of range + free_count ranges

-- ---- their numbers

-- the number is in the range
abbrev pub is_in : Range → ℕ → Bool
is_in range number = nat_le range.first number && nat_le number range.last

-- the number is in one of the ranges
abbrev pub is_free : List Range → ℕ → Bool
is_free [] number = false
is_free (range ∷ ranges) number = is_in range number || is_free ranges number

-- the serial of the last ticket taken from a printer
abbrev pub last_taken : List Giver → ℕ → Option ℕ
last_taken [] number = None
last_taken (giver ∷ givers) number = if giver.number == number then Some giver.serial else last_taken givers number

-- a ticket with this serial is no newer than the last taken from the printer
abbrev pub is_old : List Giver → ℕ → ℕ → Bool
is_old givers number serial = option_map_or (nat_le serial) (last_taken givers number) false

-- the givers after a ticket with this giver and serial is taken
abbrev pub givers_with : List Giver → Giver → List Giver
givers_with [] last = last ∷ []
givers_with (giver ∷ givers) last =
    if nat_lt giver.number last.number then giver ∷ givers_with givers last else
    if giver.number == last.number then last ∷ givers else
    last ∷ giver ∷ givers

-- the givers rise by their numbers, from a number on
abbrev pub givers_from : ℕ → List Giver → Bool
givers_from from [] = true
givers_from from (giver ∷ givers) = nat_le from giver.number && givers_from (giver.number + 1) givers

abbrev pub are_givers : List Giver → Bool
are_givers givers = givers_from 0 givers

-- a printer's number, the serial of its next ticket, its free numbers, and the printers from which it took tickets
pub record LedgerView : Type 0 where
  pub number : ℕ
  pub next_serial : ℕ
  pub free : List Range
  pub givers : List Giver

-- what a saved ledger says: one of version 1 has no number
pub record ShownView : Type 0 where
  pub number : Option ℕ
  pub next_serial : ℕ
  pub free : List Range
  pub givers : List Giver

-- the numbers of a range on their way from one printer to another
pub record TicketView : Type 0 where
  pub giver : ℕ
  pub serial : ℕ
  pub receiver : ℕ
  pub range : Range

-- a printer's store, its ledger as last known to be saved, and whether a save failed, after which it saves nothing more
pub record PrinterView : Type 0 where
  pub saved : Saved
  pub ledger : LedgerView
  pub is_failed : Bool

-- a printer over this store, of which no save failed
abbrev pub running : Saved → LedgerView → PrinterView
running saved ledger = record { saved = saved; ledger = ledger; is_failed = false }

-- a job's ID, how many labels it had, and those that were not taken yet, in order
pub record JobView : Type 0 where
  pub id : ℕ
  pub count : ℕ
  pub labels : List GridView

-- ---- Saved ledgers: what they are, and what bytes are read as. The format is this project's own. Numbers have two
-- bytes, the most significant first; counts have one byte.

abbrev pub two_bytes : ℕ → List ℕ
two_bytes n = n / 256 ∷ n % 256 ∷ []

-- the number whose two bytes stand at a place
abbrev pub number_in : List ℕ → ℕ → ℕ
number_in bytes at = 256 * slice_index bytes at + slice_index bytes (at + 1)

-- ---- version 2

-- its free numbers are in at most 64 ranges, which rise and do not touch, and its at most 64 givers rise
abbrev pub is_sound : LedgerView → Bool
is_sound ledger =
    are_ranges ledger.free && nat_le (length ledger.free) MOST_RANGES
    && are_givers ledger.givers && nat_le (length ledger.givers) MOST_GIVERS

abbrev pub range_bytes : Range → List ℕ
range_bytes range = range.first / 256 ∷ range.first % 256 ∷ range.last / 256 ∷ range.last % 256 ∷ []

abbrev pub giver_bytes : Giver → List ℕ
giver_bytes giver = giver.number / 256 ∷ giver.number % 256 ∷ giver.serial / 256 ∷ giver.serial % 256 ∷ []

-- "DMLG", the version 2, the number, the next serial, the count of ranges and the ranges, the count of givers and the
-- givers, and as a check 65,535 less the number of free IDs
unfoldable pub ledger_bytes : LedgerView → List ℕ
ledger_bytes ledger =
    68 ∷ 77 ∷ 76 ∷ 71 ∷ 2 ∷ ledger.number / 256 ∷ ledger.number % 256 ∷
    ledger.next_serial / 256 ∷ ledger.next_serial % 256 ∷
    length ledger.free ∷ (flat_map range_bytes ledger.free ++
    (length ledger.givers ∷ (flat_map giver_bytes ledger.givers ++
    two_bytes (65535 - free_count ledger.free))))

-- what is made of this many pairs of numbers, from a place on
abbrev pub pairs_in : {X : Type 0} → (ℕ → ℕ → X) → List ℕ → ℕ → ℕ → List X
pairs_in make bytes at zero = []
pairs_in make bytes at (suc n) = make (number_in bytes at) (number_in bytes (at + 2)) ∷ pairs_in make bytes (at + 4) n

abbrev pub make_range : ℕ → ℕ → Range
make_range first last = record { first = first; last = last }

abbrev pub make_giver : ℕ → ℕ → Giver
make_giver number serial = record { number = number; serial = serial }

-- the counts of ranges and of givers
abbrev pub range_count : List ℕ → ℕ
range_count bytes = slice_index bytes 9

abbrev pub giver_count : List ℕ → ℕ
giver_count bytes = slice_index bytes (10 + 4 * range_count bytes)

-- the ledger whose numbers stand in the bytes, whether it is sound or not
unfoldable pub numbers_in : List ℕ → LedgerView
numbers_in bytes = record {
  number = number_in bytes 5;
  next_serial = number_in bytes 7;
  free = pairs_in make_range bytes 10 (range_count bytes);
  givers = pairs_in make_giver bytes (11 + 4 * range_count bytes) (giver_count bytes);
}

-- what a ledger says
abbrev pub shown_of : LedgerView → ShownView
shown_of ledger =
    record { number = Some ledger.number; next_serial = ledger.next_serial; free = ledger.free; givers = ledger.givers }

-- the bytes are those of a sound ledger
abbrev pub read_second : List ℕ → Result ShownView OpenFault
read_second bytes =
    if is_sound (numbers_in bytes) && pointwise nat_eq bytes (ledger_bytes (numbers_in bytes))
    then Ok (shown_of (numbers_in bytes)) else Err Damaged

-- ---- version 1

-- the IDs `first` to `last`, of which those from `next` on are free
pub record FirstLedger : Type 0 where
  pub first : ℕ
  pub last : ℕ
  pub next : ℕ

-- the three numbers are in order
abbrev pub are_in_order : FirstLedger → Bool
are_in_order ledger =
    nat_le ledger.first ledger.last && nat_le ledger.last GREATEST
    && nat_le ledger.first ledger.next && nat_le ledger.next (ledger.last + 1)

-- "DMLG", the version 1, the three numbers, and as a check 65,535 less the next one
unfoldable pub first_bytes : FirstLedger → List ℕ
first_bytes ledger =
    68 ∷ 77 ∷ 76 ∷ 71 ∷ 1 ∷ (two_bytes ledger.first ++ (two_bytes ledger.last ++ (two_bytes ledger.next ++
    two_bytes (65535 - ledger.next))))

-- the ledger whose numbers stand in the bytes
abbrev pub first_in : List ℕ → FirstLedger
first_in bytes = record { first = number_in bytes 5; last = number_in bytes 7; next = number_in bytes 9 }

-- what it says: no number of a printer, and no ticket
abbrev pub shown_of_first : FirstLedger → ShownView
shown_of_first ledger = record {
  number = None;
  next_serial = 0;
  free = if nat_lt ledger.last ledger.next then [] else record { first = ledger.next; last = ledger.last } ∷ [];
  givers = [];
}

abbrev pub is_first : List ℕ → Bool
is_first bytes = are_in_order (first_in bytes) && pointwise nat_eq bytes (first_bytes (first_in bytes))

abbrev pub read_first : List ℕ → Result ShownView OpenFault
read_first bytes = if is_first bytes then Ok (shown_of_first (first_in bytes)) else Err Damaged

-- ---- both

-- what bytes are read as
abbrev pub read_ledger : List ℕ → Result ShownView OpenFault
read_ledger bytes =
    if not (starts_with nat_eq bytes (68 ∷ 77 ∷ 76 ∷ 71 ∷ [])) then Err NotALedger else
    if nat_lt (length bytes) 5 then Err Damaged else
    if slice_index bytes 4 == 1 then read_first bytes else
    if slice_index bytes 4 == 2 then read_second bytes else
    Err Version

-- the bytes are those of a sound ledger of either version, which says this
pub data SpellsLedger (bytes : List ℕ) : ShownView → Type 0 where
  second : (ledger : LedgerView) → IsTrue (is_sound ledger) → bytes ≡ ledger_bytes ledger
      → SpellsLedger bytes (shown_of ledger)
  first : (ledger : FirstLedger) → IsTrue (are_in_order ledger) → bytes ≡ first_bytes ledger
      → SpellsLedger bytes (shown_of_first ledger)

-- bytes are read as a ledger exactly if they are those of a sound one
abbrev pub ReadsWhatIsSpelled : Type 0
ReadsWhatIsSpelled = (bytes : List ℕ) (shown : ShownView) → (read_ledger bytes ≡ Ok shown) ↔ SpellsLedger bytes shown

-- giver, serial, receiver, first and last number, in two bytes each
unfoldable pub ticket_bytes : TicketView → List ℕ
ticket_bytes ticket =
    ticket.giver / 256 ∷ ticket.giver % 256 ∷ ticket.serial / 256 ∷ ticket.serial % 256 ∷
    ticket.receiver / 256 ∷ ticket.receiver % 256 ∷
    ticket.range.first / 256 ∷ ticket.range.first % 256 ∷ ticket.range.last / 256 ∷ ticket.range.last % 256 ∷ []

-- the range that the last four of ten bytes spell
abbrev pub range_in : List ℕ → Range
range_in bytes = record { first = number_in bytes 6; last = number_in bytes 8 }

-- ten bytes, of which the last four spell a range of IDs
pub record AreOfTicket (bytes : List ℕ) : Type 0 where
  pub ten : length bytes ≡ TICKET_BYTES
  pub in_range : IsTrue (is_range (range_in bytes))
