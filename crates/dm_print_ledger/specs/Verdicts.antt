-- Printers: how one is created and opened, the verdicts on a print, a give and a take, what ledgers and tickets show of
-- one another, and the names of the faults.
use Rattle.std.specs.Prelude.{◌≡◌, ◌⊎◌, ℕ, [], ◌∷◌, None, Result, Ok, Err, IsTrue, IsSome, IfOk, MatchBool, ◌+◌, ◌≤◌, ◌↔◌, ◌&&◌, ◌||◌, not, true, false, List, Some, ◌==◌, if◌then◌else◌, length, nat_lt, Bool, ◌-◌, ◌++◌, nat_le, min, max, Option, unwrap_or, IsSomeAnd, is_some, codes, ◌<◌, ◌≢◌, MatchOption}
use Rattle.std.specs.{Option.option_map_or, Option.option_or, List.list_any, List.Contains}
use Rattle.dm_store.specs.Saved.{Saved, Replaces, LoadsOpen}
use Rattle.dm_print_ledger.specs.declared.{range.Range.Range, fault.CreateFault.CreateFault, giver.Giver.Giver}
use Rattle.dm_print_ledger.specs.Ledger.{is_range, ledger_bytes, LedgerView, PrinterView, running, are_givers, givers_with, last_taken, is_old, are_ranges, is_in, is_free, free_count, size_of, TicketView, ShownView, JobView, read_ledger, is_sound}
use Rattle.dm_print_ledger.specs.declared.limits.TheConstants.{MOST_RANGES, MOST_GIVERS}
use Rattle.dm_print_ledger.specs.declared.fault.{PrintFault.PrintFault, GiveFault.GiveFault, TakeFault.TakeFault}
use Rattle.dm_print_ledger.specs.declared.fault.OpenFault.{OpenFault}
use Rattle.dm_print_ledger.specs.declared.fault.OpenFault.TheVariants.{Absent, Number, Device, Memory}
use Rattle.dm_size.specs.declared.size.Size.{Size}
use Rattle.dm_encodation.specs.declared.scheme.Scheme.{Scheme}
use Rattle.dm_finder_frame.specs.Frame.{GridView}
use Rattle.dm_append_label.specs.Labels.{Seals, PageView, AreEnds, HasNoEnds, parts_from}
use Rattle.dm_store.specs.declared.store.StoreFault.{StoreFault}
use Rattle.dm_store.specs.declared.store.StoreFault.TheVariants as replacing
use Rattle.dm_print_ledger.specs.declared.fault.CreateFault.TheVariants as creating
use Rattle.dm_print_ledger.specs.declared.fault.PrintFault.TheVariants as printing
use Rattle.dm_print_ledger.specs.declared.fault.GiveFault.TheVariants as giving
use Rattle.dm_print_ledger.specs.declared.fault.TakeFault.TheVariants as taking
use Rattle.dm_append_label.specs.Labels as label
use Rattle.dm_print_ledger.specs.declared.fault.OpenFault.TheVariants as open_faults

-- ---- creation

-- the ledger of a printer with this number and this range, of which nothing was used
abbrev pub opening : ℕ → Range → LedgerView
opening number range = record { number = number; next_serial = 0; free = range ∷ []; givers = [] }

-- a store that holds nothing, before and after a first ledger was to be saved, and how that ended
abbrev pub SavesFirst : {X : Type 0} → Saved → LedgerView → Result X CreateFault → Saved → Type 0
SavesFirst old ledger (Ok _) new =
    (IsTrue old.is_honest → old.content ≡ None) × Replaces old (ledger_bytes ledger) (Ok tt) new
SavesFirst old ledger (Err creating.Exists) new = (IsTrue old.is_honest → IsSome old.content) × (new ≡ old)
SavesFirst old ledger (Err creating.Device) new =
    ((old.load_plan ≡ LoadsOpen) × (new ≡ old))
    ⊎ ((IsTrue old.is_honest → old.content ≡ None) × Replaces old (ledger_bytes ledger) (Err replacing.Device) new)
SavesFirst old ledger (Err creating.Memory) new = (new ≡ old) × IsTrue old.may_lack_memory
SavesFirst old ledger (Err creating.Range) new = ⊥

-- a printer with this number that runs over its store, with this range free, or why there is none
pub record Creates (old : Saved) (number : ℕ) (range : Range) (answer : Result PrinterView CreateFault) (new : Saved)
    : Type 0 where
  pub saves : MatchBool (is_range range)
      (SavesFirst old (opening number range) answer new)
      ((answer ≡ Err creating.Range) × (new ≡ old))
  pub runs : IfOk answer (λ printer. printer ≡ running new (opening number range))

-- ---- What a print, a give and a take come to: lists of ranges, verdicts, and how a printer carries them out.

-- one range has all numbers of the other
abbrev pub covers : Range → Range → Bool
covers one range = nat_le one.first range.first && nat_le range.last one.last

-- two ranges have a number in common
abbrev pub meets : Range → Range → Bool
meets one range = nat_le one.first range.last && nat_le range.first one.last

-- one of the ranges has all numbers of another
abbrev pub are_free : List Range → Range → Bool
are_free ranges range = list_any (λ one. covers one range) ranges

-- one of the ranges has a number of another
abbrev pub has_free : List Range → Range → Bool
has_free ranges range = list_any (λ one. meets one range) ranges

-- the least number of the ranges, if there are any
abbrev pub least : List Range → ℕ
least [] = 0
least (one ∷ ranges) = one.first

-- the range of this number alone
abbrev pub single : ℕ → Range
single n = record { first = n; last = n }

-- the numbers from one on and below another, if there are any
abbrev pub span : ℕ → ℕ → List Range
span from to = if nat_lt from to then record { first = from; last = to - 1 } ∷ [] else []

-- the parts of one range below another and above it
abbrev pub parts : Range → Range → List Range
parts one range =
    span one.first (min (one.last + 1) range.first) ++ span (max one.first (range.last + 1)) (one.last + 1)

-- the ranges without the numbers of one range
abbrev pub without : List Range → Range → List Range
without [] range = []
without (one ∷ ranges) range = parts one range ++ without ranges range

-- one range of two that touch or meet
abbrev pub hull : Range → Range → Range
hull one range = record { first = min one.first range.first; last = max one.last range.last }

-- the ranges and one more, joined where they touch
abbrev pub union_with_range : List Range → Range → List Range
union_with_range [] range = range ∷ []
union_with_range (one ∷ ranges) range =
    if nat_lt (one.last + 1) range.first then one ∷ union_with_range ranges range else
    if nat_lt (range.last + 1) one.first then range ∷ one ∷ ranges else
    union_with_range ranges (hull one range)

-- all numbers of the range are free
abbrev pub AreFree : List Range → Range → Type 0
AreFree ranges range = (number : ℕ) → is_in range number ≡ true → is_free ranges number ≡ true

-- no number of the range is free
abbrev pub AreTaken : List Range → Range → Type 0
AreTaken ranges range = (number : ℕ) → is_in range number ≡ true → is_free ranges number ≡ false

-- the least number that is free
pub record IsLeastFree (ranges : List Range) (number : ℕ) : Type 0 where
  pub free : is_free ranges number ≡ true
  pub least : (other : ℕ) → is_free ranges other ≡ true → number ≤ other

-- the numbers of the range were free, and are free no longer
pub record TakesOut (old : List Range) (range : Range) (new : List Range) : Type 0 where
  pub ranges : IsTrue (are_ranges new)
  pub free : (number : ℕ) → is_free new number ≡ (is_free old number && not (is_in range number))
  pub count : free_count new + size_of range ≡ free_count old

-- the numbers of the range were not free, and are now
pub record PutsIn (old : List Range) (range : Range) (new : List Range) : Type 0 where
  pub ranges : IsTrue (are_ranges new)
  pub free : (number : ℕ) → is_free new number ≡ (is_in range number || is_free old number)
  pub count : free_count new ≡ free_count old + size_of range

-- what the tests and changes of a range beside the ranges mean for their numbers
pub record AreNumbers (ranges : List Range) (range : Range) : Type 0 where
  pub all : (are_free ranges range ≡ true) ↔ AreFree ranges range
  pub none : (has_free ranges range ≡ false) ↔ AreTaken ranges range
  pub taken_out : are_free ranges range ≡ true → TakesOut ranges range (without ranges range)
  pub put_in : has_free ranges range ≡ false → PutsIn ranges range (union_with_range ranges range)

-- this holds of all ranges that rise and do not touch
abbrev pub RangesAreNumbers : Type 0
RangesAreNumbers = (ranges : List Range) (range : Range) → IsTrue (are_ranges ranges)
    → IsTrue (is_range range) → AreNumbers ranges range

-- if there are ranges, the first number is the least
abbrev pub FirstIsLeast : Type 0
FirstIsLeast = (one : Range) (ranges : List Range) → IsTrue (are_ranges (one ∷ ranges))
    → IsLeastFree (one ∷ ranges) (least (one ∷ ranges))

-- the last ticket from this printer now has this serial, and all else is as before
pub record NotesSerial (old : List Giver) (number serial : ℕ) (new : List Giver) : Type 0 where
  pub givers : IsTrue (are_givers new)
  pub last : (other : ℕ) → last_taken new other ≡ (if number == other then Some serial else last_taken old other)

-- how many numbers the longest of the ranges has
abbrev pub longest : List Range → ℕ
longest [] = 0
longest (one ∷ ranges) = max (size_of one) (longest ranges)

-- the last `count` numbers of the last range that has that many
abbrev pub last_of : List Range → ℕ → Option Range
last_of [] count = None
last_of (one ∷ ranges) count = option_or (last_of ranges count) (if nat_le count (size_of one)
    then Some (record { first = one.last + 1 - count; last = one.last }) else None)

-- a range of `count` free numbers, and no other such range ends later
pub record AreLastFree (ranges : List Range) (count : ℕ) (range : Range) : Type 0 where
  pub is : IsTrue (is_range range)
  pub size : size_of range ≡ count
  pub free : AreFree ranges range
  pub last : (other : Range) → IsTrue (is_range other) → size_of other ≡ count → AreFree ranges other
      → other.last ≤ range.last

-- the longest range of free numbers has this many
pub record IsLongest (ranges : List Range) (most : ℕ) : Type 0 where
  pub bound : (range : Range) → IsTrue (is_range range) → AreFree ranges range → size_of range ≤ most
  pub there : (most ≡ 0) ⊎ ((range : Range) × IsTrue (is_range range) × AreFree ranges range × (size_of range ≡ most))

-- the last `count` are found, if a range has that many
abbrev pub LastIsFound : Type 0
LastIsFound = (ranges : List Range) (count : ℕ) → IsTrue (are_ranges ranges) → 1 ≤ count → IsLongest ranges (longest ranges)
    × MatchOption (last_of ranges count) (longest ranges < count) (AreLastFree ranges count)

-- each giver is noted with its last serial
abbrev pub GiversAreNoted : Type 0
GiversAreNoted = (givers : List Giver) (last : Giver) → IsTrue (are_givers givers)
    → NotesSerial givers last.number last.serial (givers_with givers last)

-- what the content of a store is read as
abbrev pub show_verdict : Option (List ℕ) → Result ShownView OpenFault
show_verdict None = Err Absent
show_verdict (Some bytes) = read_ledger bytes

-- the ledger with which the printer with this number goes on
abbrev pub numbered : ℕ → Result ShownView OpenFault → Result LedgerView OpenFault
numbered number (Err fault) = Err fault
numbered number (Ok shown) = if unwrap_or shown.number number == number
    then Ok (record { number = number; next_serial = shown.next_serial; free = shown.free; givers = shown.givers })
    else Err Number

abbrev pub open_verdict : Option (List ℕ) → ℕ → Result LedgerView OpenFault
open_verdict content number = numbered number (show_verdict content)

-- the store, if it is honest, holds this ledger
abbrev pub HoldsLedger : Saved → LedgerView → Type 0
HoldsLedger saved ledger = IsTrue saved.is_honest → open_verdict saved.content ledger.number ≡ Ok ledger

-- A call that loads answers with the verdict on what an honest store holds, unless the load failed. A load meets a
-- device fault only under an open plan, and lacks memory only if the store's calls may.
pub record LoadsLedger {X : Type 0} (saved : Saved) (verdict result : Result X OpenFault) : Type 0 where
  pub answer : IsTrue saved.is_honest → (result ≡ verdict) ⊎ ((result ≡ Err Device) ⊎ (result ≡ Err Memory))
  pub device : result ≡ Err Device → saved.load_plan ≡ LoadsOpen
  pub memory : result ≡ Err Memory → IsTrue saved.may_lack_memory

-- how the fault of a load, or of a settle, is named
abbrev pub open_fault_of : StoreFault → OpenFault
open_fault_of replacing.Device = Device
open_fault_of replacing.Memory = Memory

-- a printer with this number that runs over the store, or why there is none
abbrev pub PrinterOpens : Saved → ℕ → Result PrinterView OpenFault → Type 0
PrinterOpens saved number (Err fault) = LoadsLedger saved (open_verdict saved.content number) (Err fault)
PrinterOpens saved number (Ok printer) =
    LoadsLedger saved (open_verdict saved.content number) (Ok printer.ledger)
    × (printer ≡ running saved printer.ledger) × (printer.ledger.number ≡ number)

-- a printer's ledger is sound, and unless a save failed its store holds it
pub record PrinterIsInOrder (printer : PrinterView) : Type 0 where
  pub sound : IsTrue (is_sound printer.ledger)
  pub held : printer.is_failed ≡ false → HoldsLedger printer.saved printer.ledger

-- The next ledger was saved, and is the printer's from now on. Or memory was refused, if it may be, and nothing
-- changed. Or the save met a device fault: the ledger stays, and nothing is saved any more.
abbrev pub SavesLedger : {X F : Type 0} → Type 0 → F → F → LedgerView → PrinterView → Result X F → PrinterView → Type 0
SavesLedger may_lack memory save next old (Ok _) new =
    Replaces old.saved (ledger_bytes next) (Ok tt) new.saved
    × (new ≡ record old { saved = new.saved; ledger = next })
SavesLedger may_lack memory save next old (Err fault) new =
    ((fault ≡ memory) × may_lack × (new ≡ old))
    ⊎ ((fault ≡ save) × Replaces old.saved (ledger_bytes next) (Err replacing.Device) new.saved
    × (new ≡ record old { saved = new.saved; is_failed = true }))

-- A printer that failed before says so, and does nothing. One that runs answers a refusal and does nothing, or saves
-- the ledger of the verdict, which is sound. The first three arguments are the faults that each call has, the fourth is
-- when memory may be refused.
pub record CarriesOut {X F : Type 0} (failed_before memory save : F) (may_lack : Type 0) (verdict : Result LedgerView F)
    (old : PrinterView) (result : Result X F) (new : PrinterView) : Type 0 where
  pub in_order : PrinterIsInOrder old
  pub failed : old.is_failed ≡ true → (result ≡ Err failed_before) × (new ≡ old)
  pub refused : old.is_failed ≡ false → (fault : F) → verdict ≡ Err fault → (result ≡ Err fault) × (new ≡ old)
  pub saves : old.is_failed ≡ false → (next : LedgerView) → verdict ≡ Ok next
      → IsTrue (is_sound next) × SavesLedger may_lack memory save next old result new

-- ---- a print of a document that has parts, or has none

abbrev pub print_verdict : LedgerView → Bool → Result LedgerView PrintFault
print_verdict old has_parts =
    if not has_parts then Err printing.TooLong else
    if length old.free == 0 then Err printing.Exhausted else
    Ok (record old { free = without old.free (single (least old.free)) })

-- ---- a range given to a receiver

abbrev pub give_verdict : LedgerView → ℕ → Range → Result LedgerView GiveFault
give_verdict old receiver range =
    if not (is_range range) then Err giving.Range else
    if receiver == old.number then Err giving.Receiver else
    if not (are_free old.free range) then Err giving.NotFree else
    if old.next_serial == 65535 then Err giving.Serials else
    if nat_lt MOST_RANGES (length (without old.free range)) then Err giving.Ranges else
    Ok (record old { next_serial = old.next_serial + 1; free = without old.free range })

-- the ticket of a range that is given
abbrev pub ticket_of : LedgerView → ℕ → Range → TicketView
ticket_of old receiver range =
    record { giver = old.number; serial = old.next_serial; receiver = receiver; range = range }

-- calls of the printer's store may be refused memory
abbrev pub MayLack : PrinterView → Type 0
MayLack printer = IsTrue printer.saved.may_lack_memory

-- what a printer answers when it is to give a range, and what it is afterwards; it takes no memory but the store's
abbrev pub GivesTicket : PrinterView → ℕ → Range → Result TicketView GiveFault → PrinterView → Type 0
GivesTicket old receiver range result new =
    CarriesOut giving.Failed giving.Memory giving.Save (MayLack old) (give_verdict old.ledger receiver range)
    old result new
    × IfOk result (λ ticket. ticket ≡ ticket_of old.ledger receiver range)

-- ---- a ticket taken

-- the giver of a ticket, with its serial
abbrev pub giver_of : TicketView → Giver
giver_of ticket = record { number = ticket.giver; serial = ticket.serial }

abbrev pub take_verdict : LedgerView → TicketView → Result LedgerView TakeFault
take_verdict old ticket =
    if not (ticket.receiver == old.number) || ticket.giver == ticket.receiver then Err taking.Receiver else
    if is_old old.givers ticket.giver ticket.serial then Err taking.Old else
    if has_free old.free ticket.range then Err taking.Overlap else
    if nat_lt MOST_RANGES (length (union_with_range old.free ticket.range)) then Err taking.Ranges else
    if nat_lt MOST_GIVERS (length (givers_with old.givers (giver_of ticket))) then Err taking.Givers else
    Ok (record old {
      free = union_with_range old.free ticket.range;
      givers = givers_with old.givers (giver_of ticket);
    })

-- what a printer answers when it is to take a ticket, and what it is afterwards; it takes no memory but the store's
abbrev pub TakesTicket : PrinterView → TicketView → Result (Unit {0}) TakeFault → PrinterView → Type 0
TakesTicket old ticket result new =
    CarriesOut taking.Failed taking.Memory taking.Save (MayLack old) (take_verdict old.ledger ticket) old result new

-- ---- what ledgers and tickets show of one another

-- a ticket shows that its giver gave it and, if it is open, which numbers are free
abbrev pub shown_of_ticket : TicketView → Bool → ShownView
shown_of_ticket ticket is_open = record {
  number = None;
  next_serial = 0;
  free = if is_open then ticket.range ∷ [] else [];
  givers = giver_of ticket ∷ [];
}

-- what shows nothing
abbrev pub shown_of_none : ShownView
shown_of_none = record { number = None; next_serial = 0; free = []; givers = [] }

-- the ledger is that of the printer with this number
abbrev pub is_of : ShownView → ℕ → Bool
is_of shown number = option_map_or (λ own. own == number) shown.number false

-- the ledger is that of the ticket's receiver, which has not taken it
abbrev pub lacks_ticket : ShownView → TicketView → Bool
lacks_ticket shown ticket = is_of shown ticket.receiver && not (is_old shown.givers ticket.giver ticket.serial)

-- both are ledgers of one printer
abbrev pub are_of_one : ShownView → ShownView → Bool
are_of_one one other = option_map_or (is_of other) one.number false

-- both show some number as free
abbrev pub share_numbers : ShownView → ShownView → Bool
share_numbers one other = list_any (has_free other.free) one.free

-- both show some ticket
abbrev pub share_ticket : ShownView → ShownView → Bool
share_ticket one other = list_any (λ last. list_any (λ its. (last.number == its.number) && (last.serial == its.serial))
    other.givers) one.givers

-- the other shows a ticket from its printer that it has not given yet
abbrev pub lacks_gift : ShownView → ShownView → Bool
lacks_gift one other = list_any (λ last. is_of one last.number && nat_le one.next_serial last.serial) other.givers

-- the other is a ledger of the same printer that has given more, or taken more
abbrev pub is_older : ShownView → ShownView → Bool
is_older one other = are_of_one one other && (nat_lt one.next_serial other.next_serial
    || list_any (λ last. not (is_old one.givers last.number last.serial)) other.givers)

abbrev pub is_behind : ShownView → ShownView → Bool
is_behind one other = lacks_gift one other || is_older one other

-- What two ledgers of a sound site show, or a ledger and a ticket, or two tickets: they are not of one printer, no
-- number is free in both, and the next serial of each is after those of its tickets that the other shows.
pub record AreBeside (one other : ShownView) : Type 0 where
  pub numbers : (number : ℕ) → one.number ≡ Some number → other.number ≢ Some number
  pub apart : (number : ℕ) → is_free one.free number ≡ true → is_free other.free number ≡ false
  pub ahead : (last : Giver) → Contains other.givers last → one.number ≡ Some last.number → last.serial < one.next_serial
  pub other_ahead : (last : Giver) → Contains one.givers last → other.number ≡ Some last.number
      → last.serial < other.next_serial

-- none of the tests finds anything
pub record IsSilent (one other : ShownView) : Type 0 where
  pub numbers : are_of_one one other ≡ false
  pub apart : share_numbers one other ≡ false
  pub ahead : is_behind one other ≡ false
  pub other_ahead : is_behind other one ≡ false

-- The tests find nothing exactly if the two are beside one another, and a shared ticket exactly if both show it.
abbrev pub SilenceIsExact : Type 0
SilenceIsExact = (one other : ShownView) → IsTrue (are_ranges one.free) → IsTrue (are_ranges other.free)
    → (IsSilent one other ↔ AreBeside one other)
    × ((share_ticket one other ≡ true) ↔ ((last : Giver) × Contains one.givers last × Contains other.givers last))

-- ---- jobs

-- the grid is the label of a page, of this size and in this encodation
pub record IsLabelOf (size : Size) (scheme : Scheme) (page : PageView) (grid : GridView) : Type 0 where
  pub size_is : grid.size ≡ size
  pub sealed : Seals size scheme page grid
  pub carries : label.Carries page grid

-- the grids are, in order, the labels of these parts: of pages m, m + 1 and so on of n
abbrev pub AreLabels : Size → Scheme → ℕ → ℕ → ℕ → List (List ℕ) → List GridView → Type 0
AreLabels size scheme id n m [] [] = Unit {0}
AreLabels size scheme id n m (part ∷ parts) (grid ∷ grids) =
    IsLabelOf size scheme (record { id = id; m = m; n = n; bytes = part }) grid
    × AreLabels size scheme id n (m + 1) parts grids
AreLabels size scheme id n m [] (grid ∷ grids) = ⊥
AreLabels size scheme id n m (part ∷ parts) [] = ⊥

-- a job under this ID with the label of each part, of which none was taken yet
pub record IsJobOf (size : Size) (scheme : Scheme) (id : ℕ) (parts : List (List ℕ)) (job : JobView) : Type 0 where
  pub id_is : job.id ≡ id
  pub count_is : job.count ≡ length parts
  pub least : 2 ≤ length parts
  pub most : length parts ≤ 16
  pub labels : AreLabels size scheme id (length parts) 1 parts job.labels

-- ---- print

-- the parts of the document end there, or it has none
abbrev pub IsCutting : Size → Scheme → List ℕ → Option (List ℕ) → Type 0
IsCutting size scheme document None = HasNoEnds size scheme document
IsCutting size scheme document (Some ends) = AreEnds size scheme document ends

-- the document has this many labels
abbrev pub HasLabels : Size → Scheme → List ℕ → ℕ → Type 0
HasLabels size scheme document count = (ends : List ℕ) × AreEnds size scheme document ends × (count ≡ length ends)

-- the job of a document whose parts end there, under the least free number
abbrev pub IsMade : LedgerView → Size → Scheme → List ℕ → Option (List ℕ) → JobView → Type 0
IsMade ledger size scheme document cutting job = IsSomeAnd cutting (λ ends.
    IsJobOf size scheme (least ledger.free) (parts_from document 0 ends) job)

-- What a printer answers to a document, and what it is afterwards. The job takes memory, and is made before the save.
pub record Prints (old : PrinterView) (size : Size) (scheme : Scheme) (document : List ℕ)
    (result : Result JobView PrintFault) (new : PrinterView) : Type 0 where
  pub cutting : Option (List ℕ)
  pub is_cutting : old.is_failed ≡ false → IsCutting size scheme document cutting
  pub carries : CarriesOut printing.Failed printing.Memory printing.Save (Unit {0})
      (print_verdict old.ledger (is_some cutting)) old result new
  pub made : IfOk result (IsMade old.ledger size scheme document cutting)
  pub lost : result ≡ Err printing.Save → (job : JobView) × IsMade old.ledger size scheme document cutting job

-- the names of the faults of printers, as they are printed
abbrev pub create_fault_name : CreateFault → List ℕ
create_fault_name creating.Exists = codes "Exists"
create_fault_name creating.Range = codes "Range"
create_fault_name creating.Device = codes "Device"
create_fault_name creating.Memory = codes "Memory"

abbrev pub open_fault_name : OpenFault → List ℕ
open_fault_name open_faults.Absent = codes "Absent"
open_fault_name open_faults.NotALedger = codes "NotALedger"
open_fault_name open_faults.Version = codes "Version"
open_fault_name open_faults.Damaged = codes "Damaged"
open_fault_name open_faults.Device = codes "Device"
open_fault_name open_faults.Memory = codes "Memory"
open_fault_name open_faults.Number = codes "Number"

abbrev pub print_fault_name : PrintFault → List ℕ
print_fault_name printing.Failed = codes "Failed"
print_fault_name printing.TooLong = codes "TooLong"
print_fault_name printing.Exhausted = codes "Exhausted"
print_fault_name printing.Memory = codes "Memory"
print_fault_name printing.Save = codes "Save"

abbrev pub give_fault_name : GiveFault → List ℕ
give_fault_name giving.Failed = codes "Failed"
give_fault_name giving.Range = codes "Range"
give_fault_name giving.Receiver = codes "Receiver"
give_fault_name giving.NotFree = codes "NotFree"
give_fault_name giving.Serials = codes "Serials"
give_fault_name giving.Ranges = codes "Ranges"
give_fault_name giving.Memory = codes "Memory"
give_fault_name giving.Save = codes "Save"

abbrev pub take_fault_name : TakeFault → List ℕ
take_fault_name taking.Failed = codes "Failed"
take_fault_name taking.Receiver = codes "Receiver"
take_fault_name taking.Old = codes "Old"
take_fault_name taking.Overlap = codes "Overlap"
take_fault_name taking.Ranges = codes "Ranges"
take_fault_name taking.Givers = codes "Givers"
take_fault_name taking.Memory = codes "Memory"
take_fault_name taking.Save = codes "Save"
