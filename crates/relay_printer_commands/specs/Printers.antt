-- What the commands of printers do to ledgers and streams, and the lines that they write, which are this project's own.
use Rattle.std.specs.Prelude.{ℕ, List, [], ◌∷◌, ◌++◌, codes, zero, suc, Option, Some, None, take, drop, ◌≡◌, ◌⊎◌, ◌<◌, ◌+◌, ◌*◌, ◌/◌, Ok, length, map, slice_index, Result, Err, ◌↔◌, ◌≤◌, ◌≢◌, true, false, Bool, ◌&&◌, ◌||◌, ◌==◌, not, nat_eq, if◌then◌else◌, slice_get, IfSome, MatchOption}
use Rattle.std.specs.{Fmt.decimal, Option.option_map_or, Cmp.Lexicographic.pointwise, Io.KnownBytes.Appends, Str.Lines.lines}
use Rattle.std.specs.List.{flat_map, All, range_with_len, AllPairs, Contains, list_any, AllByRecursion, filter}
use Rattle.hex.specs.Hex.{encode_lower, decode_sized}
use Rattle.dm_print_ledger.specs.Ledger.{ticket_bytes, TicketView, free_count, ShownView, AreOfTicket, PrinterView, JobView, read_ledger}
use Rattle.relay_shared.specs.Lines.{id_text}
use Rattle.dm_gf256.specs.Field.{IsSoundBlock}
use Rattle.relay_shared.specs.Command.{FileView, GivesNothing, refusal_name, RefusesOnOutput, StreamsView, TellsOnOutput, OnlyOutput, TellsAnswer, HasInputFault, ReadsDocument, ReadsNothing, RefusesOnErrors, TellsRefusal, Tells, PutsText}
use Rattle.relay_shared.specs.declared.command.Refusal.{Refusal, TheVariants.Ticket, TheVariants.Memory, TheVariants.Output, TheVariants.Side, TheVariants.TooMany}
use Rattle.dm_store.specs.Saved.{Saved}
use Rattle.dm_print_ledger.specs.Verdicts.{Creates, create_fault_name, open_fault_name, give_fault_name, take_fault_name, PrinterOpens, GivesTicket, TakesTicket, LoadsLedger, show_verdict, print_fault_name, Prints, HasLabels, AreBeside, AreLastFree, IsLongest, are_of_one, is_behind, is_of, lacks_ticket, share_numbers, share_ticket, shown_of_none, shown_of_ticket}
use Rattle.dm_print_ledger.specs.declared.{fault.CreateFault.CreateFault, fault.GiveFault.GiveFault, fault.GiveFault.TheVariants.NotFree, fault.OpenFault.OpenFault, fault.PrintFault.PrintFault, fault.PrintFault.TheVariants.TooLong, fault.TakeFault.TakeFault, fault.TakeFault.TheVariants.Old, giver.Giver.Giver, range.Range.Range}
use Rattle.dm_size.specs.{declared.size.Size.Size, Sizes.IsSide, Sizes.side}
use Rattle.dm_encodation.specs.declared.scheme.Scheme.{Scheme}
use Rattle.dm_finder_frame.specs.Frame.{GridView}
use Rattle.dm_pbm_io.specs.Image.{p4}
use Rattle.relay_command.specs.declared.command.Labels.{Labels, TheVariants.OfSide, TheVariants.AtMost}
use Rattle.relay_streams.specs.{Streams.input_fault_name, Streams.AppendsPart, Streams.InputView, Streams.OutputView, Streams.ReadsFirst, Streams.refused_line, declared.fault.InputFault.InputFault, declared.fault.WriteFault.WriteFault}
use Rattle.relay_printer_commands.specs.declared.{audit.TheConstants.LEDGER_BYTES, audit.TheConstants.TICKETS_BYTES, lines.PlannedSide.PlannedSide}

-- ---- lines

-- `left` and how many IDs are free
abbrev pub left_line : ℕ → List ℕ
left_line left = codes "left " ++ (decimal left ++ 10 ∷ [])

-- `printed`, the two codewords of the ID in hexadecimal, the number of labels, and how many are left
abbrev pub printed_line : ℕ → ℕ → ℕ → List ℕ
printed_line id count left = codes "printed " ++ (id_text id ++ (32 ∷ (decimal count ++ (32 ∷ left_line left))))

-- `ticket` and its ten bytes in hexadecimal
abbrev pub ticket_line : TicketView → List ℕ
ticket_line ticket = codes "ticket " ++ (encode_lower (ticket_bytes ticket) ++ 10 ∷ [])

-- `taken`, and how many are left
abbrev pub taken_line : ℕ → List ℕ
taken_line left = codes "taken " ++ left_line left

-- `printer` and its number, or a hyphen for none
abbrev pub number_line : Option ℕ → List ℕ
number_line None = codes "printer -\n"
number_line (Some number) = codes "printer " ++ (decimal number ++ 10 ∷ [])

-- `free`, the first and the last number in decimal, and as IDs
abbrev pub free_line : Range → List ℕ
free_line range = codes "free " ++ (decimal range.first ++ (32 ∷ (decimal range.last ++
    (32 ∷ (id_text range.first ++ (32 ∷ (id_text range.last ++ 10 ∷ [])))))))

-- `given` and how many tickets were given
abbrev pub given_line : ℕ → List ℕ
given_line given = codes "given " ++ (decimal given ++ 10 ∷ [])

-- `took`, a giver and the serial of its last ticket
abbrev pub took_line : Giver → List ℕ
took_line giver = codes "took " ++ (decimal giver.number ++ (32 ∷ (decimal giver.serial ++ 10 ∷ [])))

-- the printer, how many IDs are free and which, how many tickets it gave, and the last ticket taken from each giver
abbrev pub shown_lines : ShownView → List ℕ
shown_lines shown = number_line shown.number ++ (left_line (free_count shown.free) ++ (flat_map free_line shown.free ++
    (given_line shown.next_serial ++ flat_map took_line shown.givers)))

-- `side` and its modules, `labels` and how many there are
abbrev pub side_line : PlannedSide → List ℕ
side_line planned = codes "side " ++ (decimal planned.side ++ (codes " labels " ++ (decimal planned.count ++ 10 ∷ [])))

-- `from` the printer that gave the ticket, `to` the receiver, `serial`, and the first and the last number
abbrev pub from_line : TicketView → List ℕ
from_line ticket = codes "from " ++ (decimal ticket.giver ++ (codes " to " ++ (decimal ticket.receiver ++
    (codes " serial " ++ (decimal ticket.serial ++ (codes " first " ++ (decimal ticket.range.first ++
    (codes " last " ++ (decimal ticket.range.last ++ 10 ∷ [])))))))))

-- digits, of which this many groups of four are split off; hyphens join the groups and what is left
unfoldable pub grouped : ℕ → List ℕ → List ℕ
grouped zero digits = digits
grouped (suc more) digits = take 4 digits ++ 45 ∷ grouped more (drop 4 digits)

-- twelve bytes in lower-case hexadecimal, in six groups
abbrev pub check_text : List ℕ → List ℕ
check_text bytes = grouped 5 (encode_lower bytes)

-- `check` and the twelve bytes
abbrev pub check_line : List ℕ → List ℕ
check_line bytes = codes "check " ++ (check_text bytes ++ 10 ∷ [])

-- ---- ticket: its text, in this project's two forms, and what `ticket` says of one

-- twelve bytes: these ten and their two error correction codewords
pub record IsChecked (bytes whole : List ℕ) : Type 0 where
  pub count : length whole ≡ 12
  pub words : All (λ word. word < 256) whole
  pub begins : take 10 whole ≡ bytes
  pub block_word : IsSoundBlock 2 whole

-- the text is the twenty digits of these ten bytes
abbrev pub IsBareText : List ℕ → List ℕ → Type 0
IsBareText text bytes = decode_sized text 10 ≡ Ok bytes

-- the 24 digits of a text in groups of four, without what separates the groups
unfoldable pub digits_in_groups : List ℕ → List ℕ
digits_in_groups text = map (λ k. slice_index text (k + k / 4)) (range_with_len 0 24)

-- the text is the 24 digits of these twelve bytes, in groups of four joined by hyphens
pub record IsGroupedText (text whole : List ℕ) : Type 0 where
  pub size : length text ≡ 29
  pub hyphens : (j : ℕ) → j < 5 → slice_index text (5 * j + 4) ≡ 45
  pub decoded : decode_sized (digits_in_groups text) 12 ≡ Ok whole

-- the check form: the text spells these ten bytes and their two error correction codewords in groups
pub record IsCheckText (text bytes : List ℕ) : Type 0 where
  pub whole : List ℕ
  pub in_groups : IsGroupedText text whole
  pub checked : IsChecked bytes whole

-- the text is one of the two forms of these ten bytes
abbrev pub SpellsTicket : List ℕ → List ℕ → Type 0
SpellsTicket text bytes = IsBareText text bytes ⊎ IsCheckText text bytes

-- the text is one of the two forms of this ticket
abbrev pub IsTextOf : List ℕ → TicketView → Type 0
IsTextOf text ticket = SpellsTicket text (ticket_bytes ticket)

-- the text is one of the two forms of a ticket
abbrev pub HasTicket : List ℕ → Type 0
HasTicket text = (bytes : List ℕ) × SpellsTicket text bytes × AreOfTicket bytes

-- how `ticket` ends: it wrote the two lines of the ticket that the text spells, or the text spells none
pub data EndsTicket (text : List ℕ) (old : StreamsView) (status : ℕ) (new : StreamsView) : Type 0 where
  shown : (ticket : TicketView) (whole : List ℕ) → HasTicket text → IsTextOf text ticket
      → IsChecked (ticket_bytes ticket) whole → TellsOnOutput (from_line ticket ++ check_line whole) old status new
      → EndsTicket text old status new
  no_ticket : ¬ HasTicket text → RefusesOnOutput (refusal_name Ticket) old status new → EndsTicket text old status new

-- ---- ledger, give, take and left: what they do to the store of a ledger and to the streams

-- the store of a printer's ledger, and the streams
pub record OnLedger : Type 0 where
  pub saved : Saved
  pub streams : StreamsView

abbrev pub ledger_at : Saved → StreamsView → OnLedger
ledger_at saved streams = record { saved = saved; streams = streams }

-- how `ledger` ends: a printer was created, and the output says how many IDs are free; or it says why none was
pub data EndsLedger (number : ℕ) (range : Range) (old : OnLedger) (status : ℕ) (new : OnLedger) : Type 0 where
  created : (printer : PrinterView) → Creates old.saved number range (Ok printer) new.saved
      → TellsOnOutput (left_line (free_count printer.ledger.free)) old.streams status new.streams
      → EndsLedger number range old status new
  refused : (fault : CreateFault) → Creates old.saved number range (Err fault) new.saved
      → RefusesOnOutput (create_fault_name fault) old.streams status new.streams
      → EndsLedger number range old status new

-- how `give` ends: the printer was opened, and the output has its answer; or the output says why it was not opened
pub data EndsGive (number to : ℕ) (range : Range) (old : OnLedger) (status : ℕ) (new : OnLedger) : Type 0 where
  opened : (before after : PrinterView) (answer : Result TicketView GiveFault) →
      PrinterOpens old.saved number (Ok before) → GivesTicket before to range answer after → new.saved ≡ after.saved
      → TellsAnswer ticket_line give_fault_name answer old.streams.output status new.streams.output
      → OnlyOutput old.streams new.streams → EndsGive number to range old status new
  not_opened : (fault : OpenFault) → PrinterOpens old.saved number (Err fault) → new.saved ≡ old.saved
      → RefusesOnOutput (open_fault_name fault) old.streams status new.streams
      → EndsGive number to range old status new

-- how many IDs the longest free range has
abbrev pub longest_note : ℕ → List ℕ
longest_note most = codes "relay: the longest range that is free has " ++ (decimal most ++ 10 ∷ [])

-- How `give` ends if it is to give the last `count` IDs: the printer was opened and answered for these; or no range is
-- that long, as the output and the standard error say; or the output says why it was not opened.
pub data EndsGiveLast (number to count : ℕ) (old : OnLedger) (status : ℕ) (new : OnLedger) : Type 0 where
  gave : (range : Range) (before after : PrinterView) (answer : Result TicketView GiveFault)
      → AreLastFree before.ledger.free count range → PrinterOpens old.saved number (Ok before)
      → GivesTicket before to range answer after → new.saved ≡ after.saved
      → TellsAnswer ticket_line give_fault_name answer old.streams.output status new.streams.output
      → OnlyOutput old.streams new.streams → EndsGiveLast number to count old status new
  too_few : (before : PrinterView) (most : ℕ) (put : Result (Unit {0}) WriteFault) →
      PrinterOpens old.saved number (Ok before)
      → IsLongest before.ledger.free most → (1 ≤ count → most < count) → new.saved ≡ old.saved
      → TellsRefusal (give_fault_name NotFree) old.streams.output status new.streams.output
      → PutsText (longest_note most) old.streams.errors put new.streams.errors → ReadsNothing old.streams new.streams
      → EndsGiveLast number to count old status new
  unopened : (fault : OpenFault) → PrinterOpens old.saved number (Err fault) → new.saved ≡ old.saved
      → RefusesOnOutput (open_fault_name fault) old.streams status new.streams
      → EndsGiveLast number to count old status new

-- how `take` ends: the text spells no ticket; or the printer was opened and has answered; or it was not opened
pub data EndsTake (number : ℕ) (text : List ℕ) (old : OnLedger) (status : ℕ) (new : OnLedger) : Type 0 where
  no_ticket : ¬ HasTicket text → new.saved ≡ old.saved
      → RefusesOnOutput (refusal_name Ticket) old.streams status new.streams → EndsTake number text old status new
  opened : (ticket : TicketView) (before after : PrinterView) (answer : Result (Unit {0}) TakeFault) → HasTicket text
      → IsTextOf text ticket → PrinterOpens old.saved number (Ok before) → TakesTicket before ticket answer after
      → new.saved ≡ after.saved
      → TellsAnswer (λ _. taken_line (free_count after.ledger.free)) take_fault_name answer old.streams.output status
      new.streams.output → OnlyOutput old.streams new.streams → EndsTake number text old status new
  not_opened : (fault : OpenFault) → HasTicket text → PrinterOpens old.saved number (Err fault) → new.saved ≡ old.saved
      → RefusesOnOutput (open_fault_name fault) old.streams status new.streams → EndsTake number text old status new

-- `take` tells something else than that the ticket was taken before
abbrev pub IsNotToldOld : StreamsView → ℕ → StreamsView → Type 0
IsNotToldOld old status new = RefusesOnOutput (refusal_name Ticket) old status new
    ⊎ ((fault : OpenFault) × RefusesOnOutput (open_fault_name fault) old status new)
    ⊎ ((answer : Result (Unit {0}) TakeFault) × (answer ≢ Err Old) × (left : ℕ)
    × TellsAnswer (λ _. taken_line left) take_fault_name answer old.output status new.output)

-- how `left` ends, with the store as it was: it wrote what an honest store holds, or why it can't be shown
pub data EndsLeft (old : OnLedger) (status : ℕ) (new : OnLedger) : Type 0 where
  shown : (shown : ShownView) → LoadsLedger old.saved (show_verdict old.saved.content) (Ok shown)
      → new.saved ≡ old.saved → TellsOnOutput (shown_lines shown) old.streams status new.streams
      → EndsLeft old status new
  refused : (fault : OpenFault) → LoadsLedger old.saved (show_verdict old.saved.content) (Err fault)
      → new.saved ≡ old.saved
      → RefusesOnOutput (open_fault_name fault) old.streams status new.streams → EndsLeft old status new

-- ---- print and plan: what `print` does to the store of a ledger and to the streams, in the smallest size that suits; and
-- what `plan` writes: each side that the document fits on, and how many labels it needs

-- the images of labels, one after another
abbrev pub images_of : List GridView → List ℕ
images_of grids = flat_map p4 grids

-- Which images of labels went out when one was lost. If memory was refused for it, those before it; if a write failed,
-- a first part of them all.
pub data LosesImages (labels : List GridView) (old new : OutputView) : Refusal → Type 0 where
  memory : (done : List GridView) (next : GridView) (rest : List GridView) → labels ≡ done ++ next ∷ rest
      → Appends old.contents new.contents (images_of done) → LosesImages labels old new Memory
  write : (fault : WriteFault) → new.has_failed ≡ true → AppendsPart old.contents new.contents (images_of labels)
      → LosesImages labels old new (Output fault)

-- How the labels of a job go out: first the line, on the standard error, then the images, on the output. If the line
-- can't be written, no byte of an image goes out. If an image is lost, the line of the refusal follows.
pub data PrintsLabels (labels : List GridView) (line : List ℕ) (old : StreamsView) (status : ℕ) (new : StreamsView)
    : Type 0 where
  no_line : new.errors.has_failed ≡ true → AppendsPart old.errors.contents new.errors.contents line
      → new.output ≡ old.output → status ≡ 1 → PrintsLabels labels line old status new
  all : Appends old.errors.contents new.errors.contents line
      → Appends old.output.contents new.output.contents (images_of labels) → status ≡ 0
      → PrintsLabels labels line old status new
  lost : (errors : OutputView) (refusal : Refusal) → Appends old.errors.contents errors.contents line
      → LosesImages labels old.output new.output refusal → TellsRefusal (refusal_name refusal) errors status new.errors
      → PrintsLabels labels line old status new

-- how a printer's answer goes out when it has this many free IDs left: the labels of the job, or the line of a refusal
abbrev pub TellsPrint : Result JobView PrintFault → ℕ → StreamsView → ℕ → StreamsView → Type 0
TellsPrint (Ok job) left old status new =
    PrintsLabels job.labels (printed_line job.id job.count left) old status new × ReadsNothing old new
TellsPrint (Err fault) left old status new = RefusesOnErrors (print_fault_name fault) old status new

-- if a side is asked for, some size has it
abbrev pub HasSide : Labels → Type 0
HasSide (OfSide n) = IsSide n
HasSide (AtMost most) = Unit {0}

-- the size has the side that is asked for; or the document needs no more labels of it than are asked for
abbrev pub Suits : Labels → Scheme → List ℕ → Size → Type 0
Suits (OfSide n) scheme document size = side size ≡ n
Suits (AtMost most) scheme document size = (count : ℕ) × HasLabels size scheme document count × (count ≤ most)

-- the smallest size that suits a document
pub record IsChosen (labels : Labels) (scheme : Scheme) (document : List ℕ) (size : Size) : Type 0 where
  pub suits : Suits labels scheme document size
  pub smallest : (smaller : Size) → side smaller < side size → ¬ Suits labels scheme document smaller

-- What becomes of a document that was read: the printer was opened and answered, or the standard error says why not.
pub data PrintsDocument (number : ℕ) (size : Size) (scheme : Scheme) (document : List ℕ) (old : OnLedger) (status : ℕ)
    (new : OnLedger) : Type 0 where
  opened : (before after : PrinterView) (answer : Result JobView PrintFault) → PrinterOpens old.saved number (Ok before)
      → Prints before size scheme document answer after → new.saved ≡ after.saved
      → TellsPrint answer (free_count after.ledger.free) old.streams status new.streams
      → PrintsDocument number size scheme document old status new
  not_opened : (fault : OpenFault) → PrinterOpens old.saved number (Err fault) → new.saved ≡ old.saved
      → RefusesOnErrors (open_fault_name fault) old.streams status new.streams
      → PrintsDocument number size scheme document old status new

-- How `print` ends, where `rest` is the input after it was read. A document was read, for which the smallest size that
-- suits is taken; or, in this order, no size has the side that is asked for, the input could not be read, or no size
-- suits.
pub data EndsPrint (number : ℕ) (labels : Labels) (scheme : Scheme) (old : OnLedger) (status : ℕ) (new : OnLedger)
    : Type 0 where
  no_side : ¬ HasSide labels → new.saved ≡ old.saved
      → RefusesOnErrors (refusal_name Side) old.streams status new.streams
      → EndsPrint number labels scheme old status new
  not_read : (fault : InputFault) (rest : InputView) → HasSide labels → HasInputFault old.streams.input rest fault
      → new.saved ≡ old.saved
      → RefusesOnErrors (input_fault_name fault) (record old.streams { input = rest }) status new.streams
      → EndsPrint number labels scheme old status new
  too_long : (document : List ℕ) (rest : InputView) → HasSide labels → ReadsDocument old.streams.input rest document
      → ((size : Size) → ¬ Suits labels scheme document size) → new.saved ≡ old.saved
      → RefusesOnErrors (print_fault_name TooLong) (record old.streams { input = rest }) status new.streams
      → EndsPrint number labels scheme old status new
  read : (size : Size) (document : List ℕ) (rest : InputView) → ReadsDocument old.streams.input rest document
      → IsChosen labels scheme document size
      → PrintsDocument number size scheme document (record old { streams = record old.streams { input = rest } }) status
      new → EndsPrint number labels scheme old status new

-- the document needs this many labels of this side
abbrev pub IsPlanned : Scheme → List ℕ → PlannedSide → Type 0
IsPlanned scheme document planned =
    (size : Size) × (side size ≡ planned.side) × HasLabels size scheme document planned.count

-- just the sides that the document fits on, the smallest first
pub record IsPlan (scheme : Scheme) (document : List ℕ) (plan : List PlannedSide) : Type 0 where
  pub names : (planned : PlannedSide) → Contains plan planned ↔ IsPlanned scheme document planned
  pub rising : AllPairs (λ before after. before.side < after.side) plan

-- How `plan` ends, where `rest` is the input after it was read: the lines of the document's plan were written; or there
-- are none, since it fits on no side; or the input could not be read.
pub data EndsPlan (scheme : Scheme) (old : StreamsView) (status : ℕ) (new : StreamsView) : Type 0 where
  planned : (document : List ℕ) (rest : InputView) (plan : List PlannedSide) → ReadsDocument old.input rest document
      → IsPlan scheme document plan → plan ≢ []
      → TellsOnOutput (flat_map side_line plan) (record old { input = rest }) status new
      → EndsPlan scheme old status new
  too_long : (document : List ℕ) (rest : InputView) → ReadsDocument old.input rest document
      → ((size : Size) (count : ℕ) → ¬ HasLabels size scheme document count)
      → RefusesOnOutput (print_fault_name TooLong) (record old { input = rest }) status new
      → EndsPlan scheme old status new
  not_read : (fault : InputFault) (rest : InputView) → HasInputFault old.input rest fault
      → RefusesOnOutput (input_fault_name fault) (record old { input = rest }) status new
      → EndsPlan scheme old status new

-- ---- audit: what it gathers from ledgers and tickets, and the lines that say which rules of printers they break

-- What a ledger or ticket shows, its place among the files or lines, from 1, and the ticket; or the line of its fault.
pub record EvidenceView : Type 0 where
  pub place : ℕ
  pub fault : List ℕ
  pub ticket : Option TicketView
  pub shown : ShownView

-- what shows nothing, for a fault of this name
abbrev pub shows_none : List ℕ → ℕ → List ℕ → EvidenceView
shows_none list place name =
    let line = list ++ (32 ∷ (decimal place ++ (32 ∷ (name ++ 10 ∷ [])))) in
    record { place = place; fault = line; ticket = None; shown = shown_of_none }

-- a file shows what its first bytes say of a ledger, or it is refused
pub data ShowsFile (place : ℕ) (file : FileView) : EvidenceView → Type 0 where
  read : (bytes : List ℕ) (shown : ShownView) → IfSome file.remaining (λ all. bytes ≡ take LEDGER_BYTES all)
      → read_ledger bytes ≡ Ok shown → ShowsFile place file (record { place = place; fault = []; ticket = None; shown = shown })
  refused : (bytes : List ℕ) (fault : OpenFault) → IfSome file.remaining (λ all. bytes ≡ take LEDGER_BYTES all)
      → read_ledger bytes ≡ Err fault → ShowsFile place file (shows_none (codes "file") place (open_fault_name fault))
  not_read : (fault : InputFault) → GivesNothing file fault
      → ShowsFile place file (shows_none (codes "file") place (input_fault_name fault))

-- a line shows its ticket, which is open if the ledger of its receiver came before and has not taken it
pub data ShowsLine (before : List EvidenceView) (place : ℕ) (line : List ℕ) : EvidenceView → Type 0 where
  ticket : (ticket : TicketView) → HasTicket line → IsTextOf line ticket
      → ShowsLine before place line (record {
        place = place;
        fault = [];
        ticket = Some ticket;
        shown = shown_of_ticket ticket (list_any (λ one. lacks_ticket one.shown ticket) before);
      })
  refused : ¬ HasTicket line → ShowsLine before place line (shows_none (codes "line") place (refusal_name Ticket))

-- those without a fault
abbrev pub kept : List EvidenceView → List EvidenceView
kept evidence = filter (λ one. length one.fault == 0) evidence

-- what the first n files show, and then what those of the first k lines show that are not empty
pub data Gathers (files : List FileView) (lines : List (List ℕ)) : ℕ → ℕ → List EvidenceView → Type 0 where
  begun : Gathers files lines 0 0 []
  file : {n : ℕ} {before : List EvidenceView} {one : EvidenceView} (file : FileView) → Gathers files lines n 0 before
      → slice_get files n ≡ Some file → ShowsFile (n + 1) file one → Gathers files lines (n + 1) 0 (before ++ one ∷ [])
  line : {k : ℕ} {before : List EvidenceView} {one : EvidenceView} (line : List ℕ) → Gathers files lines (length files) k before
      → slice_get lines k ≡ Some line → length line ≢ 0 → ShowsLine (kept before) (k + 1) line one
      → Gathers files lines (length files) (k + 1) (before ++ one ∷ [])
  empty : {k : ℕ} {before : List EvidenceView} (line : List ℕ) → Gathers files lines (length files) k before
      → slice_get lines k ≡ Some line → length line ≡ 0 → Gathers files lines (length files) (k + 1) before

-- they are the same ticket
abbrev pub are_same : EvidenceView → EvidenceView → Bool
are_same one other = option_map_or (λ ticket. option_map_or (λ its. pointwise nat_eq (ticket_bytes ticket) (ticket_bytes its))
    other.ticket false) one.ticket false

-- the other is a ticket, and the first is the ledger of its receiver
abbrev pub is_receiver : EvidenceView → EvidenceView → Bool
is_receiver one other = option_map_or (λ ticket. is_of one.shown ticket.receiver) other.ticket false

-- both show one ticket, and neither is the ledger of the other's receiver
abbrev pub is_again : EvidenceView → EvidenceView → Bool
is_again one other = share_ticket one.shown other.shown && not (is_receiver one other || is_receiver other one)

-- `ledger`, its place, and the number of its printer, or a hyphen if it has none; or `ticket` and its place
abbrev pub evidence_name : EvidenceView → List ℕ
evidence_name one = option_map_or (λ _. codes "ticket " ++ decimal one.place)
    one.ticket (codes "ledger " ++ (decimal one.place ++ (codes " of " ++ option_map_or decimal one.shown.number (codes "-"))))

-- the line of what is wrong between two, if it is
abbrev pub breach_line : Bool → List ℕ → EvidenceView → EvidenceView → List ℕ
breach_line is kind one other = if is then kind ++ (32 ∷ (evidence_name one ++ (32 ∷ (evidence_name other ++ 10 ∷ [])))) else []

abbrev pub breach_lines : EvidenceView → EvidenceView → List ℕ
breach_lines one other = if are_same one other then [] else
    breach_line (are_of_one one.shown other.shown) (codes "number") one other
    ++ breach_line (share_numbers one.shown other.shown) (codes "free") one other
    ++ breach_line (is_again one other) (codes "again") one other
    ++ breach_line (is_behind one.shown other.shown) (codes "behind") one other
    ++ breach_line (is_behind other.shown one.shown) (codes "behind") other one

-- what is wrong between each and each later one
abbrev pub pair_lines : List EvidenceView → List ℕ
pair_lines [] = []
pair_lines (one ∷ later) = flat_map (breach_lines one) later ++ pair_lines later

-- all faults; and then what is wrong between two
abbrev pub audit_lines : List EvidenceView → List ℕ
audit_lines evidence = flat_map (λ one. one.fault) evidence ++ pair_lines (kept evidence)

-- What `audit` says: all lines; or, if memory was refused for something sound, all faults, and then `Memory`.
pub data AuditSays (files : List FileView) (lines : List (List ℕ)) : List ℕ → Type 0 where
  all : (evidence : List EvidenceView) → Gathers files lines (length files) (length lines) evidence
      → AuditSays files lines (audit_lines evidence)
  no_memory : (evidence : List EvidenceView) → Gathers files lines (length files) (length lines) evidence → kept evidence ≢ []
      → AuditSays files lines (flat_map (λ one. one.fault) evidence ++ refused_line (refusal_name Memory))

-- The lines were written, and whether there are any; or the output failed with a part of them out, and takes no more.
abbrev pub TellsLines : List ℕ → OutputView → Bool → OutputView → Type 0
TellsLines text old some new = (some ≡ not (length text == 0)) × Tells text 1 old 1 new × (old.has_failed ≡ true → new ≡ old)

-- The first n files and k lines were gathered, and their faults written. What has none is kept, or some of it was lost.
abbrev pub HasGathered : List FileView → List (List ℕ) → ℕ → ℕ → Option (List EvidenceView) → OutputView → Bool → OutputView
    → Type 0
HasGathered files lines n k sound old told new = (all : List EvidenceView) × Gathers files lines n k all
    × MatchOption sound (kept all ≢ []) (λ some. some ≡ kept all)
    × TellsLines (flat_map (λ one. one.fault) all) old told new

-- all that `audit` says was written
abbrev pub TellsAudit : List FileView → List (List ℕ) → OutputView → Bool → OutputView → Type 0
TellsAudit files lines old told new = (text : List ℕ) × AuditSays files lines text × TellsLines text old told new

-- How `audit` ends: tickets could not be read, or are too many; or it wrote what it says, with status 0 if nothing. A
-- carriage return before a line feed is no part of a line.
pub data EndsAudit (files : List FileView) (old : StreamsView) (status : ℕ) (new : StreamsView) : Type 0 where
  not_read : (fault : InputFault) (rest : InputView) → HasInputFault old.input rest fault
      → RefusesOnOutput (input_fault_name fault) (record old { input = rest }) status new → EndsAudit files old status new
  too_many : (bytes : List ℕ) (rest : InputView) → ReadsFirst old.input rest TICKETS_BYTES bytes
      → length bytes ≡ TICKETS_BYTES → RefusesOnOutput (refusal_name TooMany) (record old { input = rest }) status new
      → EndsAudit files old status new
  audited : (bytes : List ℕ) (rest : InputView) (told : Bool) → ReadsFirst old.input rest TICKETS_BYTES bytes
      → length bytes < TICKETS_BYTES → TellsAudit files (lines bytes) old.output told new.output
      → status ≡ (if told then 1 else 0) → new ≡ record old { input = rest; output = new.output }
      → EndsAudit files old status new

-- The two break no rule of printers: they are one ticket; or they may stand beside one another and don't show one
-- ticket, unless one is a ticket and the other the ledger of its receiver.
pub data IsSoundPair (one other : EvidenceView) : Type 0 where
  same : are_same one other ≡ true → IsSoundPair one other
  beside : AreBeside one.shown other.shown → is_again one other ≡ false → IsSoundPair one other

-- each was read, and breaks no rule with any later one
abbrev pub AreAllSound : List EvidenceView → Type 0
AreAllSound [] = Unit {0}
AreAllSound (one ∷ later) = (one.fault ≡ []) × AllByRecursion (IsSoundPair one) later × AreAllSound later
