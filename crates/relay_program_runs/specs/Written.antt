-- What commands wrote: of what counts as let out, and of what was printed.
use Rattle.std.specs.Prelude.{◌≡◌, ◌⊎◌, ℕ, IfSome, List, None, Option, Some, option_map}
use Rattle.std.specs.Io.KnownBytes.{Appends}
use Rattle.dm_pbm_io.specs.Image.{p4}
use Rattle.dm_print_ledger.specs.Ledger.{TicketView}
use Rattle.relay_command.specs.declared.command.Command.{Command}
use Rattle.relay_command.specs.declared.command.Command.TheVariants.{Copy, Export, Give, GiveLast, Print}
use Rattle.relay_streams.specs.Streams.{AppendsPart, OutputView, refused_line}
use Rattle.relay_printer_commands.specs.Printers.{images_of, ticket_line}
use Rattle.relay_desk_commands.specs.Desks.{IsTextOfId}
use Rattle.relay_program_runs.specs.Law.{PrintsUnder, Ran, SomeRan, WritesNothing, WritesPart, WritesPrinted, passed, status_of}

-- it wrote of these bytes, or nothing if there are none
abbrev pub WritesOf : {A : Type 0} → Option (List ℕ) → Ran A → Type 0
WritesOf (Some bytes) ran = WritesPart bytes ran
WritesOf None ran = WritesNothing ran

-- it wrote of the line of this ticket; or, if there is none, of the line of a refusal, and its status is 1 if it exited
abbrev pub WritesTicket : {A : Type 0} → Option TicketView → Ran A → Type 0
WritesTicket (Some ticket) ran = WritesPart (ticket_line ticket) ran
WritesTicket None ran = (name : List ℕ) × WritesPart (refused_line name) ran × IfSome (status_of ran.ends) (λ status. status ≡ 1)

-- what it wrote is of what counts as let out: of the images of its job, or of its label, its file or its ticket
abbrev pub IsCounted : {A : Type 0} → Command → Ran A → Type 0
IsCounted (Print file number labels scheme) ran = WritesOf (option_map (λ job. images_of job.labels) (passed ran).printed) ran
IsCounted (Copy file id page side scheme) ran = WritesOf (option_map p4 (passed ran).copied) ran
IsCounted (Export file id) ran = WritesOf (passed ran).exported ran
IsCounted (Give file number to first last) ran = WritesTicket (passed ran).given ran
IsCounted (GiveLast file number to count) ran = WritesTicket (passed ran).given ran
IsCounted other ran = Unit {0}

-- So a print whose output grew, or whose status is 0, counts as printed, and what it wrote is of the labels of its job.
abbrev pub WhatIsOutCounts : Type 0 → Type 0
WhatIsOutCounts A = (ran : Ran A) → IsCounted ran.command ran

-- `WritesPrinted` in other words: such a `deliver` wrote nothing, or a first part of a document that was printed, and
-- all of it if its status is 0.
abbrev pub WhatIsWrittenWasPrinted : Type 0 → Type 0
WhatIsWrittenWasPrinted A = (earlier : List (Ran A)) (text : List ℕ) (ran : Ran A) → WritesPrinted earlier text ran →
    let old : OutputView = ran.before.streams.output in let new : OutputView = ran.after.streams.output in
    ((new ≡ old) × IfSome (status_of ran.ends) (λ status. status ≡ 1))
    ⊎ ((id : ℕ) × (document : List ℕ) × IsTextOfId text id × SomeRan (PrintsUnder id document) earlier
    × AppendsPart old.contents new.contents document
    × IfSome (status_of ran.ends) (λ status. status ≡ 0 → Appends old.contents new.contents document))
