-- What each command let out and took in, and which ledger it made.
use Rattle.std.specs.Prelude.{◌∷◌, ℕ, List, [], None, Option, Some}
use Rattle.dm_finder_frame.specs.Frame.{GridView}
use Rattle.dm_print_ledger.specs.{declared.range.Range.Range, Ledger.JobView, Ledger.TicketView}
use Rattle.relay_command.specs.declared.command.Command.{Command}
use Rattle.relay_command.specs.declared.command.Command.TheVariants.{Copy, Deliver, Export, Give, GiveLast, Import, Ledger, Print, Scan, Take}
use Rattle.relay_desk_commands.specs.Desks.{OnDesk}
use Rattle.relay_runs.specs.Runs.{job_ended, ticket_given, ticket_given_last, ticket_taken}
use Rattle.relay_desk_runs.specs.Answered.{file_exported, files_imported, grids_scanned, label_copied}
use Rattle.relay.specs.Program.{Does}
use Rattle.relay_shared.specs.Command.{FileView}

-- the text of the ID that a `deliver` asks for
abbrev pub text_of : Command → Option (List ℕ)
text_of (Deliver file id) = Some id.now
text_of other = None

-- ---- what was let out and taken in

-- What was let out: the job of a print, whose ID is used however much of it is written; the ticket of a give; the label
-- that `copy` wrote; the file of an export. And what was taken in, or may have been, since its save failed: a ticket,
-- the grids of a scan, the files of an import.
pub record Passed : Type 0 where
  pub printed : Option JobView
  pub given : Option TicketView
  pub copied : Option GridView
  pub exported : Option (List ℕ)
  pub taken : Option TicketView
  pub scanned : List GridView
  pub imported : List (List ℕ)

abbrev pub nothing : Passed
nothing =
    record { printed = None; given = None; copied = None; exported = None; taken = None; scanned = []; imported = [] }

-- as the clause of the command says
abbrev pub passed_by : (A : Type 0) (command : Command) (inputs : List FileView) (before : OnDesk) (status : ℕ)
    (after : OnDesk) → Does A command inputs before status after → Passed
passed_by A (Print file number labels scheme) inputs before status after does = record nothing { printed = job_ended does.0.0 }
passed_by A (Give file number to first last) inputs before status after does = record nothing { given = ticket_given does.0 }
passed_by A (GiveLast file number to count) inputs before status after does = record nothing { given = ticket_given_last does.0 }
passed_by A (Take file number ticket) inputs before status after does = record nothing { taken = ticket_taken does.0 }
passed_by A (Scan file capacity) inputs before status after does = record nothing { scanned = grids_scanned does }
passed_by A (Export file id) inputs before status after does = record nothing { exported = file_exported does }
passed_by A (Import file capacity) inputs before status after does = record nothing { imported = files_imported does.0 }
passed_by A (Copy file id page side scheme) inputs before status after does = record nothing { copied = label_copied does }
passed_by A other inputs before status after does = nothing

-- ---- ledgers

-- a ledger that was made: the number of its printer, and its range
pub record Made : Type 0 where
  pub number : ℕ
  pub range : Range

abbrev pub made_where : Option (List ℕ) → Option (List ℕ) → Made → List Made
made_where None (Some bytes) ledger = ledger ∷ []
made_where before after ledger = []

-- `ledger` made one if there was no file at its path before and there is one after
abbrev pub made_by : Command → OnDesk → OnDesk → List Made
made_by (Ledger file number first last) before after = made_where before.files.joint.content after.files.joint.content
    (record { number = number; range = record { first = first; last = last } })
made_by other before after = []
