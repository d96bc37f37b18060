-- What `world` writes: the answers to the events of a script, in lines of this project's own.
use Rattle.std.specs.Prelude.{ℕ, Bool, true, List, [], ◌∷◌, ◌++◌, if◌then◌else◌, codes, ◌+◌, Err, Option, Some, None, is_some}
use Rattle.std.specs.{Fmt.decimal, List.list_any, List.flat_map, Option.option_map_or}
use Rattle.hex.specs.Hex.{encode_lower}
use Rattle.dm_print_ledger.specs.Verdicts.{print_fault_name, give_fault_name, take_fault_name, open_fault_name}
use Rattle.dm_print_ledger.specs.Ledger.{ticket_bytes}
use Rattle.dm_assembly_desk.specs.Desk.{scan_fault_name, ask_fault_name, forget_fault_name, export_fault_name, import_fault_name, desk_fault_name, kind_name}
use Rattle.dm_event_history.specs.declared.reply.Reply.{Reply}
use Rattle.dm_event_history.specs.declared.reply.Reply.TheVariants.{Printed, PrintRefused, Scanned, ScanRefused, Document, AskRefused, Forgotten, ForgetRefused, Given, GiveRefused, Taken, TakeRefused, Exported, ExportRefused, Imported, ImportRefused, Restarted, PrinterRefused, DeskRefused, Stopped, Down, NoSuch, Memory}
use Rattle.dm_event_world.specs.declared.{answers.Answer.Answer, fault.WorldFault.WorldFault}
use Rattle.dm_event_world.specs.declared.answers.Answer.TheVariants as answer_kinds
use Rattle.relay_streams.specs.Streams.{refused_line, input_fault_name, OutputView, ReadsFirst}
use Rattle.relay_shared.specs.Lines.{accepted_line, imported_line, id_text, word_text, hexadecimal}
use Rattle.dm_event_world.specs.Shows.{IsWatched, HasWorldFault, world_fault_name}
use Rattle.relay_streams.specs.declared.fault.InputFault.{InputFault}
use Rattle.relay_script.specs.{Scripts.IsScript, Words.IsRead, Words.script_fault_name, declared.script.Script.Script}
use Rattle.relay_script.specs.declared.{words.ScriptFault.ScriptFault, script.TheConstants.SCRIPT_BYTES}
use Rattle.relay_shared.specs.Command.{HasInputFault, StreamsView, Tells, TellsRefusal}

-- `printed`, the two codewords of the ID in hexadecimal, the number of the first label, and how many labels there are
abbrev pub labels_line : ℕ → ℕ → ℕ → List ℕ
labels_line id first count =
    codes "printed " ++ (id_text id ++ (32 ∷ (decimal first ++ (32 ∷ (decimal count ++ 10 ∷ [])))))

-- `document` and its bytes in hexadecimal
abbrev pub document_line : List ℕ → List ℕ
document_line bytes = codes "document " ++ (hexadecimal bytes ++ 10 ∷ [])

-- `ticket`, its number, and its ten bytes in hexadecimal
abbrev pub numbered_ticket_line : ℕ → List ℕ → List ℕ
numbered_ticket_line index bytes = codes "ticket " ++ (decimal index ++ (32 ∷ (encode_lower bytes ++ 10 ∷ [])))

-- `export`, its number, the ID, the number of pages of the document, and the pages that the export has, as a number of
-- two bytes in hexadecimal
abbrev pub export_line : ℕ → ℕ → ℕ → ℕ → List ℕ
export_line index id n mask = codes "export " ++ (decimal index ++ (32 ∷ (id_text id ++ (32 ∷ (decimal n ++
    (32 ∷ (word_text mask ++ 10 ∷ [])))))))

-- the name of a reply that is a refusal
abbrev pub reply_refusal : {A : Type 0} → Reply A → Option (List ℕ)
reply_refusal (PrintRefused fault) = Some (print_fault_name fault)
reply_refusal (ScanRefused fault) = Some (scan_fault_name fault)
reply_refusal (AskRefused fault) = Some (ask_fault_name fault)
reply_refusal (ForgetRefused fault) = Some (forget_fault_name fault)
reply_refusal (GiveRefused fault) = Some (give_fault_name fault)
reply_refusal (TakeRefused fault) = Some (take_fault_name fault)
reply_refusal (ExportRefused fault) = Some (export_fault_name fault)
reply_refusal (ImportRefused fault) = Some (import_fault_name fault)
reply_refusal (PrinterRefused fault) = Some (open_fault_name fault)
reply_refusal (DeskRefused fault) = Some (desk_fault_name fault)
reply_refusal Memory = Some (codes "Memory")
reply_refusal other = None

-- the line of a reply that is not a refusal
abbrev pub reply_line : {A : Type 0} → Reply A → List ℕ
reply_line (Printed id first count) = labels_line id first count
reply_line (Scanned reply) = accepted_line reply.id reply.m reply.n (kind_name reply.kind)
reply_line (Document bytes) = document_line bytes
reply_line Forgotten = codes "forgotten" ++ 10 ∷ []
reply_line (Given index ticket) = numbered_ticket_line index (ticket_bytes ticket)
reply_line Taken = codes "taken" ++ 10 ∷ []
reply_line (Exported index id n mask) = export_line index id n mask
reply_line (Imported reply) = imported_line reply.id reply.n reply.added (kind_name reply.kind)
reply_line Restarted = codes "restarted" ++ 10 ∷ []
reply_line Stopped = codes "stopped" ++ 10 ∷ []
reply_line Down = codes "down" ++ 10 ∷ []
reply_line NoSuch = codes "none" ++ 10 ∷ []
reply_line other = []

-- the line of an answer: it begins with `! ` if the event was not found honest
abbrev pub answer_line : {A : Type 0} → Answer A → List ℕ
answer_line (answer_kinds.Given is_honest reply) =
    (if is_honest then [] else codes "! ") ++ option_map_or refused_line (reply_refusal reply) (reply_line reply)
answer_line answer_kinds.NotGiven = refused_line (codes "Memory")

-- the answer is a refusal
abbrev pub is_refused_answer : {A : Type 0} → Answer A → Bool
is_refused_answer (answer_kinds.Given is_honest reply) = is_some (reply_refusal reply)
is_refused_answer answer_kinds.NotGiven = true

-- some answer is a refusal
abbrev pub has_refusal : {A : Type 0} → List (Answer A) → Bool
has_refusal given = list_any is_refused_answer given

-- the line of each answer was written, and the status is 1 if one is a refusal; or the output failed
abbrev pub TellsAnswers : {A : Type 0} → List (Answer A) → OutputView → ℕ → OutputView → Type 0
TellsAnswers answers old status new =
    Tells (flat_map answer_line answers) (if has_refusal answers then 1 else 0) old status new

-- How `world` ends, with its exit status and streams. The input was read, at most one byte more than the longest script
-- has; it was a script, its world began and answered each event, so that the headline holds, and the line of each
-- answer was written. Or the first of these that could not be done is refused for a reason that holds; memory may be
-- refused at any time.
pub data EndsWorld (A : Type 0) (old : StreamsView) (status : ℕ) (new : StreamsView) : Type 0 where
  not_read : (fault : InputFault) → HasInputFault old.input new.input fault
      → TellsRefusal (input_fault_name fault) old.output status new.output → EndsWorld A old status new
  no_script : (bytes : List ℕ) (fault : ScriptFault) → ReadsFirst old.input new.input (SCRIPT_BYTES + 1) bytes
      → IsRead {A = Script A} (Err fault) (IsScript bytes)
      → TellsRefusal (script_fault_name fault) old.output status new.output → EndsWorld A old status new
  no_world : (bytes : List ℕ) (script : Script A) (fault : WorldFault)
      → ReadsFirst old.input new.input (SCRIPT_BYTES + 1) bytes → IsScript bytes script
      → HasWorldFault script.ranges.items script.capacities.items fault
      → TellsRefusal (world_fault_name fault) old.output status new.output → EndsWorld A old status new
  answered : (bytes : List ℕ) (script : Script A) (answers : List (Answer A))
      → ReadsFirst old.input new.input (SCRIPT_BYTES + 1) bytes → IsScript bytes script
      → IsWatched script.ranges.items script.capacities.items script.events.items answers
      → TellsAnswers answers old.output status new.output → EndsWorld A old status new
