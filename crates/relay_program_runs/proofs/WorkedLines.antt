-- The worked list of typed lines meets the premises of the laws of lines.
use Rattle.std.proofs.Common.{◌≡◌, ◌≢◌, ◌≤◌, ◌<◌, ◌⊎◌, ◌++◌, inl, inr, Bool, Global, ℕ, List, [], ◌∷◌, None, Option, Ok, Err, Some, Result, codes, false, length, map, refl, slice_get, sym, ap, subst, take, true, ◌∙◌, arith}
use Rattle.std.specs.Prelude.{AllPairs, IfSome, IsSomeAnd, IsTrue, if◌then◌else◌, option_map}
use Rattle.std.specs.{Borrow.Bor, List.AllByRecursion}
use Rattle.std.proofs.lemmas.List.{take_all}
use Rattle.dm_encodation.specs.declared.scheme.Scheme.TheVariants.{Ascii}
use Rattle.dm_finder_frame.specs.Frame.{GridView}
use Rattle.dm_symbol.specs.Correction.{IsNear}
use Rattle.dm_store.specs.Saved.{SavedIn}
use Rattle.dm_store.specs.declared.store.StoreFault.{StoreFault}
use Rattle.dm_print_ledger.specs.Ledger.{JobView, LedgerView, TicketView}
use Rattle.dm_print_ledger.specs.Verdicts.{opening, ticket_of}
use Rattle.dm_print_ledger.specs.declared.fault.TakeFault.{TakeFault}
use Rattle.dm_print_ledger.specs.declared.fault.TakeFault.TheVariants as take_fault
use Rattle.dm_event_history.specs.Relay.{Running}
use Rattle.relay_command.specs.declared.command.Command.{Command}
use Rattle.relay_command.specs.declared.command.Command.TheVariants.{Deliver, DeliverAll, ExportAll, Give, Ledger, Print, Scan, Take}
use Rattle.relay_command.specs.declared.command.Labels.TheVariants.{OfSide}
use Rattle.relay.specs.{CommandLine.CommandLine, Line.IsLineOf, Line.named_images, Line.saved_path}
use Rattle.relay_printer_commands.specs.Printers.{EndsTake, IsTextOf, OnLedger, images_of, ledger_at}
use Rattle.relay_printer_commands.specs.Printers.EndsTake.{no_ticket, not_opened as take_not_opened, opened as take_opened}
use Rattle.relay_shared.specs.{Command.FileView, Files.DeskFiles, declared.command.TheConstants.DOCUMENT_BYTES}
use Rattle.relay_desk_commands.specs.Desks.{OnDesk}
use Rattle.relay_desk_commands.specs.declared.documents.Given.{Given, TheVariants.Document, TheVariants.File}
use Rattle.relay_buffers.specs.Buffers.{IsPartOut}
use Rattle.relay_streams.specs.Streams.{refused_line}
use Rattle.relay_streams.proofs.Parts.{part_whole}
use Rattle.relay_runs.proofs.TicketTexts.{ten_text, ten_ticket, text_once}
use Rattle.relay_runs.specs.Runs.{KeepsLedger, if_taken, job_ended, ticket_given, ticket_taken}
use Rattle.relay_desk_runs.specs.Answered.{grids_scanned}
use Rattle.relay.specs.Places.{PlacesView, SavesNew}
use Rattle.relay.specs.Program.{Does, DoesAndSaves, DoesAt, DoesFor, IsNotOfAll, PutsRefusal, StandardView, SystemView, all_command, does, does_all, does_and_forgets, does_and_saves, does_here, finds, finds_nothing, is_held, lacks_memory, path_of, refuses_on_errors, system_at}
use Rattle.relay.proofs.AllDocuments.{others_stay}
use Rattle.relay_program_runs.specs.Passed.{Made, made_where}
use Rattle.relay_program_runs.specs.Law.{AreApart, AreVouchedFor, Each, IsBlank, IsDocumentOf, LetsOut, PrintsUnder, Ran, SomeRan, TakesGiven, TakesPrinted, all_made, passed, store_of}
use Rattle.relay_program_runs.specs.Lines.{Follow, IsNamedBy, LineRan, LinesAsk, WhatLinesLetOutIsTheDocument, all_commands, ran_at}
use Rattle.relay_program_runs.specs.InTurn.{WhatLinesRunInTurnFindWhatWasLeft, set_of}
use Rattle.relay_program_runs.specs.Worked.{given}
use Rattle.relay_program_runs.specs.WorkedLines.{AreBlank, AreWorked, IsLineDone, LinesGoWell, fed, typed, worked_words}
use Rattle.relay_program_runs.proofs.DocumentOut.{all_of, not_zero, noted_same, out_all, part_of, saved_so}
use Rattle.relay_program_runs.proofs.{GotOut.refused_one, Images.Is12, Images.scanned_so, Lists.all_so}
use Rattle.relay_program_runs.proofs.Steps.{Pairs, first_byte, found, pairs_so, also}
use Rattle.relay_program_runs.proofs.WorkedCommands.{near_one, takes_none}
use Rattle.relay_program_runs.proofs.WorkedFacts.{IsIn, PrintedWell, all_out, given_well, made_keeps, printed_well, range_of}

-- ---- what a line did whose command is neither `held` nor one for all documents

abbrev is_for_all : Command → Bool
is_for_all (DeliverAll file folder forgets) = true
is_for_all (ExportAll file folder) = true
is_for_all other = false

abbrev pub IsPlain : Command → Type 0
IsPlain command = (is_for_all command ≡ false) × (is_held command ≡ false)

all_is : (what : Given) (forgets : Bool) (file folder : Bor (List ℕ)) →
    is_for_all (all_command what forgets file folder) ≡ true
all_is Document forgets file folder = refl
all_is File forgets file folder = refl

not_all : (command : Command) → IsPlain command → IsNotOfAll command
not_all command plain what forgets file folder same =
    let is : is_for_all command ≡ true = ap is_for_all same ∙ all_is what forgets file folder in cc (is, plain.0)

-- memory was refused for the line
abbrev pub Lacks : Command → SystemView → ℕ → SystemView → Type 0
Lacks command old status new =
    PutsRefusal (refuses_on_errors command) (codes "Memory") old.standard status new.standard

not_refused : (is_on_errors : Bool) (name : List ℕ) (old new : StandardView) → PutsRefusal is_on_errors name old 0 new → ⊥
not_refused true name old new told = not_zero (refused_one told.0.1) refl
not_refused false name old new told = not_zero (refused_one told.0.1) refl

module _ (inputs : List ℕ → FileView) (line : CommandLine) (old new : SystemView) (status : ℕ)
    (plain : IsPlain line.command) (memory : Lacks line.command old status new → ⊥) where
  by_here : saved_path line ≡ None → DoesFor Global inputs line old status new →
      DoesAt Global line.command (map inputs (named_images line)) old status new
  by_here none (does_here is one (finds at)) = at
  by_here none (does_here is one (finds_nothing seen held at holds same told)) = cc (held, plain.1)
  by_here none (does_and_saves path is to) = cc (is, none)
  by_here none (does_all what file folder is all) = absurd (not_all line.command plain what false file folder is)
  by_here none (does_and_forgets file folder is all) =
      absurd (not_all line.command plain Document true file folder is)
  by_here none (lacks_memory names same told) = absurd (memory told)

  by_saving : (path : List ℕ) → saved_path line ≡ Some path → DoesFor Global inputs line old status new →
      DoesAndSaves Global line.command path old status new
  by_saving path some (does_here is one done) = cc (is, some)
  by_saving path some (does_and_saves other is to) =
      let same : other ≡ path = cc (is, some) in
      subst (λ (p : List ℕ). DoesAndSaves Global line.command p old status new) same to
  by_saving path some (does_all what file folder is all) =
      absurd (not_all line.command plain what false file folder is)
  by_saving path some (does_and_forgets file folder is all) =
      absurd (not_all line.command plain Document true file folder is)
  by_saving path some (lacks_memory names same told) = absurd (memory told)

-- such a line, of a command that is neither `held` nor one for all documents, for which memory was not refused
pub record Typed (command : Command) (words : List (List ℕ)) (saved : Option (List ℕ)) (places : PlacesView)
    (input : List ℕ) (status : ℕ) (after : PlacesView) (output : List ℕ) : Type 0 where
  pub inputs : List ℕ → FileView
  pub done : IsLineDone inputs words command saved places input status after output
  pub plain : IsPlain command
  pub memory : Lacks command (fed places input) status (system_at done.standard after) → ⊥

-- what the output has where memory was refused
memory_out : (command : Command) (places after : PlacesView) (input output : List ℕ) (status : ℕ) (standard : StandardView) →
    refuses_on_errors command ≡ false → standard.output ≡ Some output →
    Lacks command (fed places input) status (system_at standard after) →
    (rest : List ℕ) × (output ++ rest ≡ refused_line (codes "Memory"))
memory_out command places after input output status standard on_output is lacks =
    let old : StandardView = (fed places input).standard in
    let told : PutsRefusal false (codes "Memory") old status standard =
    subst (λ (b : Bool). PutsRefusal b (codes "Memory") old status standard) on_output lacks in
    let line : List ℕ = refused_line (codes "Memory") in
    subst (λ (o : Option (List ℕ)). IsPartOut (Some line) o) is
    (part_of (Some []) told.0.0.contents standard.output line (elim told.0.1 [
      | inl all ↦ part_whole (Some []) told.0.0.contents line all.0
      | inr part ↦ part.1
    ]) told.0.2)

module _ {command other : Command} {words : List (List ℕ)} {saved : Option (List ℕ)} {places after : PlacesView}
    {input output : List ℕ} {status : ℕ} {inputs : List ℕ → FileView} (is : other ≡ command)
    (done : status < 2 → IsLineDone inputs words other saved places input status after output) (plain : IsPlain command) where
  ended_with : (ended : ℕ) → ended < 2 → status ≡ ended → IsLineDone inputs words command saved places input ended after output
  ended_with ended small same = subst (λ (s : ℕ). IsLineDone inputs words command saved places input s after output) same
      (subst (λ (c : Command). IsLineDone inputs words c saved places input status after output) is
      (done (omega (arith, same, small))))

  pub typed_well : status ≡ 0 → Typed command words saved places input 0 after output
  typed_well well = record {
    inputs = inputs;
    done = ended_with 0 (omega arith) well;
    plain = plain;
    memory = not_refused (refuses_on_errors command) (codes "Memory") (fed places input).standard
        (ended_with 0 (omega arith) well).standard;
  }

  pub typed_refused : status ≡ 1 → refuses_on_errors command ≡ false → (said : List ℕ) → output ≡ said →
      ((rest : List ℕ) → said ++ rest ≡ refused_line (codes "Memory") → ⊥) →
      Typed command words saved places input 1 after output
  typed_refused one on_output said output_is differs = record {
    inputs = inputs;
    done = ended_with 1 (omega arith) one;
    plain = plain;
    memory = λ lacks.
        let m = memory_out command places after input output 1 (ended_with 1 (omega arith) one).standard on_output (ended_with 1 (omega arith) one).output_is
        lacks in
        differs m.0 (ap (λ (l : List ℕ). l ++ m.0) (sym output_is) ∙ m.1);
  }

module _ {command : Command} {words : List (List ℕ)} {places after : PlacesView} {input output : List ℕ} {status : ℕ} where
  module _ {saved : Option (List ℕ)} (x : Typed command words saved places input status after output) where
    abbrev old : SystemView
    old = fed places input

    abbrev new : SystemView
    new = system_at x.done.standard after

    abbrev line : CommandLine
    line = x.done.line

    -- the line with its command, and with the path where its output is saved
    abbrev own : CommandLine
    own = record line { command = command }

    same_line : line ≡ own
    same_line = λ i. record line { command = x.done.command_is i }

    abbrev saving : Bor (List ℕ) → CommandLine
    saving path = record line { command = command; saved_as = Some path }

    abbrev pub IsHere : Type 0
    IsHere = DoesAt Global command (map x.inputs (named_images line)) old status new

    here_if : saved_path line ≡ None → IsHere
    here_if none = by_here x.inputs own old new status x.plain x.memory none
        (subst (λ (l : CommandLine). DoesFor Global x.inputs l old status new) same_line x.done.does)

    module _ (path : Bor (List ℕ)) (saved_is : line.saved_as ≡ Some path) where
      same_saving : line ≡ saving path
      same_saving = λ i. record line { command = x.done.command_is i; saved_as = saved_is i }

      saves : DoesAndSaves Global command path.now old status new
      saves = by_saving x.inputs (saving path) old new status x.plain x.memory path.now refl
          (subst (λ (l : CommandLine). DoesFor Global x.inputs l old status new) same_saving x.done.does)

      abbrev ran_saving : LineRan Global
      ran_saving = record {
        inputs = x.inputs;
        words = words;
        before = old;
        status = status;
        after = new;
        runs = does (saving path) x.done.right (subst (IsLineOf words) same_saving x.done.is)
            (does_and_saves path.now refl saves);
      }

  module _ (x : Typed command words None places input status after output) where
    abbrev here : IsHere x
    here = here_if x x.done.saved_is

    abbrev ran_here : LineRan Global
    ran_here = record {
      inputs = x.inputs;
      words = words;
      before = fed places input;
      status = status;
      after = system_at x.done.standard after;
      runs = does (own x) x.done.right (subst (IsLineOf words) (same_line x) x.done.is)
          (does_here x.done.saved_is (not_all command x.plain) (finds here));
    }

-- ---- what lines did

module _ {images : List FileView} {places after : PlacesView} {input : List ℕ} {standard : StandardView} where
  -- a line that exits with 0 did so with its command
  module _ {command : Command} (at : DoesAt Global command images (fed places input) 0 (system_at standard after)) where
    abbrev leaves : OnDesk
    leaves = record { files = at.after; streams = at.between.wrote }

    well : (P : (ended : ℕ) → Does Global command images (given at.before input) ended leaves → Type 0) →
        ((does : Does Global command images (given at.before input) 0 leaves) → P 0 does) →
        P at.between.ended at.between.does
    well P so = subst (λ (ended : ℕ).
        (does : Does Global command images (given at.before input) ended leaves) → P ended does)
        (sym (out_all at.between.out refl).0) so at.between.does

  module _ {file : Bor (List ℕ)} {number first last : ℕ}
      (at : DoesAt Global (Ledger file number first last) images (fed places input) 0 (system_at standard after)) where
    made : IsBlank None at.before.joint → KeepsLedger at.after.joint (Running (opening number (range_of first last)))
    made blank = well at (λ ended does. KeepsLedger at.after.joint (Running (opening number (range_of first last))))
        (λ does. made_keeps blank does.0)

  module _ {file : Bor (List ℕ)} {number to first last : ℕ} {ledger : LedgerView}
      (at : DoesAt Global (Give file number to first last) images (fed places input) 0 (system_at standard after)) where
    gave : KeepsLedger at.before.joint (Running ledger) →
        (passed (ran_at at)).given ≡ Some (ticket_of ledger to (range_of first last))
    gave keeps = well at (λ ended does. ticket_given does.0 ≡ Some (ticket_of ledger to (range_of first last)))
        (λ does. given_well keeps does.0)

  module _ {file : Bor (List ℕ)} {number : ℕ}
      (at : DoesAt Global (Print file number (OfSide 12) Ascii) images (fed places input) 0 (system_at standard after)) where
    printed : PrintedWell at.before.joint (passed (ran_at at)).printed at.between.wrote.output.contents
    printed = well at (λ ended does. PrintedWell at.before.joint (job_ended does.0.0) at.between.wrote.output.contents)
        (λ does. printed_well (ledger_at at.after.joint at.between.wrote) does.0.0)

    labels_out : (out : List ℕ) → standard.output ≡ Some out → out ≡ images_of printed.it.labels
    labels_out out is =
        let kept : at.done.output ≡ Some out = sym (noted_same at.done standard at.noted) ∙ is in
        all_out at.done.output out (images_of printed.it.labels) kept
        (all_of (Some []) at.between.wrote.output.contents at.done.output (images_of printed.it.labels) printed.written
        (out_all at.between.out refl).1)

  -- whatever the status
  module _ {status : ℕ} where
    scanned : {file : Bor (List ℕ)} {capacity : ℕ} (Q : GridView → Type 0) (labels : List GridView) →
        AllByRecursion (Is12 Q) labels → images ≡ [] → input ≡ images_of labels →
        (at : DoesAt Global (Scan file capacity) images (fed places input) status (system_at standard after)) →
        AllByRecursion Q (passed (ran_at at)).scanned
    scanned {file} {capacity} Q labels are none is at = subst (λ (some : List FileView).
        (does : Does Global (Scan file capacity) some (given at.before input) at.between.ended
        (record { files = at.after; streams = at.between.wrote })) → AllByRecursion Q (grids_scanned does))
        (sym none) (λ does. scanned_so Q capacity (given at.before input) at.between.ended
        (record { files = at.after; streams = at.between.wrote }) does labels are (ap Some is)) at.between.does

taken_of_text : {number status : ℕ} {text : List ℕ} {old new : OnLedger} (ticket : TicketView) → IsTextOf text ticket →
    (ends : EndsTake number text old status new) → IfSome (ticket_taken ends) (λ other. other ≡ ticket)
taken_of_text ticket is (no_ticket has same told) = tt
taken_of_text ticket is (take_not_opened fault has opens same told) = tt
taken_of_text {text = text} ticket is (take_opened other before after answer has is_other opens takes same told only) =
    by_answer answer
  where
    by_answer : (answer : Result (Unit {0}) TakeFault) → IfSome (if_taken answer other) (λ it. it ≡ ticket)
    by_answer (Ok done) = text_once text other ticket is_other is
    by_answer (Err take_fault.Save) = text_once text other ticket is_other is
    by_answer (Err fault) = tt

-- a ticket of this text was given before
takes_given : {A : Type 0} (earlier : List (Ran A)) {ticket : TicketView} (taken : Option TicketView) →
    IfSome taken (λ other. other ≡ ticket) → SomeRan (λ ran. (passed ran).given ≡ Some ticket) earlier →
    IfSome taken (λ other. SomeRan (λ ran. (passed ran).given ≡ Some other) earlier)
takes_given earlier None is gives = tt
takes_given {A} earlier (Some other) is gives =
    subst (λ (it : TicketView). SomeRan {A = A} (λ ran. (passed ran).given ≡ Some it) earlier) (sym is) gives

-- ---- facts of the list

module _ (before after : Option (List ℕ)) (made : Made) (rest : List Made) where
  perhaps_all : (P : Made → Type 0) → P made → AllByRecursion P rest → AllByRecursion P (made_where before after made ++ rest)
  perhaps_all P so all = by before after
    where
      by : (before after : Option (List ℕ)) → AllByRecursion P (made_where before after made ++ rest)
      by None (Some bytes) = (so, all)
      by None None = all
      by (Some bytes) after = all

  perhaps_pairs : AllByRecursion (AreApart made) rest → Pairs AreApart rest →
      Pairs AreApart (made_where before after made ++ rest)
  perhaps_pairs apart pairs = by before after
    where
      by : (before after : Option (List ℕ)) → Pairs AreApart (made_where before after made ++ rest)
      by None (Some bytes) = (apart, pairs)
      by None None = pairs
      by (Some bytes) after = pairs

-- a print reads a short document whole
read_whole : {A : Type 0} {id : ℕ} {document bytes : List ℕ} (ran : Ran A) → PrintsUnder id document ran →
    ran.before.streams.input.remaining ≡ Some bytes → length bytes ≤ DOCUMENT_BYTES → document ≡ bytes
read_whole {document = document} {bytes} ran prints known short =
    first ran.before.streams.input.remaining known prints.read.taken.first ∙ take_all DOCUMENT_BYTES bytes short
  where
    first : (o : Option (List ℕ)) → o ≡ Some bytes → IfSome o (λ left. document ≡ take DOCUMENT_BYTES left) →
        document ≡ take DOCUMENT_BYTES bytes
    first None is taken = cc (is)
    first (Some xs) is taken = (let same : xs ≡ bytes = cc (is) in taken ∙ ap (take DOCUMENT_BYTES) same)

-- of commands of which none but this prints, this printed it
only_prints : {A : Type 0} {id : ℕ} {document : List ℕ} (one : Ran A) (rans : List (Ran A)) →
    AllByRecursion (λ ran. ((passed ran).printed ≡ None) ⊎ (ran ≡ one)) rans → SomeRan (PrintsUnder id document) rans →
    PrintsUnder id document one
only_prints {A} {id} {document} one rans all (number, ran, at, prints) =
    elim (found (λ (ran : Ran A). ((passed ran).printed ≡ None) ⊎ (ran ≡ one)) rans all number ran at) [
      | inl none ↦ (let job = prints.job_is in cc (job, none))
      | inr same ↦ subst (PrintsUnder id document) same prints
    ]

-- the path at which a line saves its output
pub saved_at : {text : List ℕ} (saved : Option (Bor (List ℕ))) → option_map (λ path. path.now) saved ≡ Some text →
    (path : Bor (List ℕ)) × (saved ≡ Some path) × (path.now ≡ text)
saved_at None is = cc (is)
saved_at (Some path) is = (path, refl, cc (is))

pub blank_or : (is_it : Bool) (one other : DeskFiles) → AreBlank one → AreBlank other →
    AreBlank (if is_it then one else other)
blank_or true one other blank blanks = blank
blank_or false one other blank blanks = blanks

-- ---- the list

module _ {w1 w2 w3 w4 w5 w6 w7 w8 w9 : List (List ℕ)} {p0 p1 p2 p3 p4 p5 p6 p7 q p8 p9 : PlacesView}
    {o1 o2 o3 o4 o5 o6 o7 o8 o9 : List ℕ} {f1 f2 f3 f4 f5 f6 f7 f8 f9 t4 t5 id path : Bor (List ℕ)} {m4 m5 m7 capacity : ℕ}
    (x1 : Typed (Ledger f1 0 0 99) w1 None p0 [] 0 p1 o1)
    (x2 : Typed (Ledger f2 2 100 199) w2 None p1 [] 0 p2 o2)
    (x3 : Typed (Give f3 0 2 0 9) w3 None p2 [] 0 p3 o3)
    (x4 : Typed (Take f4 m4 t4) w4 None p3 [] 0 p4 o4)
    (x5 : Typed (Take f5 m5 t5) w5 None p4 [] 1 p5 o5)
    (x6 : Typed (Ledger f6 3 200 299) w6 None p5 [] 1 p6 o6)
    (x7 : Typed (Print f7 m7 (OfSide 12) Ascii) w7 None p6 (codes "1234") 0 p7 o7)
    (x8 : Typed (Scan f8 capacity) w8 None q o7 0 p8 o8)
    (x9 : Typed (Deliver f9 id) w9 (Some (codes "out")) p8 [] 0 p9 o9)
    (s9 : x9.done.line.saved_as ≡ Some path)
    (n1 : f1.now ≡ codes "a") (n2 : f2.now ≡ codes "b") (n3 : f3.now ≡ codes "a") (n4 : f4.now ≡ codes "b")
    (n5 : f5.now ≡ codes "b") (n6 : f6.now ≡ codes "c") (n7 : f7.now ≡ codes "a") (n8 : f8.now ≡ codes "d")
    (n9 : f9.now ≡ codes "d") (id_is : id.now ≡ codes "010b") (path_is : path.now ≡ codes "out")
    (text4 : IsTextOf t4.now ten_ticket) (text5 : IsTextOf t5.now ten_ticket)
    (put : SavesNew (codes "labels") o7 p7 (Ok tt) q) (blank : (other : List ℕ) → AreBlank (p0 other)) where
  abbrev a1 : IsHere x1
  a1 = here x1

  abbrev a2 : IsHere x2
  a2 = here x2

  abbrev a3 : IsHere x3
  a3 = here x3

  abbrev a4 : IsHere x4
  a4 = here x4

  abbrev a5 : IsHere x5
  a5 = here x5

  abbrev a6 : IsHere x6
  a6 = here x6

  abbrev a7 : IsHere x7
  a7 = here x7

  abbrev a8 : IsHere x8
  a8 = here x8

  abbrev earlier : List (LineRan Global)
  earlier = ran_here x1 ∷ ran_here x2 ∷ ran_here x3 ∷ ran_here x4 ∷ ran_here x5 ∷ ran_here x6
      ∷ ran_here x7 ∷ ran_here x8 ∷ []

  abbrev deliver : LineRan Global
  deliver = ran_saving x9 path s9

  abbrev lines : List (LineRan Global)
  lines = earlier ++ deliver ∷ []

  -- ---- paths

  -- a path that begins with a greater byte than these
  apart_from : (other : List ℕ) → 100 < first_byte other →
      AllByRecursion (λ (ran : Ran Global). other ≢ path_of ran.command) (all_commands lines)
  apart_from other great =
      let far : (one : List ℕ) (own : List ℕ) → own ≡ one → first_byte one ≤ 100 → other ≢ own = λ one own is small same.
      omega (arith, great, small, ap first_byte (same ∙ is)) in
      also (far (codes "a") f1.now n1 (omega arith)) (also (far (codes "b") f2.now n2 (omega arith))
      (also (far (codes "a") f3.now n3 (omega arith)) (also (far (codes "b") f4.now n4 (omega arith))
      (also (far (codes "b") f5.now n5 (omega arith)) (also (far (codes "c") f6.now n6 (omega arith))
      (also (far (codes "a") f7.now n7 (omega arith)) (also (far (codes "d") f8.now n8 (omega arith))
      (also (far (codes "d") f9.now n9 (omega arith)) tt))))))))

  labels_apart : AllByRecursion (λ (ran : Ran Global). codes "labels" ≢ path_of ran.command) (all_commands lines)
  labels_apart = apart_from (codes "labels") (omega arith)

  great_out : 100 < first_byte path.now
  great_out = omega (arith, ap first_byte path_is)

  out_apart : AllByRecursion (λ (ran : Ran Global). path.now ≢ path_of ran.command) (all_commands lines)
  out_apart = apart_from path.now great_out

  -- other paths than that of the labels are as the print left them
  stay : (other : List ℕ) → other ≢ codes "labels" → q other ≡ p7 other
  stay = others_stay (codes "labels") o7 p7 (Ok tt) q put

  named_apart : (other : List ℕ) → IsNamedBy lines other → other ≢ codes "labels"
  named_apart other named same = found (λ (ran : Ran Global). codes "labels" ≢ path_of ran.command) (all_commands lines)
      labels_apart named.0 named.1 named.2 (sym same ∙ sym named.3)

  follow : {X : Type 0} (of : DeskFiles → SavedIn X) → Follow of (IsNamedBy lines) p0 lines
  follow of = also (λ other named. refl) (also (λ other named. refl) (also (λ other named. refl) (also (λ other named. refl)
      (also (λ other named. refl) (also (λ other named. refl) (also (λ other named. refl)
      (also (λ other named. ap of (stay other (named_apart other named))) (also (λ other named. refl) tt))))))))

  kept : (other : List ℕ) → 100 < first_byte other → p7 other ≡ p0 other
  kept other great =
      let far = apart_from other great in
      a7.is_at.2 other far.1.1.1.1.1.1.0 ∙ a6.is_at.2 other far.1.1.1.1.1.0 ∙ a5.is_at.2 other far.1.1.1.1.0
      ∙ a4.is_at.2 other far.1.1.1.0 ∙ a3.is_at.2 other far.1.1.0 ∙ a2.is_at.2 other far.1.0 ∙ a1.is_at.2 other far.0

  -- ---- premises

  abbrev ledger_a : LedgerView
  ledger_a = opening 0 (range_of 0 99)

  same_a : a3.before ≡ a1.after
  same_a = a3.is_at.0 ∙ a2.is_at.2 f3.now (λ same. omega (arith, ap first_byte (sym n3 ∙ same ∙ n2)))
      ∙ ap p1 (n3 ∙ sym n1) ∙ a1.is_at.1

  keeps_a : KeepsLedger a3.before.joint (Running ledger_a)
  keeps_a = subst (λ (d : DeskFiles). KeepsLedger d.joint (Running ledger_a)) (sym same_a)
      (made a1 (subst (λ (d : DeskFiles). IsBlank None d.joint) (sym a1.is_at.0) (blank f1.now).0))

  given_a : (passed (ran_at a3)).given ≡ Some ten_ticket
  given_a = gave a3 keeps_a

  first_take : TakesGiven (ran_at a1 ∷ ran_at a2 ∷ ran_at a3 ∷ []) (ran_at a4)
  first_take = takes_given (ran_at a1 ∷ ran_at a2 ∷ ran_at a3 ∷ []) (passed (ran_at a4)).taken (taken_of_text ten_ticket text4 a4.between.does.0)
      (2, ran_at a3, refl, given_a)

  next_take : TakesGiven (ran_at a1 ∷ ran_at a2 ∷ ran_at a3 ∷ ran_at a4 ∷ []) (ran_at a5)
  next_take = takes_given (ran_at a1 ∷ ran_at a2 ∷ ran_at a3 ∷ ran_at a4 ∷ []) (passed (ran_at a5)).taken (taken_of_text ten_ticket text5 a5.between.does.0)
      (2, ran_at a3, refl, given_a)

  abbrev made_of : ℕ → ℕ → ℕ → Made
  made_of number first last = record { number = number; range = range_of first last }

  abbrev third_made : List Made
  third_made = made_where a6.before.joint.content a6.after.joint.content (made_of 3 200 299) ++ []

  abbrev later_made : List Made
  later_made = made_where a2.before.joint.content a2.after.joint.content (made_of 2 100 199) ++ third_made

  third_so : (P : Made → Type 0) → P (made_of 3 200 299) → AllByRecursion P third_made
  third_so P so = perhaps_all a6.before.joint.content a6.after.joint.content (made_of 3 200 299) [] P so tt

  apart : AllPairs AreApart (all_made (all_commands lines))
  apart = pairs_so AreApart (all_made (all_commands lines))
      (perhaps_pairs a1.before.joint.content a1.after.joint.content (made_of 0 0 99) later_made
      (perhaps_all a2.before.joint.content a2.after.joint.content (made_of 2 100 199) third_made (AreApart (made_of 0 0 99))
      ((λ e. omega (arith, e)), inl (omega arith))
      (third_so (AreApart (made_of 0 0 99)) ((λ e. omega (arith, e)), inl (omega arith))))
      (perhaps_pairs a2.before.joint.content a2.after.joint.content (made_of 2 100 199) third_made
      (third_so (AreApart (made_of 2 100 199)) ((λ e. omega (arith, e)), inl (omega arith)))
      (perhaps_pairs a6.before.joint.content a6.after.joint.content (made_of 3 200 299) [] tt tt)))

  abbrev asks : LinesAsk lines
  asks = record {
    places = p0;
    is_new = λ other named. (blank other).0;
    follow = follow store_of;
    saved_apart = also tt (also tt (also tt (also tt (also tt (also tt (also tt (also tt (also (also out_apart tt) tt))))))));
    apart = apart;
    tickets = also tt (also tt (also tt (also first_take (also next_take (tt, (tt, (tt, (tt, tt))))))));
  }

  abbrev IsAmong : List ℕ → Type 0
  IsAmong other = IsTrue true

  abbrev before_scan : List (Ran Global)
  before_scan = ran_at a1 ∷ ran_at a2 ∷ ran_at a3 ∷ ran_at a4 ∷ ran_at a5 ∷ ran_at a6 ∷ ran_at a7 ∷ []

  abbrev job : PrintedWell a7.before.joint (passed (ran_at a7)).printed a7.between.wrote.output.contents
  job = printed a7

  scans : AllByRecursion (λ grid. (own : GridView) × IsNear grid own × SomeRan (LetsOut IsAmong own) before_scan)
      (passed (ran_at a8)).scanned
  scans = all_so (IsIn job.it.labels) _ (passed (ran_at a8)).scanned
      (λ grid is_in. near_one IsAmong before_scan 6 refl
      (inl (subst (λ (o : Option JobView). IsSomeAnd o (λ it. IsIn it.labels grid)) (sym job.job_is) is_in)))
      (scanned (IsIn job.it.labels) job.it.labels job.labels (ap (map x8.inputs) x8.done.no_images)
      (labels_out a7 o7 x7.done.output_is) a8)

  takes : Each (TakesPrinted IsAmong) [] (all_commands lines)
  takes = also (takes_none refl refl) (also (takes_none refl refl) (also (takes_none refl refl)
      (also (takes_none refl refl) (also (takes_none refl refl) (also (takes_none refl refl)
      (also (takes_none refl refl) (also (record { scans = λ among. scans; imports = λ among. tt })
      (also (takes_none refl refl) tt))))))))

  module _ (in_turn : WhatLinesRunInTurnFindWhatWasLeft Global) (lets_out : WhatLinesLetOutIsTheDocument Global) where
    vouched : AreVouchedFor IsAmong (all_commands lines)
    vouched = in_turn (λ other. true) p0 lines asks takes (λ other named. (blank other).1) (follow set_of)

    -- ---- what the law says

    untouched : p8 path.now ≡ p0 path.now
    untouched = a8.is_at.2 path.now (λ same. omega (arith, great_out, ap first_byte (same ∙ n8)))
        ∙ stay path.now (λ same. omega (arith, ap first_byte (sym path_is ∙ same))) ∙ kept path.now great_out

    honest_out : IsTrue (p8 path.now).joint.is_honest
    honest_out = subst (λ (f : DeskFiles). IsTrue f.joint.is_honest) (sym untouched) (blank path.now).0.honest

    honest_labels : IsTrue (p7 (codes "labels")).joint.is_honest
    honest_labels = subst (λ (f : DeskFiles). IsTrue f.joint.is_honest) (sym (kept (codes "labels") (omega arith)))
        (blank (codes "labels")).0.honest

    put_there : (q (codes "labels")).joint.content ≡ Some o7
    put_there = elim (saved_so (codes "labels") o7 p7 q (Ok tt) put honest_labels) [
      | inl (fault, same) ↦ (let is = fault.1 in cc (is))
      | inr is ↦ is
    ]

    the_document : (document : List ℕ) × IsDocumentOf (all_commands earlier) (all_commands lines) id.now document
        × ((p9 path.now).joint.content ≡ Some document)
    the_document = elim ((lets_out (λ other. true) earlier [] deliver asks vouched refl).1 honest_out) [
      | inl (fails, same) ↦ absurd (fails refl)
      | inr is ↦ is
    ]

    is_1234 : the_document.0 ≡ codes "1234"
    is_1234 = read_whole (ran_at a7)
        (only_prints (ran_at a7) (all_commands earlier)
        (also (inl refl) (also (inl refl) (also (inl refl) (also (inl refl) (also (inl refl) (also (inl refl)
        (also (inr refl) (also (inl refl) tt)))))))) the_document.1.printed) refl (omega arith)

    pub go_well : o5 ≡ codes "refused Old\n" → o6 ≡ codes "refused Device\n" →
        map typed worked_words ≡ w1 ∷ w2 ∷ w3 ∷ w4 ∷ w5 ∷ w6 ∷ w7 ∷ w8 ∷ w9 ∷ [] → LinesGoWell
    go_well old device words = record {
      earlier = earlier;
      print = ran_here x7;
      scan = ran_here x8;
      deliver = deliver;
      words = sym words;
      statuses = refl;
      commands = refl;
      told = λ i. (x5.done.output_is ∙ ap Some old) i ∷ (x6.done.output_is ∙ ap Some device) i ∷ [];
      asks = asks;
      blank = blank;
      vouched = vouched;
      printed = refl;
      print_read = refl;
      scanned = refl;
      labels = (o7, x7.done.output_is, put_there, refl);
      nothing = subst (λ (p : List ℕ). (p8 p).joint.content ≡ None) path_is
          (ap (λ (f : DeskFiles). f.joint.content) untouched ∙ (blank path.now).0.empty);
      document = subst (λ (text : List ℕ). IsDocumentOf (all_commands earlier) (all_commands lines) text (codes "1234")) id_is
          (subst (IsDocumentOf (all_commands earlier) (all_commands lines) id.now) is_1234 the_document.1);
      saved = subst (λ (p : List ℕ). (p9 p).joint.content ≡ Some (codes "1234")) path_is
          (the_document.2 ∙ ap Some is_1234);
    }

-- a text that differs from that of `Memory` where the name begins
other_text : (said : List ℕ) (letter : ℕ) → ((rest : List ℕ) → slice_get (said ++ rest) 8 ≡ Some letter) → letter ≢ 77 →
    (rest : List ℕ) → said ++ rest ≡ refused_line (codes "Memory") → ⊥
other_text said letter has differs rest is =
    let both : Some letter ≡ Some 77 = sym (has rest) ∙ ap (λ (l : List ℕ). slice_get l 8) is in differs (cc (both))

-- the same, from what the lines gave, and with what they ended
same_at : {X : Type 0} {x y : X} (i : ℕ) (xs ys : List X) → xs ≡ ys → slice_get xs i ≡ Some x → slice_get ys i ≡ Some y →
    x ≡ y
same_at i xs ys same one other = let both = sym one ∙ ap (λ (l : List _). slice_get l i) same ∙ other in cc (both)

module _ {c1 c2 c3 c4 c5 c6 c7 c8 c9 : Command} {k1 k2 k3 k4 k5 k6 k7 k8 k9 : List ℕ → FileView}
    {w1 w2 w3 w4 w5 w6 w7 w8 w9 : List (List ℕ)} {p0 p1 p2 p3 p4 p5 p6 p7 q p8 p9 : PlacesView}
    {o1 o2 o3 o4 o5 o6 o7 o8 o9 b7 b8 : List ℕ} {z1 z2 z3 z4 z5 z6 z7 z8 z9 : ℕ} {answer : Result (Unit {0}) StoreFault}
    (d1 : z1 < 2 → IsLineDone k1 w1 c1 None p0 [] z1 p1 o1)
    (d2 : z2 < 2 → IsLineDone k2 w2 c2 None p1 [] z2 p2 o2)
    (d3 : z3 < 2 → IsLineDone k3 w3 c3 None p2 [] z3 p3 o3)
    (d4 : z4 < 2 → IsLineDone k4 w4 c4 None p3 [] z4 p4 o4)
    (d5 : z5 < 2 → IsLineDone k5 w5 c5 None p4 [] z5 p5 o5)
    (d6 : z6 < 2 → IsLineDone k6 w6 c6 None p5 [] z6 p6 o6)
    (d7 : z7 < 2 → IsLineDone k7 w7 c7 None p6 (codes "1234") z7 p7 o7)
    (d8 : z8 < 2 → IsLineDone k8 w8 c8 None q b8 z8 p8 o8)
    (d9 : z9 < 2 → IsLineDone k9 w9 c9 (Some (codes "out")) p8 [] z9 p9 o9)
    (w : AreWorked (c1 ∷ c2 ∷ c3 ∷ c4 ∷ c5 ∷ c6 ∷ c7 ∷ c8 ∷ c9 ∷ []))
    (ended : z1 ∷ z2 ∷ z3 ∷ z4 ∷ z5 ∷ z6 ∷ z7 ∷ z8 ∷ z9 ∷ [] ≡ 0 ∷ 0 ∷ 0 ∷ 0 ∷ 1 ∷ 1 ∷ 0 ∷ 0 ∷ 0 ∷ [])
    (old_is : o5 ≡ codes "refused Old\n") (device_is : o6 ≡ codes "refused Device\n") (done : answer ≡ Ok tt)
    (put : SavesNew (codes "labels") b7 p7 answer q) (same7 : b7 ≡ o7) (same8 : b8 ≡ o7)
    (blank : (other : List ℕ) → AreBlank (p0 other))
    (words : map typed worked_words ≡ w1 ∷ w2 ∷ w3 ∷ w4 ∷ w5 ∷ w6 ∷ w7 ∷ w8 ∷ w9 ∷ [])
    (in_turn : WhatLinesRunInTurnFindWhatWasLeft Global) (lets_out : WhatLinesLetOutIsTheDocument Global) where
  x9 : Typed (Deliver w.file.8 w.id) w9 (Some (codes "out")) p8 [] 0 p9 o9
  x9 = typed_well (same_at 8 _ _ w.are refl refl) d9 (refl, refl) (same_at 8 _ _ ended refl refl)

  pub worked : LinesGoWell
  worked =
      let path = saved_at x9.done.line.saved_as x9.done.saved_is in
      go_well
      (typed_well (same_at 0 _ _ w.are refl refl) d1 (refl, refl) (same_at 0 _ _ ended refl refl))
      (typed_well (same_at 1 _ _ w.are refl refl) d2 (refl, refl) (same_at 1 _ _ ended refl refl))
      (typed_well (same_at 2 _ _ w.are refl refl) d3 (refl, refl) (same_at 2 _ _ ended refl refl))
      (typed_well (same_at 3 _ _ w.are refl refl) d4 (refl, refl) (same_at 3 _ _ ended refl refl))
      (typed_refused (same_at 4 _ _ w.are refl refl) d5 (refl, refl) (same_at 4 _ _ ended refl refl) refl
      (codes "refused Old\n") old_is (other_text (codes "refused Old\n") 79 (λ rest. refl) (λ e. omega (arith, e))))
      (typed_refused (same_at 5 _ _ w.are refl refl) d6 (refl, refl) (same_at 5 _ _ ended refl refl) refl
      (codes "refused Device\n") device_is (other_text (codes "refused Device\n") 68 (λ rest. refl) (λ e. omega (arith, e))))
      (typed_well (same_at 6 _ _ w.are refl refl) d7 (refl, refl) (same_at 6 _ _ ended refl refl))
      (typed_well (same_at 7 _ _ w.are refl refl)
      (λ small. subst (λ (b : List ℕ). IsLineDone k8 w8 c8 None q b z8 p8 o8) same8 (d8 small)) (refl, refl) (same_at 7 _ _ ended refl refl))
      x9 path.1 w.ledgers.0 w.ledgers.1 w.ledgers.2 w.ledgers.3 w.ledgers.4 w.ledgers.5 w.ledgers.6 w.desk.0 w.desk.1
      w.id_is path.2
      (subst (λ (text : List ℕ). IsTextOf text ten_ticket) (sym w.tickets.0) ten_text)
      (subst (λ (text : List ℕ). IsTextOf text ten_ticket) (sym w.tickets.1) ten_text)
      (subst (λ (a : Result (Unit {0}) StoreFault). SavesNew (codes "labels") o7 p7 a q) done
      (subst (λ (b : List ℕ). SavesNew (codes "labels") b p7 answer q) same7 put)) blank in_turn lets_out old_is device_is words
