-- What comes out of lines that deliver: the document of the ID, or those of all IDs of the desk.
use Rattle.std.proofs.Common.{◌≡◌, ◌≢◌, ◌++◌, ◌∷◌, inl, inr, true, false, ℕ, List, [], None, Option, Some, codes, refl, slice_get, sym, ap, subst, ◌∙◌, append-nil, append_assoc}
use Rattle.std.specs.{Borrow.Bor, Prelude.IfSome, Prelude.IsTrue, Prelude.MatchOption, Prelude.map, Prelude.option_map, List.AllByRecursion}
use Rattle.dm_size.specs.declared.size.Size.{Size}
use Rattle.dm_symbol.specs.Correction.{CarriesItsWords}
use Rattle.dm_assembly_desk.specs.Documents.{Documents}
use Rattle.relay_command.specs.declared.command.Command.{Command}
use Rattle.relay_command.specs.declared.command.Command.TheVariants.{Deliver, DeliverAll}
use Rattle.relay_shared.specs.{Command.FileView, Files.DeskFiles, Lines.id_text}
use Rattle.relay_desk_commands.specs.Desks.{ids_given}
use Rattle.relay_desk_commands.specs.declared.documents.Given.TheVariants.{Document, File}
use Rattle.relay_buffers.specs.Buffers.{IsPartOut}
use Rattle.relay.specs.Places.{PlacesView}
use Rattle.relay.specs.Program.{DoesAll, DoesAndSaves, DoesAt, ForgetsEach, GivesHeld, PutsRefusal, SystemView, does, does_all, does_and_forgets, does_and_saves, does_here, finds, finds_nothing, forgets_each, forgets_it, forgets_next, forgets_none, gives_each, has_none, ids_of_all, is_held, lacks_its_memory, lacks_memory, named_path, none_left, opens_desk, opens_none, path_of, refuses_on_errors, shows}
use Rattle.relay.specs.Program as program
use Rattle.relay_program_runs.specs.Passed.{text_of}
use Rattle.relay_program_runs.specs.Law.{DeliversPrinted, Each, IsDocumentOf, PrintsUnder, Ran}
use Rattle.relay_program_runs.specs.Lines.{LetsOutTheDocument, LineRan, PutsTheDocument, SavesTheDocument, WhatLinesLetOutIsTheDocument, all_commands, commands_in, commands_of, forgetters_in, givers_of, if_named, in_folder, ran_at, saved_as}
use Rattle.relay_program_runs.proofs.DocumentOut.{PrintIt, not_zero, one_more, part_all, put_out, save_out}
use Rattle.relay_program_runs.proofs.DocumentsOut.{comes, each_in, of_map}
use Rattle.relay_program_runs.proofs.{GotOut.refused_one, Lists.all_so, OneDocument.in_all, Steps.found}
use Rattle.relay_program_runs.proofs.LinePaths.{all_later, each_id_of_lines_has_one_document, what_lines_deliver_was_printed}

-- ---- a line

module _ (A : Type 0) (IsAmong : List ℕ → Type 0) (earlier : List (Ran A)) (IsIt : List ℕ → List ℕ → Type 0)
    (print : PrintIt IsIt earlier) where
  by_held : (file folder : Bor (List ℕ)) (old seen new : SystemView) (status : ℕ) (held : Documents)
      (at : DoesAt A (DeliverAll file folder false) [] old 0 seen)
      (gives : GivesHeld A Document file.now folder.now held seen status new) (rest : List (Ran A)) →
      Each (DeliversPrinted IsAmong) (earlier ++ ran_at at ∷ []) (givers_of gives ++ rest) → IsAmong file.now →
      (text : List ℕ) (i : ℕ) → slice_get (map id_text (ids_given Document held)) i ≡ Some text →
      in_folder folder.now text ≢ file.now → SavesTheDocument (IsIt text) (in_folder folder.now text) old status new
  by_held file folder old seen new status held at (gives_each done each noted same) rest delivers among text i is apart honest =
      let path = in_folder folder.now text in
      let kept : seen.places path ≡ old.places path = at.is_at.2 path apart in
      let last : (new.places path).joint.content ≡ (done.places path).joint.content =
      ap (λ (p : PlacesView). (p path).joint.content) same in
      elim (comes A IsIt IsAmong file.now folder.now text among apart each (earlier ++ ran_at at ∷ []) rest
      (one_more IsIt earlier (ran_at at) refl print) delivers
      (subst (λ (f : DeskFiles). IsTrue f.joint.is_honest) (sym kept) honest)) [
        | inl (fails, content) ↦ inl (fails i is, last ∙ content ∙ ap (λ (f : DeskFiles). f.joint.content) kept)
        | inr (document, it, content) ↦ inr (document, it, last ∙ content)
      ]
  by_held file folder old seen new status held at (has_none none (told, puts, notes) same) rest delivers among text i is apart
      honest =
      let path = in_folder folder.now text in
      let kept : seen.places path ≡ old.places path = at.is_at.2 path apart in
      inl (
        not_zero (refused_one puts.0.1),
        ap (λ (p : PlacesView). (p path).joint.content) same ∙ ap (λ (f : DeskFiles). f.joint.content) kept,
      )

  by_all : (file folder : Bor (List ℕ)) (old new : SystemView) (status : ℕ)
      (all : DoesAll A Document file folder old status new) (rest : List (Ran A)) →
      Each (DeliversPrinted IsAmong) earlier (commands_of all ++ rest) →
      AllByRecursion (λ path. AllByRecursion (λ (ran : Ran A). path ≢ path_of ran.command) (commands_of all ++ rest))
      (map (in_folder folder.now) (ids_of_all all)) → IsAmong file.now →
      AllByRecursion (λ id. SavesTheDocument (IsIt id) (in_folder folder.now id) old status new) (ids_of_all all)
  by_all file folder old new status (opens_desk seen desk at between gives) rest delivers apart among =
      let ids : List (List ℕ) = map id_text (ids_given Document desk.held) in
      let rans : List (Ran A) = ran_at at ∷ (givers_of gives ++ rest) in
      let all_apart = of_map (λ (path : List ℕ). AllByRecursion (λ (ran : Ran A). path ≢ path_of ran.command) rans)
      (in_folder folder.now) ids apart in
      each_in (λ (id : List ℕ). SavesTheDocument (IsIt id) (in_folder folder.now id) old status new) ids (λ id i is.
      by_held file folder old seen new status desk.held at gives rest delivers.1 among id i is
      (found (λ (id : List ℕ). AllByRecursion (λ (ran : Ran A). in_folder folder.now id ≢ path_of ran.command) rans) ids
      all_apart i id is).0)
  by_all file folder old new status (opens_none refused at) rest delivers apart among = tt

  -- what is forgotten leaves the files that were saved
  forgets_keep : {file : List ℕ} {ids : List (List ℕ)} {old new : SystemView} {status : ℕ}
      (each : ForgetsEach A file ids old status new) (path : List ℕ) → path ≢ file → new.places path ≡ old.places path
  forgets_keep none_left path apart = refl
  forgets_keep (forgets_next (forgets_it from id at is ran) later) path apart =
      forgets_keep later path apart ∙ ran.is_at.2 path (λ same. apart (same ∙ at))
  forgets_keep (forgets_next (lacks_its_memory same told) later) path apart =
      forgets_keep later path apart ∙ ap (λ (p : PlacesView). p path) same

  still_saved : (IsDocument : List ℕ → Type 0) (path : List ℕ) (old saved new : SystemView) (status : ℕ) →
      SavesTheDocument IsDocument path old 0 saved → new.places path ≡ saved.places path →
      SavesTheDocument IsDocument path old status new
  still_saved IsDocument path old saved new status saves kept honest = elim (saves honest) [
    | inl (fails, same) ↦ absurd (fails refl)
    | inr (document, it, is) ↦ inr (document, it, ap (λ (f : DeskFiles). f.joint.content) kept ∙ is)
  ]

  by_forgetting : (file folder : Bor (List ℕ)) (old saved new : SystemView) (status : ℕ)
      (all : DoesAll A Document file folder old 0 saved)
      (each : ForgetsEach A file.now (ids_of_all all) saved status new) (rest : List (Ran A)) →
      Each (DeliversPrinted IsAmong) earlier (commands_of all ++ (forgetters_in each ++ rest)) →
      AllByRecursion (λ path. AllByRecursion (λ (ran : Ran A). path ≢ path_of ran.command)
      (commands_of all ++ (forgetters_in each ++ rest))) (map (in_folder folder.now) (ids_of_all all)) → IsAmong file.now →
      AllByRecursion (λ id. SavesTheDocument (IsIt id) (in_folder folder.now id) old status new) (ids_of_all all)
  by_forgetting file folder old saved new status (opens_desk seen desk at between gives) each rest delivers apart among =
      let ids : List (List ℕ) = map id_text (ids_given Document desk.held) in
      let rans : List (Ran A) = ran_at at ∷ (givers_of gives ++ (forgetters_in each ++ rest)) in
      let all_apart = of_map (λ (path : List ℕ). AllByRecursion (λ (ran : Ran A). path ≢ path_of ran.command) rans)
      (in_folder folder.now) ids apart in
      let saves = by_all file folder old saved 0 (opens_desk seen desk at between gives) (forgetters_in each ++ rest) delivers
      apart among in
      each_in (λ (id : List ℕ). SavesTheDocument (IsIt id) (in_folder folder.now id) old status new) ids (λ id i is.
      still_saved (IsIt id) (in_folder folder.now id) old saved new status
      (found (λ (id : List ℕ). SavesTheDocument (IsIt id) (in_folder folder.now id) old 0 saved) ids saves i id is)
      (forgets_keep each (in_folder folder.now id)
      (found (λ (id : List ℕ). AllByRecursion (λ (ran : Ran A). in_folder folder.now id ≢ path_of ran.command) rans) ids
      all_apart i id is).0))
  by_forgetting file folder old saved new status (opens_none refused at) each rest delivers apart among = tt

  abbrev named_in : Option (Bor (List ℕ)) → Option (List ℕ)
  named_in saved = option_map (λ path. path.now) saved

  abbrev Out : Command → Option (Bor (List ℕ)) → SystemView → ℕ → SystemView → Type 0
  Out command saved old status new = IfSome (text_of command) (λ text. IsAmong (path_of command) →
      MatchOption saved (PutsTheDocument (IsIt text) old status new) (λ path.
      (new.standard.output ≡ old.standard.output) × SavesTheDocument (IsIt text) path.now old status new))

  by_here : (command : Command) (inputs : List FileView) (saved : Option (Bor (List ℕ))) → named_in saved ≡ None →
      (old new : SystemView) (status : ℕ) (at : DoesAt A command inputs old status new) (rest : List (Ran A)) →
      Each (DeliversPrinted IsAmong) earlier (if_named (named_path command) (ran_at at) ++ rest) →
      Out command saved old status new
  by_here (Deliver file id) inputs None is old new status at rest each =
      λ among. put_out A earlier IsIt print (Deliver file id) inputs id.now old new status at (each.0 among)
  by_here (Deliver file id) inputs (Some path) is old new status at rest each = cc (is)
  by_here other inputs saved is old new status at rest each = tt

  -- `held` gives no document
  by_nothing : (command : Command) (saved : Option (Bor (List ℕ))) → is_held command ≡ true → (old new : SystemView)
      (status : ℕ) → Out command saved old status new
  by_nothing (Deliver file id) saved held old new status = cc (held)
  by_nothing other saved held old new status = tt

  by_saved : (command : Command) (path : List ℕ) (saved : Option (Bor (List ℕ))) → named_in saved ≡ Some path →
      (old new : SystemView) (status : ℕ) (to : DoesAndSaves A command path old status new) (rest : List (Ran A)) →
      Each (DeliversPrinted IsAmong) earlier (if_named (named_path command) (ran_at to.does) ++ rest) →
      AllByRecursion (λ (ran : Ran A). path ≢ path_of ran.command) (if_named (named_path command) (ran_at to.does) ++ rest) →
      Out command saved old status new
  by_saved (Deliver file id) path None is old new status to rest each apart = cc (is)
  by_saved (Deliver file id) path (Some other) is old new status to rest each apart =
      let same : path ≡ other.now = cc (is) in
      λ among. subst (λ (p : List ℕ). (new.standard.output ≡ old.standard.output)
      × SavesTheDocument (IsIt id.now) p old status new) same
      (save_out A earlier IsIt print (Deliver file id) id.now path old new status to (to.does.is_at.2 path apart.0)
      (each.0 among))
  by_saved other path saved is old new status to rest each apart = tt

  by_lacks : (command : Command) (saved : Option (Bor (List ℕ))) (old new : SystemView) (status : ℕ) → new.places ≡ old.places →
      PutsRefusal (refuses_on_errors command) (codes "Memory") old.standard status new.standard →
      Out command saved old status new
  by_lacks (Deliver file id) None old new status same told = λ among. inl (
    refused_one told.0.1,
    subst (λ (o : Option (List ℕ)). IsPartOut old.standard.output o) (sym told.2) (part_all old.standard.output),
  )
  by_lacks (Deliver file id) (Some path) old new status same told = λ among. (
    told.2,
    λ honest. inl (not_zero (refused_one told.0.1), ap (λ (p : PlacesView). (p path.now).joint.content) same),
  )
  by_lacks other saved old new status same told = tt

  by_runs : (inputs : List ℕ → FileView) (words : List (List ℕ)) (old new : SystemView) (status : ℕ)
      (runs : program.Runs A inputs words old status new) (rest : List (Ran A)) →
      Each (DeliversPrinted IsAmong) earlier (commands_in runs ++ rest) →
      AllByRecursion (λ path. AllByRecursion (λ (ran : Ran A). path ≢ path_of ran.command) (commands_in runs ++ rest))
      (saved_as runs) → LetsOutTheDocument IsAmong IsIt runs
  by_runs inputs words old new status (does line right met (does_here none one (finds at))) rest each apart =
      by_here line.command _ line.saved_as none old new status at rest each
  by_runs inputs words old new status (does line right met (does_here none one (finds_nothing seen held at holds same told))) rest
      each apart = by_nothing line.command line.saved_as held old new status
  by_runs inputs words old new status (does line right met (does_and_saves path is to)) rest each apart =
      by_saved line.command path line.saved_as is old new status to rest each apart.0
  by_runs inputs words old new status (does line right met (does_all Document file folder is all)) rest each apart =
      by_all file folder old new status all rest each apart
  by_runs inputs words old new status (does line right met (does_all File file folder is all)) rest each apart = tt
  by_runs inputs words old new status
      (does line right met (does_and_forgets file folder is (forgets_each saved all forgets))) rest each apart =
      let are = append_assoc (commands_of all) (forgetters_in forgets) rest in
      by_forgetting file folder old saved new status all forgets rest
      (subst (λ (rans : List (Ran A)). Each (DeliversPrinted IsAmong) earlier rans) are each)
      (subst (λ (rans : List (Ran A)). AllByRecursion (λ path. AllByRecursion (λ (ran : Ran A). path ≢ path_of ran.command) rans)
      (map (in_folder folder.now) (ids_of_all all))) are apart)
  by_runs inputs words old new status (does line right met (does_and_forgets file folder is (forgets_none fails all))) rest
      each apart = by_all file folder old new status all rest each apart
  by_runs inputs words old new status (does line right met (lacks_memory names same told)) rest each apart =
      by_lacks line.command line.saved_as old new status same told
  by_runs inputs words old new status (shows fault ends shown same) rest each apart = tt

-- ---- one of these lines

module _ {A : Type 0} where
  commands_more : (before after : List (LineRan A)) → all_commands (before ++ after) ≡ all_commands before ++ all_commands after
  commands_more [] after = refl
  commands_more (line ∷ before) after =
      ap (λ (rans : List (Ran A)). commands_in line.runs ++ rans) (commands_more before after)
      ∙ sym (append_assoc (commands_in line.runs) (all_commands before) (all_commands after))

  each_later : (P : List (Ran A) → Ran A → Type 0) (earlier before after : List (Ran A)) →
      Each P earlier (before ++ after) → Each P (earlier ++ before) after
  each_later P earlier [] after each = subst (λ (rans : List (Ran A)). Each P rans after) (sym (append-nil earlier)) each
  each_later P earlier (ran ∷ before) after each = subst (λ (rans : List (Ran A)). Each P rans after)
      (append_assoc earlier (ran ∷ []) before) (each_later P (earlier ++ ran ∷ []) before after each.1)

module _ (A : Type 0) (law : (size : Size) → CarriesItsWords size) where
  pub what_lines_let_out_is_the_document : WhatLinesLetOutIsTheDocument A
  what_lines_let_out_is_the_document among before after line ask vouched =
      let lines : List (LineRan A) = before ++ line ∷ after in
      let are : all_commands lines ≡ all_commands before ++ all_commands (line ∷ after) = commands_more before (line ∷ after) in
      let delivers = what_lines_deliver_was_printed A among lines ask vouched in
      by_runs A (λ path. IsTrue (among path)) (all_commands before) (IsDocumentOf (all_commands before) (all_commands lines))
      (λ id text document is printed. record {
        id = id;
        id_is = is;
        printed = printed;
        no_other = λ other its. each_id_of_lines_has_one_document A law lines ask id other document its
            (in_all (PrintsUnder id document) (all_commands lines) (all_commands before) (all_commands (line ∷ after)) are printed);
      })
      line.inputs line.words line.before line.after line.status line.runs (all_commands after)
      (each_later (DeliversPrinted (λ path. IsTrue (among path))) [] (all_commands before) (all_commands (line ∷ after))
      (subst (λ (rans : List (Ran A)). Each (DeliversPrinted (λ path. IsTrue (among path))) [] rans) are delivers))
      (all_so _ _ (saved_as line.runs) (λ path apart. all_later (λ (ran : Ran A). path ≢ path_of ran.command)
      (all_commands before) (all_commands (line ∷ after))
      (subst (λ (rans : List (Ran A)). AllByRecursion (λ (ran : Ran A). path ≢ path_of ran.command) rans) are apart))
      (all_later _ before (line ∷ after) ask.saved_apart).0)
