-- Lines that ran over the places of a system are commands that ran at a site: the paths that they name, each once.
use Rattle.std.proofs.Common.{◌≡◌, ◌≢◌, ◌++◌, ◌⊎◌, Bor, inl, inr, ℕ, zero, suc, List, [], ◌∷◌, None, Option, Some, slice_get, slice_set, refl, sym, ap, append_assoc, subst, ◌∙◌, Bool, true, false}
use Rattle.std.specs.{Prelude.Decides, Prelude.map, Prelude.unwrap_or, List.AllByRecursion, Str.bytes_eq}
use Rattle.std.specs.FinMap as finite
use Rattle.std.proofs.lemmas.Slice.Eq.{bytes_eq-Decides}
use Rattle.dm_store.specs.Saved.{Saved, SavedIn}
use Rattle.dm_size.specs.declared.size.Size.{Size}
use Rattle.dm_symbol.specs.Correction.{CarriesItsWords}
use Rattle.relay_command.specs.declared.command.Command.{Command}
use Rattle.relay_command.specs.declared.command.Command.TheVariants.{Deliver, Export}
use Rattle.relay_shared.specs.Files.{DeskFiles}
use Rattle.relay_desk_commands.specs.{declared.documents.Given.Given}
use Rattle.relay_desk_commands.specs.declared.documents.Given.TheVariants.{Document, File}
use Rattle.relay.specs.Places.{PlacesView}
use Rattle.relay.specs.Program.{named_path, path_of, DoesAll, DoesAndSaves, DoesAt, ForgetsEach, GivesEach, IsAt, SystemView, all_command, does, does_all, does_and_forgets, does_and_saves, does_here, finds as found_there, finds_nothing, forgets_each, forgets_it, forgets_next, forgets_none, gives_each, has_none, ids_of_all, lacks_its_memory, lacks_memory, next_id, no_id, none_left, one_command, opens_desk, opens_none, shows}
use Rattle.relay.proofs.AllDocuments.{others_stay}
use Rattle.relay.specs.Program as program
use Rattle.relay_program_runs.specs.Law.{At, MeetsPremises, IsBlank, IsNew, Ran, RunInTurn, SomeRan, store_of}
use Rattle.relay_program_runs.specs.Lines.{EachIdOfLinesHasOneDocument, Follow, IsNamedBy, LineRan, LinesAsk, NoLinePrintsAnIdAgain, WhatLinesDeliverIsTheDocument, WhatLinesDeliverWasPrinted, all_commands, commands_in, commands_of, forgetters_in, givers_in, if_named, in_folder, ran_at, saved_as}
use Rattle.relay_program_runs.specs.{InTurn.WhatLinesRunInTurnFindWhatWasLeft, InTurn.set_of, Where.IsLeftAt, Where.IsLeftByLinesAt, Where.NoIdOfLinesIsInTwoPlaces}
use Rattle.relay_program_runs.proofs.{Lists.all_so, OneDocument.each_id_has_one_document, OneDocument.what_is_delivered_is_the_document, Walk.no_id_is_printed_twice, Where.no_id_is_in_two_places, Where.still_there, Walk.what_is_delivered_was_printed, Walk.what_runs_in_turn_finds_what_was_left}
use Rattle.relay_program_runs.proofs.Steps.{Pairs, at_same, found, pairs_so, there}
use Rattle.relay_shared.specs.Command.{FileView}

-- ---- paths, each once

abbrev IsIn : List (List ℕ) → List ℕ → Type 0
IsIn paths path = (i : ℕ) × (slice_get paths i ≡ Some path)

-- the path is none of these
abbrev IsNone : List (List ℕ) → List ℕ → Type 0
IsNone paths path = AllByRecursion (λ other. path ≢ other) paths

abbrev IsApart : List ℕ → List ℕ → Type 0
IsApart one other = one ≢ other

later_in : (first : List ℕ) (paths : List (List ℕ)) (path : List ℕ) → IsIn paths path → IsIn (first ∷ paths) path
later_in first paths path (i, at) = (suc i, at)

pub decided : (b : Bool) (one other : List ℕ) → Decides b (one ≡ other) → (one ≡ other) ⊎ (one ≢ other)
decided true one other d = inl (d.0 refl)
decided false one other d = inr (λ same. cc (d.1 same))

in_or_none : (path : List ℕ) (paths : List (List ℕ)) → IsIn paths path ⊎ IsNone paths path
in_or_none path [] = inr tt
in_or_none path (first ∷ rest) = elim (decided (bytes_eq path first) path first (bytes_eq-Decides path first)) [
  | inl same ↦ inl (zero, ap Some (sym same))
  | inr other ↦ elim (in_or_none path rest) [
    | inl is ↦ inl (later_in first rest path is)
    | inr none ↦ inr (other, none)
  ]
]

-- ---- a site of them

and_then : {X : Type 0} {x y : X} {xs ys : List X} → x ≡ y → xs ≡ ys → x ∷ xs ≡ y ∷ ys
and_then first rest = λ i. first i ∷ rest i

module _ {X : Type 0} (of : DeskFiles → SavedIn X) where
  abbrev site_of : List (List ℕ) → PlacesView → List (At X)
  site_of [] places = []
  site_of (path ∷ paths) places = there path (of (places path)) ∷ site_of paths places

  at_in : (paths : List (List ℕ)) (places : PlacesView) (i : ℕ) (path : List ℕ) → slice_get paths i ≡ Some path →
      slice_get (site_of paths places) i ≡ Some (there path (of (places path)))
  at_in [] places i path is = cc (is)
  at_in (first ∷ rest) places zero path is =
      let same : first ≡ path = cc (is) in ap (λ (p : List ℕ). Some (there p (of (places p)))) same
  at_in (first ∷ rest) places (suc i) path is = at_in rest places i path is

  -- at every other of these paths is what was there before
  abbrev KeepsIn : List (List ℕ) → List ℕ → PlacesView → PlacesView → Type 0
  KeepsIn paths path old new = (other : List ℕ) → IsIn paths other → path ≢ other → of (new other) ≡ of (old other)

  same_site : (paths : List (List ℕ)) (path : List ℕ) (old new : PlacesView) → IsNone paths path →
      KeepsIn paths path old new → site_of paths old ≡ site_of paths new
  same_site [] path old new none keeps = refl
  same_site (first ∷ rest) path old new none keeps =
      and_then (at_same refl (sym (keeps first (zero, refl) none.0)))
      (same_site rest path old new none.1 (λ other is. keeps other (later_in first rest other is)))

  set_in_site : (paths : List (List ℕ)) → Pairs IsApart paths → (i : ℕ) (path : List ℕ) → slice_get paths i ≡ Some path →
      (old new : PlacesView) (after : SavedIn X) → of (new path) ≡ after → KeepsIn paths path old new →
      slice_set (site_of paths old) i (there path after) ≡ site_of paths new
  set_in_site [] apart i path is old new after left keeps = cc (is)
  set_in_site (first ∷ rest) apart zero path is old new after left keeps =
      let same : first ≡ path = cc (is) in
      and_then (at_same (sym same) (sym left ∙ ap (λ (p : List ℕ). of (new p)) (sym same)))
      (same_site rest path old new (subst (IsNone rest) same apart.0)
      (λ other is. keeps other (later_in first rest other is)))
  set_in_site (first ∷ rest) apart (suc i) path is old new after left keeps =
      and_then (at_same refl (sym (keeps first (zero, refl)
      (λ same. found (λ (other : List ℕ). first ≢ other) rest apart.0 i path is (sym same)))))
      (set_in_site rest apart.1 i path is old new after left (λ other is. keeps other (later_in first rest other is)))

  module _ (none : X) (places : PlacesView) where
    all_blank : (paths : List (List ℕ)) → ((path : List ℕ) → IsIn paths path → IsBlank none (of (places path))) →
        AllByRecursion (λ (at : At X). IsBlank none at.saved) (site_of paths places)
    all_blank [] blank = tt
    all_blank (path ∷ paths) blank =
        (blank path (zero, refl), all_blank paths (λ other is. blank other (later_in path paths other is)))

    none_there : (paths : List (List ℕ)) (path : List ℕ) → IsNone paths path →
        AllByRecursion (λ (at : At X). path ≢ at.path) (site_of paths places)
    none_there [] path none = tt
    none_there (first ∷ rest) path none = (none.0, none_there rest path none.1)

    pairs_there : (paths : List (List ℕ)) → Pairs IsApart paths →
        Pairs (λ (one other : At X). one.path ≢ other.path) (site_of paths places)
    pairs_there [] apart = tt
    pairs_there (path ∷ paths) apart = (none_there paths path apart.0, pairs_there paths apart.1)

    new_site : (paths : List (List ℕ)) → Pairs IsApart paths →
        ((path : List ℕ) → IsIn paths path → IsBlank none (of (places path))) → IsNew none (site_of paths places)
    new_site paths apart blank = record {
      paths = pairs_so _ (site_of paths places) (pairs_there paths apart);
      blank = found (λ (at : At X). IsBlank none at.saved) (site_of paths places) (all_blank paths blank);
    }

-- ---- commands over places

pub all_later : {X : Type 0} (P : X → Type 0) (xs ys : List X) → AllByRecursion P (xs ++ ys) → AllByRecursion P ys
all_later P [] ys all = all
all_later P (x ∷ xs) ys all = all_later P xs ys all.1

module _ (A : Type 0) where
  abbrev AllIn : List (List ℕ) → List (Ran A) → Type 0
  AllIn paths rans = AllByRecursion (λ ran. IsIn paths (path_of ran.command)) rans

  abbrev IsNoPath : List (Ran A) → List ℕ → Type 0
  IsNoPath rans path = AllByRecursion (λ ran. path ≢ path_of ran.command) rans

  abbrev IsPath : List (Ran A) → List ℕ → Type 0
  IsPath rans path = SomeRan (λ ran. path_of ran.command ≡ path) rans

  is_or_no_path : (path : List ℕ) (rans : List (Ran A)) → IsPath rans path ⊎ IsNoPath rans path
  is_or_no_path path [] = inr tt
  is_or_no_path path (ran ∷ later) = let own = path_of ran.command in
      elim (decided (bytes_eq path own) path own (bytes_eq-Decides path own)) [
        | inl same ↦ inl (zero, ran, refl, sym same)
        | inr other ↦ elim (is_or_no_path path later) [
          | inl is ↦ inl (suc is.0, is.1, is.2, is.3)
          | inr none ↦ inr (other, none)
        ]
      ]

  -- the paths of some commands, and no other
  record Covers (rans : List (Ran A)) : Type 0 where
    paths : List (List ℕ)
    apart : Pairs IsApart paths
    all : AllIn paths rans
    no_other : (path : List ℕ) → IsNoPath rans path → IsNone paths path

  covers : (rans : List (Ran A)) → Covers rans
  covers [] = record { paths = []; apart = tt; all = tt; no_other = λ path no. tt }
  covers (ran ∷ later) = let c = covers later in elim (in_or_none (path_of ran.command) c.paths) [
    | inl is ↦ record {
      paths = c.paths;
      apart = c.apart;
      all = (is, c.all);
      no_other = λ path no. c.no_other path no.1;
    }
    | inr none ↦ record {
      paths = path_of ran.command ∷ c.paths;
      apart = (none, c.apart);
      all = (
        (zero, refl),
        all_so _ _ later (λ other is. later_in (path_of ran.command) c.paths (path_of other.command) is) c.all,
      );
      no_other = λ path no. (no.0, c.no_other path no.1);
    }
  ]

  -- each of them is the path of such a command
  is_path : (rans : List (Ran A)) (c : Covers rans) (path : List ℕ) → IsIn c.paths path → IsPath rans path
  is_path rans c path is = elim (is_or_no_path path rans) [
    | inl some ↦ some
    | inr none ↦ absurd (found (λ (other : List ℕ). path ≢ other) c.paths (c.no_other path none) is.0 path is.1 refl)
  ]

  module _ {X : Type 0} (of : DeskFiles → SavedIn X) (paths : List (List ℕ)) where
    -- each command finds what is at its path, and leaves every other of the paths as it is
    abbrev RunsOver : PlacesView → List (Ran A) → Type 0
    RunsOver places [] = Unit {0}
    RunsOver places (ran ∷ later) = (of ran.before.files ≡ of (places (path_of ran.command))) × (next : PlacesView)
        × (of (next (path_of ran.command)) ≡ of ran.after.files) × KeepsIn of paths (path_of ran.command) places next
        × RunsOver next later

    -- commands that run over places are a run at the site of these paths
    runs_there : Pairs IsApart paths → (places : PlacesView) (rans : List (Ran A)) → AllIn paths rans →
        RunsOver places rans → RunInTurn of (site_of of paths places) rans
    runs_there apart places [] all over = tt
    runs_there apart places (ran ∷ later) (is, all) (finds, next, leaves, keeps, rest) = (
      is.0,
      at_in of paths places is.0 (path_of ran.command) is.1 ∙ ap Some (at_same refl (sym finds)),
      subst (λ (site : List (At X)). RunInTurn of site later)
          (sym (set_in_site of paths apart is.0 (path_of ran.command) is.1 places next (of ran.after.files) leaves keeps))
          (runs_there apart next later all rest),
    )

    -- places that are the same at these paths have the same runs
    agree : (old new : PlacesView) (rans : List (Ran A)) → AllIn paths rans →
        ((other : List ℕ) → IsIn paths other → of (new other) ≡ of (old other)) → RunsOver new rans → RunsOver old rans
    agree old new [] all same over = tt
    agree old new (ran ∷ later) (is, all) same (finds, next, leaves, keeps, rest) = (
      finds ∙ same (path_of ran.command) is,
      next,
      leaves,
      λ other is' apart. keeps other is' apart ∙ same other is',
      rest,
    )

    -- a command at the path that it names, if it names one, before a run
    over_at : (named : Option (List ℕ)) (ran : Ran A) (old new : PlacesView) → unwrap_or named [] ≡ path_of ran.command →
        IsAt named ran.before.files old ran.after.files new → (rans : List (Ran A)) → RunsOver new rans →
        RunsOver old (if_named named ran ++ rans)
    over_at None ran old new is same rans over = subst (λ (p : PlacesView). RunsOver p rans) same over
    over_at (Some path) ran old new is (finds, leaves, keeps) rans over = (
      ap of (finds ∙ ap old is),
      new,
      ap of (ap new (sym is) ∙ leaves),
      λ other there apart. ap of (keeps other (λ same. apart (sym (same ∙ is)))),
      over,
    )

    over_saved : (command : Command) (path : List ℕ) (old new : SystemView) (status : ℕ)
        (to : DoesAndSaves A command path old status new) (rans : List (Ran A)) → AllIn paths rans → IsNone paths path →
        RunsOver new.places rans → RunsOver old.places (if_named (named_path command) (ran_at to.does) ++ rans)
    over_saved command path old new status to rans all saved over =
        over_at (named_path command) (ran_at to.does) old.places to.done.places refl to.does.is_at rans (elim to.saves [
          | inl kept ↦ subst (λ (s : SystemView). RunsOver s.places rans) kept.2 over
          | inr (zero_is, saves) ↦ agree to.done.places new.places rans all
              (λ other is. ap of (others_stay path _ _ _ _ saves.saves other
              (λ same. found (λ (p : List ℕ). path ≢ p) paths saved is.0 other is.1 (sym same)))) over
        ])

    over_one : (what : Given) (from id : Bor (List ℕ)) (path : List ℕ) (old new : SystemView) (status : ℕ)
        (to : DoesAndSaves A (one_command what from id) path old status new) (rans : List (Ran A)) → AllIn paths rans →
        IsNone paths path → RunsOver new.places rans → RunsOver old.places (ran_at to.does ∷ rans)
    over_one Document from id = over_saved (Deliver from id)
    over_one File from id = over_saved (Export from id)

    over_each : {what : Given} {file folder : List ℕ} {ids : List (List ℕ)} {old new : SystemView} {status : ℕ}
        (each : GivesEach A what file folder ids old status new) (rans : List (Ran A)) → AllIn paths (givers_in each ++ rans) →
        AllByRecursion (IsNone paths) (map (in_folder folder) ids) → RunsOver new.places rans →
        RunsOver old.places (givers_in each ++ rans)
    over_each no_id rans all saved over = over
    over_each (next_id from id at to later) rans all saved over =
        over_one _ from id _ _ _ _ to (givers_in later ++ rans) all.1 saved.0 (over_each later rans all.1 saved.1 over)

    over_opening : (what : Given) (file folder : Bor (List ℕ)) (old new : SystemView) (status : ℕ)
        (at : DoesAt A (all_command what false file folder) [] old status new) (rans : List (Ran A)) → RunsOver new.places rans →
        RunsOver old.places (ran_at at ∷ rans)
    over_opening Document file folder old new status at rans over =
        over_at (Some file.now) (ran_at at) old.places new.places refl at.is_at rans over
    over_opening File file folder old new status at rans over =
        over_at (Some file.now) (ran_at at) old.places new.places refl at.is_at rans over

    over_all : {what : Given} {file folder : Bor (List ℕ)} {old new : SystemView} {status : ℕ}
        (all : DoesAll A what file folder old status new) (rans : List (Ran A)) → AllIn paths (commands_of all ++ rans) →
        AllByRecursion (IsNone paths) (map (in_folder folder.now) (ids_of_all all)) → RunsOver new.places rans →
        RunsOver old.places (commands_of all ++ rans)
    over_all (opens_desk seen desk at between (gives_each done each noted same)) rans all saved over =
        over_opening _ _ _ _ seen 0 at (givers_in each ++ rans)
        (over_each each rans all.1 saved (subst (λ (p : PlacesView). RunsOver p rans) same over))
    over_all (opens_desk seen desk at between (has_none none told same)) rans all saved over =
        over_opening _ _ _ _ seen 0 at rans (subst (λ (p : PlacesView). RunsOver p rans) same over)
    over_all (opens_none refused at) rans all saved over = over_opening _ _ _ _ _ _ at rans over

    over_forgetting : {file : List ℕ} {ids : List (List ℕ)} {old new : SystemView} {status : ℕ}
        (each : ForgetsEach A file ids old status new) (rans : List (Ran A)) → RunsOver new.places rans →
        RunsOver old.places (forgetters_in each ++ rans)
    over_forgetting none_left rans over = over
    over_forgetting (forgets_next (forgets_it from id at is ran) later) rans over =
        over_at (Some from.now) (ran_at ran) _ _ refl ran.is_at (forgetters_in later ++ rans) (over_forgetting later rans over)
    over_forgetting (forgets_next (lacks_its_memory same told) later) rans over =
        subst (λ (p : PlacesView). RunsOver p (forgetters_in later ++ rans)) same (over_forgetting later rans over)

    over_line : (inputs : List ℕ → FileView) (words : List (List ℕ)) (old new : SystemView) (status : ℕ)
        (line : program.Runs A inputs words old status new) (rans : List (Ran A)) → AllIn paths (commands_in line ++ rans) →
        AllByRecursion (IsNone paths) (saved_as line) → RunsOver new.places rans →
        RunsOver old.places (commands_in line ++ rans)
    over_line inputs words old new status (does line right given (does_here none one (found_there at))) rans all saved over =
        over_at (named_path line.command) (ran_at at) old.places new.places refl at.is_at rans over
    over_line inputs words old new status (does line right given (does_here none one (finds_nothing seen held at holds same told)))
        rans all saved over = over_at (named_path line.command) (ran_at at) old.places seen.places refl at.is_at rans
        (subst (λ (p : PlacesView). RunsOver p rans) same over)
    over_line inputs words old new status (does line right given (does_and_saves path is to)) rans all saved over =
        over_saved line.command path old new status to rans
        (all_later _ (if_named (named_path line.command) (ran_at to.does)) rans all) saved.0 over
    over_line inputs words old new status (does line right given (does_all what file folder is each)) rans all saved over =
        over_all each rans all saved over
    over_line inputs words old new status
        (does line right given (does_and_forgets file folder is (forgets_each done each forgets))) rans all saved over =
        let are = append_assoc (commands_of each) (forgetters_in forgets) rans in
        subst (λ (later : List (Ran A)). RunsOver old.places later) (sym are)
        (over_all each (forgetters_in forgets ++ rans) (subst (AllIn paths) are all) saved (over_forgetting forgets rans over))
    over_line inputs words old new status (does line right given (does_and_forgets file folder is (forgets_none fails each)))
        rans all saved over = over_all each rans all saved over
    over_line inputs words old new status (does line right given (lacks_memory names same told)) rans all saved over =
        subst (λ (p : PlacesView). RunsOver p rans) same over
    over_line inputs words old new status (shows fault ends shown same) rans all saved over =
        subst (λ (p : PlacesView). RunsOver p rans) same over

    over_lines : (IsOurs : List ℕ → Type 0) → ((path : List ℕ) → IsIn paths path → IsOurs path) →
        (lines : List (LineRan A)) (places : PlacesView) → AllIn paths (all_commands lines) →
        AllByRecursion (λ line. AllByRecursion (IsNone paths) (saved_as line.runs)) lines → Follow of IsOurs places lines →
        RunsOver places (all_commands lines)
    over_lines IsOurs ours [] places all saved follow = tt
    over_lines IsOurs ours (line ∷ later) places all saved (same, follow) =
        let rest = all_later _ (commands_in line.runs) (all_commands later) all in
        agree places line.before.places (all_commands (line ∷ later)) all (λ path is. same path (ours path is))
        (over_line line.inputs line.words line.before line.after line.status line.runs (all_commands later)
        all saved.0 (over_lines IsOurs ours later line.after.places rest saved.1 follow))

  -- the lines over the paths that they name
  module _ {X : Type 0} (of : DeskFiles → SavedIn X) (lines : List (LineRan A)) (ask : LinesAsk lines) (places : PlacesView)
      (follow : Follow of (IsNamedBy lines) places lines) where
    abbrev paths_of : List (List ℕ)
    paths_of = (covers (all_commands lines)).paths

    run_there : RunInTurn of (site_of of paths_of places) (all_commands lines)
    run_there = let c = covers (all_commands lines) in
        runs_there of c.paths c.apart places (all_commands lines) c.all (over_lines of c.paths (IsNamedBy lines)
        (is_path (all_commands lines) c) lines places c.all
        (all_so _ _ lines (λ line apart. all_so _ _ (saved_as line.runs) c.no_other apart) ask.saved_apart) follow)

    new_there : (none : X) → ((path : List ℕ) → IsNamedBy lines path → IsBlank none (of (places path))) →
        IsNew none (site_of of paths_of places)
    new_there none blank = let c = covers (all_commands lines) in
        new_site of none places c.paths c.apart (λ path is. blank path (is_path (all_commands lines) c path is))

  asks : (lines : List (LineRan A)) (ask : LinesAsk lines) →
      MeetsPremises (site_of store_of (covers (all_commands lines)).paths ask.places) (all_commands lines)
  asks lines ask = record {
    is_new = new_there store_of lines ask ask.places ask.follow None ask.is_new;
    runs = run_there store_of lines ask ask.places ask.follow;
    apart = ask.apart;
    tickets = ask.tickets;
  }

  -- a path that a command names is one of its paths
  path_in : (paths : List (List ℕ)) (rans : List (Ran A)) → AllIn paths rans → (path : List ℕ) → IsPath rans path → IsIn paths path
  path_in paths rans all path (number, ran, there, same) =
      subst (IsIn paths) same (found (λ (ran : Ran A). IsIn paths (path_of ran.command)) rans all number ran there)

  pub no_id_of_lines_is_in_two_places : NoIdOfLinesIsInTwoPlaces A
  no_id_of_lines_is_in_two_places lines ask id one other here there =
      let c = covers (all_commands lines) in
      let so : (path : List ℕ) (saved : Saved) → IsLeftByLinesAt ask.places lines path saved →
      IsLeftAt (site_of store_of c.paths ask.places) (all_commands lines) path saved = λ path saved has.
      let is = path_in c.paths (all_commands lines) c.all path has.0 in
      (is.0, store_of (ask.places path), at_in store_of c.paths ask.places is.0 path is.1, has.1) in
      no_id_is_in_two_places A _ (all_commands lines) (asks lines ask) id one other
      (still_there _ _ so (all_commands lines) id one here) (still_there _ _ so (all_commands lines) id other there)

  pub no_line_prints_an_id_again : NoLinePrintsAnIdAgain A
  no_line_prints_an_id_again lines ask = no_id_is_printed_twice A _ (all_commands lines) (asks lines ask)

  pub what_lines_deliver_was_printed : WhatLinesDeliverWasPrinted A
  what_lines_deliver_was_printed among lines ask = what_is_delivered_was_printed A among _ (all_commands lines) (asks lines ask)

  pub what_lines_run_in_turn_find_what_was_left : WhatLinesRunInTurnFindWhatWasLeft A
  what_lines_run_in_turn_find_what_was_left among places lines ask takes blank follow =
      what_runs_in_turn_finds_what_was_left A among _ _ (all_commands lines) (asks lines ask) takes
      (new_there set_of lines ask places follow finite.empty blank) (run_there set_of lines ask places follow)

  module _ (law : (size : Size) → CarriesItsWords size) where
    pub each_id_of_lines_has_one_document : EachIdOfLinesHasOneDocument A
    each_id_of_lines_has_one_document lines ask = each_id_has_one_document A law _ (all_commands lines) (asks lines ask)

    pub what_lines_deliver_is_the_document : WhatLinesDeliverIsTheDocument A
    what_lines_deliver_is_the_document among lines ask =
        what_is_delivered_is_the_document A law among _ (all_commands lines) (asks lines ask)
