-- The desks at some paths, once commands ran: they hold pages of printed labels alone, and so does what they let out.
use Rattle.std.proofs.Common.{◌≡◌, ◌++◌, inl, inr, true, false, ℕ, List, [], ◌∷◌, None, Option, Some, slice_get, slice_set, refl, sym, ap, subst, ◌∙◌}
use Rattle.std.specs.{Prelude.IfSome, Prelude.option_map, Io.KnownBytes.Appends}
use Rattle.std.specs.{List.AllByRecursion, Option.option_copied}
use Rattle.std.specs.FinMap as finite
use Rattle.dm_finder_frame.specs.Frame.{GridView}
use Rattle.dm_symbol.specs.Correction.{IsNear}
use Rattle.dm_append_label.specs.Labels.{Carries, PageView}
use Rattle.dm_store.specs.Saved.{SavedSet}
use Rattle.dm_print_ledger.specs.declared.range.Range.{Range}
use Rattle.dm_assembly_desk.specs.Documents.{Pages, file}
use Rattle.dm_assembly_desk.specs.declared.limits.TheConstants.{MOST_CAPACITY}
use Rattle.dm_event_history.specs.Relay.{Label}
use Rattle.dm_event_history.specs.Headline.{AreDisjoint, AreOfOneDocument, ArePrinted, RelayIsSound, IsTheDocument}
use Rattle.dm_event_history.proofs.{Gotten.get_more, Headline.each_run_is_sound}
use Rattle.dm_event_history.proofs.Stays.{more_left, more_pages}
use Rattle.relay_command.specs.declared.command.Command.{Command}
use Rattle.relay_command.specs.declared.command.Command.TheVariants.{Words, Draw, Read, Plan, Ticket, Ledger, Print, Give, GiveLast, Take, Left, Audit, Scan, Deliver, DeliverAll, Forget, Export, ExportAll, Import, Held, Copy, World}
use Rattle.relay_shared.specs.Files.{DeskFiles}
use Rattle.relay_desk_commands.specs.Desks.{EndsOpening, OnDesk}
use Rattle.relay_desk_runs.specs.Answered.{GivesPrinted, HoldsPrinted, HasPrinted, IsNearPrinted, IsOfLabel, IsPrintedFile}
use Rattle.relay_desk_runs.specs.Answered.GivesPrinted.{nothing as gives_nothing, document as gives_document}
use Rattle.relay_desk_runs.proofs.{Scanning.each_scan_keeps, Importing.each_forget_keeps, Importing.each_import_keeps}
use Rattle.relay_desk_runs.proofs.Giving.{each_copy_is_printed, each_deliver_is_printed, each_export_is_printed, export_clean}
use Rattle.relay_desk_runs.proofs.Opened.{at_desk_keeps, held_long_keeps, held_same}
use Rattle.relay.specs.Program.{Does, path_of}
use Rattle.relay_program_runs.specs.Law.{DeliversPrinted, FindsLeft, Halts, IsBlank, LeavesAs, LeavesFile, LetsOut, PrintsUnder, Ran, SomeRan, StoreAt, TakesPrinted, WritesPrinted, at_its_path, cut_short, exited, passed, passed_at, status_of, writes, writes_nothing}
use Rattle.relay_program_runs.specs.Passed.{Passed, passed_by, text_of}
use Rattle.relay_program_runs.proofs.{Effects.no_documents, Folders.IsFileOf, Folders.holds_printed, Lists.all_so, Lists.before_or_now}
use Rattle.relay_program_runs.proofs.Printers.{OneMore, Stands, begun, holds, nothing_ran}
use Rattle.relay_shared.specs.Command.{FileView}

-- ---- more labels

file_more : (labels more : List Label) (bytes : List ℕ) → IsPrintedFile labels bytes → IsPrintedFile (labels ++ more) bytes
file_more labels more bytes f = record {
  id = f.id;
  pages = f.pages;
  sound = f.sound;
  is_file = f.is_file;
  clean = record {
    pages = λ m page is. more_left labels more f.id m page (f.clean.pages m page is);
    count = more_pages labels more f.id _ f.clean.count;
    some = f.clean.some;
  };
}

label_more : (labels more : List Label) (page : PageView) → IsOfLabel labels page → IsOfLabel (labels ++ more) page
label_more labels more page l = record {
  number = l.number;
  label = l.label;
  there = get_more labels more l.number l.label l.there;
  page_is = l.page_is;
}

-- ---- the files of a set

file_printed : (labels : List Label) (set : SavedSet) → HoldsPrinted labels set → (key : ℕ) (bytes : List ℕ) →
    finite.get set.content key ≡ Some bytes → IsFileOf labels key bytes
file_printed labels set h key bytes there = of_held (finite.get h.held key) refl
  where
    of_held : (found : Option Pages) → finite.get h.held key ≡ found → IsFileOf labels key bytes
    of_held None none = absurd (let no_file = h.files.files key ∙ ap (option_map (file key)) none in cc (there, no_file))
    of_held (Some pages) is = (
      record {
        id = key;
        pages = pages;
        sound = h.files.entries key pages is;
        is_file = let its_file = h.files.files key ∙ ap (option_map (file key)) is in cc (there, its_file);
        clean = export_clean labels h.held key pages h.printed is;
      },
      refl,
    )

-- ---- what a command does at such a desk

-- its set is so still, what it let out is so, and so is what it delivered
pub record Clean (labels : List Label) (command : Command) (before : OnDesk) (status : ℕ) (after : OnDesk) (p : Passed) : Type 0 where
  pub set : HoldsPrinted labels after.files.set
  exported : IfSome p.exported (IsPrintedFile labels)
  copied : IfSome p.copied (λ grid. (page : PageView) × Carries page grid × IsOfLabel labels page)
  delivered : IfSome (text_of command) (λ text. GivesPrinted labels text before status after)

module _ (A : Type 0) (labels : List Label) (printed : ArePrinted labels) (one : AreOfOneDocument labels)
    (inputs : List FileView) (before after : OnDesk) (status : ℕ) (clean : HasPrinted labels before) where
  same_set : after.files.set ≡ before.files.set → HoldsPrinted labels after.files.set
  same_set same = subst (HoldsPrinted labels) (sym same) clean.set

  same_files : after.files ≡ before.files → HoldsPrinted labels after.files.set
  same_files same = same_set (ap (λ (f : DeskFiles). f.set) same)

  opening_keeps : EndsOpening before status after → HoldsPrinted labels after.files.set
  opening_keeps does = (at_desk_keeps labels MOST_CAPACITY before status after clean
      (λ desk o rest. subst (HoldsPrinted labels) (sym rest.2) o.shows.set) does).set

  effect : (command : Command) (does : Does A command inputs before status after) →
      AllByRecursion (IsNearPrinted labels) (passed_by A command inputs before status after does).scanned →
      AllByRecursion (IsPrintedFile labels) (passed_by A command inputs before status after does).imported →
      Clean labels command before status after (passed_by A command inputs before status after does)
  effect (Scan file capacity) does near sent = record {
    set = (each_scan_keeps labels capacity inputs before status after printed clean does near).set;
    exported = tt;
    copied = tt;
    delivered = tt;
  }
  effect (Import file capacity) does near sent = record {
    set = (each_import_keeps labels capacity inputs before status after printed clean does.0 sent).set;
    exported = tt;
    copied = tt;
    delivered = tt;
  }
  effect (Forget file id) does near sent = record {
    set = (each_forget_keeps labels id.now before status after printed clean does).set;
    exported = tt;
    copied = tt;
    delivered = tt;
  }
  effect (Export file id) does near sent =
      let e = each_export_is_printed labels id.now before status after clean does in
      record { set = e.0.set; exported = e.1; copied = tt; delivered = tt }
  effect (Copy file id page side scheme) does near sent =
      let c = each_copy_is_printed labels (record { id = id; page = page; side = side; scheme = scheme }) before status after
      printed one clean does in
      record { set = c.0.set; exported = tt; copied = c.1; delivered = tt }
  effect (Deliver file id) does near sent =
      let d = each_deliver_is_printed labels id.now before status after printed one clean does in
      record { set = d.0.set; exported = tt; copied = tt; delivered = d.1 }
  effect (Held file id false) does near sent = record {
    set = same_files (held_same (option_copied id) before status after does);
    exported = tt;
    copied = tt;
    delivered = tt;
  }
  effect (Held file id true) does near sent = record {
    set = (held_long_keeps labels (option_copied id) before status after clean does).set;
    exported = tt;
    copied = tt;
    delivered = tt;
  }
  effect (DeliverAll file folder forgets) does near sent =
      record { set = opening_keeps does; exported = tt; copied = tt; delivered = tt }
  effect (ExportAll file folder) does near sent =
      record { set = opening_keeps does; exported = tt; copied = tt; delivered = tt }
  effect (Ledger file number first last) does near sent =
      record { set = same_set does.1; exported = tt; copied = tt; delivered = tt }
  effect (Print file number how scheme) does near sent =
      record { set = same_set does.0.1; exported = tt; copied = tt; delivered = tt }
  effect (Give file number to first last) does near sent =
      record { set = same_set does.1; exported = tt; copied = tt; delivered = tt }
  effect (GiveLast file number to count) does near sent =
      record { set = same_set does.1; exported = tt; copied = tt; delivered = tt }
  effect (Take file number ticket) does near sent =
      record { set = same_set does.1; exported = tt; copied = tt; delivered = tt }
  effect (Left file) does near sent = record { set = same_set does.1; exported = tt; copied = tt; delivered = tt }
  effect (Words side scheme) does near sent =
      record { set = same_files does.0.1; exported = tt; copied = tt; delivered = tt }
  effect (Draw side scheme plain) does near sent =
      record { set = same_files does.0.1; exported = tt; copied = tt; delivered = tt }
  effect Read does near sent = record { set = same_files does.1; exported = tt; copied = tt; delivered = tt }
  effect (Plan scheme) does near sent = record { set = same_files does.0.1; exported = tt; copied = tt; delivered = tt }
  effect Audit does near sent = record { set = same_files does.0.1; exported = tt; copied = tt; delivered = tt }
  effect (Ticket ticket) does near sent = record { set = same_files does.1; exported = tt; copied = tt; delivered = tt }
  effect World does near sent = record { set = same_files does.0.1; exported = tt; copied = tt; delivered = tt }

-- the status that it exited with, or would have
abbrev pub status_at : {A : Type 0} {command : Command} {inputs : List FileView} {before after : OnDesk} →
    Halts A command inputs before after → ℕ
status_at (exited status does) = status
status_at (cut_short status does) = status

if_exited : {A : Type 0} {command : Command} {inputs : List FileView} {before after : OnDesk}
    (ends : Halts A command inputs before after) (P : ℕ → Type 0) → P (status_at ends) → IfSome (status_of ends) P
if_exited (exited status does) P so = so
if_exited (cut_short status does) P so = tt

clean_at : (A : Type 0) (labels : List Label) (printed : ArePrinted labels) (one : AreOfOneDocument labels)
    (command : Command) {inputs : List FileView} (before after : OnDesk)
    (ends : Halts A command inputs before after)
    (clean : HasPrinted labels before) →
    AllByRecursion (IsNearPrinted labels) (passed_at ends).scanned →
    AllByRecursion (IsPrintedFile labels) (passed_at ends).imported →
    Clean labels command before (status_at ends) after (passed_at ends)
clean_at A labels printed one command {inputs} before after (exited status does) clean near sent =
    effect A labels printed one inputs before after status clean command does near sent
clean_at A labels printed one command {inputs} before after (cut_short status does) clean near sent =
    effect A labels printed one inputs before after status clean command does near sent

-- ---- what is so once commands ran

module _ (A : Type 0) (IsAmong : List ℕ → Type 0) where
  abbrev pub KeptAs : ℕ → List ℕ → Ran A → Type 0
  KeptAs key bytes ran = LeavesAs key bytes ran × IsAmong (path_of ran.command)

  abbrev Exported : List ℕ → Ran A → Type 0
  Exported bytes ran = ((passed ran).exported ≡ Some bytes) × IsAmong (path_of ran.command)

  abbrev Copies : GridView → Ran A → Type 0
  Copies grid ran = ((passed ran).copied ≡ Some grid) × IsAmong (path_of ran.command)

  abbrev OfLabel : List Label → GridView → Type 0
  OfLabel labels grid = (page : PageView) × Carries page grid × IsOfLabel labels page

  pub record AreClean (ranges : List Range) (earlier : List (Ran A)) (site : List StoreAt) : Type 0 where
    pub stands : Stands A ranges earlier site
    pub files : (key : ℕ) (bytes : List ℕ) → SomeRan (KeptAs key bytes) earlier → IsFileOf stands.relay.labels key bytes
    pub exported : (bytes : List ℕ) → SomeRan (Exported bytes) earlier → IsPrintedFile stands.relay.labels bytes
    pub copied : (grid : GridView) → SomeRan (Copies grid) earlier → OfLabel stands.relay.labels grid

  pub clean_begun : (ranges : List Range) (site : List StoreAt) →
      ((place : ℕ) (at : StoreAt) → slice_get site place ≡ Some at → IsBlank None at.saved) → AreClean ranges [] site
  clean_begun ranges site blank = record {
    stands = begun A ranges site blank;
    files = λ key bytes s. absurd (nothing_ran _ s);
    exported = λ bytes s. absurd (nothing_ran _ s);
    copied = λ grid s. absurd (nothing_ran _ s);
  }

  if_so : {X : Type 0} (P Q : X → Type 0) (o : Option X) → ((x : X) → P x → Q x) → IfSome o P → IfSome o Q
  if_so P Q None each so = tt
  if_so P Q (Some x) each so = each x so

  as_given : {X : Type 0} (P : X → Type 0) (o : Option X) (x : X) → o ≡ Some x → IfSome o P → P x
  as_given P None x some is = cc (some)
  as_given P (Some y) x some is = (let same : y ≡ x = cc (some) in subst P same is)

  module _ (ranges : List Range) (disjoint : AreDisjoint ranges) (earlier : List (Ran A)) (site : List StoreAt)
      (c : AreClean ranges earlier site) (ran : Ran A) (place : ℕ)
      (found : slice_get site place ≡ Some (at_its_path ran ran.before.files.joint)) where
    abbrev labels : List Label
    labels = c.stands.relay.labels

    sound : RelayIsSound c.stands.relay × ArePrinted labels
    sound = each_run_is_sound A ranges [] c.stands.moments c.stands.relay disjoint c.stands.run

    -- a grid that was let out carries the page of a label that left
    let_out : (grid : GridView) → SomeRan (LetsOut IsAmong grid) earlier → OfLabel labels grid
    let_out grid (n, other, there, inl printed) =
        let l = c.stands.grids grid (n, other, there, printed) in (
          l.1.page,
          subst (λ (g : GridView). Carries l.1.page g) l.3 (sound.1 l.0 l.1 l.2).carries,
          record { number = l.0; label = l.1; there = l.2; page_is = refl },
        )
    let_out grid (n, other, there, inr copied) = c.copied grid (n, other, there, copied)

    near : (grid : GridView) → (own : GridView) × IsNear grid own × SomeRan (LetsOut IsAmong own) earlier →
        IsNearPrinted labels grid
    near grid (own, is_near, some) =
        let l = let_out own some in
        record { page = l.0; own = own; near = is_near; carries = l.1; of_label = l.2 }

    -- so is a file that was exported, or kept
    left : (bytes : List ℕ) → SomeRan (λ other. LeavesFile bytes other × IsAmong (path_of other.command)) earlier →
        IsPrintedFile labels bytes
    left bytes (n, other, there, (inl exported, among)) = c.exported bytes (n, other, there, (exported, among))
    left bytes (n, other, there, (inr (key, kept), among)) = (c.files key bytes (n, other, there, (kept, among))).0

    module _ (takes : TakesPrinted IsAmong earlier ran) (finds : FindsLeft IsAmong earlier ran) where
      pub clean_now : IsAmong (path_of ran.command) →
          Clean labels ran.command ran.before (status_at ran.ends) ran.after (passed ran)
      clean_now among = clean_at A labels sound.1 sound.0.one_document ran.command ran.before ran.after ran.ends
          (record {
            set = holds_printed labels ran.before.files.set
                (λ key bytes there. c.files key bytes (finds.files among key bytes there)) (finds.honest among);
            joint = no_documents c.stands.relay ran.before.files.joint _ (holds A ranges earlier site c.stands ran place found);
          })
          (all_so _ _ (passed ran).scanned near (takes.scans among))
          (all_so _ _ (passed ran).imported left (takes.imports among))

      -- ---- what is delivered

      printed_before : (id : ℕ) (bytes : List ℕ) → IsTheDocument labels id bytes →
          SomeRan (PrintsUnder id bytes) earlier
      printed_before id bytes (all, number, label, there, id_is) =
          subst (λ (d : List ℕ). SomeRan (PrintsUnder id d) earlier) (all number label there id_is)
          (subst (λ (n : ℕ). SomeRan (PrintsUnder n label.cut.bytes) earlier) id_is
          (c.stands.printed number label there))

      as_written : (text : List ℕ) → GivesPrinted labels text ran.before (status_at ran.ends) ran.after →
          WritesPrinted earlier text ran
      as_written text (gives_nothing same one) = writes_nothing (same, if_exited ran.ends (λ status. status ≡ 1) one)
      as_written text (gives_document id bytes text_is the part whole) =
          writes id bytes text_is (printed_before id bytes the) (
            part,
            if_exited ran.ends (λ status. status ≡ 0 →
                Appends ran.before.streams.output.contents ran.after.streams.output.contents bytes) whole,
          )

      if_among : (o : Option (List ℕ)) (F G : List ℕ → Type 0) → (IsAmong (path_of ran.command) → IfSome o F) →
          ((text : List ℕ) → F text → G text) → IfSome o (λ text. IsAmong (path_of ran.command) → G text)
      if_among None F G gives each = tt
      if_among (Some text) F G gives each = λ among. each text (gives among)

      pub delivers : DeliversPrinted IsAmong earlier ran
      delivers = if_among (text_of ran.command) (λ text. GivesPrinted labels text ran.before (status_at ran.ends) ran.after)
          (λ text. WritesPrinted earlier text ran) (λ among. (clean_now among).delivered) as_written

      -- ---- one more command

      module _ (o : OneMore A ranges earlier c.stands.relay ran
          (slice_set site place (at_its_path ran ran.after.files.joint))) where
        more_file : (bytes : List ℕ) → IsPrintedFile labels bytes → IsPrintedFile o.stands.relay.labels bytes
        more_file bytes f = subst (λ (ls : List Label). IsPrintedFile ls bytes) (sym o.labels) (file_more labels o.more bytes f)

        more_kept : (key : ℕ) (bytes : List ℕ) → IsFileOf labels key bytes → IsFileOf o.stands.relay.labels key bytes
        unfolding file_more
        more_kept key bytes f = subst (λ (ls : List Label). IsFileOf ls key bytes) (sym o.labels)
            (file_more labels o.more bytes f.0, f.1)

        more_label : (grid : GridView) → OfLabel labels grid → OfLabel o.stands.relay.labels grid
        more_label grid (page, carries, l) = (
          page,
          carries,
          subst (λ (ls : List Label). IsOfLabel ls page) (sym o.labels) (label_more labels o.more page l),
        )

        pub clean_more : AreClean ranges (earlier ++ ran ∷ []) (slice_set site place (at_its_path ran ran.after.files.joint))
        clean_more = record {
          stands = o.stands;
          files = λ key bytes some. elim (before_or_now (KeptAs key bytes) earlier ran some) [
            | inl old ↦ more_kept key bytes (c.files key bytes old)
            | inr new ↦ more_kept key bytes
                (file_printed labels ran.after.files.set (clean_now new.1).set key bytes new.0)
          ];
          exported = λ bytes some. elim (before_or_now (Exported bytes) earlier ran some) [
            | inl old ↦ more_file bytes (c.exported bytes old)
            | inr new ↦ more_file bytes
                (as_given (IsPrintedFile labels) (passed ran).exported bytes new.0 (clean_now new.1).exported)
          ];
          copied = λ grid some. elim (before_or_now (Copies grid) earlier ran some) [
            | inl old ↦ more_label grid (c.copied grid old)
            | inr new ↦ more_label grid (as_given (OfLabel labels) (passed ran).copied grid new.0 (clean_now new.1).copied)
          ];
        }
