-- Each ID has one document: one print of a list has the ID, and its labels carry all parts of that document.
use Rattle.std.proofs.Common.{◌≡◌, ◌+◌, ◌-◌, ◌*◌, ◌<◌, ◌≤◌, ◌++◌, ◌⊎◌, inl, inr, false, ℕ, zero, suc, List, [], ◌∷◌, None, Option, Some, Ok, Err, drop, get_or, length, slice_get, take, refl, sym, ap, subst, ◌∙◌, append_assoc, arith}
use Rattle.std.specs.{List.concat, Prelude.IfSome, Prelude.IsSomeAnd, Prelude.IsTrue}
use Rattle.std.proofs.lemmas.Option.{slice_get-get_or}
use Rattle.dm_size.specs.declared.size.Size.{Size}
use Rattle.dm_encodation.specs.declared.scheme.Scheme.{Scheme}
use Rattle.dm_encodation.specs.Grammar.{ReadsOnly}
use Rattle.dm_finder_frame.specs.Frame.{GridView}
use Rattle.dm_symbol.specs.Correction.{CarriesItsWords, data_of, words_of_grid}
use Rattle.dm_append_label.specs.Labels.{AreEnds, AreParts, Carries, PageView, head_of, head_words, parts_from}
use Rattle.dm_append_label.proofs.CutParts.{each_cut_is}
use Rattle.dm_event_history.proofs.Gotten.{get_more}
use Rattle.dm_print_ledger.specs.Ledger.{JobView, PrinterView}
use Rattle.dm_print_ledger.specs.Verdicts.{AreLabels, IsCutting, IsJobOf}
use Rattle.relay_command.specs.declared.command.Command.{Command}
use Rattle.relay_command.specs.declared.command.Command.TheVariants.{Print}
use Rattle.relay_command.specs.declared.command.Labels.{Labels}
use Rattle.relay_printer_commands.specs.Printers.{EndsPrint, OnLedger, images_of, ledger_at}
use Rattle.relay_printer_commands.specs.Printers.EndsPrint.{no_side, not_read, too_long, read as was_read}
use Rattle.relay_printer_commands.specs.Printers.PrintsDocument.{opened as was_opened, not_opened}
use Rattle.relay_desk_commands.specs.Desks.{OnDesk}
use Rattle.relay_runs.specs.Runs.{job_ended}
use Rattle.relay_shared.specs.Command.{FileView, ReadsDocument}
use Rattle.relay_streams.specs.Streams.{AppendsPart, InputView}
use Rattle.relay.specs.Program.{Does, path_of}
use Rattle.relay_program_runs.specs.Passed.{passed_by, text_of}
use Rattle.relay_program_runs.specs.Law.{DeliversPrinted, DeliversTheDocument, Each, EachIdHasOneDocument, EachPrintHasADocument, Halts, HaveOneDocument, IsDocumentOf, IsFirstOfItsId, PrintsUnder, Ran, SomeRan, WhatIsDeliveredIsTheDocument, WritesNothing, WritesPart, WritesPrinted, cut_short, exited, passed_at, writes, writes_nothing}
use Rattle.relay_program_runs.proofs.{Effects.out_of, Lists.one_before, Lists.one_now, Steps.PrintsId, Steps.again, Walk.no_id_is_printed_twice, Walk.what_is_delivered_was_printed}

-- ---- one print has the ID

module _ (A : Type 0) (id : ℕ) where
  none_again : (earlier later : List (Ran A)) → Each IsFirstOfItsId earlier later → SomeRan (PrintsId id) earlier → (j : ℕ)
      (other : Ran A) → slice_get later j ≡ Some other → PrintsId id other → ⊥
  none_again earlier [] each some j other is p = cc (is)
  none_again earlier (ran ∷ later) each some zero other is p =
      let same : ran ≡ other = cc (is) in
      again earlier some.0 some.2 some.3 p (subst (IsFirstOfItsId earlier) same each.0)
  none_again earlier (ran ∷ later) each some (suc j) other is p =
      none_again (earlier ++ ran ∷ []) later each.1 (one_before _ earlier ran some) j other is p

  at_one_place : (earlier later : List (Ran A)) → Each IsFirstOfItsId earlier later → (i j : ℕ) (one other : Ran A) →
      slice_get later i ≡ Some one → slice_get later j ≡ Some other → PrintsId id one → PrintsId id other → one ≡ other
  at_one_place earlier [] each i j one other at there p q = cc (at)
  at_one_place earlier (ran ∷ later) each zero zero one other at there p q = cc (at, there)
  at_one_place earlier (ran ∷ later) each zero (suc j) one other at there p q =
      let same : one ≡ ran = cc (at) in
      absurd (none_again (earlier ++ ran ∷ []) later each.1 (one_now _ earlier ran (subst (PrintsId id) same p)) j other there q)
  at_one_place earlier (ran ∷ later) each (suc i) zero one other at there p q =
      let same : other ≡ ran = cc (there) in
      absurd (none_again (earlier ++ ran ∷ []) later each.1 (one_now _ earlier ran (subst (PrintsId id) same q)) i one at p)
  at_one_place earlier (ran ∷ later) each (suc i) (suc j) one other at there p q =
      at_one_place (earlier ++ ran ∷ []) later each.1 i j one other at there p q

-- ---- the labels of its job

-- the job has the label of each of these parts of a document, which was read of this input
record HasParts (input : InputView) (parts : List (List ℕ)) (job : JobView) : Type 0 where
  size : Size
  scheme : Scheme
  document : List ℕ
  rest : InputView
  read : ReadsDocument input rest document
  are_parts : AreParts size scheme document parts
  id : ℕ
  is_job : IsJobOf size scheme id parts job

abbrev IsCutSo : InputView → JobView → Type 0
IsCutSo input job = (parts : List (List ℕ)) × HasParts input parts job

made_so : (size : Size) (scheme : Scheme) (document : List ℕ) (P : List ℕ → Type 0) (o : Option (List ℕ)) →
    IsCutting size scheme document o → IsSomeAnd o P → (ends : List ℕ) × AreEnds size scheme document ends × P ends
made_so size scheme document P None cutting made = absurd made
made_so size scheme document P (Some ends) cutting made = (ends, cutting, made)

job_parts : {number : ℕ} {labels : Labels} {scheme : Scheme} (old new : OnLedger) (status : ℕ)
    (ends : EndsPrint number labels scheme old status new) (job : JobView) → job_ended ends ≡ Some job →
    IsCutSo old.streams.input job
job_parts old new status (no_side side same told) job is = cc (is)
job_parts old new status (not_read fault rest side failed same told) job is = cc (is)
job_parts old new status (too_long document rest side is_read long same told) job is = cc (is)
job_parts old new status (was_read size document rest is_read chosen (not_opened fault opens same told)) job is = cc (is)
job_parts old new status
    (was_read size document rest is_read chosen (was_opened before after (Err fault) opens prints same told)) job is = cc (is)
job_parts {scheme = scheme} old new status
    (was_read size document rest is_read chosen (was_opened before after (Ok it) opens prints same told)) job is =
    let its : it ≡ job = cc (is) in
    let runs : before.is_failed ≡ false = ap (λ (v : PrinterView). v.is_failed) opens.1 in
    let made = made_so size scheme document _ prints.cutting (prints.is_cutting runs) prints.made in
    subst (IsCutSo old.streams.input) its (
      parts_from document 0 made.0,
      record {
        size = size;
        scheme = scheme;
        document = document;
        rest = rest;
        read = is_read;
        are_parts = record { ends = made.0; are_ends = made.1; parts_are = refl };
        id = _;
        is_job = made.2;
      },
    )

parts_by : (A : Type 0) (inputs : List FileView) (before after : OnDesk) (status : ℕ) (command : Command)
    (does : Does A command inputs before status after) (job : JobView) →
    (passed_by A command inputs before status after does).printed ≡ Some job → IsCutSo before.streams.input job
parts_by A inputs before after status (Print file number labels scheme) does job is =
    job_parts (ledger_at before.files.joint before.streams) (ledger_at after.files.joint after.streams) status does.0.0 job is
parts_by A inputs before after status other does job is = cc (is)

parts_at : (A : Type 0) (command : Command) {inputs : List FileView} (before after : OnDesk)
    (ends : Halts A command inputs before after) (job : JobView) → (passed_at ends).printed ≡ Some job →
    IsCutSo before.streams.input job
parts_at A command {inputs} before after (exited status does) job is =
    parts_by A inputs before after status command does job is
parts_at A command {inputs} before after (cut_short status does) job is =
    parts_by A inputs before after status command does job is

label_there : (size : Size) (scheme : Scheme) (id n m : ℕ) (parts : List (List ℕ)) (grids : List GridView) →
    AreLabels size scheme id n m parts grids → (i : ℕ) (part : List ℕ) → slice_get parts i ≡ Some part →
    (grid : GridView) × (slice_get grids i ≡ Some grid)
    × (page : PageView) × Carries page grid × (page.m ≡ m + i) × (page.n ≡ n) × (page.bytes ≡ part)
label_there size scheme id n m [] grids are i part is = cc (is)
label_there size scheme id n m (one ∷ parts) [] are i part is = absurd are
label_there size scheme id n m (one ∷ parts) (grid ∷ grids) are zero part is =
    (grid, refl, record { id = id; m = m; n = n; bytes = one }, are.0.carries, omega arith, refl, cc (is))
label_there size scheme id n m (one ∷ parts) (grid ∷ grids) are (suc i) part is =
    let rest = label_there size scheme id n (m + 1) parts grids are.1 i part is in
    (rest.0, rest.1, rest.2, rest.3, rest.4 ∙ (let same : m + 1 + i ≡ m + suc i = omega arith in same), rest.5, rest.6)

label_at : (size : Size) (scheme : Scheme) (id n m : ℕ) (parts : List (List ℕ)) (grids : List GridView) →
    AreLabels size scheme id n m parts grids → (i : ℕ) (grid : GridView) → slice_get grids i ≡ Some grid →
    (page : PageView) × Carries page grid × (page.id ≡ id) × (page.m ≡ m + i) × (page.n ≡ n)
    × (slice_get parts i ≡ Some page.bytes)
label_at size scheme id n m [] [] are i grid is = cc (is)
label_at size scheme id n m [] (own ∷ grids) are i grid is = absurd are
label_at size scheme id n m (part ∷ parts) [] are i grid is = absurd are
label_at size scheme id n m (part ∷ parts) (own ∷ grids) are zero grid is =
    let page : PageView = record { id = id; m = m; n = n; bytes = part } in
    let same : own ≡ grid = cc (is) in
    (page, subst (Carries page) same are.0.carries, refl, omega arith, refl, refl)
label_at size scheme id n m (part ∷ parts) (own ∷ grids) are (suc i) grid is =
    let rest = label_at size scheme id n (m + 1) parts grids are.1 i grid is in
    (rest.0, rest.1, rest.2, rest.3 ∙ (let same : m + 1 + i ≡ m + suc i = omega arith in same), rest.4, rest.5)

-- ---- each print has a document

written_at : (A : Type 0) (command : Command) {inputs : List FileView} (before after : OnDesk)
    (ends : Halts A command inputs before after) (job : JobView) → (passed_at ends).printed ≡ Some job →
    AppendsPart before.streams.output.contents after.streams.output.contents (images_of job.labels)
written_at A command {inputs} before after (exited status does) = out_of A inputs before after status command does
written_at A command {inputs} before after (cut_short status does) = out_of A inputs before after status command does

pub each_print_has_a_document : (A : Type 0) → EachPrintHasADocument A
each_print_has_a_document A ran job is =
    let cut = parts_at A ran.command ran.before ran.after ran.ends job is in
    let h = cut.1 in (
      h.document,
      record {
        rest = h.rest;
        read = h.read;
        job = job;
        job_is = is;
        id_is = refl;
        size = h.size;
        scheme = h.scheme;
        parts = cut.0;
        are_parts = h.are_parts;
        labels = λ i grid at.
            let l = label_at h.size h.scheme h.id (length cut.0) 1 cut.0 job.labels h.is_job.labels i grid at in (
              l.0,
              l.1,
              l.2 ∙ sym h.is_job.id_is,
              record { place = i; m_is = (let m = l.3 in omega (arith, m)); n_is = l.4; part = l.5 },
            );
        written = written_at A ran.command ran.before ran.after ran.ends job is;
      },
    )

-- ---- a grid carries one page

head_one : (m n m' n' : ℕ) → 2 ≤ n → n ≤ 16 → 1 ≤ m → m ≤ n → 2 ≤ n' → n' ≤ 16 → 1 ≤ m' → m' ≤ n' →
    16 * (m - 1) + (17 - n) ≡ 16 * (m' - 1) + (17 - n') → (m ≡ m') × (n ≡ n')
head_one m n m' n' a b c d e f g h is = (omega arith, omega arith)

-- one page in place and bytes
record SamePage (one other : PageView) : Type 0 where
  m : one.m ≡ other.m
  n : one.n ≡ other.n
  bytes : one.bytes ≡ other.bytes

carries_one : (grid : GridView) → CarriesItsWords grid.size → (one other : PageView) → Carries one grid →
    Carries other grid → SamePage one other
carries_one grid law one other c d =
    let own : c.words ≡ words_of_grid grid = sym (ap words_of_grid c.drawn ∙ law c.words c.symbol.count c.symbol.bytes) in
    let its : d.words ≡ words_of_grid grid = sym (ap words_of_grid d.drawn ∙ law d.words d.symbol.count d.symbol.bytes) in
    let same : d.words ≡ c.words = its ∙ sym own in
    let begins : take 4 (data_of grid.size c.words) ≡ head_words (head_of other) =
    subst (λ (w : List ℕ). take 4 (data_of grid.size w) ≡ head_words (head_of other)) same d.begins in
    let heads : head_words (head_of one) ≡ head_words (head_of other) = sym c.begins ∙ begins in
    let place = head_one one.m one.n other.m other.n c.is_head.least c.is_head.most c.is_head.first c.is_head.last
    d.is_head.least d.is_head.most d.is_head.first d.is_head.last (ap (λ (w : List ℕ). get_or w 1 0) heads) in
    let reads : ReadsOnly 5 (drop 4 (data_of grid.size c.words)) other.bytes =
    subst (λ (w : List ℕ). ReadsOnly 5 (drop 4 (data_of grid.size w)) other.bytes) same d.reads in
    record { m = place.0; n = place.1; bytes = reads.only one.bytes c.reads.reads }

-- ---- a document has the parts that its labels carry

all_there : (xs ys : List (List ℕ)) → length ys ≡ length xs → ((i : ℕ) (x : List ℕ) → slice_get xs i ≡ Some x →
    slice_get ys i ≡ Some x) → ys ≡ xs
all_there [] [] count each = refl
all_there [] (y ∷ ys) count each = absurd (omega (arith, count))
all_there (x ∷ xs) [] count each = absurd (omega (arith, count))
all_there (x ∷ xs) (y ∷ ys) count each =
    let first : y ≡ x = (let is = each 0 x refl in cc (is)) in
    let rest : ys ≡ xs = all_there xs ys (omega (arith, count)) (λ i z is. each (suc i) z is) in
    λ i. first i ∷ rest i

module _ (A : Type 0) (law : (size : Size) → CarriesItsWords size) (id : ℕ) where
  module _ (input : InputView) (parts : List (List ℕ)) (job : JobView) (h : HasParts input parts job) (document : List ℕ) (ran : Ran A)
      (p : PrintsUnder id document ran) (is : p.job ≡ job) where
    part_there : (i : ℕ) (part : List ℕ) → slice_get parts i ≡ Some part →
        (slice_get p.parts i ≡ Some part) × (length p.parts ≡ length parts)
    part_there i part at =
        let l = label_there h.size h.scheme h.id (length parts) 1 parts job.labels h.is_job.labels i part at in
        let own = p.labels i l.0 (ap (λ (j : JobView). slice_get j.labels i) is ∙ l.1) in
        let same = carries_one l.0 (law l.0.size) l.2 own.0 l.3 own.1 in
        let place : own.3.place ≡ i = (let a = own.3.m_is in let b = l.4 in let c = same.m in omega arith) in (
          ap (λ (k : ℕ). slice_get p.parts k) (sym place) ∙ own.3.part ∙ ap Some (sym same.bytes ∙ l.6),
          sym own.3.n_is ∙ sym same.n ∙ l.5,
        )

    parts_same : p.parts ≡ parts
    parts_same =
        let some : 0 < length parts = (let least = h.is_job.least in omega arith) in
        let first = part_there 0 (get_or parts 0 []) (slice_get-get_or parts 0 [] some) in
        all_there parts p.parts first.1 (λ i part at. (part_there i part at).0)

    joined : document ≡ concat parts
    joined = sym (each_cut_is p.size p.scheme document p.are_parts.ends p.are_parts.are_ends).joined
        ∙ ap concat (sym p.are_parts.parts_are ∙ parts_same)

  one_of : (ran : Ran A) (one other : List ℕ) → PrintsUnder id one ran → PrintsUnder id other ran → one ≡ other
  one_of ran one other p q =
      let cut = parts_at A ran.command ran.before ran.after ran.ends p.job p.job_is in
      let same : Some q.job ≡ Some p.job = sym q.job_is ∙ p.job_is in
      joined _ cut.0 p.job cut.1 one ran p refl ∙ sym (joined _ cut.0 p.job cut.1 other ran q (cc (same)))

  prints_id : (document : List ℕ) (ran : Ran A) → PrintsUnder id document ran → PrintsId id ran
  prints_id document ran p = record { job = p.job; job_is = p.job_is; id_is = p.id_is }

  one_document : (rans : List (Ran A)) → Each IsFirstOfItsId [] rans → (one other : List ℕ) →
      SomeRan (PrintsUnder id one) rans → SomeRan (PrintsUnder id other) rans → one ≡ other
  one_document rans first one other (i, ran, at, p) (j, its, there, q) =
      let same : its ≡ ran = at_one_place A id [] rans first j i its ran there at
      (prints_id other its q) (prints_id one ran p) in
      one_of ran one other p (subst (PrintsUnder id other) same q)

pub each_id_has_one_document : (A : Type 0) → ((size : Size) → CarriesItsWords size) → EachIdHasOneDocument A
each_id_has_one_document A law site rans asks id =
    one_document A law id rans (no_id_is_printed_twice A site rans asks)

-- ---- what is delivered

each_so : {A : Type 0} (P Q : List (Ran A) → Ran A → Type 0) (rans earlier later : List (Ran A)) →
    rans ≡ earlier ++ later →
    ((before after : List (Ran A)) (ran : Ran A) → rans ≡ before ++ ran ∷ after → P before ran → Q before ran) →
    Each P earlier later → Each Q earlier later
each_so P Q rans earlier [] are so each = tt
each_so P Q rans earlier (ran ∷ later) are so each = (
  so earlier later ran are each.0,
  each_so P Q rans (earlier ++ ran ∷ []) later (are ∙ sym (append_assoc earlier (ran ∷ []) later)) so each.1,
)

pub in_all : {A : Type 0} (P : Ran A → Type 0) (rans before rest : List (Ran A)) → rans ≡ before ++ rest → SomeRan P before →
    SomeRan P rans
in_all {A} P rans before rest are s = (
  s.0,
  s.1,
  ap (λ (rs : List (Ran A)). slice_get rs s.0) are ∙ get_more before rest s.0 s.1 s.2,
  s.3,
)

module _ (A : Type 0) (rans : List (Ran A)) (one : HaveOneDocument rans) where
  of_the_document : (before after : List (Ran A)) (ran : Ran A) → rans ≡ before ++ ran ∷ after → (text : List ℕ) →
      WritesPrinted before text ran →
      WritesNothing ran ⊎ ((document : List ℕ) × IsDocumentOf before rans text document × WritesPart document ran)
  of_the_document before after ran are text (writes_nothing nothing) = inl nothing
  of_the_document before after ran are text (writes id document is printed part) = inr (
    document,
    record {
      id = id;
      id_is = is;
      printed = printed;
      no_other = λ other its. one id other document its
          (in_all (PrintsUnder id document) rans before (ran ∷ after) are printed);
    },
    part,
  )

pub what_is_delivered_is_the_document : (A : Type 0) → ((size : Size) → CarriesItsWords size) → WhatIsDeliveredIsTheDocument A
what_is_delivered_is_the_document A law among site rans asks vouched =
    each_so (DeliversPrinted (λ path. IsTrue (among path))) (DeliversTheDocument (λ path. IsTrue (among path)) rans) rans [] rans
    refl (λ before after ran are delivers. by (text_of ran.command) before after ran are delivers)
    (what_is_delivered_was_printed A among site rans asks vouched)
  where
    by : (o : Option (List ℕ)) (before after : List (Ran A)) (ran : Ran A) → rans ≡ before ++ ran ∷ after →
        IfSome o (λ text. IsTrue (among (path_of ran.command)) → WritesPrinted before text ran) →
        IfSome o (λ text. IsTrue (among (path_of ran.command)) →
        WritesNothing ran ⊎ ((document : List ℕ) × IsDocumentOf before rans text document × WritesPart document ran))
    by None before after ran are so = tt
    by (Some text) before after ran are so = λ is_among.
        of_the_document A rans (each_id_has_one_document A law site rans asks) before after ran are text (so is_among)
