-- As long as each scan that may have saved is fair each reply is safe.
use Rattle.std.proofs.Common.{◌≡◌, ◌≢◌, ◌⊎◌, ◌↔◌, ◌+◌, ◌≤◌, ◌==◌, inl, inr, ℕ, zero, suc, Bool, true, false, Option, Some, None, Result, Ok, Err, List, [], ◌∷◌, length, slice_get, slice_index_or, IsSome, refl, sym, ap, subst, ◌∙◌, arith, eq-eqb}
use Rattle.std.specs.Prelude.{is_some, is_none, ◌&&◌, unwrap_or, if◌then◌else◌}
use Rattle.std.specs.{List.list_all, List.list_any, Option.option_or, FinMap.contains_key-keys}
use Rattle.std.specs.FinMap as finite
use Rattle.std.specs.Ordering.{nat_cmp, eq_by_cmp}
use Rattle.dm_append_label.specs.Labels.{PageView, IsHead, head_of}
use Rattle.dm_append_label.specs.declared.fault.LabelFault.TheVariants as label_fault
use Rattle.dm_finder_frame.specs.Frame.{flipped}
use Rattle.dm_symbol.specs.Correction.{IsNear}
use Rattle.dm_assembly_desk.specs.declared.reply.Kind.{Kind, TheVariants.New, TheVariants.Again, TheVariants.Complete}
use Rattle.dm_assembly_desk.specs.declared.reply.Imported as imported_type
use Rattle.dm_assembly_desk.specs.declared.fault.AskFault.TheVariants as ask_fault
use Rattle.dm_assembly_desk.specs.declared.fault.{AskFault.AskFault, ScanFault.ScanFault, ImportFault.ImportFault}
use Rattle.dm_assembly_desk.specs.declared.fault.ScanFault.TheVariants as scan_fault
use Rattle.dm_assembly_desk.specs.Desk as asking
use Rattle.dm_assembly_desk.specs.declared.fault.ImportFault.TheVariants as import_fault
use Rattle.dm_assembly_desk.specs.Documents.{Pages, lacks, mask, missing_mask, names, page, document_of, Documents, page_at, own_pages, added_mask, union_of_pages}
use Rattle.dm_assembly_desk.specs.Desk.{Asks, lone, add_verdict, add_kind, added_to, reply_of}
use Rattle.dm_assembly_desk.specs.declared.{adding.AddFault.AddFault, reply.Accepted.Accepted}
use Rattle.dm_assembly_desk.specs.declared.adding.AddFault.TheVariants as adds
use Rattle.dm_assembly_desk.proofs.{AddFacts.names_added, AddFacts.page_merged, Masks.names_missing, Masks.none_named}
use Rattle.dm_assembly_desk.proofs.{AddLaws.no_longer, AddLaws.KindSays, AddLaws.kind_says, MergingLaws.length_both}
use Rattle.dm_assembly_desk.proofs.{Loading.itself, Loading.keys_rise, Loading.length-keys, LonePages.lone_here}
use Rattle.dm_event_history.specs.declared.{event.Event.Event, reply.Reply.Reply, stop.Stop.Stop}
use Rattle.dm_event_history.specs.declared.event.Event.TheVariants.{Scan, Ask, Forget, Export, Import}
use Rattle.dm_event_history.specs.declared.reply.Reply.TheVariants.{Scanned, ScanRefused, Imported, ImportRefused}
use Rattle.dm_event_history.specs.declared.reply.Reply.TheVariants as replies
use Rattle.dm_event_history.specs.Relay as relays
use Rattle.dm_event_history.specs.Relay.{Actor, content_shown, CutDocument, Desk, Label, Relay}
use Rattle.dm_event_history.specs.Steps.{Calls, Looks, MayLackFirst, AskTells, ExportTells, ForgetComes, ImportComes, ScanComes, ask_reply, forget_faults, import_faults, scan_course, scan_faults, verdict_course, page_reply, pages_reply, Acts, DeskGoes, IsNamedThere, Step, Moment}
use Rattle.dm_event_history.specs.Headline.{ArePrinted, AreOfOneDocument, HaveLeft, IsCleanExport, RelayIsSound, AreAllClean, IsFairEvent}
use Rattle.dm_event_history.specs.Told.{EachFairReplyIsSafe, IsExportSafe, IsFullFor, IsImportKindSafe, IsImportedSafe, IsKindSafe, IsSafe, IsTrulyMissing, Known, docs, known_of, AreBetween, IsBetween}
use Rattle.dm_event_history.proofs.Deciding.{decided, if_not, if_so, or_left, or_right, same_number, true_false}
use Rattle.dm_event_history.proofs.MergedPages.{Differs, all_held, lacks_means, one_lacks}
use Rattle.dm_event_history.proofs.Adds.{add_refuses, length-lone, lone_some, named_there, some_added, there_named}
use Rattle.dm_event_history.proofs.{Gives.each_clean_desk_gives, Stays.lone_clean, Stays.lone_export, Stays.page_in}
use Rattle.dm_event_history.proofs.{Headline.each_fair_run_is_clean, Headline.each_run_is_sound, Between.run_between}
use Rattle.dm_event_history.proofs.Answered.{IsOwn, is_answered, is_looked, is_made}
use Rattle.dm_event_history.proofs.Told.{AddRefused, add_ended, no_page, own_import, own_scan, scan_told, scan_was_refused, was_wanted}

-- ---- what was printed

-- it is that of the first label under the ID
docs_found : (labels : List Label) (n : ℕ) (label : Label) (id : ℕ) → slice_get labels n ≡ Some label →
    label.page.id ≡ id → (k : ℕ) × (other : Label) × (slice_get labels k ≡ Some other) × (other.page.id ≡ id)
    × (docs labels id ≡ Some other.cut)
docs_found [] n label id there is = cc (there)
docs_found (own ∷ labels) zero label id there is =
    let here : own ≡ label = cc (there) in let same = ap (λ (l : Label). l.page.id) here ∙ is in
    (0, own, refl, same, if_so (own.page.id == id) (Some own.cut) (docs labels id) (eq-eqb own.page.id id same))
docs_found (own ∷ labels) (suc n) label id there is = elim (decided (own.page.id == id)) [
  | inl same ↦
      (0, own, refl, same_number own.page.id id same, if_so (own.page.id == id) (Some own.cut) (docs labels id) same)
  | inr away ↦
      let more = docs_found labels n label id there is in
      let rest = if_not (own.page.id == id) (Some own.cut) (docs labels id) (λ same. true_false _ same away) in
      (suc more.0, more.1, more.2, more.3, rest ∙ more.4)
]

-- the document of a label that left is what was printed under its ID
pub docs_of : (labels : List Label) → AreOfOneDocument labels → (n : ℕ) (label : Label) (id : ℕ) →
    slice_get labels n ≡ Some label → label.page.id ≡ id → docs labels id ≡ Some label.cut
docs_of labels one n label id there is =
    let found = docs_found labels n label id there is in
    found.4 ∙ ap (λ (c : CutDocument). Some c) (one found.0 n found.1 label found.2 there (found.3 ∙ sym is))

-- ---- what is held, of what was printed

module _ (labels : List Label) (one : AreOfOneDocument labels) (printed : ArePrinted labels) (held : Documents)
    (left : HaveLeft labels held) where
  counted_is : (id : ℕ) (pages : Pages) → finite.get held id ≡ Some pages →
      (cut : CutDocument) × (docs labels id ≡ Some cut) × (length pages ≡ length cut.parts)
  counted_is id pages is =
      let c = left.counts id pages is in (
        c.label.cut,
        docs_of labels one c.number c.label id c.there c.id_is,
        sym c.n_is ∙ (printed c.number c.label c.there).n_is,
      )

  part_is : (id m : ℕ) (bytes : List ℕ) (cut : CutDocument) → docs labels id ≡ Some cut →
      page_at held id m ≡ Some bytes → (i : ℕ) × (m ≡ i + 1) × (slice_get cut.parts i ≡ Some bytes)
  part_is id m bytes cut is at =
      let l = left.pages id m bytes at in
      let p = printed l.number l.label l.there in
      let own : docs labels id ≡ Some l.label.cut = docs_of labels one l.number l.label id l.there l.id_is in
      grind (arith, docs_of)

-- ---- pages and masks

one_missing : (ps : Pages) → list_all is_some ps ≡ false → (m : ℕ) × (lacks ps m ≡ true)
one_missing [] none = cc (none)
one_missing (None ∷ ps) none = (1, refl)
one_missing (Some x ∷ ps) none = (let t = one_missing ps none in later t.0 t.1)
  where
    later : (m : ℕ) → lacks ps m ≡ true → (k : ℕ) × (lacks (Some x ∷ ps) k ≡ true)
    later zero l = cc (l)
    later (suc m) l = (suc (suc m), l)

-- a page that is there has a number of these
place_of : (pages : Pages) (m : ℕ) → IsSome (page pages m) → (1 ≤ m) × (m ≤ length pages)
place_of pages zero some = absurd (cc (some))
place_of pages (suc i) some = (omega arith, below pages i some)
  where
    below : (ps : Pages) (k : ℕ) → IsSome (slice_index_or ps k None) → suc k ≤ length ps
    below [] k there = absurd (cc (there))
    below (p ∷ ps) zero there = omega arith
    below (p ∷ ps) (suc k) there = (let rest = below ps k there in omega arith)

neither : (o p : Option (List ℕ)) → option_or o p ≡ None → (o ≡ None) × (p ≡ None)
neither o p x = grind arith

either_held : (o p : Option (List ℕ)) → IsSome (option_or o p) → ¬ ((is_none o && is_some p) ≡ true) → IsSome o
either_held o p x y = grind arith

by_named : (o p : Option (List ℕ)) → (is_none o && is_some p) ≡ true → (o ≡ None) × IsSome p
by_named o p x = grind arith

by_unnamed : (o p : Option (List ℕ)) → IsSome p → ¬ ((is_none o && is_some p) ≡ true) → IsSome o
by_unnamed o p x y = grind arith

again_by : (kind : Kind) (added : ℕ) (own pages : Pages) → added ≡ added_mask own pages → KindSays kind own pages →
    (kind ≡ Again) ↔ (added ≡ 0)
again_by kind added own pages is says = grind arith

-- ---- a desk that shows what was printed, between what it surely holds and what it may hold

module _ (A : Type 0) (old : Relay) (earlier : List (Moment A)) (d : ℕ) (held : Documents)
    (one : AreOfOneDocument old.labels) (printed : ArePrinted old.labels) (left : HaveLeft old.labels held)
    (b : IsBetween earlier d held) where
  abbrev known : Known
  known = known_of old earlier

  not_surely : (id : ℕ) → finite.get held id ≡ None → (m : ℕ) → ¬ known.holds d id m
  not_surely id none m surely = grind arith

  possibly : (id m : ℕ) (pages : Pages) → finite.get held id ≡ Some pages → IsSome (page pages m) → known.may_hold d id m
  possibly id m pages is some = grind arith

  not_held : (id m : ℕ) (pages : Pages) → finite.get held id ≡ Some pages → page pages m ≡ None → ¬ known.holds d id m
  not_held id m pages is none surely = grind arith

  -- ---- asks

  truly_missing : (id : ℕ) (pages : Pages) → finite.get held id ≡ Some pages → list_all is_some pages ≡ false →
      IsTrulyMissing known d id (missing_mask pages)
  truly_missing id pages is some =
      let t = counted_is old.labels one printed held left id pages is in
      let first = one_missing pages some in
      let here = left.some id pages is in
      grind (arith, counted_is, decided, lacks_means, names_missing, no_page, not_held, one_missing, place_of, possibly)

  all_possibly : (id : ℕ) (pages : Pages) → finite.get held id ≡ Some pages → list_all is_some pages ≡ true →
      (m : ℕ) → 1 ≤ m → m ≤ length pages → known.may_hold d id m
  all_possibly id pages is all m least most = possibly id m pages is (all_held pages all m least most)

  -- the answer to an ask, where a document that is given is that which was printed
  ask_is_safe : (id : ℕ) (given : Result (List ℕ) AskFault) →
      ((bytes : List ℕ) → given ≡ Ok bytes → (n : ℕ) (label : Label) → slice_get old.labels n ≡ Some label →
      label.page.id ≡ id → label.cut.bytes ≡ bytes) → (o : Option Pages) → finite.get held id ≡ o →
      Asks (λ bytes. bytes) o given → IsSafe {A = A} old known (Ask d id) (ask_reply given)
  ask_is_safe id (Ok bytes) true_one None is asks = cc (asks)
  ask_is_safe id (Err ask_fault.NotHeld) true_one None is asks = not_surely id is
  ask_is_safe id (Err (ask_fault.Incomplete m)) true_one None is asks = cc (asks)
  ask_is_safe id (Err ask_fault.Memory) true_one None is asks = tt
  ask_is_safe id given true_one (Some pages) is asks = by_all (list_all is_some pages) refl given true_one asks
    where
      by_all : (b : Bool) → list_all is_some pages ≡ b → (r : Result (List ℕ) AskFault) →
          ((bytes : List ℕ) → r ≡ Ok bytes → (n : ℕ) (label : Label) → slice_get old.labels n ≡ Some label →
          label.page.id ≡ id → label.cut.bytes ≡ bytes) →
          asking.GivesByVerdict (λ bytes. bytes) ask_fault.Memory
          (if b then Ok (document_of pages) else Err (ask_fault.Incomplete (missing_mask pages))) r →
          IsSafe {A = A} old known (Ask d id) (ask_reply r)
      by_all true all (Ok bytes) true_one x =
          let c = left.counts id pages is in
          let l : length pages ≡ length c.label.cut.parts = sym c.n_is ∙ (printed c.number c.label c.there).n_is in
          record {
            document = c.label.cut;
            printed = docs_of old.labels one c.number c.label id c.there c.id_is;
            same = sym (true_one bytes refl c.number c.label c.there c.id_is);
            possibly = λ m least most. all_possibly id pages is all m least (omega arith);
          }
      by_all true all (Err ask_fault.Memory) true_one x = tt
      by_all false all (Err (ask_fault.Incomplete m)) true_one x =
          (let same : m ≡ missing_mask pages = incomplete_is x in
          subst (λ (k : ℕ). IsTrulyMissing known d id k) (sym same) (truly_missing id pages is all))
        where
          incomplete_is : ◌≡◌ {A = Result (List ℕ) AskFault} (Err (ask_fault.Incomplete m))
              (Err (ask_fault.Incomplete (missing_mask pages))) → m ≡ missing_mask pages
          incomplete_is e = cc (e)
      by_all b all r true_one x = cc (x)

  -- ---- desks that are full

  key_held : (i key : ℕ) → slice_get (finite.keys held) i ≡ Some key → (pages : Pages) × (finite.get held key ≡ Some pages)
  key_held i key is = by_get (finite.get held key) refl (contains_key-keys held key ∙ among (finite.keys held) i is)
    where
      among : (keys : List ℕ) (i : ℕ) → slice_get keys i ≡ Some key → list_any (eq_by_cmp nat_cmp key) keys ≡ true
      among [] i at = cc (at)
      among (k ∷ ks) zero at = grind (arith, itself, or_left)
      among (k ∷ ks) (suc i) at = or_right (eq_by_cmp nat_cmp key k) (list_any (eq_by_cmp nat_cmp key) ks) (among ks i at)

      by_get : (o : Option Pages) → finite.get held key ≡ o → is_some (finite.get held key) ≡ true →
          (pages : Pages) × (finite.get held key ≡ Some pages)
      by_get None at some = (let x : is_some (finite.get held key) ≡ false = ap is_some at in cc (x, some))
      by_get (Some pages) at some = (pages, at)

  full_for : (desk : Desk) (id : ℕ) → slice_get old.desks d ≡ Some desk → finite.get held id ≡ None →
      desk.capacity ≤ finite.len held → IsFullFor old known d id
  full_for desk id there none full = (
    not_surely id none,
    (λ other here.
        let same : desk ≡ other = cc (there, here) in
        record {
          others = finite.keys held;
          enough = grind (arith, length-keys);
          rising = keys_rise held;
          each = grind (arith, key_held, possibly);
        }),
  )

  -- ---- exports and forgets

  export_is_safe : (id n : ℕ) (pages : Pages) → finite.get held id ≡ Some pages → n ≡ length pages →
      IsExportSafe known d id n (mask pages)
  export_is_safe id n pages is count = grind (arith, counted_is, named_there, page_in, possibly, there_named)

  -- ---- imports

  module _ (export : relays.Export) (sent : IsCleanExport old.labels export) where
    added_means : (added m : ℕ) → added ≡ added_mask (unwrap_or (finite.get held export.id) []) export.pages →
        names added m ≡ (is_none (page_at held export.id m) && is_some (page export.pages m))
    added_means added m is = grind (arith, names_added)

    import_kind_safe : (added : ℕ) (kind : Kind) →
        added ≡ added_mask (unwrap_or (finite.get held export.id) []) export.pages →
        length (unwrap_or (finite.get held export.id) []) ≤ length export.pages →
        KindSays kind (unwrap_or (finite.get held export.id) []) export.pages →
        IsImportKindSafe known d export added kind
    import_kind_safe added Again is short says = tt
    import_kind_safe added New is short says =
        let own : Pages = unwrap_or (finite.get held export.id) [] in
        let lack = one_lacks (union_of_pages own export.pages) says.1 in
        let both = neither (page own lack.0) (page export.pages lack.0)
        (sym (page_merged own export.pages lack.0) ∙ lack.3) in
        let l = length_both own export.pages short in
        let least : 1 ≤ lack.0 = lack.1 in let most : lack.0 ≤ length (union_of_pages own export.pages) = lack.2 in (
          lack.0,
          least,
          omega arith,
          both.1,
          (λ surely. no_page (page_at held export.id lack.0) (b.surely export.id lack.0 surely) both.0),
        )
    import_kind_safe added Complete is short says =
        λ m least most none.
        (let own : Pages = unwrap_or (finite.get held export.id) [] in
        let l = length_both own export.pages short in
        let some : IsSome (option_or (page own m) (page export.pages m)) =
        subst (λ (o : Option (List ℕ)). IsSome o) (page_merged own export.pages m)
        (all_held (union_of_pages own export.pages) says.1 m least (omega arith)) in
        b.possibly export.id m (either_held (page own m) (page export.pages m) some
        (λ x. none (added_means added m is ∙ x))))

    added_safe : (capacity : ℕ) (kind : Kind) → add_kind capacity held export.id export.pages ≡ Ok kind →
        IsImportedSafe known d export (reply_of held export.id export.pages kind)
    added_safe capacity kind is =
        let added : ℕ = added_to held export.id export.pages in
        let says = kind_says capacity held export.id export.pages kind is in
        record {
          id_is = refl;
          n_is = refl;
          added = λ m named. (by_named (page_at held export.id m) (page export.pages m)
              (sym (added_means added m refl) ∙ named)).1;
          not_surely = λ m named surely. no_page (page_at held export.id m) (b.surely export.id m surely)
              (by_named (page_at held export.id m) (page export.pages m)
              (sym (added_means added m refl) ∙ named)).0;
          possibly = λ m some none. b.possibly export.id m
              (by_unnamed (page_at held export.id m) (page export.pages m) some
              (λ x. none (added_means added m refl ∙ x)));
          again = again_by kind added (own_pages held export.id) export.pages refl says;
          kind = import_kind_safe added kind refl (no_longer capacity held export.id export.pages kind is) says;
        }

    -- what was printed never disagrees
    import_agrees : (own : Pages) → finite.get held export.id ≡ Some own →
        ¬ ((length own ≢ length export.pages) ⊎ Differs own export.pages)
    import_agrees own is (inl other) =
        let t = counted_is old.labels one printed held left export.id own is in
        let cut = docs_of old.labels one sent.count.number sent.count.label export.id sent.count.there sent.count.id_is in
        let same : t.0 ≡ sent.count.label.cut = (let a : docs old.labels export.id ≡ Some t.0 = t.1 in cc (a, cut)) in
        other (t.2 ∙ ap (λ (x : CutDocument). length x.parts) same ∙
        sym (printed sent.count.number sent.count.label sent.count.there).n_is ∙ sent.count.n_is)
    import_agrees own is (inr differs) =
        let s = sent.pages differs.m differs.other differs.filed in
        let p = printed s.number s.label s.there in
        let cut = docs_of old.labels one s.number s.label export.id s.there s.id_is in
        let t = part_is old.labels one printed held left export.id differs.m differs.one s.label.cut cut
        (page_in held export.id differs.m own is ∙ differs.held) in
        let at : t.0 ≡ p.place = (let a : differs.m ≡ t.0 + 1 = t.1 in let c : s.label.page.m ≡ p.place + 1 = p.m_is in
        let e : s.label.page.m ≡ differs.m = s.m_is in omega arith) in
        let x : slice_get s.label.cut.parts p.place ≡ Some differs.one =
        subst (λ (j : ℕ). slice_get s.label.cut.parts j ≡ Some differs.one) at t.2 in
        let y : slice_get s.label.cut.parts p.place ≡ Some differs.other =
        p.part ∙ ap (λ (bytes : List ℕ). Some bytes) s.bytes_are in
        differs.differ (cc (x, y))

  -- ---- scans: the page of a label, as an export of it alone

  kind_safe : (capacity : ℕ) (p : PageView) → IsHead (head_of p) → IsCleanExport old.labels (lone_export p) →
      (kind : Kind) → add_kind capacity held p.id (lone p) ≡ Ok kind → IsKindSafe known d p.id p.m p.n kind
  kind_safe capacity p head sent kind is = by_kind kind refl safe.kind
    where
      added : ℕ
      added = added_to held p.id (lone p)

      safe : IsImportedSafe known d (lone_export p) (reply_of held p.id (lone p) kind)
      safe = added_safe (lone_export p) sent capacity kind is

      here : IsSome (page (lone p) p.m)
      here = subst IsSome (sym (lone_here p head.first head.last)) refl

      not_here : added ≢ 0 → ¬ known.holds d p.id p.m
      not_here some surely = grind (arith, lone_some, no_page, some_added)

      away : (m : ℕ) → page (lone p) m ≡ None → m ≢ p.m
      away m none same = no_page (page (lone p) p.m) here (subst (λ (k : ℕ). page (lone p) k ≡ None) same none)

      by_kind : (other : Kind) → kind ≡ other → IsImportKindSafe known d (lone_export p) added other →
          IsKindSafe known d p.id p.m p.n other
      by_kind Again at k = grind (arith, here, none_named, safe, true_false)
      by_kind New at k = grind (arith, away, length-lone, not_here, safe)
      by_kind Complete at k = grind (arith, length-lone, lone_some, not_here, safe)

-- ---- steps

pub own_scan_fault : {A : Type 0} (fault : ScanFault) → fault ≢ scan_fault.Failed → fault ≢ scan_fault.Save →
    fault ≢ scan_fault.Memory → IsOwn {A = A} scan_faults (ScanRefused fault)
own_scan_fault {A} fault failed save memory = grind arith

own_import_fault : {A : Type 0} (fault : ImportFault) → fault ≢ import_fault.Failed → fault ≢ import_fault.Save →
    fault ≢ import_fault.Memory → IsOwn {A = A} import_faults (ImportRefused fault)
own_import_fault {A} fault failed save memory = grind arith

-- what is shown at a desk agrees with what was printed and asked
record IsGathered {A : Type 0} (old : Relay) (earlier : List (Moment A)) (d : ℕ) (held : Documents) : Type 0 where
  pub left : HaveLeft old.labels held
  pub between : IsBetween earlier d held

module _ (A : Type 0) (old new : Relay) (earlier : List (Moment A)) (sound : RelayIsSound old)
    (printed : ArePrinted old.labels) (clean : AreAllClean old) (b : AreBetween earlier old) where
  one : AreOfOneDocument old.labels
  one = sound.one_document

  gathered : (d : ℕ) (desk : Desk) (held : Documents) → slice_get old.desks d ≡ Some desk →
      content_shown desk.actor ≡ Some held → IsGathered old earlier d held
  gathered d desk held there shown = grind arith

  asked : (d id : ℕ) (reply : Reply A) → reply ≢ replies.Down → Step old (Ask d id) reply new →
      DeskGoes old d (λ capacity. Looks (AskTells id)) reply new → IsSafe old (known_of old earlier) (Ask d id) reply
  asked d id reply up step g =
      let l = is_looked (AskTells id) g.desk.actor g.end (λ e. up (g.reply_is ∙ e)) g.acts in
      let h = gathered d g.desk l.held g.was l.shown in
      let is : reply ≡ ask_reply l.tells.0 = g.reply_is ∙ l.tells.2 in
      subst (λ (r : Reply A). IsSafe old (known_of old earlier) (Ask d id) r) (sym is)
      (ask_is_safe A old earlier d l.held one printed h.left h.between id l.tells.0
      (λ bytes given. (each_clean_desk_gives A old new d id bytes printed one (clean.desks d)
      (subst (λ (r : Reply A). Step old (Ask d id) r new)
      (is ∙ ap (λ (x : Result (List ℕ) AskFault). ask_reply x) given) step)).0)
      (finite.get l.held id) refl l.tells.1)

  ask_safe : (d id : ℕ) (reply : Reply A) → Step old (Ask d id) reply new →
      DeskGoes old d (λ capacity. Looks (AskTells id)) reply new → IsSafe old (known_of old earlier) (Ask d id) reply
  ask_safe d id reply step g = grind (arith, asked)

  exported : (d id : ℕ) (reply : Reply A) → reply ≢ replies.Down → reply ≢ replies.Memory →
      DeskGoes old d (λ capacity. MayLackFirst (Looks (ExportTells (length old.exports) id))) reply new →
      IsSafe old (known_of old earlier) (Export d id) reply
  exported d id reply up some g = grind (arith, export_is_safe, gathered, is_looked, is_made, not_surely, one)

  export_safe : (d id : ℕ) (reply : Reply A) →
      DeskGoes old d (λ capacity. MayLackFirst (Looks (ExportTells (length old.exports) id))) reply new →
      IsSafe old (known_of old earlier) (Export d id) reply
  export_safe d id reply g = grind (arith, exported)

  forget_safe : (d id : ℕ) (stop : Stop) (reply : Reply A) →
      DeskGoes old d (λ capacity. Calls forget_faults stop (ForgetComes id)) reply new →
      IsSafe old (known_of old earlier) (Forget d id stop) reply
  forget_safe d id stop reply g = grind arith

  -- a scan that was refused, not for a fault of the desk or its memory
  refused : (d number : ℕ) (flips : List (ℕ × ℕ)) (stop : Stop) (label : Label) (fault : ScanFault) →
      slice_get old.labels number ≡ Some label → IsNear (flipped label.grid flips) label.grid →
      (g : DeskGoes {A = A} old d
      (λ capacity. MayLackFirst (Calls scan_faults stop (ScanComes capacity (flipped label.grid flips)))) (ScanRefused fault) new) →
      IsOwn {A = A} scan_faults (ScanRefused fault) →
      (held : Documents) × (content_shown g.desk.actor ≡ Some held)
      × (AddRefused {A = A} (page_reply label.page) g.desk.capacity held label.page.id (lone label.page) (ScanRefused fault)
      ⊎ ((wrong : ℕ) × (fault ≡ scan_fault.Label (label_fault.Border wrong))))
  refused d number flips stop label fault there near g own =
      let p = printed number label there in
      let made = is_made (Calls scan_faults stop (ScanComes g.desk.capacity (flipped label.grid flips))) g.desk.actor g.end
      (ScanRefused fault) (λ e. cc (e)) g.acts (sym g.reply_is) in
      let ans = is_answered scan_faults stop (ScanComes g.desk.capacity (flipped label.grid flips)) g.desk.actor g.end
      (ScanRefused fault) own made (sym g.reply_is) in
      let read = ans.comes.0 in (
        ans.held,
        ap (λ (x : Actor Documents). content_shown x) ans.was,
        scan_was_refused g.desk.capacity label.page ans.held fault g.end.actor read
            (ans.comes.1.near label.grid label.page p.carries near)
            (was_wanted (scan_course g.desk.capacity ans.held read) ans.course ans.held (ScanRefused fault) g.end.actor
            ans.comes.2 ans.ended),
      )

  -- what was printed never disagrees, and where there is no room others are held
  not_added : (d capacity : ℕ) (desk : Desk) (export : relays.Export) (held : Documents) (fault : AddFault) →
      slice_get old.desks d ≡ Some desk → capacity ≡ desk.capacity → content_shown desk.actor ≡ Some held →
      IsCleanExport old.labels export → add_kind capacity held export.id export.pages ≡ Err fault →
      (fault ≡ adds.Full) × IsFullFor old (known_of old earlier) d export.id
  not_added d capacity desk export held fault there same shown sent is =
      let h = gathered d desk held there shown in
      add_refuses (λ f. (f ≡ adds.Full) × IsFullFor old (known_of old earlier) d export.id) capacity held export.id
      export.pages fault
      (λ own at differs. absurd (import_agrees A old earlier d held one printed h.left h.between export sent own at differs))
      (λ none most. (
        refl,
        full_for A old earlier d held one printed h.left h.between desk export.id there none
            (subst (λ (r : ℕ). r ≤ finite.len held) same most),
      )) is

  scan_safe : (d number : ℕ) (flips : List (ℕ × ℕ)) (stop : Stop) (label : Label) (reply : Reply A) →
      slice_get old.labels number ≡ Some label → IsNear (flipped label.grid flips) label.grid →
      DeskGoes old d (λ capacity. MayLackFirst (Calls scan_faults stop (ScanComes capacity (flipped label.grid flips)))) reply new →
      IsSafe old (known_of old earlier) (Scan d number flips stop) reply
  scan_safe d number flips stop label (Scanned a) there near g =
      let p = printed number label there in
      let made = is_made (Calls scan_faults stop (ScanComes g.desk.capacity (flipped label.grid flips))) g.desk.actor g.end
      (Scanned a) (λ e. cc (e)) g.acts (sym g.reply_is) in
      let ans = is_answered scan_faults stop (ScanComes g.desk.capacity (flipped label.grid flips)) g.desk.actor g.end
      (Scanned a) (own_scan a) made (sym g.reply_is) in
      let read = ans.comes.0 in
      let told = scan_told g.desk.capacity label.page ans.held a g.end.actor read
      (ans.comes.1.near label.grid label.page p.carries near)
      (was_wanted (scan_course g.desk.capacity ans.held read) ans.course ans.held (Scanned a) g.end.actor ans.comes.2
      ans.ended) in
      let h = gathered d g.desk ans.held g.was (ap (λ (x : Actor Documents). content_shown x) ans.was) in
      let same : record { id = label.page.id; m = label.page.m; n = label.page.n; kind = told.kind } ≡ a =
      scanned_is told.told in
      record {
        label = label;
        has_left = there;
        id_is = sym (ap (λ (x : Accepted). x.id) same);
        m_is = sym (ap (λ (x : Accepted). x.m) same);
        n_is = sym (ap (λ (x : Accepted). x.n) same);
        kind = subst (λ (k : Kind). IsKindSafe (known_of old earlier) d label.page.id label.page.m label.page.n k)
            (ap (λ (x : Accepted). x.kind) same)
            (kind_safe A old earlier d ans.held one printed h.left h.between g.desk.capacity label.page p.carries.is_head
            (lone_clean old.labels number label there p) told.kind told.kind_is);
      }
    where
      scanned_is : {one other : Accepted} → ◌≡◌ {A = Reply A} (Scanned one) (Scanned other) → one ≡ other
      scanned_is e = cc (e)
  scan_safe d number flips stop label (ScanRefused scan_fault.Conflict) there near g =
      let r = refused d number flips stop label scan_fault.Conflict there near g (own_scan_fault scan_fault.Conflict
      (λ e. cc (e)) (λ e. cc (e)) (λ e. cc (e))) in
      elim r.2 [
        | inl was ↦
            let full = (not_added d g.desk.capacity g.desk (lone_export label.page) r.0 was.fault g.was refl r.1
            (lone_clean old.labels number label there (printed number label there)) was.fault_is).0 in
            let told = subst (λ (f : AddFault). page_reply {A = A} label.page (Err f) ≡ ScanRefused scan_fault.Conflict)
            full was.told in
            absurd (cc (told))
        | inr border ↦ (let e = border.1 in cc (e))
      ]
  scan_safe d number flips stop label (ScanRefused scan_fault.Full) there near g =
      let r = refused d number flips stop label scan_fault.Full there near g (own_scan_fault scan_fault.Full
      (λ e. cc (e)) (λ e. cc (e)) (λ e. cc (e))) in
      elim r.2 [
        | inl was ↦ (
          label,
          there,
          (not_added d g.desk.capacity g.desk (lone_export label.page) r.0 was.fault g.was refl r.1
              (lone_clean old.labels number label there (printed number label there)) was.fault_is).1,
        )
        | inr border ↦ (let e = border.1 in cc (e))
      ]
  scan_safe d number flips stop label reply there near g = tt

  not_imported : (d number : ℕ) (stop : Stop) (export : relays.Export) (fault : ImportFault) →
      slice_get old.exports number ≡ Some export →
      DeskGoes {A = A} old d (λ capacity. Calls import_faults stop (ImportComes capacity export)) (ImportRefused fault) new →
      fault ≢ import_fault.Failed → fault ≢ import_fault.Save → fault ≢ import_fault.Memory →
      (fault ≡ import_fault.Full) × IsFullFor old (known_of old earlier) d export.id
  not_imported d number stop export fault there g failed save memory =
      let ans = is_answered import_faults stop (ImportComes g.desk.capacity export) g.desk.actor g.end (ImportRefused fault)
      (own_import_fault fault failed save memory) g.acts (sym g.reply_is) in
      elim (add_ended pages_reply g.desk.capacity ans.held export.id export.pages (ImportRefused fault) g.end.actor
      (was_wanted (verdict_course pages_reply (add_verdict g.desk.capacity ans.held export.id export.pages)) ans.course
      ans.held (ImportRefused fault) g.end.actor ans.comes ans.ended)) [
        | inl told ↦ (let e = told.told in absurd (cc (e)))
        | inr was ↦
            let full = not_added d g.desk.capacity g.desk export ans.held was.fault g.was refl
            (ap (λ (x : Actor Documents). content_shown x) ans.was) (clean.exports number export there) was.fault_is in
            let told = subst (λ (f : AddFault). pages_reply {A = A} (Err f) ≡ ImportRefused fault) full.0 was.told in
            (sym (fault_is told), full.1)
      ]
    where
      fault_is : {one other : ImportFault} → ◌≡◌ {A = Reply A} (ImportRefused one) (ImportRefused other) → one ≡ other
      fault_is e = cc (e)

  import_refusal : (d number : ℕ) (stop : Stop) (export : relays.Export) (fault : ImportFault) →
      slice_get old.exports number ≡ Some export →
      (fault ≢ import_fault.Failed → fault ≢ import_fault.Save → fault ≢ import_fault.Memory →
      (fault ≡ import_fault.Full) × IsFullFor old (known_of old earlier) d export.id) →
      IsSafe {A = A} old (known_of old earlier) (Import d number stop) (ImportRefused fault)
  import_refusal d number stop export fault there why = grind arith

  import_safe : (d number : ℕ) (stop : Stop) (export : relays.Export) (reply : Reply A) →
      slice_get old.exports number ≡ Some export →
      DeskGoes old d (λ capacity. Calls import_faults stop (ImportComes capacity export)) reply new →
      IsSafe old (known_of old earlier) (Import d number stop) reply
  import_safe d number stop export (Imported i) there g =
      let ans = is_answered import_faults stop (ImportComes g.desk.capacity export) g.desk.actor g.end (Imported i)
      (own_import i) g.acts (sym g.reply_is) in
      let h = gathered d g.desk ans.held g.was (ap (λ (x : Actor Documents). content_shown x) ans.was) in
      elim (add_ended pages_reply g.desk.capacity ans.held export.id export.pages (Imported i) g.end.actor
      (was_wanted (verdict_course pages_reply (add_verdict g.desk.capacity ans.held export.id export.pages)) ans.course
      ans.held (Imported i) g.end.actor ans.comes ans.ended)) [
        | inl told ↦ (
          export,
          there,
          subst (λ (x : imported_type.Imported). IsImportedSafe (known_of old earlier) d export x) (imported_is told.told)
              (added_safe A old earlier d ans.held one printed h.left h.between export (clean.exports number export there)
              g.desk.capacity told.kind told.kind_is),
        )
        | inr was ↦ (let e = was.told in absurd (cc (e)))
      ]
    where
      imported_is : {one other : imported_type.Imported} → ◌≡◌ {A = Reply A} (Imported one) (Imported other) →
          one ≡ other
      imported_is e = cc (e)
  import_safe d number stop export (ImportRefused fault) there g =
      import_refusal d number stop export fault there (not_imported d number stop export fault there g)
  import_safe d number stop export reply there g = tt

  acts_safe : (event : Event A) (reply : Reply A) → IsFairEvent old event → IsNamedThere old event →
      Step old event reply new → Acts old event reply new → IsSafe old (known_of old earlier) event reply
  acts_safe (Scan d number flips stop) reply fair named step acts = grind (arith, scan_safe)
  acts_safe (Forget d id stop) reply fair named step acts = forget_safe d id stop reply acts
  acts_safe (Import d number stop) reply fair named step acts = import_safe d number stop acts.0 reply acts.1 acts.2
  acts_safe (Ask d id) reply fair named step acts = ask_safe d id reply step acts
  acts_safe (Export d id) reply fair named step acts = export_safe d id reply acts
  acts_safe event reply fair named step acts = tt

no_such_safe : {A : Type 0} (old : Relay) (known : Known) (event : Event A) → IsSafe old known event replies.NoSuch
no_such_safe old known event = grind arith

pub each_fair_reply_is_safe : (A : Type 0) → EachFairReplyIsSafe A
each_fair_reply_is_safe A ranges capacities moment earlier end apart run saved fair =
    let before = each_run_is_sound A ranges capacities earlier moment.before apart run.0 in
    by_case before.0 before.1 (each_fair_run_is_clean A ranges capacities earlier moment.before apart run.0 saved)
    (run_between A ranges capacities earlier moment.before apart run.0 saved) run.1
  where
    by_case : RelayIsSound moment.before → ArePrinted moment.before.labels → AreAllClean moment.before →
        AreBetween earlier moment.before → Step moment.before moment.event moment.reply end →
        IsSafe moment.before (known_of moment.before earlier) moment.event moment.reply
    by_case sound printed clean b (inl acts) =
        acts_safe A moment.before end earlier sound printed clean b moment.event moment.reply fair acts.0 (inl acts) acts.1
    by_case sound printed clean b (inr none) = grind (arith, no_such_safe)
