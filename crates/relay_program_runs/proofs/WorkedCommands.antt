-- The premises of the laws, of the commands of the worked list.
use Rattle.std.proofs.Common.{◌≡◌, ◌≤◌, ◌<◌, ◌++◌, inl, inr, ℕ, List, [], ◌∷◌, None, Option, Some, length, slice_get, refl, sym, ap, subst, ◌∙◌, arith}
use Rattle.std.specs.Prelude.{AllPairs, IsSomeAnd, IsTrue, codes, is_some, true}
use Rattle.std.specs.{Borrow.Bor, List.AllByRecursion, Ordering.nat_cmp}
use Rattle.std.specs.FinMap as finite
use Rattle.dm_gf256.proofs.OneBlockWord.{differ-self}
use Rattle.dm_check_blocks.specs.Blocks.{block_of}
use Rattle.dm_encodation.specs.declared.scheme.Scheme.TheVariants.{Ascii}
use Rattle.dm_finder_frame.specs.Frame.{GridView}
use Rattle.dm_symbol.specs.Correction.{IsNear, words_of_grid}
use Rattle.dm_store.specs.Saved.{Saved}
use Rattle.dm_print_ledger.specs.Ledger.{JobView}
use Rattle.dm_assembly_desk.specs.declared.limits.TheConstants.{MOST_CAPACITY}
use Rattle.dm_event_history.specs.Relay.{start}
use Rattle.relay_command.specs.declared.command.Command.TheVariants.{Copy, Deliver, Export, Give, Import, Ledger, Print, Scan, Take}
use Rattle.relay_command.specs.declared.command.Labels.TheVariants.{OfSide}
use Rattle.relay_printer_commands.specs.Printers.{IsTextOf, images_of}
use Rattle.relay_shared.specs.Files.{DeskFiles}
use Rattle.relay_runs.proofs.TicketTexts.{ten_ticket}
use Rattle.relay_desk_runs.specs.Answered.{HasNoDocuments, grids_scanned}
use Rattle.relay_desk_runs.proofs.Opened.{at_desk_joint, on_id_joint}
use Rattle.relay.specs.Program.{path_of}
use Rattle.relay_program_runs.specs.Law.{AreApart, AreVouchedFor, MeetsPremises, Each, FindsLeft, LeavesFile, LetsOut, Ran, SomeRan, TakesGiven, TakesPrinted, passed, store_of}
use Rattle.relay_program_runs.specs.Worked.{Delivers, IsDone, IsReadBeside, IsWorked, given, no_files}
use Rattle.relay_program_runs.proofs.{Effects.no_documents, Images.Is12, Images.scanned_so, Lists.all_so, Lists.each_more, Walk.what_runs_in_turn_finds_what_was_left}
use Rattle.relay_program_runs.proofs.Steps.{Rise, Step, there, also, and_made, blank_set, blank_store, cut, exits, new, no_sets, no_stores, pairs_so, ran, rans_of, sets_so, stops, stores_so, takes_given}
use Rattle.relay_program_runs.proofs.WorkedFacts.{IsIn, PrintedWell, copy_done, export_done, gave, import_of_all, its_made, keeps_fresh, one_made, print_done, took}

near_itself : (grid : GridView) → IsNear grid grid
near_itself grid = record {
  same_size = refl;
  words = λ b within. omega (arith, differ-self (block_of grid.size b (words_of_grid grid)));
}

pub near_one : {A : Type 0} (IsAmong : List ℕ → Type 0) (earlier : List (Ran A)) {one : Ran A} {grid : GridView}
    (number : ℕ) → slice_get earlier number ≡ Some one → LetsOut IsAmong grid one →
    (own : GridView) × IsNear grid own × SomeRan (LetsOut IsAmong own) earlier
near_one IsAmong earlier {one} {grid} number at out = (grid, near_itself grid, (number, one, at, out))

-- it took in no grid, and no file
pub takes_none : {A : Type 0} {IsAmong : List ℕ → Type 0} {earlier : List (Ran A)} {ran : Ran A} → (passed ran).scanned ≡ [] →
    (passed ran).imported ≡ [] → TakesPrinted IsAmong earlier ran
takes_none {A} {IsAmong} {earlier} no_grid no_file = record {
  scans = λ among. subst (AllByRecursion (λ grid. (own : GridView) × IsNear grid own
      × SomeRan {A = A} (LetsOut IsAmong own) earlier)) (sym no_grid) tt;
  imports = λ among. subst (AllByRecursion (λ bytes. SomeRan {A = A}
      (λ other. LeavesFile bytes other × IsAmong (path_of other.command)) earlier)) (sym no_file) tt;
}

delivered : {A : Type 0} {f i : Bor (List ℕ)} {x y : DeskFiles} {o path written : List ℕ}
    (r : IsDone A (Deliver f i) x [] 0 y o) → f.now ≡ path → o ≡ written → Delivers path written (ran r)
delivered r named is =
    record { asks = refl; path_is = named; well = refl; before = refl; after = r.output_is ∙ ap Some is }

module _ {A : Type 0} {f1 f2 f3 f4 f5 f6 f7 f8 f9 f10 f11 f12 f13 f14 t i9 i10 i11 i14 : Bor (List ℕ)}
    {a1 a2 a3 a4 a5 b1 b2 d1 d2 d3 d4 e1 e2 e3 : DeskFiles} {o1 o2 o3 o4 o5 o6 o7 o8 o9 o10 o11 o12 o13 o14 : List ℕ} {st : ℕ}
    (r1 : IsDone A (Ledger f1 0 0 99) no_files [] 0 a1 o1)
    (r2 : IsDone A (Ledger f2 2 100 199) no_files [] 0 b1 o2)
    (r3 : IsDone A (Give f3 0 2 0 9) a1 [] 0 a2 o3)
    (r4 : IsDone A (Take f4 2 t) b1 [] 0 b2 o4)
    (r5 : IsDone A (Print f5 0 (OfSide 12) Ascii) a2 (codes "1234") 0 a3 o5)
    (r6 : IsDone A (Print f6 0 (OfSide 12) Ascii) a3 (codes "5678") st a4 o6)
    (r7 : IsDone A (Print f7 0 (OfSide 12) Ascii) a4 (codes "5678") 1 a5 o7)
    (r8 : IsDone A (Scan f8 10) no_files o5 0 d1 o8)
    (r9 : IsDone A (Deliver f9 i9) d1 [] 0 d2 o9)
    (r10 : IsDone A (Export f10 i10) d2 [] 0 d3 o10)
    (r11 : IsDone A (Copy f11 i11 1 12 Ascii) d3 [] 0 d4 o11)
    (r12 : IsDone A (Scan f12 10) no_files o11 0 e1 o12)
    (r13 : IsDone A (Import f13 10) e1 o10 0 e2 o13)
    (r14 : IsDone A (Deliver f14 i14) e2 [] 0 e3 o14)
    (n1 : f1.now ≡ codes "a") (n2 : f2.now ≡ codes "b") (n3 : f3.now ≡ codes "a") (n4 : f4.now ≡ codes "b")
    (n5 : f5.now ≡ codes "a") (n6 : f6.now ≡ codes "a") (n7 : f7.now ≡ codes "a") (n8 : f8.now ≡ codes "d")
    (n9 : f9.now ≡ codes "d") (n10 : f10.now ≡ codes "d") (n11 : f11.now ≡ codes "d") (n12 : f12.now ≡ codes "e")
    (n13 : f13.now ≡ codes "e") (n14 : f14.now ≡ codes "e")
    (text : IsTextOf t.now ten_ticket) (more : 0 < length o7) (short : length o10 ≤ 1000) (one : o9 ≡ codes "1234")
    (other : o14 ≡ codes "1234") where
  abbrev paths : List (List ℕ)
  paths = codes "a" ∷ codes "b" ∷ codes "d" ∷ codes "e" ∷ []

  abbrev steps : List (Step A)
  steps = exits 0 r1 n1 ∷ exits 1 r2 n2 ∷ exits 0 r3 n3 ∷ exits 1 r4 n4 ∷ exits 0 r5 n5 ∷ stops 0 r6 n6 ∷ exits 0 r7 n7
      ∷ exits 2 r8 n8 ∷ exits 2 r9 n9 ∷ exits 2 r10 n10 ∷ exits 2 r11 n11 ∷ exits 3 r12 n12 ∷ exits 3 r13 n13
      ∷ exits 3 r14 n14 ∷ []

  apart : AllPairs AreApart (its_made r1 ∷ its_made r2 ∷ [])
  apart = pairs_so AreApart (its_made r1 ∷ its_made r2 ∷ [])
      ((((λ e. omega (arith, e)), inl (omega arith)), tt), (tt, tt))

  -- ---- what came in

  abbrev IsAmong : List ℕ → Type 0
  IsAmong path = IsTrue true

  printed : PrintedWell a2.joint (passed (ran r5)).printed (Some o5)
  printed = print_done r5

  abbrev before_scan : List (Ran A)
  before_scan = ran r1 ∷ ran r2 ∷ ran r3 ∷ ran r4 ∷ ran r5 ∷ cut r6 ∷ ran r7 ∷ []

  scans_after : (earlier : List (Ran A)) → slice_get earlier 4 ≡ Some (ran r5) → AllByRecursion (λ grid.
      (own : GridView) × IsNear grid own × SomeRan (LetsOut IsAmong own) earlier) (grids_scanned r8.does)
  scans_after earlier at = all_so (IsIn printed.it.labels) _ (grids_scanned r8.does) (λ grid is_in. near_one IsAmong earlier 4 at
      (inl (subst (λ (o : Option JobView). IsSomeAnd o (λ job. IsIn job.labels grid)) (sym printed.job_is) is_in)))
      (scanned_so (IsIn printed.it.labels) 10 (given no_files o5) 0 r8.after r8.does printed.it.labels printed.labels
      (ap Some printed.written))

  copied : (grid : GridView) × ((passed (ran r11)).copied ≡ Some grid) × Is12 (λ g. g ≡ grid) grid
      × (o11 ≡ images_of (grid ∷ []))
  copied = copy_done r11

  abbrev before_copy : List (Ran A)
  before_copy = before_scan ++ ran r8 ∷ ran r9 ∷ ran r10 ∷ ran r11 ∷ []

  scans_copy : AllByRecursion (λ grid. (own : GridView) × IsNear grid own × SomeRan (LetsOut IsAmong own) before_copy)
      (grids_scanned r12.does)
  scans_copy = all_so (λ g. g ≡ copied.0) _ (grids_scanned r12.does)
      (λ g same. near_one IsAmong before_copy 10 refl (inr (copied.1 ∙ ap Some (sym same), refl)))
      (scanned_so (λ g. g ≡ copied.0) 10 (given no_files o11) 0 r12.after r12.does (copied.0 ∷ []) (copied.2, tt)
      (ap Some copied.3))

  imports : AllByRecursion (λ bytes. SomeRan (λ other. LeavesFile bytes other × IsTrue true)
      (before_copy ++ ran r12 ∷ [])) (passed (ran r13)).imported
  imports = import_of_all _ 10 (given e1 o10) 0 r13.after o10 refl short r13.does.0
      (9, ran r10, refl, (inl (export_done r10), refl))

  wrote : IsSomeAnd r7.after.streams.output.contents (λ bytes. 0 < length bytes)
  wrote = subst (λ (o : Option (List ℕ)). IsSomeAnd o (λ bytes. 0 < length bytes)) (sym r7.output_is) more

  rise : Rise 0 paths
  rise = (omega arith, (omega arith, (omega arith, (omega arith, tt))))

  gives_ticket : TakesGiven (ran r1 ∷ ran r2 ∷ ran r3 ∷ []) (ran r4)
  gives_ticket = takes_given (ran r1 ∷ ran r2 ∷ ran r3 ∷ []) (ran r4) 2 refl (gave (keeps_fresh r1) r3)
      (took ten_ticket text refl (keeps_fresh r2) r4).0

  asks : MeetsPremises (no_stores paths) (rans_of steps)
  asks = record {
    is_new = new no_files.joint None blank_store paths rise;
    runs = stores_so paths steps (also refl (also refl (also refl (also refl (also refl (also refl (also refl (also refl
        (also refl (also refl (also refl (also refl (also refl (also refl tt))))))))))))));
    apart = subst (AllPairs AreApart) (sym (and_made (one_made r1) (and_made (one_made r2) refl))) apart;
    tickets = also tt (also tt (also tt (also gives_ticket (tt, (tt, (tt, (tt, (tt, (tt, (tt, (tt, (tt, (tt, tt)))))))))))));
  }

  all_printed : Each (TakesPrinted IsAmong) [] (rans_of steps)
  all_printed = also (takes_none refl refl) (also (takes_none refl refl) (also (takes_none refl refl)
      (also (takes_none refl refl) (also (takes_none refl refl) (also (takes_none refl refl)
      (also (takes_none refl refl) (also (record { scans = λ among. scans_after before_scan refl; imports = λ among. tt })
      (also (takes_none refl refl) (also (takes_none refl refl) (also (takes_none refl refl)
      (also (record { scans = λ among. scans_copy; imports = λ among. tt })
      (also (record { scans = λ among. tt; imports = λ among. imports })
      (also (takes_none refl refl) tt)))))))))))))

  vouched : AreVouchedFor IsAmong (rans_of steps)
  vouched = what_runs_in_turn_finds_what_was_left A (λ path. true) (no_stores paths) (no_sets paths) (rans_of steps) asks
      all_printed (new no_files.set finite.empty blank_set paths rise)
      (sets_so paths steps (also refl (also refl (also refl (also refl (also refl (also refl (also refl (also refl
      (also refl (also refl (also refl (also refl (also refl (also refl tt)))))))))))))))

  -- ---- the scan, read while it ran

  abbrev until_read : List (Step A)
  until_read = exits 0 r1 n1 ∷ exits 1 r2 n2 ∷ exits 0 r3 n3 ∷ exits 1 r4 n4 ∷ exits 0 r5 n5 ∷ stops 2 r8 n8
      ∷ exits 2 r9 n9 ∷ []

  abbrev with_whole : List (Step A)
  with_whole = until_read ++ exits 2 r8 n8 ∷ []

  no_joint : HasNoDocuments no_files.joint
  no_joint = no_documents (start [] []) no_files.joint None (refl, refl)

  store_scanned : d1.joint ≡ no_files.joint
  store_scanned = sym (ap store_of r8.files_are) ∙ at_desk_joint 10 (given no_files o5) 0 r8.after no_joint r8.does

  store_read : d2.joint ≡ no_files.joint
  store_read = sym (ap store_of r9.files_are) ∙ on_id_joint i9.now (given d1 []) 0 r9.after
      (λ id at. at_desk_joint MOST_CAPACITY (given d1 []) 0 r9.after (subst HasNoDocuments (sym store_scanned) no_joint) at)
      r9.does ∙ store_scanned

  asks_until_read : MeetsPremises (no_stores paths) (rans_of until_read)
  asks_until_read = record {
    is_new = new no_files.joint None blank_store paths rise;
    runs = stores_so paths until_read (also refl (also refl (also refl (also refl (also refl (also refl (also refl tt)))))));
    apart = subst (AllPairs AreApart) (sym (and_made (one_made r1) (and_made (one_made r2) refl))) apart;
    tickets = also tt (also tt (also tt (also gives_ticket (tt, (tt, (tt, tt))))));
  }

  vouched_until_read : AreVouchedFor IsAmong (rans_of until_read)
  vouched_until_read = what_runs_in_turn_finds_what_was_left A (λ path. true) (no_stores paths) (no_sets paths)
      (rans_of until_read) asks_until_read (also (takes_none refl refl) (also (takes_none refl refl)
      (also (takes_none refl refl) (also (takes_none refl refl) (also (takes_none refl refl)
      (also (record { scans = λ among. scans_after (ran r1 ∷ ran r2 ∷ ran r3 ∷ ran r4 ∷ ran r5 ∷ []) refl; imports = λ among. tt })
      (also (takes_none refl refl) tt)))))))
      (new no_files.set finite.empty blank_set paths rise)
      (sets_so paths until_read (also refl (also refl (also refl (also refl (also refl (also refl (also refl tt))))))))

  beside : IsReadBeside A
  beside = record {
    site = no_stores paths;
    earlier = ran r1 ∷ ran r2 ∷ ran r3 ∷ ran r4 ∷ ran r5 ∷ [];
    moment = cut r8;
    reader = ran r9;
    whole = ran r8;
    is_scan = (_, _, refl);
    one_scan = (refl, refl, refl);
    same_desk = n8 ∙ sym n9;
    was_empty = refl;
    delivers = delivered r9 n9 one;
    asks = record {
      is_new = new no_files.joint None blank_store paths rise;
      runs = stores_so paths with_whole (also refl (also refl (also refl (also refl (also refl (also refl (also refl
          (also (ap (λ (s : Saved). Some (there (codes "d") s)) store_read) tt))))))));
      apart = subst (AllPairs AreApart) (sym (and_made (one_made r1) (and_made (one_made r2) refl))) apart;
      tickets = also tt (also tt (also tt (also gives_ticket (tt, (tt, (tt, (tt, tt)))))));
    };
    vouched = record {
      takes = each_more (TakesPrinted IsAmong) [] (rans_of until_read) (ran r8) vouched_until_read.takes
          (record { scans = λ among. scans_after (rans_of until_read) refl; imports = λ among. tt });
      finds = each_more (FindsLeft IsAmong) [] (rans_of until_read) (ran r8) vouched_until_read.finds (record {
        honest = λ among. refl;
        files = λ among key bytes is. absurd (let none = finite.get-empty {X = List ℕ} nat_cmp key in cc (none, is));
      });
    };
  }

  pub worked : IsWorked A o14
  worked = record {
    site = no_stores paths;
    rans = rans_of steps;
    count = refl;
    asks = asks;
    vouched = vouched;
    takes = (3, ran r4, refl, ap is_some (took ten_ticket text refl (keeps_fresh r2) r4).0);
    cut = (5, cut r6, refl, refl);
    lost = (6, ran r7, refl, (refl, wrote));
    here = (8, ran r9, refl, delivered r9 n9 one);
    copies = (10, ran r11, refl, ap is_some copied.1);
    there = (13, ran r14, refl, delivered r14 n14 refl);
    written_is = other;
    beside = beside;
    once = λ law. law (no_stores paths) (rans_of steps) asks;
    delivered = λ law. law (λ path. true) (no_stores paths) (rans_of steps) asks vouched;
  }
