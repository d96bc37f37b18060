-- Of short lists without one premise of a law: its other premises hold, and its conclusion does not.
use Rattle.std.proofs.Common.{◌≡◌, inl, inr, ℕ, zero, suc, List, [], ◌∷◌, None, Some, refl, sym, ap, subst, ◌∙◌, arith}
use Rattle.std.specs.{Prelude.AllPairs, Prelude.codes, Borrow.Bor}
use Rattle.dm_encodation.specs.declared.scheme.Scheme.TheVariants.{Ascii}
use Rattle.relay_command.specs.declared.command.Command.TheVariants.{Deliver, Give, Import, Ledger, Print, Scan, Take}
use Rattle.relay_command.specs.declared.command.Labels.TheVariants.{OfSide}
use Rattle.relay_streams.specs.Streams.{OutputView}
use Rattle.relay_printer_commands.specs.Printers.{IsTextOf}
use Rattle.relay_shared.specs.Files.{DeskFiles}
use Rattle.dm_event_history.specs.Relay.{start}
use Rattle.relay_runs.proofs.TicketTexts.{ten_ticket}
use Rattle.relay_desk_runs.proofs.Opened.{at_desk_joint}
use Rattle.relay_program_runs.specs.Law.{AreApart, PrintsUnder, Ran, SomeRan, WritesPrinted, passed, store_of, writes, writes_nothing}
use Rattle.relay_program_runs.specs.Worked.{IsDone, NeedsExports, NeedsFiles, NeedsFolders, NeedsLabels, NeedsNumbers, NeedsRanges, NeedsTickets, given, no_files}
use Rattle.relay_program_runs.proofs.Steps.{again, also, and_made, at_same, blank_store, both_so, broken, exits, new, pairs_so, ran, stores_so, takes_given}
use Rattle.relay_program_runs.proofs.{Effects.no_documents, Printers.nothing_ran}
use Rattle.relay_program_runs.proofs.WorkedFacts.{gave, its_made, keeps_fresh, left_fresh, one_made, prints_id, took}

-- two ledgers of one range
module _ {A : Type 0} {f1 f2 f3 f4 : Bor (List ℕ)} {x1 x2 y1 y2 : DeskFiles} {o1 o2 o3 o4 : List ℕ}
    (r1 : IsDone A (Ledger f1 0 0 99) no_files [] 0 x1 o1) (r2 : IsDone A (Ledger f2 2 0 99) no_files [] 0 y1 o2)
    (r3 : IsDone A (Print f3 0 (OfSide 12) Ascii) x1 (codes "1234") 0 x2 o3)
    (r4 : IsDone A (Print f4 2 (OfSide 12) Ascii) y1 (codes "5678") 0 y2 o4)
    (n1 : f1.now ≡ codes "a") (n2 : f2.now ≡ codes "b") (n3 : f3.now ≡ codes "a") (n4 : f4.now ≡ codes "b") where
  pub ranges_needed : NeedsRanges A
  ranges_needed = broken _ _ _ _ (codes "a" ∷ codes "b" ∷ [])
      (exits 0 r1 n1 ∷ exits 1 r2 n2 ∷ exits 0 r3 n3 ∷ exits 1 r4 n4 ∷ []) (omega arith, (omega arith, tt))
      (stores_so (codes "a" ∷ codes "b" ∷ []) (exits 0 r1 n1 ∷ exits 1 r2 n2 ∷ exits 0 r3 n3 ∷ exits 1 r4 n4 ∷ [])
      (refl, (refl, (refl, (refl, tt)))))
      (its_made r1 ∷ its_made r2 ∷ []) (and_made (one_made r1) (and_made (one_made r2) refl))
      (((λ e. omega (arith, e)), tt), (tt, tt)) (tt, (tt, (tt, (tt, tt))))
      (λ each. again (ran r1 ∷ ran r2 ∷ ran r3 ∷ []) 2 refl (prints_id (keeps_fresh r1) r3)
      (prints_id (keeps_fresh r2) r4) each.1.1.1.0)

-- two ledgers of one number
module _ {A : Type 0} {f1 f2 f3 f4 f5 f6 f7 f8 t5 t6 : Bor (List ℕ)} {x1 x2 y1 y2 y3 z1 z2 z3 : DeskFiles}
    {o1 o2 o3 o4 o5 o6 o7 o8 : List ℕ}
    (r1 : IsDone A (Ledger f1 0 0 99) no_files [] 0 x1 o1) (r2 : IsDone A (Ledger f2 2 100 199) no_files [] 0 y1 o2)
    (r3 : IsDone A (Ledger f3 2 200 299) no_files [] 0 z1 o3) (r4 : IsDone A (Give f4 0 2 0 9) x1 [] 0 x2 o4)
    (r5 : IsDone A (Take f5 2 t5) y1 [] 0 y2 o5) (r6 : IsDone A (Take f6 2 t6) z1 [] 0 z2 o6)
    (r7 : IsDone A (Print f7 2 (OfSide 12) Ascii) y2 (codes "1234") 0 y3 o7)
    (r8 : IsDone A (Print f8 2 (OfSide 12) Ascii) z2 (codes "5678") 0 z3 o8)
    (n1 : f1.now ≡ codes "a") (n2 : f2.now ≡ codes "b") (n3 : f3.now ≡ codes "c") (n4 : f4.now ≡ codes "a")
    (n5 : f5.now ≡ codes "b") (n6 : f6.now ≡ codes "c") (n7 : f7.now ≡ codes "b") (n8 : f8.now ≡ codes "c")
    (text5 : IsTextOf t5.now ten_ticket) (text6 : IsTextOf t6.now ten_ticket) where
  pub numbers_needed : NeedsNumbers A
  numbers_needed =
      let at5 = took ten_ticket text5 refl (keeps_fresh r2) r5 in
      let at6 = took ten_ticket text6 refl (keeps_fresh r3) r6 in
      let gives = gave (keeps_fresh r1) r4 in
      let steps = exits 0 r1 n1 ∷ exits 1 r2 n2 ∷ exits 2 r3 n3 ∷ exits 0 r4 n4 ∷ exits 1 r5 n5 ∷ exits 2 r6 n6
      ∷ exits 1 r7 n7 ∷ exits 2 r8 n8 ∷ [] in
      broken _ _ _ _ (codes "a" ∷ codes "b" ∷ codes "c" ∷ []) steps (omega arith, (omega arith, (omega arith, tt)))
      (stores_so (codes "a" ∷ codes "b" ∷ codes "c" ∷ []) steps
      (refl, (refl, (refl, (refl, (refl, (refl, (refl, (refl, tt)))))))))
      (its_made r1 ∷ its_made r2 ∷ its_made r3 ∷ [])
      (and_made (one_made r1) (and_made (one_made r2) (and_made (one_made r3) refl)))
      ((inl (omega arith), (inl (omega arith), tt)), ((inl (omega arith), tt), (tt, tt)))
      (also tt (also tt (also tt (also tt (also (takes_given (ran r1 ∷ ran r2 ∷ ran r3 ∷ ran r4 ∷ []) (ran r5) 3 refl gives at5.0)
      (also (takes_given (ran r1 ∷ ran r2 ∷ ran r3 ∷ ran r4 ∷ ran r5 ∷ []) (ran r6) 3 refl gives at6.0) (tt, (tt, tt))))))))
      (λ each. again (ran r1 ∷ ran r2 ∷ ran r3 ∷ ran r4 ∷ ran r5 ∷ ran r6 ∷ ran r7 ∷ []) 6 refl
      (prints_id at5.1 r7) (prints_id at6.1 r8) each.1.1.1.1.1.1.1.0)

-- a ticket that nobody gave
module _ {A : Type 0} {f1 f2 f3 f4 f5 t3 : Bor (List ℕ)} {x1 x2 y1 y2 y3 : DeskFiles} {o1 o2 o3 o4 o5 : List ℕ}
    (r1 : IsDone A (Ledger f1 0 0 99) no_files [] 0 x1 o1) (r2 : IsDone A (Ledger f2 2 100 199) no_files [] 0 y1 o2)
    (r3 : IsDone A (Take f3 2 t3) y1 [] 0 y2 o3)
    (r4 : IsDone A (Print f4 0 (OfSide 12) Ascii) x1 (codes "1234") 0 x2 o4)
    (r5 : IsDone A (Print f5 2 (OfSide 12) Ascii) y2 (codes "5678") 0 y3 o5)
    (n1 : f1.now ≡ codes "a") (n2 : f2.now ≡ codes "b") (n3 : f3.now ≡ codes "b") (n4 : f4.now ≡ codes "a")
    (n5 : f5.now ≡ codes "b") (text3 : IsTextOf t3.now ten_ticket) where
  pub tickets_needed : NeedsTickets A
  tickets_needed =
      let at3 = took ten_ticket text3 refl (keeps_fresh r2) r3 in
      let steps = exits 0 r1 n1 ∷ exits 1 r2 n2 ∷ exits 1 r3 n3 ∷ exits 0 r4 n4 ∷ exits 1 r5 n5 ∷ [] in
      broken _ _ _ _ (codes "a" ∷ codes "b" ∷ []) steps (omega arith, (omega arith, tt))
      (stores_so (codes "a" ∷ codes "b" ∷ []) steps (refl, (refl, (refl, (refl, (refl, tt))))))
      (its_made r1 ∷ its_made r2 ∷ []) (and_made (one_made r1) (and_made (one_made r2) refl))
      ((((λ e. omega (arith, e)), inl (omega arith)), tt), (tt, tt)) (tt, (tt, (tt, (tt, (tt, tt)))))
      (λ each. again (ran r1 ∷ ran r2 ∷ ran r3 ∷ ran r4 ∷ []) 3 refl (prints_id (keeps_fresh r1) r4)
      (prints_id at3.1 r5) each.1.1.1.1.0)

-- a ledger that is put back, from one that was made likewise
module _ {A : Type 0} {f f1 f2 f3 : Bor (List ℕ)} {x1 x2 y1 y2 : DeskFiles} {o o1 o2 o3 : List ℕ}
    (r1 : IsDone A (Ledger f1 0 0 99) no_files [] 0 x1 o1) (backup : IsDone A (Ledger f 0 0 99) no_files [] 0 y1 o)
    (r2 : IsDone A (Print f2 0 (OfSide 12) Ascii) x1 (codes "1234") 0 x2 o2)
    (r3 : IsDone A (Print f3 0 (OfSide 12) Ascii) y1 (codes "5678") 0 y2 o3)
    (n1 : f1.now ≡ codes "a") (n2 : f2.now ≡ codes "a") (n3 : f3.now ≡ codes "a") where
  pub files_needed : NeedsFiles A
  files_needed = record {
    site = [];
    rans = ran r1 ∷ ran r2 ∷ ran r3 ∷ [];
    is_new = new no_files.joint None blank_store [] tt;
    runs = also (inl blank_store) (also (inr (0, ran r1, refl, at_same (n1 ∙ sym n2) (ap store_of r1.files_are)))
        (also (inr (
          0,
          ran r1,
          refl,
          at_same (n1 ∙ sym n3)
              (ap store_of (r1.files_are ∙ left_fresh r1 ∙ sym (left_fresh backup))),
        )) tt));
    apart = subst (AllPairs AreApart) (sym (and_made (one_made r1) refl)) (pairs_so AreApart (its_made r1 ∷ []) (tt, tt));
    tickets = (tt, (tt, (tt, tt)));
    fails = λ each. again (ran r1 ∷ ran r2 ∷ []) 1 refl (prints_id (keeps_fresh r1) r2)
        (prints_id (keeps_fresh backup) r3) each.1.1.0;
  }

-- ---- what no command of the list let out

no_print : {A : Type 0} {one : Ran A} → (passed one).printed ≡ None → {id : ℕ} {document : List ℕ} →
    SomeRan (PrintsUnder id document) (one ∷ []) → ⊥
no_print {one = one} none (zero, other, at, prints) =
    let same : one ≡ other = cc (at) in
    let job = ap (λ (r : Ran _). (passed r).printed) same ∙ prints.job_is in cc (job, none)
no_print none (suc number, other, at, prints) = cc (at)

-- it was written, and nothing was printed before
no_writes : {A : Type 0} {earlier : List (Ran A)} {other : Ran A} {text bytes : List ℕ} →
    ((id : ℕ) (document : List ℕ) → SomeRan (PrintsUnder id document) earlier → ⊥) →
    other.before.streams.output.contents ≡ Some [] → other.after.streams.output.contents ≡ Some bytes →
    bytes ≡ codes "1234" → WritesPrinted earlier text other → ⊥
no_writes {bytes = bytes} none before after is (writes_nothing nothing) =
    let all : Some bytes ≡ Some [] = sym after ∙ ap (λ (v : OutputView). v.contents) nothing.0 ∙ before in cc (all, is)
no_writes none before after is (writes id document text printed part) = none id document printed

-- labels and files of a print before the list
module _ {A : Type 0} {f1 f2 f3 f4 i2 i4 : Bor (List ℕ)} {x1 x2 y1 y2 : DeskFiles} {input file o1 o2 o3 o4 : List ℕ}
    {s1 s2 s3 s4 : ℕ}
    (r1 : IsDone A (Scan f1 10) no_files input s1 x1 o1) (r2 : IsDone A (Deliver f2 i2) x1 [] s2 x2 o2)
    (r3 : IsDone A (Import f3 10) no_files file s3 y1 o3) (r4 : IsDone A (Deliver f4 i4) y1 [] s4 y2 o4)
    (n1 : f1.now ≡ codes "d") (n2 : f2.now ≡ codes "d") (n3 : f3.now ≡ codes "e") (n4 : f4.now ≡ codes "e")
    (is2 : o2 ≡ codes "1234") (is4 : o4 ≡ codes "1234") where
  labels_needed : NeedsLabels A
  labels_needed =
      let steps = exits 0 r1 n1 ∷ exits 0 r2 n2 ∷ [] in
      broken _ _ _ _ (codes "d" ∷ []) steps (omega arith, tt)
      (both_so (codes "d" ∷ []) steps (omega arith, tt) (refl, (refl, tt)) (refl, (refl, tt)))
      [] refl tt ((tt, refl), ((tt, refl), tt))
      (λ each. no_writes {other = ran r2} (λ id document. no_print {one = ran r1} refl) refl r2.output_is is2 (each.1.0 refl))

  exports_needed : NeedsExports A
  exports_needed =
      let steps = exits 0 r3 n3 ∷ exits 0 r4 n4 ∷ [] in
      broken _ _ _ _ (codes "e" ∷ []) steps (omega arith, tt)
      (both_so (codes "e" ∷ []) steps (omega arith, tt) (refl, (refl, tt)) (refl, (refl, tt)))
      [] refl tt ((tt, refl), ((tt, refl), tt))
      (λ each. no_writes {other = ran r4} (λ id document. no_print {one = ran r3} refl) refl r4.output_is is4 (each.1.0 refl))

  -- the scan left the store as it was
  same_store : no_files.joint ≡ x1.joint
  same_store = sym (at_desk_joint 10 (given no_files input) s1 r1.after
      (no_documents (start [] []) no_files.joint None (refl, refl)) r1.does) ∙ ap store_of r1.files_are

  folders_needed : NeedsFolders A
  folders_needed = broken _ _ _ _ (codes "d" ∷ []) (exits 0 r2 n2 ∷ []) (omega arith, tt)
      (stores_so (codes "d" ∷ []) (exits 0 r2 n2 ∷ []) (ap Some (at_same refl same_store), tt))
      [] refl tt ((tt, refl, refl), tt)
      (λ each. no_writes {other = ran r2} (λ id document. nothing_ran _) refl r2.output_is is2 (each.0 refl))

  pub taken_in_needed : NeedsLabels A × NeedsExports A × NeedsFolders A
  taken_in_needed = (labels_needed, exports_needed, folders_needed)
