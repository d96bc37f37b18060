-- A call that is made and answered a fault in place of Ok, since the machine stops within it, meets the contract of a
-- disk: what is said of a fault follows from what is said of Ok.
use Rattle.std.proofs.Common.{inl, inr, ⊎_elim, List, ℕ, Result, Ok, Err, refl}
use Rattle.std.specs.Prelude.{IsOk, IsErr}
use Rattle.dm_disk.specs.Disk.{DiskState, Renames, Syncs, WritesFile}
use Rattle.dm_disk.proofs.Saving.{by_end, not_both}
use Rattle.dm_store.specs.declared.store.StoreFault.{StoreFault}

-- an answer that is not Ok is a fault
err_else : (answer : Result (Unit {0}) StoreFault) → (IsOk answer → ⊥) → IsErr answer
err_else (Ok done) not = absurd (not refl)
err_else (Err fault) not = refl

module _ (old new : DiskState) (name : List ℕ) (made answer : Result (Unit {0}) StoreFault)
    (oks : IsOk answer → IsOk made) where
  pub writes_told : (bytes : List ℕ) → WritesFile old name bytes made new → WritesFile old name bytes answer new
  writes_told bytes writes = record { others = writes.others; done = λ ok. writes.done (oks ok) }

  pub syncs_told : Syncs old name made new → Syncs old name answer new
  syncs_told syncs = record {
    others = syncs.others;
    kept = ⊎_elim (λ ok. syncs.kept (inl (oks ok))) (λ on. syncs.kept (inr on));
    done = λ ok. syncs.done (oks ok);
  }

  pub renames_told : (to : List ℕ) → Renames old name to made new → Renames old name to answer new
  renames_told to renames = record {
    others = renames.others;
    done = λ ok. renames.done (oks ok);
    failed = λ _. by_end made renames.done renames.failed;
    keeps = λ named has. let kept = renames.keeps named has in
        (err_else answer (λ ok. not_both made kept.0 (oks ok)), kept.1);
    synced = λ on. ⊎_elim (λ ok. renames.synced on (inl (oks ok))) (λ on_to. renames.synced on (inr on_to));
    left = renames.left;
  }
