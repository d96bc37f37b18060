-- A disk that keeps all names does what the disk within does, but for renames.
use Rattle.std.proofs.Common.{◌≡◌, ◌∙◌, ◌+◌, inl, inr, ⊎_elim, ℕ, List, false, Some, None, Option, Result, refl}
use Rattle.std.specs.Prelude.{IsErr, IsSome, is_some, option_map, take}
use Rattle.dm_disk.specs.Disk.{Content, DiskState, KeepsAll, KeepsFile, Removes, Renames, Syncs, WritesFile}
use Rattle.dm_store.specs.declared.store.StoreFault.{StoreFault}
use Rattle.dm_disk.proofs.Saving.{keeps_on, not_both}
use Rattle.test_helpers.specs.Keeping.{keeping_names}

file_kept : {old new : DiskState} {name : List ℕ} → KeepsFile old name new
    → KeepsFile (keeping_names old) name (keeping_names new)
file_kept kept = record { seen = kept.seen; named = λ _. tt; synced = kept.synced; left = kept.left }

pub all_kept : {old new : DiskState} → KeepsAll old new → KeepsAll (keeping_names old) (keeping_names new)
all_kept kept = λ name. file_kept (kept name)

is_none : {there : Content} → there ≡ None → IsSome there → ⊥
is_none none has = cc

module _ (old new : DiskState) (name : List ℕ) (answer : Result (Unit {0}) StoreFault) where
  pub written : (bytes : List ℕ) → WritesFile old name bytes answer new
      → WritesFile (keeping_names old) name bytes answer (keeping_names new)
  written bytes writes = record { others = λ other apart. file_kept (writes.others other apart); done = writes.done }

  pub synced : Syncs old name answer new → Syncs (keeping_names old) name answer (keeping_names new)
  synced syncs = record {
    others = λ other apart. file_kept (syncs.others other apart);
    kept = λ why. file_kept (syncs.kept why);
    done = syncs.done;
  }

  pub removed : Removes old name answer new → Removes (keeping_names old) name answer (keeping_names new)
  removed removes = record {
    others = λ other apart still. file_kept (removes.others other apart still);
    done = removes.done;
    failed = removes.failed;
    synced = removes.synced;
    left = removes.left;
  }

  -- nothing was renamed
  pub not_renamed : (to : List ℕ) → IsErr answer → KeepsAll old new
      → Renames (keeping_names old) name to answer (keeping_names new)
  not_renamed to err kept = let not = not_both answer err in record {
    others = λ other _ _. file_kept (kept other);
    done = λ ok. absurd (not ok);
    failed = λ _. inl (kept to).seen;
    keeps = λ _ _. (err, file_kept (kept to));
    synced = λ _ why. ⊎_elim (λ ok. absurd (not ok)) (kept to).synced why;
    left = λ _ content leaves. inl ((kept to).left content leaves);
  }

  -- what was looked at before had no file
  pub renamed : (mid : DiskState) (to : List ℕ) → KeepsAll old mid → old.seen to ≡ None → Renames mid name to answer new
      → Renames (keeping_names old) name to answer (keeping_names new)
  renamed mid to kept none renames = record {
    others = λ other not_from not_to. file_kept (keeps_on (kept other) (renames.others other not_from not_to));
    done = λ ok. renames.done ok ∙ (kept name).seen;
    failed = λ err. ⊎_elim (λ before. inl (before ∙ (kept to).seen)) (λ after. inr (after ∙ (kept name).seen))
        (renames.failed err);
    keeps = λ _ has. absurd (is_none none has);
    synced = λ on why. renames.synced ((kept name).synced on)
        (⊎_elim (λ ok. inl ok) (λ on_to. inr ((kept to).synced on_to)) why);
    left = λ on content leaves. ⊎_elim (λ before. inl ((kept to).left content before))
        (λ after. inr (after ∙ (kept name).seen)) (renames.left ((kept name).synced on) content leaves);
  }

-- where a read gives nothing, nothing is there
pub none_read : {V : Type 0} (bytes : V → List ℕ) (limit : ℕ) (read : Option V) (there : Content) → is_some read ≡ false
    → option_map bytes read ≡ option_map (take (limit + 1)) there → there ≡ None
none_read bytes limit read None gone is = refl
none_read bytes limit None (Some found) gone is = cc
none_read bytes limit (Some given) (Some found) gone is = cc
