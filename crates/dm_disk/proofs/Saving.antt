-- What each step of a save leaves under the store's name, and what the save has done where it ends at that step.
use Rattle.std.proofs.Common.{◌≡◌, ◌⊎◌, ◌≢◌, inl, inr, ⊎_elim, ℕ, List, Some, None, Result, Ok, Err, refl, sym, subst, ◌∙◌}
use Rattle.std.specs.Prelude.{IsOk, IsErr, IsSome}
use Rattle.dm_disk.specs.Disk.{DiskState, Content, KeepsFile, KeepsAll, PutsFile, Renames, Removes, SyncsEntry, SavesFile}
use Rattle.dm_store.specs.declared.store.StoreFault.{StoreFault}

abbrev Answer : Type 0
Answer = Result (Unit {0}) StoreFault

-- an answer is not both
pub not_both : {T F : Type 0} (answer : Result T F) → IsErr answer → IsOk answer → ⊥
not_both (Ok x) err ok = cc
not_both (Err e) err ok = cc

-- of a call that is done or fails, whatever is answered, one of two things is so
pub by_end : {P Q : Type 0} (made : Answer) → (IsOk made → Q) → (IsErr made → P ⊎ Q) → P ⊎ Q
by_end (Ok done) ok err = inr (ok refl)
by_end (Err fault) ok err = err refl

pub keeps_on : {a b c : DiskState} {name : List ℕ} → KeepsFile a name b → KeepsFile b name c → KeepsFile a name c
keeps_on k l = record {
  seen = l.seen ∙ k.seen;
  named = λ keeps. l.named (k.named keeps);
  synced = λ on. l.synced (k.synced on);
  left = λ content leaves. k.left content (l.left content leaves);
}

pub keeps_same : {old : DiskState} {name : List ℕ} → KeepsFile old name old
keeps_same = record { seen = refl; named = λ keeps. keeps; synced = λ on. on; left = λ content leaves. leaves }

-- a call that keeps a name, with what is answered of it then, comes after others that change nothing there
pub keeps_name_on : {a b c : DiskState} {name : List ℕ} {P : Type 0} → KeepsFile a name b
    → (b.keeps_name name → IsSome (b.seen name) → P × KeepsFile b name c)
    → a.keeps_name name → IsSome (a.seen name) → P × KeepsFile a name c
keeps_name_on k keeps = λ named has. let kept = keeps (k.named named) (subst IsSome (sym k.seen) has) in
    (kept.0, keeps_on k kept.1)

-- or before them, and something else is answered
pub keeps_name_then : {a b c : DiskState} {name : List ℕ} {P Q : Type 0} → Q
    → (a.keeps_name name → IsSome (a.seen name) → P × KeepsFile a name b) → KeepsFile b name c
    → a.keeps_name name → IsSome (a.seen name) → Q × KeepsFile a name c
keeps_name_then other keeps k = λ named has. (other, keeps_on (keeps named has).1 k)

-- no name but the draft's is touched
abbrev KeepsBut : DiskState → List ℕ → DiskState → Type 0
KeepsBut old draft new = (other : List ℕ) → other ≢ draft → KeepsFile old other new

module _ (old new : DiskState) (name draft : List ℕ) (wanted : Content) where
  -- a call that is answered a fault, whatever it has done
  pub puts_told : (made answer : Answer) → (IsOk answer → IsOk made) → PutsFile old name draft wanted made new
      → PutsFile old name draft wanted answer new
  puts_told made answer oks puts = record {
    others = puts.others;
    done = λ ok. puts.done (oks ok);
    failed = λ _. by_end made puts.done puts.failed;
    synced = ⊎_elim (λ ok. puts.synced (inl (oks ok))) (λ on. puts.synced (inr on));
    left = puts.left;
  }

  pub saves_told : (made answer : Answer) → (IsOk answer → IsOk made) → SavesFile old name draft wanted made new
      → SavesFile old name draft wanted answer new
  saves_told made answer oks saves = record {
    puts = puts_told made answer oks saves.puts;
    lasting = λ ok. saves.lasting (oks ok);
  }

  -- the save ends at the call that puts the content under the name
  pub ends_at : (made answer : Answer) → IsErr answer → PutsFile old name draft wanted made new
      → SavesFile old name draft wanted answer new
  ends_at made answer err puts = let not = not_both answer err in record {
    puts = puts_told made answer (λ ok. absurd (not ok)) puts;
    lasting = λ ok. absurd (not ok);
  }

  -- or before it
  pub ends_early : (answer : Answer) → IsErr answer → name ≢ draft → KeepsBut old draft new
      → SavesFile old name draft wanted answer new
  ends_early answer err apart keeps = let kept = keeps name apart in ends_at answer answer err (record {
    others = λ other _ not_draft. keeps other not_draft;
    done = λ ok. absurd (not_both answer err ok);
    failed = λ _. inl kept.seen;
    synced = ⊎_elim (λ ok. absurd (not_both answer err ok)) kept.synced;
    left = λ content leaves. inl (kept.left content leaves);
  })

  -- or at the sync of the entry
  pub ends_late : (mid : DiskState) (put answer : Answer) → IsOk put → PutsFile old name draft wanted put mid
      → KeepsAll mid new → SyncsEntry name answer new → SavesFile old name draft wanted answer new
  ends_late mid put answer ok puts still syncs =
      let entry = still name in
      let on : mid.is_synced name = puts.synced (inl ok) in
      let shows : new.seen name ≡ wanted = entry.seen ∙ puts.done ok in
      record {
        puts = record {
          others = λ other not_name not_draft. keeps_on (puts.others other not_name not_draft) (still other);
          done = λ _. shows;
          failed = λ _. inr shows;
          synced = λ _. entry.synced on;
          left = λ content leaves. puts.left content (entry.left content leaves);
        };
        lasting = λ done. syncs done (entry.synced on);
      }

  -- calls on the draft come before a save
  pub saves_on : (mid : DiskState) (answer : Answer) → name ≢ draft → KeepsBut old draft mid
      → SavesFile mid name draft wanted answer new → SavesFile old name draft wanted answer new
  saves_on mid answer apart keeps saves = let kept = keeps name apart in let puts = saves.puts in record {
    puts = record {
      others = λ other not_name not_draft. keeps_on (keeps other not_draft) (puts.others other not_name not_draft);
      done = puts.done;
      failed = λ err. ⊎_elim (λ before. inl (before ∙ kept.seen)) (λ after. inr after) (puts.failed err);
      synced = ⊎_elim (λ ok. puts.synced (inl ok)) (λ on. puts.synced (inr (kept.synced on)));
      left = λ content leaves. ⊎_elim (λ before. inl (kept.left content before)) (λ after. inr after)
          (puts.left content leaves);
    };
    lasting = saves.lasting;
  }

  -- or after one that failed
  pub saves_then : (mid : DiskState) (made answer : Answer) → IsErr answer → name ≢ draft
      → SavesFile old name draft wanted made mid → KeepsBut mid draft new → SavesFile old name draft wanted answer new
  saves_then mid made answer err apart saves keeps = let kept = keeps name apart in let puts = saves.puts in
      ends_at answer answer err (record {
        others = λ other not_name not_draft. keeps_on (puts.others other not_name not_draft) (keeps other not_draft);
        done = λ ok. absurd (not_both answer err ok);
        failed = λ _. ⊎_elim (λ before. inl (kept.seen ∙ before)) (λ after. inr (kept.seen ∙ after))
            (by_end made puts.done puts.failed);
        synced = ⊎_elim (λ ok. absurd (not_both answer err ok)) (λ on. kept.synced (puts.synced (inr on)));
        left = λ content leaves. puts.left content (kept.left content leaves);
      })

-- a draft that is on the disk gets the name
pub renamed : (old new : DiskState) (name draft bytes : List ℕ) (made : Answer) → old.is_synced draft
    → old.seen draft ≡ Some bytes → Renames old draft name made new → PutsFile old name draft (Some bytes) made new
renamed old new name draft bytes made synced seen renames = record {
  others = λ other not_name not_draft. renames.others other not_draft not_name;
  done = λ ok. renames.done ok ∙ seen;
  failed = λ err. ⊎_elim (λ before. inl before) (λ after. inr (after ∙ seen)) (renames.failed err);
  synced = renames.synced synced;
  left = λ content leaves. ⊎_elim (λ before. inl before) (λ after. inr (after ∙ seen))
      (renames.left synced content leaves);
}

-- a name is taken away, whatever the draft is
pub removed : (old new : DiskState) (name draft : List ℕ) (made : Answer) → Removes old name made new
    → PutsFile old name draft None made new
removed old new name draft made removes = record {
  others = λ other not_name _. removes.others other not_name not_name;
  done = removes.done;
  failed = removes.failed;
  synced = removes.synced;
  left = removes.left;
}
