-- What a call on one key's file does to the set in the folder.
use Rattle.std.proofs.Common.{◌≡◌, ◌≢◌, ◌<◌, ◌^◌, ◌∙◌, inl, inr, ⊎_elim, ℕ, List, Bool, true, false, Option, Some, None, Result, Ok, Err, refl, sym, ap}
use Rattle.std.specs.Prelude.{IsTrue, IsErr, IsErrOf, is_err, IfOk, take, if◌then◌else◌, ◌+◌, option_map}
use Rattle.std.specs.FinMap.{insert, remove}
use Rattle.std.specs.FinMap as map
use Rattle.std.proofs.lemmas.Bool.{cases_eq}
use Rattle.dm_store.specs.declared.store.StoreFault.{StoreFault}
use Rattle.dm_store.specs.declared.store.StoreFault.TheVariants as faults
use Rattle.dm_store.specs.Saved.{Contents, GivesLoaded, ListsKeys, LoadsKey, Settles, RemovesKey, outcome_of, SavesIn}
use Rattle.dm_disk.specs.Disk.{DiskState, Content, KeepsFile, KeepsAll, ReadsFile, SavesFile, draft_of, contents_in, key_path, found_in, set_in}
use Rattle.dm_disk.proofs.Held.{held_at, found_is, held_same, held_kept, held_replaced, held_removed}
use Rattle.dm_disk.proofs.{Names.names_apart, Names.draft_apart, Saving.by_end}

told : (is_honest : Bool) (content other : Content) → (IsTrue is_honest → content ≡ other) →
    (if is_honest then content else None) ≡ (if is_honest then other else None)
told true content other same = same refl
told false content other same = refl

-- the map with this content at a key
abbrev with_at : Contents → ℕ → Content → Contents
with_at held key None = remove held key
with_at held key (Some bytes) = insert held key bytes

module _ (old new : DiskState) (folder : List ℕ) (honesty : new.is_honest ≡ old.is_honest)
  where
    found_same : (key : ℕ)
        → (IsTrue old.is_honest → new.seen (key_path folder key) ≡ old.seen (key_path folder key)) →
        found_in new folder key ≡ found_in old folder key
    found_same key same = ap (λ (b : Bool). if b then new.seen (key_path folder key) else None) honesty
        ∙ told old.is_honest _ _ same

    new_honest : IsTrue old.is_honest → IsTrue new.is_honest
    new_honest honest = honesty ∙ honest

    alike : contents_in new folder ≡ contents_in old folder → set_in new folder ≡ set_in old folder
    alike same = λ i. record {
      content = same i;
      is_honest = honesty i;
      may_lack_memory = true;
      load_plan = (set_in old folder).load_plan;
      save_plan = (set_in old folder).save_plan;
    }

    -- a disk that keeps each name keeps the set
    pub set_kept : KeepsAll old new → set_in new folder ≡ set_in old folder
    set_kept kept = alike (held_same (found_in old folder) (found_in new folder) (2 ^ 16)
        (λ key lt. found_same key (λ _. (kept (key_path folder key)).seen)))

    pub set_gives : {V W : Type 0} (seen : V → W) (wanted : W) (answer : Result V StoreFault) → KeepsAll old new
        → (IsTrue old.is_honest → IfOk answer (λ given. seen given ≡ wanted))
        → GivesLoaded seen (set_in old folder) wanted answer (set_in new folder)
    set_gives seen wanted answer kept gives =
        record { same = set_kept kept; saved = gives; device = λ _. refl; memory = λ _. refl }

    pub set_lists : {V : Type 0} (keys : V → List ℕ) (limit : ℕ) (answer : Result V StoreFault) → KeepsAll old new
        → (IsTrue old.is_honest
        → IfOk answer (λ listed. keys listed ≡ take (limit + 1) (map.keys (contents_in old folder))))
        → ListsKeys keys (set_in old folder) limit answer (set_in new folder)
    set_lists keys limit answer kept lists = set_gives keys _ answer kept lists

    pub set_settles : {V : Type 0} (answer : Result V StoreFault) → KeepsAll old new
        → Settles (set_in old folder) answer (set_in new folder)
    set_settles (Ok done) kept = (set_kept kept, tt)
    set_settles (Err faults.Device) kept = (set_kept kept, refl)
    set_settles (Err faults.Memory) kept = (set_kept kept, refl)

    pub set_loads : {V : Type 0} (bytes : V → List ℕ) (key limit : ℕ) (answer : Result (Option V) StoreFault) →
        key < 2 ^ 16 → KeepsAll old new →
        (IsTrue old.is_honest → ReadsFile bytes old (key_path folder key) limit answer) →
        LoadsKey bytes (set_in old folder) key limit answer (set_in new folder)
    set_loads bytes key limit answer lt kept reads = set_gives (option_map bytes) _ answer kept (λ honest.
        rw (held_at (found_in old folder) (2 ^ 16) key lt, found_is old folder key honest) (reads honest))

    -- the keys whose files are as they were
    abbrev Others : ℕ → Type 0
    Others key = (k : ℕ) → k < 2 ^ 16 → k ≢ key → found_in new folder k ≡ found_in old folder k

    changed : (key : ℕ) (wanted : Content) → key < 2 ^ 16 → IsTrue old.is_honest
        → new.seen (key_path folder key) ≡ wanted → Others key
        → contents_in new folder ≡ with_at (contents_in old folder) key wanted
    changed key None lt honest now others = held_removed (found_in old folder) (found_in new folder) (2 ^ 16) key lt
        (found_is new folder key (new_honest honest) ∙ now) others
    changed key (Some bytes) lt honest now others = held_replaced (found_in old folder) (found_in new folder) (2 ^ 16)
        key bytes lt (found_is new folder key (new_honest honest) ∙ now) others

    unchanged : (key : ℕ) → new.seen (key_path folder key) ≡ old.seen (key_path folder key) → Others key
        → contents_in new folder ≡ contents_in old folder
    unchanged key now others = held_kept (found_in old folder) (found_in new folder) (2 ^ 16) key
        (found_same key (λ _. now)) others

    -- a save or a remove of the file of a key
    module _ (key : ℕ) (wanted : Content) (lt : key < 2 ^ 16) where
      abbrev SavesAt : Result (Unit {0}) StoreFault → Type 0
      SavesAt answer = IsTrue old.is_honest
          → SavesFile old (key_path folder key) (draft_of (key_path folder key)) wanted answer new

      pub saves_keep : (answer : Result (Unit {0}) StoreFault) → SavesAt answer
          → IsTrue old.is_honest → (other : ℕ) → other < 2 ^ 16 → other ≢ key →
          KeepsFile old (key_path folder other) new
      saves_keep answer saves honest other other_lt apart = (saves honest).puts.others (key_path folder other)
          (names_apart folder key other lt other_lt apart) (draft_apart folder key other)

      others_of : (answer : Result (Unit {0}) StoreFault) → SavesAt answer → Others key
      others_of answer saves = λ k k_lt apart. found_same k (λ honest.
          (saves_keep answer saves honest k k_lt apart).seen)

      pub set_saves : (answer : Result (Unit {0}) StoreFault) → (IsErrOf answer faults.Memory → KeepsAll old new)
          → SavesAt answer
          → SavesIn (set_in old folder) (with_at (contents_in old folder) key wanted) (outcome_of answer)
          (set_in new folder)
      set_saves (Ok done) refused saves = record {
        same_honesty = honesty;
        same_memory = refl;
        same_load_plan = refl;
        follows = refl;
        done = λ _ honest. changed key wanted lt honest ((saves honest).puts.done refl) (others_of _ saves);
        refused = λ is. cc;
        faulted = λ is. cc;
      }
      set_saves (Err faults.Device) refused saves = record {
        same_honesty = honesty;
        same_memory = refl;
        same_load_plan = refl;
        follows = refl;
        done = λ is. cc;
        refused = λ is. cc;
        faulted = λ _ honest. ⊎_elim (λ before. inl (unchanged key before (others_of _ saves)))
            (λ after. inr (changed key wanted lt honest after (others_of _ saves))) ((saves honest).puts.failed refl);
      }
      set_saves (Err faults.Memory) refused saves = record {
        same_honesty = honesty;
        same_memory = refl;
        same_load_plan = refl;
        follows = refl;
        done = λ is. cc;
        refused = λ _. set_kept (refused refl);
        faulted = λ is. cc;
      }

    -- a remove of what isn't there changes nothing
    kept_if_none : (key : ℕ) (lt : key < 2 ^ 16) (answer : Result (Unit {0}) StoreFault) → SavesAt key None lt answer
        → IsTrue old.is_honest → old.seen (key_path folder key) ≡ None
        → (k : ℕ) → k < 2 ^ 16 → new.seen (key_path folder k) ≡ old.seen (key_path folder k)
    kept_if_none key lt answer saves honest none k k_lt = ⊎_elim
        (λ (is : k ≡ key). rw is (⊎_elim (λ before. before) (λ after. after ∙ sym none)
        (by_end answer (saves honest).puts.done (saves honest).puts.failed)))
        (λ (apart : k ≢ key). (saves_keep key None lt answer saves honest k k_lt apart).seen)
        (cases_eq k key)

    pub set_removes : (key : ℕ) (lt : key < 2 ^ 16) (answer : Result (Unit {0}) StoreFault)
        → (IsErr answer → answer ≡ Err faults.Device) → SavesAt key None lt answer
        → RemovesKey (set_in old folder) key answer (set_in new folder)
    set_removes key lt answer device saves = record {
      there = λ _. set_saves key None lt answer
          (λ is. absurd (let other = device (ap is_err is) in let no : ⊥ = cc in no)) saves;
      absent = λ none. let before = sym (held_at (found_in old folder) (2 ^ 16) key lt) ∙ none in
          alike (held_same (found_in old folder) (found_in new folder) (2 ^ 16) (λ k k_lt. found_same k (λ honest.
          kept_if_none key lt answer saves honest (sym (found_is old folder key honest) ∙ before) k k_lt)));
      absent_done = λ _ err. (device err, refl);
      memory = λ _. refl;
    }
