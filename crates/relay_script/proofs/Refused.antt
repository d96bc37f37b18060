-- What is refused: nothing fits it, or memory was refused for what does.
use Rattle.std.proofs.Common.{◌≢◌, ℕ, List, Result, Ok, Err, refl, codes, ◌≡◌}
use Rattle.std.specs.Prelude.{IsErrAnd}
use Rattle.dm_event_history.specs.declared.stop.Stop.{Stop}
use Rattle.dm_event_history.specs.declared.stop.Stop.TheVariants.{None as NoStop, BeforeSave, InSave, SaveFault, AfterLabels}
use Rattle.dm_store.specs.declared.fuse.Kept.TheVariants.{Old, New}
use Rattle.relay_script.specs.declared.words.ScriptFault.{ScriptFault, TheVariants.Script as Blamed, TheVariants.Memory}
use Rattle.relay_script.specs.Words.{IsRead, IsReadBy, IsStopOf, Nothing}

-- a word that is none of the six names and no number of labels names no stop
pub none_named : (word : List ℕ) → word ≢ codes "-" → word ≢ codes "before" → word ≢ codes "in-old"
    → word ≢ codes "in-new" → word ≢ codes "fault-old" → word ≢ codes "fault-new"
    → ((most : ℕ) → ¬ IsStopOf word (AfterLabels most)) → (stop : Stop) → ¬ IsStopOf word stop
unfolding IsStopOf
none_named word none before in_old in_new fault_old fault_new labels NoStop = none
none_named word none before in_old in_new fault_old fault_new labels BeforeSave = before
none_named word none before in_old in_new fault_old fault_new labels (InSave Old) = in_old
none_named word none before in_old in_new fault_old fault_new labels (InSave New) = in_new
none_named word none before in_old in_new fault_old fault_new labels (SaveFault Old) = fault_old
none_named word none before in_old in_new fault_old fault_new labels (SaveFault New) = fault_new
none_named word none before in_old in_new fault_old fault_new labels (AfterLabels most) = labels most

-- where a part was refused, and something fits the whole just where something fits the part, the whole is refused
pub refused_with : {X B C : Type 0} (shown : X → C) (result : Result X ScriptFault) (Whole : C → Type 0)
    (Part : B → Type 0) (fault : ScriptFault) → IsErrAnd result (λ e. e ≡ fault)
    → IsReadBy {A = B} (λ x. x) (Err fault) Part → (Nothing Part → Nothing Whole)
    → ((x : B) → Part x → (y : C) × Whole y) → IsReadBy shown result Whole
refused_with shown (Ok x) Whole Part fault is read none some = absurd is
refused_with shown (Err e) Whole Part Blamed is read none some = rw is (none read)
refused_with shown (Err e) Whole Part Memory is read none some = rw is (some read.0 read.1)

-- what fits one fits the other
pub read_so : {X : Type 0} (result : Result X ScriptFault) (F G : X → Type 0) → ((x : X) → F x → G x)
    → ((x : X) → G x → F x) → IsRead result F → IsRead result G
read_so (Ok x) F G to from read = to x read
read_so (Err Blamed) F G to from read = λ x fits. read x (from x fits)
read_so (Err Memory) F G to from read = (read.0, to read.0 read.1)

-- where one is not to blame, something fits it
pub something : {X B : Type 0} (shows : X → B) (result : Result X ScriptFault) (Fits : B → Type 0)
    → IsReadBy shows result Fits → result ≢ Err Blamed → (x : B) × Fits x
something shows (Ok x) Fits read is = (shows x, read)
something shows (Err Blamed) Fits read is = absurd (is refl)
something shows (Err Memory) Fits read is = read
