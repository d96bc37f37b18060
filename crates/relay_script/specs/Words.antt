-- The words of a script, which is this project's own: what each kind of word stands for.
use Rattle.std.specs.Prelude.{◌≡◌, ◌⊎◌, ◌<◌, ◌≤◌, ◌==◌, ℕ, List, [], ◌++◌, length, codes, Option, Result, Ok, Err, MatchOption, map}
use Rattle.std.specs.{Borrow.Bor, List.slice_split, List.before_first, List.after_first, List.AllZip}
use Rattle.std.specs.Str.Parse.{IsNumeral, digits_value}
use Rattle.hex.specs.Hex.{decode_of, decode_sized}
use Rattle.dm_size.specs.{declared.size.Size.Size, Sizes.side}
use Rattle.dm_store.specs.declared.fuse.Kept.TheVariants.{Old, New}
use Rattle.dm_append_label.specs.Labels.{id_words}
use Rattle.dm_event_history.specs.declared.stop.Stop.{Stop}
use Rattle.dm_event_history.specs.declared.stop.Stop.TheVariants.{None, BeforeSave, InSave, SaveFault, AfterLabels}
use Rattle.relay_script.specs.declared.words.ScriptFault.{ScriptFault, TheVariants.Script, TheVariants.Memory}

abbrev pub script_fault_name : ScriptFault → List ℕ
script_fault_name Script = codes "Script"
script_fault_name Memory = codes "Memory"

-- nothing fits
abbrev pub Nothing : {A : Type 0} → (A → Type 0) → Type 0
Nothing Fits = (x : _) → ¬ Fits x

-- what was found fits; if nothing was found, nothing fits
abbrev pub FitsWhereFound : {A : Type 0} → Option A → (A → Type 0) → Type 0
FitsWhereFound found Fits = MatchOption found (Nothing Fits) Fits

-- What was read fits, by what it shows. If the script is to blame, nothing fits; if memory was refused, something does.
abbrev pub IsReadBy : {A B : Type 0} → (A → B) → Result A ScriptFault → (B → Type 0) → Type 0
IsReadBy shows (Ok x) Fits = Fits (shows x)
IsReadBy shows (Err Script) Fits = Nothing Fits
IsReadBy shows (Err Memory) Fits = (x : _) × Fits x

-- the same, for what shows itself
abbrev pub IsRead : {A : Type 0} → Result A ScriptFault → (A → Type 0) → Type 0
IsRead result Fits = IsReadBy (λ x. x) result Fits

-- the texts behind these references
abbrev pub texts : List (Bor (List ℕ)) → List (List ℕ)
texts words = map (λ word. word.now) words

-- the parts of a text that is cut at each of these bytes
abbrev pub cut_at : ℕ → List ℕ → List (List ℕ)
cut_at byte text = slice_split (λ b. b == byte) text

-- one to five decimal digits, at most 65,535
abbrev pub IsScriptNumber : List ℕ → Type 0
IsScriptNumber word = IsNumeral 10 word × (length word ≤ 5) × (digits_value 10 word < 65536)

-- the number that the word spells
abbrev pub IsNumberOf : List ℕ → ℕ → Type 0
IsNumberOf word n = IsScriptNumber word × (n ≡ digits_value 10 word)

-- the number of modules along a side of a symbol
unfoldable pub IsSideOf : List ℕ → Size → Type 0
IsSideOf word size = IsNumberOf word (side size)

-- the two codewords of one of the 64,516 IDs, 1 to 254 each, in hexadecimal
unfoldable pub IsIdOf : List ℕ → ℕ → Type 0
IsIdOf word id = (id < 64516) × (decode_sized word 2 ≡ Ok (id_words id))

-- bytes in hexadecimal, or `-` for none
unfoldable pub AreBytesOf : List ℕ → List ℕ → Type 0
AreBytesOf word bytes = ((word ≡ codes "-") × (bytes ≡ [])) ⊎ ((0 < length word) × (decode_of word ≡ Ok bytes))

-- where a call is stopped
unfoldable pub IsStopOf : List ℕ → Stop → Type 0
IsStopOf word None = word ≡ codes "-"
IsStopOf word BeforeSave = word ≡ codes "before"
IsStopOf word (InSave Old) = word ≡ codes "in-old"
IsStopOf word (InSave New) = word ≡ codes "in-new"
IsStopOf word (SaveFault Old) = word ≡ codes "fault-old"
IsStopOf word (SaveFault New) = word ≡ codes "fault-new"
IsStopOf word (AfterLabels most) = (digits : List ℕ) × (word ≡ codes "after:" ++ digits) × IsNumberOf digits most
    × (most ≤ 255)

-- a row, a comma and a column: without a comma nothing is left for the column, and nothing is no number
abbrev pub IsFlipOf : List ℕ → ℕ × ℕ → Type 0
IsFlipOf word flip = IsNumberOf (before_first (λ b. b == 44) word) flip.0
    × IsNumberOf (after_first (λ b. b == 44) word) flip.1

-- flips separated by semicolons, or `-` for none
unfoldable pub AreFlipsOf : List ℕ → List (ℕ × ℕ) → Type 0
AreFlipsOf word flips = ((word ≡ codes "-") × (flips ≡ [])) ⊎ AllZip IsFlipOf (cut_at 59 word) flips
