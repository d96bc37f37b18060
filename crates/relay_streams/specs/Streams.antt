-- What contracts see of a reader and of a writer: the bytes, if known, and whether it failed; and a refusal's line.
use Rattle.std.specs.Prelude.{◌≡◌, ◌<◌, ◌≤◌, ℕ, Bool, true, List, [], ◌∷◌, ◌++◌, length, take, Option, IfSome, MatchOption, Result, Err, codes}
use Rattle.std.specs.Io.KnownBytes.{Keeps, Consumes, Appends, IsAtEnd}
use Rattle.relay_streams.specs.declared.fault.{WriteFault.WriteFault, ReadFault.ReadFault, InputFault.InputFault}
use Rattle.relay_streams.specs.declared.fault.WriteFault.TheVariants as write_faults
use Rattle.relay_streams.specs.declared.fault.ReadFault.TheVariants as read_faults
use Rattle.relay_streams.specs.declared.fault.InputFault.TheVariants as input_faults

-- the bytes that are left to read, and whether a read has failed
pub record InputView : Type 0 where
  pub remaining : Option (List ℕ)
  pub has_failed : Bool

-- the bytes that were written, and whether a write has failed
pub record OutputView : Type 0 where
  pub contents : Option (List ℕ)
  pub has_failed : Bool

-- what a read of one byte found: the first byte of those that were left, which is taken, or their end
abbrev pub GivesNext : Option (List ℕ) → Option (List ℕ) → Option ℕ → Type 0
GivesNext old new found = MatchOption found (Keeps old new × IsAtEnd new) (λ byte. Consumes old new (byte ∷ []))

-- the first `limit` of the bytes that were left, or all if they are fewer, are taken, and no others
pub record TakesFirst (old new : Option (List ℕ)) (limit : ℕ) (bytes : List ℕ) : Type 0 where
  pub first : IfSome old (λ left. bytes ≡ take limit left)
  pub consumed : Consumes old new bytes
  pub bound : length bytes ≤ limit

-- no read failed, and just these bytes were read: the first `limit` of those that were left, or all if they are fewer
pub record ReadsFirst (old new : InputView) (limit : ℕ) (bytes : List ℕ) : Type 0 where
  pub taken : TakesFirst old.remaining new.remaining limit bytes
  pub whole : new.has_failed ≡ old.has_failed

-- some of the bytes that were left, at most `limit`, are taken
abbrev pub TakesPart : Option (List ℕ) → Option (List ℕ) → ℕ → Type 0
TakesPart old new limit = (part : List ℕ) × Consumes old new part × (length part ≤ limit)

-- the first `count` bytes of the buffer were taken, and no others: as many as it has room for, or all that were left
pub record Fills (old new : Option (List ℕ)) (buffer : List ℕ) (count : ℕ) : Type 0 where
  pub bound : count ≤ length buffer
  pub consumed : Consumes old new (take count buffer)
  pub ended : count < length buffer → IsAtEnd new

-- a first part of the bytes that were left was taken, perhaps none, and fewer than there was room for
abbrev pub TakesFewer : Option (List ℕ) → Option (List ℕ) → ℕ → Type 0
TakesFewer old new room = (part : List ℕ) × Consumes old new part × (length part < room)

-- the text begins with this part, which may be empty or the whole
abbrev pub IsFirstPart : List ℕ → List ℕ → Type 0
IsFirstPart part text = (rest : List ℕ) × (text ≡ part ++ rest)

-- a first part of the text was appended, and nothing else
abbrev pub AppendsPart : Option (List ℕ) → Option (List ℕ) → List ℕ → Type 0
AppendsPart old new text = (part : List ℕ) × IsFirstPart part text × Appends old new part

-- once a write has failed, each later one is refused, and nothing goes out
abbrev pub StaysFailed : OutputView → Result (Unit {0}) WriteFault → OutputView → Type 0
StaysFailed old result new = old.has_failed ≡ true → (result ≡ Err write_faults.Write) × (new ≡ old)

-- the names of the faults of readers and writers, as they are printed
abbrev pub read_fault_name : ReadFault → List ℕ
read_fault_name read_faults.Read = codes "Read"

abbrev pub input_fault_name : InputFault → List ℕ
input_fault_name input_faults.Read = codes "Read"
input_fault_name input_faults.Memory = codes "Memory"

abbrev pub write_fault_name : WriteFault → List ℕ
write_fault_name write_faults.Write = codes "Write"

-- `refused`, a space, the name of what is refused, and a line end
abbrev pub refused_line : List ℕ → List ℕ
refused_line name = (codes "refused " ++ name) ++ 10 ∷ []
