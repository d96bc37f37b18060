-- The names of the faults, as a refusal prints them: each is the name of its variant.
use Rattle.std.specs.Prelude.{ℕ, List, codes}
use Rattle.dm_encodation.specs.declared.fault.{EncodeFault.EncodeFault, DecodeFault.DecodeFault}
use Rattle.dm_encodation.specs.declared.fault.EncodeFault.TheVariants as encode_faults
use Rattle.dm_encodation.specs.declared.fault.DecodeFault.TheVariants as decode_faults

abbrev pub encode_fault_name : EncodeFault → List ℕ
encode_fault_name encode_faults.TooLong = codes "TooLong"
encode_fault_name encode_faults.Memory = codes "Memory"

abbrev pub decode_fault_name : DecodeFault → List ℕ
decode_fault_name (decode_faults.Unsupported at word) = codes "Unsupported"
decode_fault_name (decode_faults.Reserved at word) = codes "Reserved"
decode_fault_name (decode_faults.Cut at) = codes "Cut"
decode_fault_name decode_faults.Memory = codes "Memory"
