-- The names of the faults, as they are printed.
use Rattle.std.specs.Prelude.{ℕ, List, codes}
use Rattle.dm_pbm_io.specs.declared.fault.{PbmFault.PbmFault, ShapeFault.ShapeFault}
use Rattle.dm_pbm_io.specs.declared.fault.PbmFault.TheVariants as pbm_faults
use Rattle.dm_pbm_io.specs.declared.fault.ShapeFault.TheVariants as shape_faults

abbrev pub pbm_fault_name : PbmFault → List ℕ
pbm_fault_name pbm_faults.Magic = codes "Magic"
pbm_fault_name pbm_faults.Header = codes "Header"
pbm_fault_name pbm_faults.TooLarge = codes "TooLarge"
pbm_fault_name pbm_faults.Cut = codes "Cut"
pbm_fault_name pbm_faults.Pixel = codes "Pixel"
pbm_fault_name pbm_faults.Read = codes "Read"
pbm_fault_name pbm_faults.Memory = codes "Memory"

abbrev pub shape_fault_name : ShapeFault → List ℕ
shape_fault_name shape_faults.Shape = codes "Shape"
shape_fault_name shape_faults.Memory = codes "Memory"
