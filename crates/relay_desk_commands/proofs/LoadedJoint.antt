-- What was read of the file of an older version is so of the whole file, of which the first bytes were loaded.
use Rattle.std.proofs.Common.{◌≡◌, ◌+◌, ℕ, List, take, Option, Some, None, Err, refl}
use Rattle.std.specs.{Prelude.IsTrue, Prelude.option_map, FinMap.empty, FinMap.get, FinMap.get-empty, Ordering.nat_cmp}
use Rattle.dm_store.specs.Saved.{Saved}
use Rattle.dm_assembly_desk.specs.{Documents.Documents, Desk.HasJointFileFault, Desk.HoldsJointFile}
use Rattle.dm_assembly_desk.specs.declared.fault.MoveFault.{MoveFault, TheVariants.Device, TheVariants.Memory}
use Rattle.relay_desk_commands.specs.Desks.{SeesJoint}

-- there is no file
pub none_there : (content : Option (List ℕ)) → None ≡ option_map (take (42636295 + 1)) content →
    HoldsJointFile content empty
none_there None is = refl
none_there (Some bytes) is = absurd cc

-- no document is held where there is none
pub none_held : (id : ℕ) → let none : Documents = empty in get none id ≡ None
none_held id = get-empty nat_cmp id

-- the file of which these bytes were loaded
pub whole_of : {bytes : List ℕ} (content : Option (List ℕ)) → Some bytes ≡ option_map (take (42636295 + 1)) content →
    (whole : List ℕ) × (content ≡ Some whole) × (bytes ≡ take (42636295 + 1) whole)
whole_of None is = absurd cc
whole_of (Some whole) is = (whole, refl, cc)

pub unsound_there : {bytes : List ℕ} (fault : MoveFault) → HasJointFileFault bytes fault →
    ((whole : List ℕ) → bytes ≡ take (42636295 + 1) whole → HasJointFileFault whole fault) → (saved : Saved) →
    (IsTrue saved.is_honest → Some bytes ≡ option_map (take (42636295 + 1)) saved.content) →
    SeesJoint saved (Err fault)
unsound_there Device itself of saved loads = absurd itself
unsound_there Memory itself of saved loads = absurd itself
unsound_there fault itself of saved loads = λ honest.
    let there = whole_of saved.content (loads honest) in rw there.1 (of there.0 there.2)
