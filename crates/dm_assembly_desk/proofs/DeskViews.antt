-- A desk as contracts see it, by its parts.
use Rattle.std.proofs.Common.{ℕ, Bool}
use Rattle.dm_store.specs.Saved.{SavedSet}
use Rattle.dm_assembly_desk.specs.Documents.{Documents, DeskView}

abbrev pub desk_of : SavedSet → Documents → ℕ → Bool → DeskView
desk_of saved held capacity is_failed =
    record { saved = saved; held = held; capacity = capacity; is_failed = is_failed }
