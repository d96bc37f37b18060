-- The files of a desk.
use Rattle.dm_store.specs.Saved.{Saved, SavedSet}

-- the store of the joint file, in which version 1 kept all documents, and the set with a file for each document
pub record DeskFiles : Type 0 where
  pub joint : Saved
  pub set : SavedSet
