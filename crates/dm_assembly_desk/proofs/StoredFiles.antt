-- A set that holds the files of documents, for which there is room, gives no desk only for lack of memory.
use Rattle.std.proofs.Common.{◌≡◌, ℕ, suc, ◌≤◌, List, [], ◌∷◌, length, Option, Some, refl, sym, ap, subst, ◌∙◌, arith}
use Rattle.std.specs.{Prelude.IsTrue, Prelude.option_map, Ordering.nat_cmp, Cmp.nat_cmp_total, Map.keys_of}
use Rattle.std.specs.List.Sorted.{IsStrictlySortedBy}
use Rattle.std.specs.FinMap.{entries, len, find, get-entries, get-from_entries, len-entries, same_map, nat_cmp-IsAntisymmetric}
use Rattle.dm_store.specs.Saved.{LoadsFine, LoadsOpen, SavedSet, Contents}
use Rattle.dm_store.proofs.SortedMaps.{as_map, len_is}
use Rattle.dm_assembly_desk.specs.Documents.{Pages, IsEntry, file, HasFileFault, Documents, HoldsFiles, IsCapacity}
use Rattle.dm_assembly_desk.specs.{Desk.FirstFault, Desk.HasDeskFault, declared.file.FileFault.FileFault}
use Rattle.dm_assembly_desk.specs.declared.file.FileFault.TheVariants.{NotPages, Version, Damaged}
use Rattle.dm_assembly_desk.specs.declared.fault.DeskFault.{DeskFault}
use Rattle.dm_assembly_desk.specs.declared.fault.DeskFault.TheVariants as opens
use Rattle.dm_assembly_desk.proofs.{FileLaws.file_marked, FileLaws.file_not_other, Loading.same_key, Loading.keys_rise}

-- ---- as many keys as documents

files_of : List (ℕ × Pages) → List (ℕ × List ℕ)
files_of [] = []
files_of (e ∷ es) = (e.0, file e.0 e.1) ∷ files_of es

found_file : (es : List (ℕ × Pages)) (id : ℕ) →
    find nat_cmp id (files_of es) ≡ option_map (file id) (find nat_cmp id es)
unfolding files_of
found_file [] id = refl
found_file (e ∷ es) id = grind (arith, files_of, same_key, found_file es id)

keys_of_files : (es : List (ℕ × Pages)) → keys_of (files_of es) ≡ keys_of es
unfolding files_of
keys_of_files [] = refl
keys_of_files (e ∷ es) = ap (λ (ks : List ℕ). e.0 ∷ ks) (keys_of_files es)

length_of_files : (es : List (ℕ × Pages)) → length (files_of es) ≡ length es
unfolding files_of
length_of_files [] = refl
length_of_files (e ∷ es) = ap suc (length_of_files es)

pub as_many : (content : Contents) (held : Documents) → HoldsFiles content held → len content ≡ len held
as_many content held h =
    let fs : List (ℕ × List ℕ) = files_of (entries held) in
    let is : content ≡ as_map fs = same_map nat_cmp_total nat_cmp-IsAntisymmetric content (as_map fs) (λ id.
    h.files id ∙ ap (option_map (file id)) (get-entries held id) ∙ sym (found_file (entries held) id) ∙
    sym (get-from_entries nat_cmp_total fs id)) in
    let rising : IsStrictlySortedBy nat_cmp (keys_of fs) = subst (IsStrictlySortedBy nat_cmp)
    (sym (keys_of_files (entries held))) (keys_rise held) in
    ap (λ (m : Contents). len m) is ∙ len_is fs rising ∙ length_of_files (entries held) ∙ sym (len-entries held)

-- ---- why such a set gives no desk

there_is : (id : ℕ) (o : Option Pages) (bytes : List ℕ) → option_map (file id) o ≡ Some bytes →
    (pages : Pages) × (o ≡ Some pages) × (bytes ≡ file id pages)
there_is id o bytes e = grind arith

pub no_fault : (id : ℕ) (pages : Pages) (fault : FileFault) → IsEntry id pages → ¬ HasFileFault id (file id pages) fault
no_fault id pages fault sound h = grind (arith, file_marked, file_not_other)

pub no_first_fault : (content : Contents) (held : Documents) (fault : FileFault) → HoldsFiles content held →
    ¬ FirstFault content fault
no_first_fault content held fault h first = grind (arith, there_is, no_fault)

not_open : LoadsFine ≡ LoadsOpen → ⊥
not_open e = cc (e)

module _ (saved : SavedSet) (capacity : ℕ) (held : Documents) (honest : IsTrue saved.is_honest)
    (h : HoldsFiles saved.content held) (is_capacity : IsCapacity capacity) (few : len held ≤ capacity)
    (fine : saved.load_plan ≡ LoadsFine) where
  pub only_memory : (fault : DeskFault) → HasDeskFault saved capacity fault → fault ≡ opens.Memory
  only_memory opens.Memory f = refl
  only_memory opens.Device f = absurd (not_open (sym fine ∙ f.1))
  only_memory opens.Capacity f = absurd (f is_capacity)
  only_memory opens.TooMany f = absurd (omega (arith, f.1 honest, as_many saved.content held h, few))
  only_memory opens.NotPages f = absurd (no_first_fault saved.content held NotPages h (f.1 honest).1)
  only_memory opens.Version f = absurd (no_first_fault saved.content held Version h (f.1 honest).1)
  only_memory opens.Damaged f = absurd (no_first_fault saved.content held Damaged h (f.1 honest).1)
