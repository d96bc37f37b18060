-- What a store holds of documents: one list of them has one joint file; what was loaded of it; and that of none.
use Rattle.std.proofs.Common.{◌≡◌, ℕ, zero, suc, ◌+◌, ◌<◌, ◌≤◌, List, [], ◌∷◌, length, take, Option, Some, Result, Ok, get_or, refl, sym, ap, subst, ◌∙◌, arith}
use Rattle.std.specs.Prelude.{◌≢◌, IsSomeAnd, option_map, slice_get}
use Rattle.std.specs.{List.AllByRecursion, List.Sorted.IsStrictlySortedBy, Ordering.nat_cmp}
use Rattle.std.specs.declared.cmp.Ordering.TheVariants.{Less}
use Rattle.std.specs.FinMap.{entries, keys, empty, len, len-entries, len-empty, same_entries_map}
use Rattle.std.proofs.lemmas.List.{take_all, length-take}
use Rattle.dm_store.specs.Saved.{Contents}
use Rattle.dm_assembly_desk.specs.{Documents.Pages, Documents.Documents, inner.Reading.entries_at}
use Rattle.dm_assembly_desk.specs.Desk.{entries_of, joint_file, SpellsAll, HoldsJointFile, IsOfOtherJointVersion, HasJointFileFault}
use Rattle.dm_assembly_desk.specs.declared.fault.MoveFault.{MoveFault}
use Rattle.dm_assembly_desk.specs.declared.fault.MoveFault.TheVariants.{NotPages, Version, Damaged, Device, Memory}
use Rattle.dm_assembly_desk.proofs.{FileLaws.all_taken, FileLaws.four_of, FileLaws.fifth_of, Found.all_found}
use Rattle.dm_assembly_desk.proofs.Loading.{above, keys_rise, entries_empty, some_saved}
use Rattle.dm_assembly_desk.proofs.JointEntries.{entries_again}
use Rattle.dm_assembly_desk.proofs.JointFileLaws.{old_again, each_entry, held_rising, from_zero}

-- ---- a file that is loaded up to its greatest length

module _ (bytes loaded : List ℕ) (is : loaded ≡ take (42636295 + 1) bytes) where
  pub whole_old : (held : Documents) → SpellsAll loaded held → SpellsAll bytes held
  whole_old held s =
      let short : length (take (suc 42636295) bytes) ≤ 42636295 =
      omega (arith, ap (λ (bs : List ℕ). length bs) is, s.short) in
      let all : bytes ≡ loaded = sym (all_taken 42636295 bytes short) ∙ sym is in grind arith

  loaded_old : (held : Documents) → SpellsAll bytes held → SpellsAll loaded held
  loaded_old held s = subst (λ (bs : List ℕ). SpellsAll bs held)
      (sym (is ∙ take_all (42636295 + 1) bytes (omega (arith, s.short)))) s

  same_front : take 4 loaded ≡ take 4 bytes
  same_front = ap (take 4) is ∙ four_of 42636291 bytes

  same_fifth : slice_get loaded 4 ≡ slice_get bytes 4
  same_fifth = ap (λ (bs : List ℕ). slice_get bs 4) is ∙ fifth_of 42636291 bytes

  to_whole : IsOfOtherJointVersion loaded → IsOfOtherJointVersion bytes
  to_whole h = subst (λ (o : Option ℕ). IsSomeAnd o (λ version. version ≢ 1)) same_fifth h

  to_loaded : IsOfOtherJointVersion bytes → IsOfOtherJointVersion loaded
  to_loaded h = subst (λ (o : Option ℕ). IsSomeAnd o (λ version. version ≢ 1)) (sym same_fifth) h

  pub fault_of_whole : (fault : MoveFault) → HasJointFileFault loaded fault → HasJointFileFault bytes fault
  fault_of_whole NotPages h = λ m. h (same_front ∙ m)
  fault_of_whole Version h = (sym same_front ∙ h.0, to_whole h.1)
  fault_of_whole Damaged h = (sym same_front ∙ h.0, λ o. h.1 (to_loaded o), λ held s. h.2 held (loaded_old held s))
  fault_of_whole Device h = h
  fault_of_whole Memory h = h

pub faulty_content : (content : Option (List ℕ)) (loaded : List ℕ) (fault : MoveFault) →
    Some loaded ≡ option_map (take (42636295 + 1)) content → HasJointFileFault loaded fault →
    IsSomeAnd content (λ bytes. HasJointFileFault bytes fault)
faulty_content content loaded fault e h =
    let l = some_saved (42636295 + 1) content loaded e in
    subst (λ (o : Option (List ℕ)). IsSomeAnd o (λ bytes. HasJointFileFault bytes fault)) (sym l.1)
    (fault_of_whole l.0 loaded l.2 fault h)

pub old_content : (content : Option (List ℕ)) (loaded : List ℕ) (held : Documents) →
    Some loaded ≡ option_map (take (42636295 + 1)) content → SpellsAll loaded held → HoldsJointFile content held
old_content content loaded held e s =
    let l = some_saved (42636295 + 1) content loaded e in
    subst (λ (o : Option (List ℕ)). HoldsJointFile o held) (sym l.1) (whole_old l.0 loaded l.2 held s)

-- ---- one list of documents has one old file

abbrev read_as : ℕ × List ℕ → Result (ℕ × List ℕ) MoveFault
read_as x = Ok x

pair_is : (a b : ℕ × List ℕ) → read_as a ≡ read_as b → a ≡ b
pair_is a b e = cc

entries_is : (a b : List (ℕ × Pages)) → Some a ≡ Some b → a ≡ b
entries_is a b e = cc

reads_held : (held : Documents) (bytes : List ℕ) → SpellsAll bytes held →
    entries_at (len held) 0 (entries_of (entries held)) ≡ Some (entries held)
reads_held held bytes s = grind (arith, len-entries, entries_again, each_entry, all_found, keys_rise, held_rising)

pub one_old : (bytes : List ℕ) (a b : Documents) → SpellsAll bytes a → SpellsAll bytes b → a ≡ b
one_old bytes a b s t =
    let same : joint_file a ≡ joint_file b = sym s.spelled ∙ t.spelled in
    let la : length (joint_file a) ≤ 42636295 = omega (arith, s.short, ap (λ (bs : List ℕ). length bs) s.spelled) in
    let lb : length (joint_file b) ≤ 42636295 = omega (arith, t.short, ap (λ (bs : List ℕ). length bs) t.spelled) in
    let read : (len a, entries_of (entries a)) ≡ (len b, entries_of (entries b)) =
    pair_is _ _ (sym (old_again a s.entries la) ∙
    ap Rattle.dm_assembly_desk.specs.inner.Reading.joint_file_at same ∙ old_again b t.entries lb) in
    let all : Some (entries a) ≡ Some (entries b) = sym (reads_held a bytes s) ∙
    ap (λ (x : ℕ × List ℕ). entries_at x.0 0 x.1) read ∙ reads_held b bytes t in
    same_entries_map a b (entries_is (entries a) (entries b) all)

pub one_content : (content : Option (List ℕ)) (a b : Documents) → HoldsJointFile content a → HoldsJointFile content b →
    a ≡ b
one_content content a b h k = grind (arith, one_old)

-- ---- all keys of a set

rising_front : (n : ℕ) (ks : List ℕ) → IsStrictlySortedBy nat_cmp ks → IsStrictlySortedBy nat_cmp (take n ks)
unfolding IsStrictlySortedBy
rising_front zero [] h = tt
rising_front zero (k ∷ ks) h = tt
rising_front (suc n) [] h = tt
rising_front (suc n) (k ∷ ks) h = (front n ks h.0, rising_front n ks h.1)
  where
    front : (n : ℕ) (ks : List ℕ) → AllByRecursion (λ y. nat_cmp k y ≡ Less) ks →
        AllByRecursion (λ y. nat_cmp k y ≡ Less) (take n ks)
    front zero [] h = tt
    front zero (j ∷ js) h = tt
    front (suc n) [] h = tt
    front (suc n) (j ∷ js) h = (h.0, front n js h.1)

few_below : (next limit : ℕ) (ks : List ℕ) → AllByRecursion (λ k. next ≤ k) ks → IsStrictlySortedBy nat_cmp ks →
    ((i : ℕ) → get_or ks i 0 < limit) → next ≤ limit → length ks + next ≤ limit
unfolding IsStrictlySortedBy
few_below next limit [] from rising fits le = omega arith
few_below next limit (k ∷ ks) from rising fits le =
    let lt : k < limit = fits 0 in
    let later = few_below (k + 1) limit ks (after ks rising.0) rising.1 (λ i. fits (suc i)) (omega arith) in
    omega (arith, later, from.0)
  where
    after : (js : List ℕ) → AllByRecursion (λ y. nat_cmp k y ≡ Less) js → AllByRecursion (λ y. k + 1 ≤ y) js
    after [] h = tt
    after (j ∷ js) h = (omega (arith, above k j h.0), after js h.1)

pub all_of_them : (content : Contents) (ks : List ℕ) → ((i : ℕ) → get_or ks i 0 < 65536) →
    ks ≡ take (65536 + 1) (keys content) → ks ≡ keys content
all_of_them content ks fits is =
    grind (
      arith,
      rising_front (65536 + 1) (keys content) (keys_rise content),
      keys_rise content,
      few_below 0 65536 ks
          (from_zero ks),
      from_zero ks,
      length-take (65536 + 1) (keys content),
      take_all (65536 + 1) (keys content),
    )

-- ---- an emptied old file

no_entries : (es : List (ℕ × Pages)) → length es ≡ 0 → es ≡ []
no_entries [] e = refl
no_entries (x ∷ es) e = absurd (omega arith)

pub emptied : joint_file empty ≡ 68 ∷ 77 ∷ 80 ∷ 71 ∷ 1 ∷ 0 ∷ 0 ∷ []
unfolding joint_file
emptied = grind (arith, len-empty, no_entries, len-entries)

pub holds_none : SpellsAll (joint_file empty) empty
holds_none = record {
  entries = entries_empty;
  spelled = refl;
  short = omega (arith, ap (λ (bs : List ℕ). length bs) emptied);
}
