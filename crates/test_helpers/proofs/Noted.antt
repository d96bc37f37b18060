-- A sync of an entry, or of those of a folder, that is noted meets the contract of a disk.
use Rattle.std.proofs.Common.{◌≡◌, ℕ, List, ◌∷◌, ◌++◌, Some, None, Result, Ok, Bool, true, false, refl, sym, ap, subst, String, Err}
use Rattle.std.proofs.lemmas.{Slice.Eq.bytes_eq-Decides, Slice.Eq.starts_is, Bool.Decides.Decides-eqb}
use Rattle.std.specs.{List.starts_with, Str.bytes_eq, String.string_bytes, Option.option_eq}
use Rattle.std.specs.Prelude.{IsOk, IsTrue, OnOk, OnErr, codes, if◌then◌else◌, nat_eq, ◌&&◌}
use Rattle.dm_store.specs.declared.store.StoreFault.{StoreFault}
use Rattle.test_helpers.specs.declared.mem_disk.DiskCall.{DiskCall, TheVariants.SyncedEntry, TheVariants.SyncedFolder}
use Rattle.dm_disk.specs.Disk.{Content, IsSettled, KeepsFile, SettlesFolder, SyncsEntry, key_name}
use Rattle.test_helpers.specs.DiskCalls.{seen_after, synced_after, leaves_after, disk_after}
use Rattle.dm_disk.proofs.Saving.{keeps_same}
use Rattle.test_helpers.proofs.SeenIsLeft.{leaves_seen}

same_content : (a b : Content) → option_eq bytes_eq a b ≡ true → a ≡ b
same_content None None is = refl
same_content None (Some bytes) is = cc
same_content (Some bytes) None is = cc
same_content (Some a) (Some b) is = ap (λ (bytes : List ℕ). Some bytes) ((bytes_eq-Decides a b).0 is)

-- the sync of an entry, or of several, takes nothing in
pub left_before : {A : Type 0} (settles : Bool) (calls : List (DiskCall A)) (name : List ℕ) (content : Content)
    → (if settles then option_eq bytes_eq content (seen_after calls name) else leaves_after calls name content) ≡ true
    → leaves_after calls name content ≡ true
left_before {A} true calls name content is =
    subst (λ (c : Content). leaves_after calls name c ≡ true) (sym (same_content content (seen_after calls name) is))
    (leaves_seen calls name)
left_before false calls name content is = is

left_after : {A : Type 0} (it on : Bool) (calls : List (DiskCall A)) (name : List ℕ) (content : Content)
    → it ≡ true → on ≡ true
    → (if it && on then option_eq bytes_eq content (seen_after calls name) else leaves_after calls name content) ≡ true
    → content ≡ seen_after calls name
left_after true true calls name content is_it is_on is = same_content content (seen_after calls name) is
left_after true false calls name content is_it is_on is = cc
left_after false on calls name content is_it is_on is = cc

pub noted_kept : {A : Type 0} (calls later : List (DiskCall A)) (call : DiskCall A) (each : List ℕ)
    (answer : Result (Unit {0}) StoreFault) → KeepsFile (disk_after calls) each (disk_after (call ∷ calls))
    → OnOk answer (later ≡ call ∷ calls) → OnErr answer (later ≡ calls) →
    KeepsFile (disk_after calls) each (disk_after later)
noted_kept {A} calls later call each (Ok done) kept ok err =
    subst (λ (es : List (DiskCall A)). KeepsFile (disk_after calls) each (disk_after es)) (sym ok) kept
noted_kept {A} calls later call each (Err fault) kept ok err =
    subst (λ (es : List (DiskCall A)). KeepsFile (disk_after calls) each (disk_after es)) (sym err) keeps_same

not_ok : (fault : StoreFault) → IsOk {T = Unit {0}} {E = StoreFault} (Err fault) → ⊥
not_ok fault ok = cc

pub noted_entry : {A : Type 0} (calls later : List (DiskCall A)) (n : String A) (name : List ℕ)
    (answer : Result (Unit {0}) StoreFault) → string_bytes n ≡ name
    → OnOk answer (later ≡ SyncedEntry n ∷ calls) → SyncsEntry name answer (disk_after later)
noted_entry {A} calls later n name (Ok done) is ok = λ _.
    subst (λ (es : List (DiskCall A)). IsTrue (synced_after es name) → IsSettled (disk_after es) name) (sym ok)
    (λ on content leaves. left_after (bytes_eq (string_bytes n) name) (synced_after calls name) calls name content
    ((bytes_eq-Decides (string_bytes n) name).1 is) on leaves)
noted_entry {A} calls later n name (Err fault) is ok = λ done. absurd (not_ok fault done)

in_folder : (start rest : List ℕ) → starts_with nat_eq (start ++ rest) start ≡ true
in_folder start rest = (starts_is Decides-eqb (start ++ rest) start _ refl).1 rest refl

pub noted_folder : {A : Type 0} (calls later : List (DiskCall A)) (start : String A) (folder : List ℕ)
    (answer : Result (Unit {0}) StoreFault) → string_bytes start ≡ folder ++ codes "/"
    → OnOk answer (later ≡ SyncedFolder start ∷ calls)
    → SettlesFolder folder answer (disk_after later)
noted_folder {A} calls later start folder (Ok done) is ok = λ key lt _.
    let name = (folder ++ codes "/") ++ key_name key in
    subst (λ (es : List (DiskCall A)). IsTrue (synced_after es name) → IsSettled (disk_after es) name) (sym ok)
    (λ on content leaves. left_after (starts_with nat_eq name (string_bytes start)) (synced_after calls name) calls name content
    (rw is (in_folder (folder ++ codes "/") (key_name key))) on leaves)
noted_folder {A} calls later start folder (Err fault) is ok = λ key lt done. absurd (not_ok fault done)
