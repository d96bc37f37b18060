-- On a disk in memory a stop may leave what a reader finds.
use Rattle.std.specs.Prelude.{◌≡◌, refl, ℕ, Bool, true, false, ◌||◌, ◌&&◌, nat_eq, List, [], ◌∷◌, Some, None, is_none, if◌then◌else◌}
use Rattle.std.specs.{List.starts_with, Str.bytes_eq, String.string_bytes, Option.option_eq}
use Rattle.std.proofs.lemmas.Slice.Eq.{bytes_eq-Decides}
use Rattle.test_helpers.specs.declared.mem_disk.DiskCall.{DiskCall}
use Rattle.test_helpers.specs.declared.mem_disk.DiskCall.TheVariants.{Wrote, Synced, Renamed, Removed, SyncedEntry, SyncedFolder}
use Rattle.dm_disk.specs.Disk.{Content}
use Rattle.test_helpers.specs.DiskCalls.{seen_after, synced_after, leaves_after}

content_eq-same : (content : Content) → option_eq bytes_eq content content ≡ true
content_eq-same None = refl
content_eq-same (Some bytes) = (bytes_eq-Decides bytes bytes).1 refl

true_or : (a b : Bool) → b ≡ true → (a || b) ≡ true
true_or true b is = refl
true_or false b is = is

or_true : (a b : Bool) → a ≡ true → (a || b) ≡ true
or_true true b is = refl
or_true false b is = cc

either : (b p q : Bool) → p ≡ true → q ≡ true → (if b then p else q) ≡ true
either true p q is_p is_q = is_p
either false p q is_p is_q = is_q

-- a stop may leave what a reader finds
pub leaves_seen : {A : Type 0} (calls : List (DiskCall A)) (name : List ℕ) →
    leaves_after calls name (seen_after calls name) ≡ true
leaves_seen [] name = refl
leaves_seen {A} (Wrote written bytes ∷ before) name =
    elim (bytes_eq (string_bytes written) name) as (λ b. (if b then true else leaves_after before name
    (if b then Some bytes.items else seen_after before name)) ≡ true) [
      | true ↦ refl
      | false ↦ leaves_seen before name
    ]
leaves_seen {A} (Synced synced ∷ before) name = leaves_seen before name
leaves_seen {A} (Renamed from to ∷ before) name =
    let seen = seen_after before (string_bytes from) in
    elim (bytes_eq (string_bytes to) name) as (λ b. (
    if b then (if synced_after before (string_bytes from)
    then (leaves_after before name
    (if b then seen else (if bytes_eq (string_bytes from) name then None else seen_after before name))
    || option_eq bytes_eq (if b then seen else (if bytes_eq
    (string_bytes from) name then None else seen_after before name)) seen)
    else true)
    else (if bytes_eq (string_bytes from) name then true else leaves_after before name
    (if b then seen else (if bytes_eq (string_bytes from) name then None else seen_after before name)))
    ) ≡ true) [
      | true ↦ either (synced_after before (string_bytes from)) _ true
          (true_or (leaves_after before name seen) _ (content_eq-same seen)) refl
      | false ↦ elim (bytes_eq (string_bytes from) name) as (λ b. (if b then true else leaves_after before name
          (if b then None else seen_after before name)) ≡ true) [
            | true ↦ refl
            | false ↦ leaves_seen before name
          ]
    ]
leaves_seen {A} (Removed removed ∷ before) name =
    elim (bytes_eq (string_bytes removed) name) as (λ b. (leaves_after before name
    (if b then None else seen_after before name)
    || (if b then is_none (if b then None else seen_after before name) else false)) ≡ true) [
      | true ↦ true_or (leaves_after before name None) true refl
      | false ↦ or_true (leaves_after before name (seen_after before name)) false (leaves_seen before name)
    ]
leaves_seen {A} (SyncedEntry synced ∷ before) name =
    either (bytes_eq (string_bytes synced) name && synced_after before name) _ _
    (content_eq-same (seen_after before name)) (leaves_seen before name)
leaves_seen {A} (SyncedFolder start ∷ before) name =
    either (starts_with nat_eq name (string_bytes start) && synced_after before name) _ _
    (content_eq-same (seen_after before name)) (leaves_seen before name)
