-- The keys whose files a reader finds in a folder of a disk in memory: each is below one more than the greatest that a
-- call names.
use Rattle.std.proofs.Common.{◌≡◌, ◌≢◌, ◌<◌, ◌≤◌, ◌+◌, ◌-◌, ◌^◌, ℕ, suc, Bool, true, false, List, [], ◌∷◌, ◌++◌, None, drop, take, ◌∙◌, ⊎_elim, length, get_or, refl, sym, ap, arith, add-one, length-append}
use Rattle.std.specs.Prelude.{codes, if◌then◌else◌}
use Rattle.std.specs.Str.{bytes_eq}
use Rattle.std.proofs.lemmas.{List.drop_at, List.take_all, Slice.Eq.bytes_eq-Decides, Bool.cases_lt}
use Rattle.dm_disk.specs.Disk.{Content, held_below, key_name, key_path, with_found}
use Rattle.dm_store.specs.{Saved.Contents}
use Rattle.dm_disk.proofs.Held.{held_above, held_at, known}

four : (key : ℕ) → length (key_name key) ≡ 4
unfolding key_name
four key = refl

-- the last four bytes of the path of a key's file
pub last_four : (folder : List ℕ) (key : ℕ) → let name = key_path folder key in
    take (length name - (length name - 4)) (drop (length name - 4) name) ≡ key_name key
last_four folder key =
    let start = folder ++ codes "/" in
    let here : length (start ++ key_name key) - 4 ≡ length start =
    omega (arith, four key, length-append start (key_name key)) in
    let rest : length (start ++ key_name key) - length start ≡ 4 =
    omega (arith, four key, length-append start (key_name key)) in
    rw (here, rest, drop_at start (key_name key) (length start) refl)
    (take_all 4 (key_name key) (omega (arith, four key)))

-- a name that is another is not found, where the rest is not
pub none_at : (made name : List ℕ) (found rest : Content) → made ≢ name → rest ≡ None
    → (if bytes_eq made name then found else rest) ≡ None
none_at made name found rest apart none =
    elim (bytes_eq made name) as (λ b. bytes_eq made name ≡ b → (if b then found else rest) ≡ None) [
      | true ↦ λ is. absurd (apart ((bytes_eq-Decides made name).0 is))
      | false ↦ λ is. none
    ] refl

pub none_from : (b : Bool) (rest : Content) → rest ≡ None → (if b then None else rest) ≡ None
none_from true rest none = refl
none_from false rest none = none

-- a list is its first and its rest
pub first_and_rest : {X : Type 0} (list : List X) (first : X) → 1 ≤ length list → first ≡ get_or list 0 first
    → list ≡ first ∷ take (length list - 1) (drop 1 list)
first_and_rest [] first some is = absurd (let none : ⊥ = omega (arith, some) in none)
first_and_rest {X} (one ∷ rest) first some is =
    let count : suc (length rest) - 1 ≡ length rest = omega arith in
    rw (is, count) (ap (λ (xs : List X). one ∷ xs) (sym (take_all (length rest) rest (omega arith))))

-- what is found at one more key
pub one_more : (found : ℕ → Content) (n : ℕ) (held next : Contents) → held ≡ held_below found n
    → next ≡ with_found held n (found n) → next ≡ held_below found (n + 1)
unfolding held_below
one_more found n held next is more = rw add-one (rw is at more)

-- what is found at the keys below n is all that is found, if nothing is found at those from n on
pub all_found : (found : ℕ → Content) (n : ℕ) → n ≤ 2 ^ 16
    → ((key : ℕ) → key < 2 ^ 16 → n ≤ key → found key ≡ None) → held_below found (2 ^ 16) ≡ held_below found n
all_found found n le none = known found found (2 ^ 16) (held_below found n)
    (λ q lt. ⊎_elim (λ (below : q < n). held_at found n q below)
    (λ (above : n ≤ q). held_above found n q above ∙ sym (none q lt above)) (cases_lt q n))
    (λ q above. held_above found n q (omega (arith, le, above)))
