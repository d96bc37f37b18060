-- Where a store gives nothing and a set lists no key, nothing is held.
use Rattle.std.proofs.Common.{◌≡◌, ◌==◌, ◌∙◌, ◌∷◌, ℕ, List, [], true, None, Option, length, ap, refl, sym, subst, arith}
use Rattle.std.specs.Prelude.{option_map, take}
use Rattle.std.specs.FinMap.{empty, empty_of_len, keys}
use Rattle.dm_store.specs.Saved.{Contents}
use Rattle.dm_assembly_desk.proofs.Loading.{length-keys}

pub nothing_found : {V : Type 0} (bytes : V → List ℕ) (found : Option V) (content : Option (List ℕ))
    → option_map bytes found ≡ content → found ≡ None → content ≡ None
nothing_found bytes found content is none = sym is ∙ ap (option_map bytes) none

none_taken : (xs : List ℕ) → length (take 1 xs) ≡ 0 → length xs ≡ 0
none_taken [] none = refl
none_taken (x ∷ xs) none = omega (arith, none)

pub no_keys : (listed : List ℕ) (content : Contents) → listed ≡ take 1 (keys content) → length listed ≡ 0
    → content ≡ empty
no_keys listed content is none = empty_of_len content
    (sym (length-keys content) ∙ none_taken (keys content) (subst (λ (xs : List ℕ). length xs ≡ 0) is none))

pub is_zero : (n : ℕ) → true ≡ (n == 0) → n ≡ 0
is_zero n is = grind arith
