-- What a call answers of what it found is what it may answer.
use Rattle.std.proofs.Common.{◌≡◌, ℕ, List, Result, Ok, Err, MatchResult, Vec, ℤ, subst, sym}
use Rattle.std.proofs.lemmas.Int.{to_z-of_z}
use mir.Val.{SFits, to_z, of_z}
use mir.Syntax.{w64}
use Rattle.relay_symbols.specs.Symbols.{AnswersCode, AnswersCode.found, AnswersCode.no_room, AnswersCode.refused}
use Rattle.relay_symbols.specs.declared.refusal.Refusal.{Refusal}

-- what was found may be found
may_find : {A : Type 0} (MayFind : Result (List ℕ) Refusal → Type 0) (what : Result (Vec ℕ A) Refusal)
    (it : Result (List ℕ) Refusal) → MatchResult what (λ v. MayFind (Ok v.items)) (λ refusal. MayFind (Err refusal))
    → MatchResult what (λ v. it ≡ Ok v.items) (λ refusal. it ≡ Err refusal) → MayFind it
may_find {A} MayFind (Ok v) it may is = subst MayFind (sym is) may
may_find {A} MayFind (Err refusal) it may is = subst MayFind (sym is) may

pub answered : {A : Type 0} (MayFind : Result (List ℕ) Refusal → Type 0) {old new : List ℕ} {answer : ℤ}
    (what : Result (Vec ℕ A) Refusal) → MatchResult what (λ v. MayFind (Ok v.items)) (λ refusal. MayFind (Err refusal))
    → AnswersCode (λ it. MatchResult what (λ v. it ≡ Ok v.items) (λ refusal. it ≡ Err refusal)) old new answer
    → SFits w64 answer → AnswersCode MayFind old new (to_z w64 (of_z w64 answer))
answered {A} MayFind {old} {new} {answer} what may (found bytes is room put a) fits =
    rw (to_z-of_z w64 answer fits) (found bytes (may_find MayFind what (Ok bytes) may is) room put a)
answered {A} MayFind {old} {new} {answer} what may (no_room bytes is room put a) fits =
    rw (to_z-of_z w64 answer fits) (no_room bytes (may_find MayFind what (Ok bytes) may is) room put a)
answered {A} MayFind {old} {new} {answer} what may (refused refusal is put a) fits =
    rw (to_z-of_z w64 answer fits) (refused refusal (may_find MayFind what (Err refusal) may is) put a)
