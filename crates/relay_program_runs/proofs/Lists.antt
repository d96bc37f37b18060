-- Lists of commands, and what is so of some of them.
use Rattle.std.proofs.Common.{◌≡◌, ◌⊎◌, ◌++◌, inl, inr, ℕ, zero, suc, List, [], ◌∷◌, Some, slice_get, refl, sym, ap, subst, ◌∙◌, length, append-nil, append_assoc}
use Rattle.std.specs.List.{AllByRecursion}
use Rattle.dm_event_history.proofs.Gotten.{get_more, in_either}
use Rattle.relay_program_runs.specs.{Law.Each, Law.Ran, Law.SomeRan, Law.all_made, Passed.Made, Passed.made_by}

pub all_so : {X : Type 0} (P Q : X → Type 0) (xs : List X) → ((x : X) → P x → Q x) → AllByRecursion P xs → AllByRecursion Q xs
all_so P Q [] each all = tt
all_so P Q (x ∷ xs) each all = (each x all.0, all_so P Q xs each all.1)

-- what stands right after a list
pub at_length : {X : Type 0} (xs : List X) (x : X) → slice_get (xs ++ x ∷ []) (length xs) ≡ Some x
at_length [] x = refl
at_length (y ∷ ys) x = at_length ys x

pub only_one : {X : Type 0} (x y : X) (j : ℕ) → slice_get (x ∷ []) j ≡ Some y → x ≡ y
only_one x y zero is = cc (is)
only_one x y (suc j) is = cc (is)

module _ {A : Type 0} (P : Ran A → Type 0) (earlier : List (Ran A)) (ran : Ran A) where
  pub one_before : SomeRan P earlier → SomeRan P (earlier ++ ran ∷ [])
  one_before s = (s.0, s.1, get_more earlier (ran ∷ []) s.0 s.1 s.2, s.3)

  pub one_now : P ran → SomeRan P (earlier ++ ran ∷ [])
  one_now so = (length earlier, ran, at_length earlier ran, so)

  pub before_or_now : SomeRan P (earlier ++ ran ∷ []) → SomeRan P earlier ⊎ P ran
  before_or_now s = elim (in_either earlier (ran ∷ []) s.0 s.1 s.2) [
    | inl old ↦ inl (s.0, s.1, old, s.3)
    | inr new ↦ inr (subst P (sym (only_one ran s.1 new.0 new.2)) s.3)
  ]

-- one more of which it holds
pub each_more : {A : Type 0} (P : List (Ran A) → Ran A → Type 0) (earlier later : List (Ran A)) (ran : Ran A) →
    Each P earlier later → P (earlier ++ later) ran → Each P earlier (later ++ ran ∷ [])
each_more P earlier [] ran each so = (subst (λ (rans : List (Ran _)). P rans ran) (append-nil earlier) so, tt)
each_more P earlier (one ∷ later) ran each so = (
  each.0,
  each_more P (earlier ++ one ∷ []) later ran each.1
      (subst (λ (rans : List (Ran _)). P rans ran) (sym (append_assoc earlier (one ∷ []) later)) so),
)

pub made_all : {A : Type 0} (earlier later : List (Ran A)) →
    all_made (earlier ++ later) ≡ all_made earlier ++ all_made later
made_all [] later = refl
made_all (one ∷ earlier) later =
    ap (λ (ms : List Made). made_by one.command one.before one.after ++ ms) (made_all earlier later)
    ∙ sym (append_assoc (made_by one.command one.before one.after) (all_made earlier) (all_made later))

pub made_more : {A : Type 0} (earlier : List (Ran A)) (ran : Ran A) →
    all_made (earlier ++ ran ∷ []) ≡ all_made earlier ++ made_by ran.command ran.before ran.after
made_more earlier ran = made_all earlier (ran ∷ [])
    ∙ ap (λ (ms : List Made). all_made earlier ++ ms) (append-nil (made_by ran.command ran.before ran.after))
