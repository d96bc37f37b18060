-- With which status a line ends that gives no command.
use Rattle.std.proofs.Common.{◌≡◌, ◌≢◌, ◌==◌, ◌||◌, ℕ, Bool, List, [], ◌∷◌, Option, Some, None, map, true, false, refl, sym, ap, subst, inl, inr, eq-eqb, codes, option_map, is_some, if◌then◌else◌}
use Rattle.std.proofs.lemmas.Bool.{false_from_ne_true}
use Rattle.std.proofs.lemmas.Slice.Eq.{bytes_eq-Decides}
use Rattle.std.specs.Borrow.{Bor}
use Rattle.std.specs.List.{list_any}
use Rattle.std.specs.Option.{option_map_or}
use Rattle.std.specs.Str.{bytes_eq}
use Rattle.clap.specs.Kinds.{HasKind, IsAmong}
use Rattle.clap.specs.Words.{Row, first_of, kind_of}
use Rattle.clap.specs.declared.error.Error.{Error}
use Rattle.clap.specs.declared.error.kind.ErrorKind.{ErrorKind}
use Rattle.clap.specs.declared.error.kind.ErrorKind.TheVariants as kind
use Rattle.relay_line.specs.Line.{EndsAmong}
use Rattle.relay_line.specs.Rules.{endings_at, endings_by, endings_kept, has, keeps_rules, kind_status}
use Rattle.relay_line.specs.declared.fault.LineFault.{LineFault}
use Rattle.relay_line.specs.declared.fault.LineFault.TheVariants.{Line, Memory}
use borrow.Author.Tests.{eqb-true}

first_or_later : (first later : Bool) → later ≡ true → (first || later) ≡ true
first_or_later true later e = refl
first_or_later false later e = e

or_false : (b : Bool) → (b || false) ≡ true → b ≡ true
or_false true is = refl
or_false false is = is

-- a fault that ends with a status is among those that end with one of several, if it is one of these
ends_within : (fault : LineFault) (status : ℕ) (statuses : List ℕ) → EndsAmong (status ∷ []) fault
    → list_any (λ s. s == status) statuses ≡ true → EndsAmong statuses fault
ends_within (Line text given) status statuses ends among =
    subst (λ s. list_any (λ each. each == s) statuses ≡ true) (eqb-true status given (or_false (status == given) ends)) among
ends_within Memory status statuses ends among = tt

among : (k : ErrorKind) (kinds : List ErrorKind) → IsAmong k kinds
    → list_any (λ status. status == kind_status k) (map kind_status kinds) ≡ true
among k [] found = absurd found
among k (x ∷ kinds) (inl same) = rw (eq-eqb (kind_status x) (kind_status k) (ap kind_status (sym same))) refl
among k (x ∷ kinds) (inr later) = first_or_later (kind_status x == kind_status k) _ (among k kinds later)

-- what the parser refuses ends with the status of its kind
pub ends_by_kind : (e : Error) (fault : LineFault) (kinds : List ErrorKind) (own : List ℕ) → HasKind kinds e
    → EndsAmong (kind_status (kind_of e) ∷ []) fault → (kind_of e ≡ kind.OutOfMemory → fault ≡ Memory)
    → EndsAmong (endings_by kinds own) fault
ends_by_kind e fault kinds own (inl full) ends memory = subst (EndsAmong (endings_by kinds own)) (sym (memory full)) tt
ends_by_kind e fault [] own (inr found) ends memory = absurd found
ends_by_kind e fault (k ∷ kinds) own (inr found) ends memory =
    ends_within fault (kind_status (kind_of e)) (map kind_status (k ∷ kinds)) ends (among (kind_of e) (k ∷ kinds) found)

module _ (name : List ℕ) (found : List Row) (fault : LineFault) where
  pub version_ends : name ≡ codes "version" → EndsAmong (0 ∷ []) fault → EndsAmong (endings_at name found) fault
  unfolding endings_at
  version_ends is ends = subst (λ n. EndsAmong (endings_at n found) fault) (sym is) ends

  one_of_two : (known : Bool) → list_any (λ s. s == (if known then 0 else 2)) (0 ∷ 2 ∷ []) ≡ true
  one_of_two true = refl
  one_of_two false = refl

  explained_ends : (given : Option (Bor (List ℕ))) (known : Bor (List ℕ) → Bool) → option_map (λ t. t.now) given ≡ first_of (codes "name") found
      → EndsAmong (option_map_or (λ n. if known n then 0 else 2) given 0 ∷ []) fault
      → EndsAmong (if has found (codes "name") then 0 ∷ 2 ∷ [] else 0 ∷ []) fault
  explained_ends None known is ends = subst (λ o. EndsAmong (if is_some o then 0 ∷ 2 ∷ [] else 0 ∷ []) fault) is ends
  explained_ends (Some n) known is ends = subst (λ o. EndsAmong (if is_some o then 0 ∷ 2 ∷ [] else 0 ∷ []) fault) is
      (ends_within fault (if known n then 0 else 2) (0 ∷ 2 ∷ []) ends (one_of_two (known n)))

  pub explain_ends : (given : Option (Bor (List ℕ))) (known : Bor (List ℕ) → Bool) → name ≡ codes "explain"
      → option_map (λ t. t.now) given ≡ first_of (codes "name") found
      → EndsAmong (option_map_or (λ n. if known n then 0 else 2) given 0 ∷ []) fault → EndsAmong (endings_at name found) fault
  unfolding endings_at
  explain_ends given known named is ends =
      subst (λ n. EndsAmong (endings_at n found) fault) (sym named) (explained_ends given known is ends)

pub other_endings : (name : List ℕ) (found : List Row) → name ≢ codes "version" → name ≢ codes "explain"
    → endings_at name found ≡ endings_kept (keeps_rules name found)
unfolding endings_at
other_endings name found no_version no_explain = rw (differs_from (codes "version") no_version, differs_from (codes "explain") no_explain) refl
  where
    differs_from : (other : List ℕ) → name ≢ other → bytes_eq name other ≡ false
    differs_from other differ = false_from_ne_true _ (λ same. differ ((bytes_eq-Decides _ _).0 same))
