-- Tests of numbers, and what follows from the answers of tests.
use Rattle.std.proofs.Common.{◌≡◌, ◌≢◌, ◌==◌, ◌||◌, ℕ, Bool, true, false, if◌then◌else◌, arith, ◌⊎◌}
use Rattle.std.proofs.lemmas.Bool.Decides.{nat_tests}

pub if_not : {X : Type 0} (b : Bool) (x y : X) → ¬ (b ≡ true) → (if b then x else y) ≡ y
if_not b x y never = grind arith

pub if_so : {X : Type 0} (b : Bool) (x y : X) → b ≡ true → (if b then x else y) ≡ x
if_so b x y is = grind arith

-- two numbers are one, or not
pub same_or_other : (m n : ℕ) → (m ≡ n) ⊎ (m ≢ n)
same_or_other m n = grind arith

pub or_left : (b c : Bool) → b ≡ true → (b || c) ≡ true
or_left b c x = grind arith

pub or_right : (b c : Bool) → c ≡ true → (b || c) ≡ true
or_right b c x = grind arith

pub true_false : (b : Bool) → b ≡ true → b ≡ false → ⊥
true_false b x y = grind arith

pub never : {X : Type 0} (b : Bool) → b ≡ false → b ≡ true → X
never b unset set = grind arith

pub decided : (b : Bool) → (b ≡ true) ⊎ (b ≡ false)
decided b = grind arith

pub same_number : (m n : ℕ) → (m == n) ≡ true → m ≡ n
same_number m n e = grind (arith, nat_tests, e)

pub other_number : (m n : ℕ) → m ≢ n → (m == n) ≡ false
other_number m n other = grind arith
