use Rattle.std.proofs.Common.{◌≡◌, ◌∷◌, ◌++◌, ◌-◌, ◌<◌, ℕ, length, rules, arith, length-append, zero, suc, List, [], take, refl, sym, ap, ◌∙◌, append_assoc}
use Rattle.std.specs.Prelude.{[]}
use Rattle.std.specs.Map.{keys_of}
use Rattle.dm_store.proofs.key_map.KeyMap.first_keys.Goals as goal
use Rattle.std.proofs.lemmas.List.{append-nil}

-- The first keys of a map, one after the other: `front` is what was taken, and `ks` what is left.
-- to take one more key leaves the whole as it was
one_more : (front total ks : List ℕ) (count k : ℕ) → length front < count →
    front ++ take (count - length front) (k ∷ ks) ≡ total
    → (front ++ k ∷ []) ++ take (count - length (front ++ k ∷ [])) ks ≡ total
one_more front total ks count k lt h =
    let n : count - length front ≡ suc (count - length (front ++ k ∷ [])) =
    omega (arith, length-append front (k ∷ [])) in
    let split : take (count - length front) (k ∷ ks) ≡ k ∷ take (count - length (front ++ k ∷ [])) ks =
    ap (λ (i : ℕ). take i (k ∷ ks)) n in
    append_assoc front (k ∷ []) (take (count - length (front ++ k ∷ [])) ks) ∙
    ap (λ (xs : List ℕ). front ++ xs) (sym split) ∙ h

-- where as many as were asked for are taken, they are the whole
all_taken : (front total ks : List ℕ) (count : ℕ) → length front ≡ count
    → front ++ take (count - length front) ks ≡ total → front ≡ total
all_taken front total ks count e h =
    let z : count - length front ≡ 0 = omega arith in
    sym (append-nil front) ∙ ap (λ (xs : List ℕ). front ++ xs) (ap (λ (i : ℕ). take i ks) (sym z)) ∙ h

-- where no key is left, those that were taken are the whole
none_left : (front total : List ℕ) (n : ℕ) → front ++ take n [] ≡ total → front ≡ total
none_left front total n h = sym (append-nil front) ∙ ap (λ (xs : List ℕ). front ++ xs) (sym (none_of n)) ∙ h
  where
    none_of : (n : ℕ) → take {A = ℕ} n [] ≡ []
    none_of zero = refl
    none_of (suc n) = refl

pub returns-then-len-count : goal.returns-then-len-count
returns-then-len-count g c =
    let is : length c.loop-key.keys.items ≡ c.args.count = search rules in
    all_taken c.loop-key.keys.items _ (keys_of c.loop-key.key-iterator) c.args.count is c.loop-key.invariant.0

pub returns : goal.returns
returns g c =
    let done : keys_of c.loop-key.key-iterator ≡ [] = search rules in
    none_left c.loop-key.keys.items _ (c.args.count - length c.loop-key.keys.items) (rw done at c.loop-key.invariant.0)

pub loop-key-preserved : goal.loop-key-preserved
loop-key-preserved g c =
    let e : ℕ = c.in-Some.key.now in
    let is : keys_of c.loop-key.key-iterator ≡ e ∷ keys_of c.next.new.self = search rules in
    let pushed : c.push.new.self.items ≡ c.loop-key.keys.items ++ e ∷ [] = search rules in
    let lt : length c.loop-key.keys.items < c.args.count = omega (arith, c.loop-key.invariant.1) in (
      rw pushed (one_more c.loop-key.keys.items _ (keys_of c.next.new.self) c.args.count e lt
          (rw is at c.loop-key.invariant.0)),
      rw pushed (omega (arith, lt, length-append c.loop-key.keys.items (e ∷ []))),
    )
