-- What is held where pages of a document are put, and what taking them back leaves.
use Rattle.std.proofs.Common.{arith, ◌≡◌, ℕ, Bool, true, cond, Some, None, ap, ◌∙◌}
use Rattle.std.specs.Cmp.{nat_cmp_total}
use Rattle.std.specs.FinMap.{get, insert, remove, get-insert, get-remove, same_map, nat_cmp-IsAntisymmetric}
use Rattle.dm_assembly_desk.specs.Documents.{Pages, Documents}
use Rattle.dm_assembly_desk.proofs.Loading.{itself, same_key}

same : (m n : Documents) → ((q : ℕ) → get m q ≡ get n q) → m ≡ n
same m n h = same_map nat_cmp_total nat_cmp-IsAntisymmetric m n h

cond_same : {A : Type 0} (b : Bool) (x y : A) → (b ≡ true → y ≡ x) → cond b x y ≡ y
cond_same b x y h = grind arith

twice : {A : Type 0} (b : Bool) (x y z : A) → cond b x (cond b y z) ≡ cond b x z
twice b x y z = grind arith

pub undo_first : (held : Documents) (id : ℕ) (w : Pages) → get held id ≡ None → remove (insert held id w) id ≡ held
undo_first held id w none = grind (arith, same, get-remove, nat_cmp_total, get-insert, twice, cond_same, same_key)

pub undo_insert : (held : Documents) (id : ℕ) (w v : Pages) → get held id ≡ Some v → insert (insert held id w) id v ≡ held
undo_insert held id w v is = grind (arith, same, get-insert, nat_cmp_total, twice, cond_same, same_key)

pub get_here : (held : Documents) (id : ℕ) (w : Pages) → get (insert held id w) id ≡ Some w
get_here held id w = get-insert nat_cmp_total held id w id ∙ ap (λ b. cond b (Some w) (get held id)) (itself id)
