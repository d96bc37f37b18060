-- What is held of a document once it, or another, is put among documents or taken away from them.
use Rattle.std.proofs.Common.{◌≡◌, ◌≢◌, ℕ, Bool, cond, Some, None, ap, ◌∙◌}
use Rattle.std.specs.FinMap as map
use Rattle.std.specs.{FinMap.get-insert, FinMap.get-remove, Cmp.nat_cmp_total}
use Rattle.dm_assembly_desk.specs.Documents.{Pages, Documents}
use Rattle.dm_assembly_desk.proofs.Loading.{apart, itself}

pub get_same : (held : Documents) (id : ℕ) (pages : Pages) → map.get (map.insert held id pages) id ≡ Some pages
get_same held id pages =
    get-insert nat_cmp_total held id pages id ∙ ap (λ (b : Bool). cond b (Some pages) (map.get held id)) (itself id)

pub get_other : (held : Documents) (id other : ℕ) (pages : Pages) → other ≢ id →
    map.get (map.insert held id pages) other ≡ map.get held other
get_other held id other pages away = get-insert nat_cmp_total held id pages other ∙
    ap (λ (b : Bool). cond b (Some pages) (map.get held other)) (apart other id away)

pub get_removed : (held : Documents) (id : ℕ) → map.get (map.remove held id) id ≡ None
get_removed held id =
    get-remove nat_cmp_total held id id ∙ ap (λ (b : Bool). cond b None (map.get held id)) (itself id)

pub get_left : (held : Documents) (id other : ℕ) → other ≢ id →
    map.get (map.remove held id) other ≡ map.get held other
get_left held id other away = get-remove nat_cmp_total held id other ∙
    ap (λ (b : Bool). cond b None (map.get held other)) (apart other id away)
