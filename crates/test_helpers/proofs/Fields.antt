-- A `&` to the allocator is a `&` to each of its fields. Assumes `Logic`.
--     slot             the parameter `&self` of its two methods
--     within, count    where the fields lie: the allocator within, and the cell with the count
--     fields           from the `&` to the whole, the two to the fields
use Rattle.test_helpers.proofs.Steps.{ℕ, ◌+◌, [], ◌∷◌, ‵, id⊢, ent, sep, Logic, sem, hidden_shr, RattleType, param, u64, Slot, RefOf, plain, size, align, up, Al, α, seen, ◌$◌, ◌∵◌, !, qed, move, keep, fsplit, unhide, use1, done}
use seplogic.Ra.Ura.{Ura}
use base.Fml.{Lft}
use Rattle.std.specs.contracts.cell.Cell as cell
use Rattle.std.specs.contracts.option.Option as option
use Rattle.test_helpers.specs.contracts.refusing.Refusing as refusing

abbrev pub Count : RattleType
Count = cell.the_row (option.the_row u64)

module _ (Z : Al) where
  abbrev pub Whole : RattleType
  Whole = refusing.the_row (param 0 Z.row)

  abbrev pub slot : Slot 2
  slot = RefOf (0 ∷ []) tt (plain (λ _. Whole)) (λ _. tt)

  abbrev pub within : ℕ × ℕ → ℕ × ℕ
  within p = (p.0, p.1 + up (align (α Z)) 0)

  abbrev pub count : ℕ × ℕ → ℕ × ℕ
  count p = (p.0, p.1 + up 8 (up (align (α Z)) 0 + size (α Z)))

  pub fields : {M : Type 1} {𝓤 : Ura M} (𝓛 : Logic 𝓤) (κ : Lft) (x : (Whole).Denot) (p : ℕ × ℕ)
      → ent 𝓤 (sem 𝓛 (hidden_shr Whole κ x p.0 p.1))
      (sep 𝓤 (sem 𝓛 (seen Z κ (within p) x.inner)) (sem 𝓛 (hidden_shr Count κ x.passes (count p).0 (count p).1)))
  fields {𝓤 = 𝓤} 𝓛 κ x p = qed 𝓛 (‵ (hidden_shr Whole κ x p.0 p.1) ∷ []) ∵ unhide ! $ fsplit ! $ fsplit ! $ use1 𝓛
      (‵ (seen Z κ (within p) x.inner)) (id⊢ 𝓤 _) $ move ! (1 ∷ []) $ fsplit ! $ keep ! (2 ∷ 0 ∷ []) $ done !
