-- All sizes in a list, by rising side.
use Rattle.std.proofs.Common.{◌≡◌, ◌<◌, ℕ, ◌==◌, List, [], ◌∷◌, get_or, map, nat_cmp, refl, ap, sym, ◌∙◌, arith, rules}
use Rattle.std.specs.List.{position_or_len, Sorted.IsStrictlySortedBy}
use Rattle.std.proofs.lemmas.List.{get_or_default}
use Rattle.dm_size.specs.{declared.size.Size.Size, Sizes.row, Sizes.side}
use Rattle.dm_size.specs.declared.size.Size.TheVariants.{Side10, Side12, Side14, Side16, Side18, Side20, Side22, Side24, Side26, Side32, Side36, Side40, Side44, Side48, Side52, Side64, Side72, Side80, Side88, Side96, Side104, Side120, Side132}

unfoldable pub sizes : List Size
sizes = Side10 ∷ Side12 ∷ Side14 ∷ Side16 ∷ Side18 ∷ Side20 ∷ Side22 ∷ Side24 ∷ Side26 ∷ Side32 ∷ Side36 ∷ Side40 ∷
    Side44 ∷ Side48 ∷ Side52 ∷ Side64 ∷ Side72 ∷ Side80 ∷ Side88 ∷ Side96 ∷ Side104 ∷ Side120 ∷ Side132 ∷ []

-- where the size of a side stands
abbrev pub place : ℕ → ℕ
place n = position_or_len (λ size. side size == n) sizes

-- what holds of every size, by computing at each
pub is_there : (size : Size) → (place (side size) < 23) × (get_or sizes (place (side size)) size ≡ size)
unfolding row sizes
is_there Side10 = (grind arith, refl)
is_there _ = (grind arith, refl)

pub sorted : IsStrictlySortedBy nat_cmp (map side sizes)
unfolding row sizes IsStrictlySortedBy
sorted = search rules

pub same_size : (a b : Size) → side a ≡ side b → a ≡ b
unfolding sizes
same_size a b is = sym (is_there a).1 ∙ get_or_default sizes (place (side a)) a b (is_there a).0
    ∙ ap (λ n. get_or sizes (place n) b) is ∙ (is_there b).1
