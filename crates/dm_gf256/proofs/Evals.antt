-- One step of `Gf::eval`.
use Rattle.std.proofs.Common.{◌≡◌, ℕ, ◌+◌, ◌<◌, sym, ap, ◌∙◌, List, length, take, get_or}
use Rattle.std.proofs.lemmas.List.{map_more}
use Rattle.std.specs.Int.Bits.{bit_xor}
use Rattle.dm_gf256.specs.{declared.element.Gf.Gf, Field.numbers, Field.product, Field.value}
use Rattle.dm_gf256.proofs.LoopSteps.{value-push}

-- one step of `eval`: the value of one coefficient more
pub value_more : (gs : List Gf) (d : Gf) (i x s : ℕ) → i < length gs → (get_or gs i d).0 < 256 →
    s ≡ value (numbers (take i gs)) x → bit_xor (product s x) (get_or gs i d).0 ≡ value (numbers (take (i + 1) gs)) x
value_more gs d i x s l b h =
    ap (λ t. bit_xor (product t x) (get_or gs i d).0) h
    ∙ sym (value-push (numbers (take i gs)) (get_or gs i d).0 x b)
    ∙ ap (λ t. value t x) (sym (map_more (λ g. g.0) gs i d l))
