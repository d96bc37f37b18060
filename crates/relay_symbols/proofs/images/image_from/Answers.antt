use Rattle.std.proofs.Common.{rules, inl, refl, arith, ◌≡◌, ◌++◌, ℕ, List, Some, ◌∙◌, sym}
use Rattle.dm_pbm_io.specs.{Image.Refuses, Laws.IsNotRefused, Laws.IsOfBytes, declared.fault.PbmFault.PbmFault}
use Rattle.relay_symbols.specs.Symbols.{ShowsNone}
use Rattle.relay_symbols.proofs.images.image_from.Goals as goal

-- what is refused shows no grid
none_of_refused : IsNotRefused → (bytes : List ℕ) (fault : PbmFault) (taken rest : List ℕ) → bytes ≡ taken ++ rest
    → IsOfBytes fault → Refuses fault taken (Some rest) → ShowsNone bytes
none_of_refused law bytes fault taken rest e of_bytes refused grid s =
    law fault taken rest s.picture.taken s.picture.rest s.shown of_bytes refused s.picture.spelled (sym e ∙ s.picture.begins)

pub returns-in-Err : goal.returns-in-Err
returns-in-Err g c =
    let why = c.in-Err.ensures.image in
    let of_bytes : IsOfBytes c.in-Err.field-0 =
    (λ e. grind (arith, c.in-Err.ensures.never_failed), λ e. search rules) in
    inl (refl, none_of_refused c.not_refused.ensures _ _ why.0 why.1 why.2 of_bytes why.3)
