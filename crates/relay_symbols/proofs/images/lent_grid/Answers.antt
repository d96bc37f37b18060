use Rattle.std.proofs.Common.{◌∙◌, sym, subst, refl, ℕ, List}
use Rattle.dm_pbm_io.specs.{Image.HasShape, Image.Picture, Laws.HasOneImage}
use Rattle.relay_symbols.specs.Symbols.{BeginsWithPicture, ShowsNone}
use Rattle.relay_symbols.proofs.images.lent_grid.Goals as goal

-- bytes that begin with a picture of another shape show no grid
none_of_shape : HasOneImage → (bytes : List ℕ) (p : Picture) → BeginsWithPicture bytes p → (HasShape p → ⊥) → ShowsNone bytes
none_of_shape law bytes p b none grid s = none (subst HasShape (law s.picture.taken b.taken s.picture.rest b.rest s.shown p
    s.picture.spelled b.spelled (sym s.picture.begins ∙ b.begins)).1 s.shape)

pub returns-in-None : goal.returns-in-None
returns-in-None g c = λ bytes begins. (refl, none_of_shape c.one_image.ensures bytes _ begins c.in-None.ensures)
