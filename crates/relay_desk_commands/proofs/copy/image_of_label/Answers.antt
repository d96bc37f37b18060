use Rattle.std.proofs.Common.{ap, refl, sym}
use Rattle.dm_pbm_io.specs.Image.{written}
use Rattle.relay_desk_commands.proofs.copy.image_of_label.Goals as goal

pub returns-clause-label : goal.returns-clause-label
returns-clause-label g c = λ held there count fits.
    let bytes = c.in_ok-to_vec.ensures.items_if_clones_equal (λ x y e. e) in (
      c.in_ok-grid.grid,
      record {
        page = c.in-Some.page;
        is_held = rw (c.in-Some.ensures.page, bytes)
            record { id_is = refl; m_is = refl; n_is = sym count; bytes_are = there };
        fits = rw (c.in-Some.ensures.page, bytes) fits;
        sealed = c.in_ok-grid.ensures.sealed;
        carries = c.in_ok-grid.ensures.carries;
      },
      ap written c.in_ok-image_of.ensures.image,
    )
