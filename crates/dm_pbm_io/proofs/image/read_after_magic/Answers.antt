use Rattle.std.proofs.Common.{◌++◌, length, drop, refl, arith}
use Rattle.std.proofs.lemmas.{List.take_at, Result.err_from_is_err_and}
use Rattle.dm_pbm_io.proofs.Streaming.{takes-trans, until-trans, until-now}
use Rattle.dm_pbm_io.specs.Image.RefusesAfterMagic.{in_header, too_large, no_memory, in_raster}
use Rattle.dm_pbm_io.proofs.Sizes.{small, above}
use Rattle.dm_pbm_io.proofs.image.read_after_magic.Goals as goal

pub returns-in_err-width : goal.returns-in_err-width
returns-in_err-width g c =
    let p = err_from_is_err_and c.from_residual.result c.from_residual.ensures.1 in
    let stops = c.in_err-width.ensures in
    rw (p.1, p.2) (stops.0, stops.1, in_header stops.2)

pub returns-then-width-gt-GREATEST_SIDE : goal.returns-then-width-gt-GREATEST_SIDE
returns-then-width-gt-GREATEST_SIDE g c =
    let size = c.in_ok-width.ensures in (
      size.0,
      until-now _ _ _ _ size.3 (λ e. cc),
      too_large size.1 size.2 size.4
          (above size.1 size.2 _ _ size.5 size.6 c.then-width-gt-GREATEST_SIDE.either),
    )

pub returns-in_default : goal.returns-in_default
returns-in_default g c =
    let size = c.in_ok-width.ensures in (
      size.0,
      until-now _ _ _ _ size.3 (λ e. cc),
      no_memory c.in_ok-width.width c.in_ok-width.height
          (small size.0 size.1 size.2 _ _ size.4 size.5 size.6 (omega arith) (omega arith)),
    )

pub returns-in_err-read_raster : goal.returns-in_err-read_raster
returns-in_err-read_raster g c =
    let size = c.in_ok-width.ensures in
    let p = err_from_is_err_and c.from_residual-in_err-read_raster.result
    c.from_residual-in_err-read_raster.ensures.1 in
    let stops = c.in_err-read_raster.ensures in
    rw (p.1, p.2) (
      size.0 ++ stops.0,
      until-trans _ _ _ _ _ _ size.3 stops.1,
      in_raster size.0 stops.0 c.in_ok-width.width c.in_ok-width.height refl
          (small size.0 size.1 size.2 _ _ size.4 size.5 size.6 (omega arith) (omega arith)) stops.2,
    )

pub returns : goal.returns
returns g c =
    let size = c.in_ok-width.ensures in
    let read = c.in_ok-read_raster.ensures in (
      size.0 ++ read.0,
      takes-trans _ _ _ _ _ size.3 read.1,
      record {
        body = size.0;
        raster = read.0;
        bytes_are = refl;
        header = small size.0 size.1 size.2 _ _ size.4 size.5 size.6 (omega arith) (omega arith);
        raster_is = rw (take_at c.read_raster.new.pixels
            (drop (length c.read_raster.new.pixels) c.in-Ok.pixels.items) c.in-Ok.pixels.len (omega (arith, c.read_raster.auto.pixels))) read.2;
      },
      refl,
    )
