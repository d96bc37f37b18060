use Rattle.std.proofs.Common.{◌≡◌, ◌*◌, ◌∙◌, ap, sym, arith, false, get_or, map}
use Rattle.std.specs.{List.range_with_len, Bool.xor, Option.unwrap_or}
use Rattle.std.proofs.lemmas.List.FromFn.{length-map-range_with_len}
use Rattle.dm_pbm_io.specs.Image.{picture}
use Rattle.relay_shared.specs.Command.{module_after}
use Rattle.relay_shared.proofs.ChangedImages.{cured, module_more}
use Rattle.relay_shared.proofs.cure.symbol_after.Goals as goal

pub loop-i-preserved : goal.loop-i-preserved
loop-i-preserved g c =
    let image = c.args.image.now in
    let place = c.place_of-place.result in
    let inverted = c.args.cure.inverted in
    let lookup = c.get.ensures.lookup.4 (omega arith) false in
    let pixel : c.unwrap_or-pixel.result ≡ get_or image.pixels.items place false =
    c.unwrap_or-pixel.ensures ∙ ap (λ found. unwrap_or found false) c.copied.ensures ∙ lookup
    ∙ ap (λ pixels. get_or pixels place false) c.deref.ensures.value in
    module_more (module_after c.args.cure (picture image) c.side-side.result) c.loop-i.i c.loop-i.modules.items
    c.push.new.self.items c.unwrap_or-pixel.result inverted c.push.result c.in_ok-ok.field-0 c.loop-i.invariant
    (ap (λ dark. xor dark inverted) (pixel ∙ ap (λ k. get_or image.pixels.items k false) c.place_of-place.ensures))
    (sym c.ok.ensures.value ∙ c.in_ok-ok.was) c.push.ensures.items

pub from_modules-requires : goal.from_modules-requires
from_modules-requires g c =
    grind (arith, length-map-range_with_len)

pub returns : goal.returns
returns g c =
    let p = picture c.args.image.now in
    let cure = c.args.cure in
    let n = c.side-side.result in
    let end : c.loop-i.i ≡ n * n = omega arith in
    let all : c.loop-i.modules.items ≡ map (module_after cure p n) (range_with_len 0 (n * n)) = rw (← end) c.loop-i.invariant in
    let is = rw (c.lend-2.ensures, c.from_modules.ensures) at c.correct_grid.ensures.corrects in
    rw c.ok-2.ensures.value (cured p cure _ n c.correct_grid.result c.side-side.ensures.value c.if-image.false
    c.if-side-cure.false all is)
