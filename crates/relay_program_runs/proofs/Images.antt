-- A scan of the images of labels takes in these labels alone. The labels are of side 12, as those of the worked list.
use Rattle.std.proofs.Common.{◌≡◌, ◌*◌, ◌/◌, ◌%◌, ◌++◌, ℕ, zero, suc, Bool, true, false, List, [], ◌∷◌, None, Option, Some, drop, length, take, refl, sym, ap, subst, ◌∙◌, append_assoc, append-nil, arith}
use Rattle.std.specs.{List.AllByRecursion, Io.KnownBytes.Consumes, Fmt.digits}
use Rattle.std.proofs.lemmas.List.{length-append, nil_from_length, FromFn.length-map-range_with_len}
use Rattle.dm_size.specs.{Sizes.row, declared.size.Size.TheVariants.Side12}
use Rattle.dm_size.proofs.Listed.{same_size}
use Rattle.dm_finder_frame.specs.Frame.{GridView, IsWholeGrid, square_of}
use Rattle.dm_pbm_io.specs.{Header.IsHeaderBody, Header.magic, Header.stride, Laws.IsReadable}
use Rattle.dm_pbm_io.specs.Image.{IsGridInside, Picture, Spells, image_with_quiet_zone, p4, packed, pixel_with_quiet_zone, rows_text, written}
use Rattle.dm_pbm_io.proofs.{OneImage.one_header, OneImage.one_image, OneImage.same_fronts, RoundTrip.written_readable}
use Rattle.dm_pbm_io.proofs.{Rows.length-packed, TakenBack.taken_back}
use Rattle.dm_assembly_desk.specs.declared.fault.ScanFault.{ScanFault}
use Rattle.dm_assembly_desk.specs.declared.fault.ScanFault.TheVariants as scan_fault
use Rattle.relay_streams.specs.Streams.{InputView}
use Rattle.relay_shared.specs.Command.{AnswersImages, ImageComes, EndsImages, Progress, Said, TakesImage, TellsImages, TellsInputs, ImageComes.image, ImageComes.unread, ImageComes.too_many, TellsInputs.of_input, AnswersImages.none, AnswersImages.another, EndsImages.no_image, EndsImages.last_line, TellsImages.ended, TellsImages.stopped}
use Rattle.relay_printer_commands.specs.Printers.{images_of}
use Rattle.relay_desk_commands.specs.Desks.{AtDesk, EndsScan, OnDesk, ScansPicture, scan_images, ScansPicture.accepted, ScansPicture.refused, ScansPicture.unsettled, ScansPicture.no_grid, EndsAtDesk.no_desk, EndsAtDesk.opened}
use Rattle.relay_desk_runs.specs.Answered.{grids_at_end, grids_before, grids_of_bytes, grids_of_images, grids_of_inputs, grids_of_picture, grids_scanned, if_saved}

-- ---- the image of one label

-- the header of an image of 14 pixels by 14
abbrev header : List ℕ
header = 10 ∷ 49 ∷ 52 ∷ 32 ∷ 49 ∷ 52 ∷ 10 ∷ []

is_header : IsHeaderBody header 14 14
is_header = record {
  closed = refl;
  size = record {
    before = 10 ∷ [];
    width = 49 ∷ 52 ∷ [];
    between = 32 ∷ [];
    height = 49 ∷ 52 ∷ [];
    last = 10;
    spells = refl;
    before_is = record { some = omega arith; white = refl };
    width_is = record { some = omega arith; digits = refl; value = refl; positive = omega arith };
    between_is = record { some = omega arith; white = refl };
    height_is = record { some = omega arith; digits = refl; value = refl; positive = omega arith };
    last_is = refl;
  };
  within = omega arith;
}

length-bytes : (n : ℕ) (row : List Bool) → length (packed n row) ≡ n
length-bytes zero row = refl
length-bytes (suc n) row = ap suc (length-bytes n (drop 8 row))

length-rows : (width height : ℕ) (pixels : List Bool) → length (rows_text false width height pixels) ≡ height * stride width
length-rows width zero pixels = omega arith
length-rows width (suc height) pixels = omega (
  arith,
  length-append {A = ℕ},
  length-rows width height (drop width pixels),
  length-bytes (stride width) (take width pixels),
)

-- a grid of side 12
abbrev grid_of : List Bool → GridView
grid_of modules = record { size = Side12; modules = modules }

module _ (modules : List Bool) where
  abbrev shown : Picture
  shown = image_with_quiet_zone (grid_of modules) false

  readable : IsReadable shown
  unfolding row
  readable = record {
    width = (omega arith, omega arith);
    height = (omega arith, omega arith);
    pixels = length-map-range_with_len (λ i. pixel_with_quiet_zone (square_of (grid_of modules)) (i / 14) (i % 14)) 0 196;
  }

  abbrev rows : List ℕ
  rows = rows_text false 14 14 shown.pixels

  as_written : written shown ≡ magic false ++ (header ++ rows)
  unfolding row digits
  as_written = refl

  -- what is written of it, and nothing less, spells it
  spelled : Spells (p4 (grid_of modules)) shown
  unfolding row
  spelled =
      let w = written_readable shown readable in
      let s = w.3 in
      let a = s.spells in
      let whole : magic false ++ (header ++ rows) ≡ magic false ++ (a.body ++ (a.raster ++ w.1)) =
      sym as_written ∙ w.2 ∙ ap (λ (l : List ℕ). l ++ w.1) (s.bytes_are ∙ ap (λ (l : List ℕ). magic false ++ l) a.bytes_are)
      ∙ ap (λ (l : List ℕ). magic false ++ l) (append_assoc a.body a.raster w.1) in
      let after : header ++ rows ≡ a.body ++ (a.raster ++ w.1) = (same_fronts (magic false) (magic false) _ _ refl whole).1 in
      let head = (one_header header a.body rows (a.raster ++ w.1) 14 14 14 14 is_header a.header.header after).0 in
      let raster : rows ≡ a.raster ++ w.1 = (same_fronts header a.body rows (a.raster ++ w.1) (ap length head) after).1 in
      let count : length rows ≡ 28 = length-rows 14 14 shown.pixels in
      let packed_count : length a.raster ≡ 28 = length-packed a.raster 14 14 shown.pixels a.raster_is in
      let none : w.1 ≡ [] = nil_from_length w.1 (omega (arith, ap length raster, length-append a.raster w.1)) in
      subst (λ (bytes : List ℕ). Spells bytes shown)
      (sym (w.2 ∙ ap (λ (l : List ℕ). w.0 ++ l) none ∙ append-nil w.0)) s

  -- the grid inside its image is it
  inside_alone : (grid : GridView) → IsWholeGrid (grid_of modules) → IsGridInside shown grid → grid ≡ grid_of modules
  unfolding row
  inside_alone grid whole inside =
      let size : grid.size ≡ Side12 = same_size grid.size Side12 (let is = inside.side in omega arith) in
      let same : grid.modules ≡ modules = inside.modules ∙ sym (taken_back (grid_of modules) false whole).1.modules in
      λ i. record { size = size i; modules = same i }

-- ---- images one after another

some_magic : (b : Bool) (rest : List ℕ) → magic b ++ rest ≡ [] → ⊥
some_magic true rest is = cc (is)
some_magic false rest is = cc (is)

no_bytes : (bytes y : List ℕ) (p : Picture) → Spells bytes p → (let none : List ℕ = [] in none ≡ bytes ++ y) → ⊥
no_bytes [] y p spells is = some_magic p.plain spells.rest (sym spells.bytes_are)
no_bytes (b ∷ bytes) y p spells is = cc (is)

consumed_known : (a b : Option (List ℕ)) (x bytes : List ℕ) → a ≡ Some x → Consumes a b bytes →
    (y : List ℕ) × (b ≡ Some y) × (x ≡ bytes ++ y)
consumed_known None b x bytes is consumed = cc (is)
consumed_known (Some z) None x bytes is consumed = absurd consumed
consumed_known (Some z) (Some y) x bytes is consumed = (y, refl, (let same : z ≡ x = cc (is) in sym same ∙ consumed))

module _ (Q : GridView → Type 0) where
  -- a whole grid of side 12 that is so
  pub record Is12 (g : GridView) : Type 0 where
    pub size : g.size ≡ Side12
    pub whole : IsWholeGrid g
    pub so : Q g

  by_size : (g : GridView) → g.size ≡ Side12 → grid_of g.modules ≡ g
  by_size g is = λ i. record { size = sym is i; modules = g.modules }

  inside_so : (g grid : GridView) (p : Picture) → Is12 g → image_with_quiet_zone g false ≡ p → IsGridInside p grid → Q grid
  inside_so g grid p is same inside =
      let own = by_size g is.size in
      let here : IsGridInside (image_with_quiet_zone (grid_of g.modules) false) grid =
      subst (λ (q : Picture). IsGridInside q grid)
      (sym (ap (λ (h : GridView). image_with_quiet_zone h false) own ∙ same)) inside in
      subst Q (sym (inside_alone g.modules grid (subst IsWholeGrid (sym own) is.whole) here ∙ own)) is.so

  picture_so : (g : GridView) (p : Picture) → Is12 g → image_with_quiet_zone g false ≡ p → {number : ℕ}
      {before after : AtDesk} {said : Said} (scans : ScansPicture number p before said after) →
      AllByRecursion Q (grids_of_picture scans)
  picture_so g p is same (accepted grid reply shape inside accepts) = (inside_so g grid p is same inside, tt)
  picture_so g p is same (refused grid fault id shape inside accepts is_id notes) =
      by_fault fault (inside_so g grid p is same inside)
    where
      by_fault : (fault : ScanFault) → Q grid → AllByRecursion Q (if_saved fault grid)
      by_fault scan_fault.Save so = (so, tt)
      by_fault other so = tt
  picture_so g p is same (unsettled grid why shape inside unsettled_is notes) = tt
  picture_so g p is same (no_grid has notes) = tt

  -- what comes of the images of these labels
  record Came (last : Bool) (grids : List GridView) (y : List ℕ) : Type 0 where
    so : AllByRecursion Q grids
    goes_on : last ≡ false → (more : List GridView) × AllByRecursion Is12 more × (y ≡ images_of more)

  come : {count : ℕ} {now after : AtDesk} {bytes : List ℕ} {input : InputView} {said : Said} {last : Bool}
      (comes : ImageComes scan_images count now bytes input said last after) (grids : List GridView) (y : List ℕ) →
      AllByRecursion Is12 grids → images_of grids ≡ bytes ++ y → Came last (grids_of_bytes comes) y
  come {bytes = bytes} (image p few spells answers last_is) [] y are is = absurd (no_bytes bytes y p spells is)
  come {bytes = bytes} (image p few spells answers last_is) (g ∷ grids) y are is =
      let own = by_size g are.0.size in
      let spells_own : Spells (p4 g) (image_with_quiet_zone g false) =
      subst (λ (h : GridView). Spells (p4 h) (image_with_quiet_zone h false)) own (spelled g.modules) in
      let one = one_image (p4 g) bytes (images_of grids) y (image_with_quiet_zone g false) p spells_own spells is in
      let rest = (same_fronts (p4 g) bytes (images_of grids) y (ap length one.0) is).1 in
      record { so = picture_so g p are.0 one.1 answers; goes_on = λ on. (grids, are.1, sym rest) }
  come (unread fault few is_unread sees) grids y are is = record { so = tt; goes_on = λ on. absurd (cc (on)) }
  come (too_many all is_another) grids y are is = record { so = tt; goes_on = λ on. absurd (cc (on)) }

  both : (xs ys : List GridView) → AllByRecursion Q xs → AllByRecursion Q ys → AllByRecursion Q (xs ++ ys)
  both [] ys a b = b
  both (x ∷ xs) ys a b = (a.0, both xs ys a.1 b)

  module _ (start : Progress scan_images) (grids : List GridView) (are : AllByRecursion Is12 grids)
      (known : start.input.remaining ≡ Some (images_of grids)) where
    -- so far
    record Read (taken : List GridView) (now : Progress scan_images) : Type 0 where
      so : AllByRecursion Q taken
      more : List GridView
      are_more : AllByRecursion Is12 more
      left : now.input.remaining ≡ Some (images_of more)

    takes_so : {count : ℕ} {old new : Progress scan_images} {said : Said} {last : Bool} (taken : List GridView) →
        Read taken old → (takes : TakesImage scan_images count old said last new) →
        (y : List ℕ) × (new.input.remaining ≡ Some y) × Came last (grids_of_bytes takes.comes) y
    takes_so {old = old} {new = new} taken r takes =
        let c = consumed_known old.input.remaining new.input.remaining (images_of r.more) takes.bytes r.left takes.consumed in
        (c.0, c.1, come takes.comes r.more c.0 r.are_more c.2)

    read_before : {count : ℕ} {any : Bool} {now : Progress scan_images}
        (all : AnswersImages scan_images start count any now) → Read (grids_before all) now
    read_before none = record { so = tt; more = grids; are_more = are; left = known }
    read_before (another one answers takes whole appends) =
        let r = read_before answers in
        let t = takes_so (grids_before answers) r takes in
        let on = t.2.goes_on refl in
        record {
          so = both (grids_before answers) (grids_of_bytes takes.comes) r.so t.2.so;
          more = on.0;
          are_more = on.1;
          left = t.1 ∙ ap Some on.2;
        }

    at_end : {count : ℕ} {old new : Progress scan_images} {said : Said} (taken : List GridView) → Read taken old →
        (last : EndsImages scan_images count old said new) → AllByRecursion Q (grids_at_end last)
    at_end taken r (no_image few keeps ends) = tt
    at_end taken r (last_line takes) = (takes_so taken r takes).2.so

    read_all : {new : Progress scan_images} {status : ℕ} (tells : TellsImages scan_images start status new) →
        AllByRecursion Q (grids_of_images tells)
    read_all (ended said answers last reads appends is) =
        let r = read_before answers in
        both (grids_before answers) (grids_at_end last) r.so (at_end (grids_before answers) r last)
    read_all (stopped said answers takes failed part is) =
        let r = read_before answers in
        both (grids_before answers) (grids_of_bytes takes.comes) r.so (takes_so (grids_before answers) r takes).2.so

    read_inputs : {new : Progress scan_images} {status : ℕ}
        (tells : TellsInputs scan_images [] start status new) → AllByRecursion Q (grids_of_inputs tells)
    read_inputs (of_input tells) = read_all tells

  -- a scan of the images of these labels takes in these alone
  pub scanned_so : (capacity : ℕ) (old : OnDesk) (status : ℕ) (new : OnDesk) (ends : EndsScan capacity [] old status new)
      (grids : List GridView) → AllByRecursion Is12 grids → old.streams.input.remaining ≡ Some (images_of grids) →
      AllByRecursion Q (grids_scanned ends)
  scanned_so capacity old status new (no_desk name has refuses) grids are known = tt
  scanned_so capacity old status new (opened desk opens rest) grids are known = read_inputs _ grids are known rest.1
