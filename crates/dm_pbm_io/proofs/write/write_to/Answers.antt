use Rattle.std.proofs.Common.{arith, ◌≡◌, ℕ, List, [], ◌∷◌, ◌++◌, sym, subst, append_assoc}
use Rattle.std.specs.Fmt.{decimal}
use Rattle.dm_pbm_io.specs.{Header.magic, Image.Picture, Image.picture, Image.rows_text, Image.written}
use Rattle.dm_pbm_io.proofs.Streaming.{adds_rest}
use Rattle.relay_streams.proofs.Parts.{part_more, part_after}
use Rattle.relay_streams.specs.Streams.{AppendsPart}
use Rattle.dm_pbm_io.proofs.write.write_to.Goals as goal

-- the rows come after the header
after_header : (first width height rows : List ℕ) → first ++ (10 ∷ (width ++ (32 ∷ (height ++ (10 ∷ rows)))))
    ≡ (first ++ (10 ∷ (width ++ (32 ∷ (height ++ 10 ∷ []))))) ++ rows
after_header first width height rows = simp append_assoc

-- the whole image
whole : (image : Picture) (header : List ℕ)
    → header ≡ magic image.plain ++ (10 ∷ (decimal image.width ++ (32 ∷ (decimal image.height ++ 10 ∷ []))))
    → written image ≡ header ++ rows_text image.plain image.width image.height image.pixels
whole image header is = grind (arith, after_header)

pub returns-in_err-put_text-clause-part : goal.returns-in_err-put_text-clause-part
returns-in_err-put_text-clause-part g c =
    let all = whole (picture c.args.image.now) c.as_bytes.result.now (cc) in
    subst (AppendsPart _ _) (sym all) (part_more _ _ _ _ c.put_text.ensures.part)

pub returns-clause-written : goal.returns-clause-written
returns-clause-written g c =
    let all = whole (picture c.args.image.now) c.as_bytes.result.now (cc) in
    grind (arith, adds_rest)

pub returns-clause-part : goal.returns-clause-part
returns-clause-part g c =
    let all = whole (picture c.args.image.now) c.as_bytes.result.now (cc) in
    subst (AppendsPart _ _) (sym all) (part_after _ _ _ _ _ c.in_ok-put_text.ensures.written.appended
    (rw (c.from-width.ensures, c.from-height.ensures, c.as_slice.ensures.value) at c.write_rows.ensures.part))
