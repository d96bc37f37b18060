use Rattle.std.proofs.Common.{◌≡◌, ◌≤◌, ℕ, ◌+◌, ◌-◌, List, ◌++◌, length, take, sym, ap, ◌∙◌, subst, rules, arith}
use Rattle.std.proofs.{lemmas.List.length-take-le, lemmas.List.take-append-le, Math.Seq.take-append-add}
use Rattle.std.specs.Io.KnownBytes.{Consumes}
use Rattle.std.proofs.KnownBytes.{Consumes-trans}
use borrow.Rule.Slice.PartMut.{put_mid, post_of, same_len_mid}
use Rattle.relay_streams.proofs.input.fill_from.Goals as goal

-- the front of a list, of which a part was overwritten
front_of_part : (a k n : ℕ) (xs ys : List ℕ) → a ≤ length xs → n ≤ length ys
    → take (a + n) (put_mid a k xs ys) ≡ take a xs ++ take n ys
front_of_part a k n xs ys h g =
    let e : length (take a xs) ≡ a = length-take-le a xs h in
    ap (λ m. take (m + n) (take a xs ++ (ys ++ post_of a k xs))) (sym e)
    ∙ take-append-add (take a xs) (ys ++ post_of a k xs) n
    ∙ ap (λ t. take a xs ++ t) (take-append-le n ys (post_of a k xs) g)

pub loop-filled-preserved : goal.loop-filled-preserved
loop-filled-preserved g c =
    let buffer = c.loop-filled.buffer in
    let at = c.loop-filled.filled in
    let count = c.in_ok-count.count in
    let more = c.read_piece.new.buffer in
    let within : count ≤ length more = let n = c.in_ok-count.ensures.bound in omega arith in
    let long : length (put_mid at (length buffer - at) buffer more) ≡ length buffer
    = same_len_mid at (length buffer - at) buffer more (search rules) in
    record {
      bound = omega arith;
      consumed = subst (Consumes (g.R.Read.remaining c.args.reader.now) (g.R.Read.remaining c.read_piece.new.reader))
          (sym (front_of_part at (length buffer - at) count buffer more c.loop-filled.invariant.bound within))
          (Consumes-trans _ _ _ _ _ c.loop-filled.invariant.consumed c.in_ok-count.ensures.bytes.0);
    }
