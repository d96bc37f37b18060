use Rattle.std.proofs.Common.{◌≡◌, ◌<◌, ℕ, ◌+◌, ◌-◌, ◌*◌, ◌++◌, ◌∷◌, [], List, Bool, length, drop, ap, ◌∙◌, append_assoc, append-nil, drop-drop, take_all, arith}
use Rattle.std.proofs.lemmas.List.{take_rest, take_more_set}
use Rattle.dm_pbm_io.specs.{Header.stride, Image.number_of_first, Image.packed}
use Rattle.dm_pbm_io.proofs.Written.{packed_step}
use Rattle.dm_pbm_io.proofs.write.pack.Goals as goal

-- one more byte of a row of which some are packed
byte_more : (n at byte : ℕ) (row : List Bool) (all old new : List ℕ) → at < n
    → all ≡ old ++ packed (n - at) (drop (8 * at) row) → byte ≡ number_of_first 0 (drop (8 * at) row) 8
    → new ≡ old ++ byte ∷ [] → all ≡ new ++ packed (n - (at + 1)) (drop (8 * (at + 1)) row)
byte_more n at byte row all old new here done is more =
    grind (
      arith,
      drop-drop 8 (8 * at) row,
      packed_step n,
      append_assoc old (byte ∷ []) (packed (n - (at + 1)) (drop 8
          (drop (8 * at) row))),
      drop-drop,
      packed_step,
      append_assoc,
    )

pub loop-at-preserved : goal.loop-at-preserved
loop-at-preserved c =
    let piece = c.args.piece.now in
    byte_more (stride (length piece)) c.loop-at.at c.byte_of.result piece _ _ _ (omega arith) c.loop-at.invariant
    (c.byte_of.ensures ∙ ap (λ r. number_of_first 0 r 8) (take_rest piece (8 * c.loop-at.at)))
    (take_more_set c.loop-at.bytes c.loop-at.at c.byte_of.result (omega arith))

pub returns : goal.returns
returns c = grind (arith, take_all, append-nil)
