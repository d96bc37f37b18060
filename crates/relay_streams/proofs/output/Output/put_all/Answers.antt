use Rattle.std.proofs.Common.{◌≡◌, ◌<◌, ℕ, suc, List, [], ◌∷◌, ◌++◌, Bor, length, take, drop, get_or, ap, sym, ◌∙◌, subst}
use Rattle.std.proofs.{Math.Seq.split_at, lemmas.Grind.flat_map-append, lemmas.List.Concat.flat_map-cons}
use Rattle.std.specs.List.{flat_map}
use Rattle.relay_streams.specs.Streams.{AppendsPart}
use Rattle.relay_streams.proofs.Parts.{part_more, part_after}
use Rattle.relay_streams.proofs.output.Output.put_all.Goals as goal

-- the texts before a piece, its text, and those after it
texts_at : {X : Type 0} (f : X → List ℕ) (xs : List X) (i : ℕ) (d : X) → i < length xs
    → flat_map f xs ≡ flat_map f (take i xs) ++ (f (get_or xs i d) ++ flat_map f (drop (suc i) xs))
texts_at f xs i d there =
    ap (flat_map f) (split_at xs i d there) ∙ flat_map-append f (take i xs) (get_or xs i d ∷ drop (suc i) xs)
    ∙ ap (λ l. flat_map f (take i xs) ++ l) (flat_map-cons f (get_or xs i d) (drop (suc i) xs))

pub returns-in_err-put-clause-part : goal.returns-in_err-put-clause-part
returns-in_err-put-clause-part g c =
    let none : Bor (List ℕ) = record { ref_ptr = (0, 0); now = [] } in
    let split = texts_at (λ (piece : Bor (List ℕ)). piece.now) c.args.pieces.now c.loop-piece.piece-index none
    c.loop-piece-test.true in
    subst (AppendsPart c.args.self.now.contents c.put.new.self.contents) (sym split)
    (part_after _ c.loop-piece.self.contents _ _ _ c.loop-piece.invariant.written
    (part_more _ _ _ _ c.put.ensures.part))
