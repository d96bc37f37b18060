use Rattle.std.proofs.Common.{◌≡◌, ℕ, ◌-◌, List, ◌++◌, length, take, drop, sym, ap, ◌∙◌, append_assoc, take-append-drop}
use Rattle.std.proofs.{lemmas.List.take_rest, KnownBytes.Appends-trans}
use Rattle.relay_streams.proofs.output.put_to.Goals as goal

-- what was written goes over from the rest to what is done
moves_front : (all done rest : List ℕ) (n : ℕ) → all ≡ done ++ rest
    → all ≡ (done ++ take n rest) ++ take (length rest - n) (drop n rest)
moves_front all done rest n is =
    is ∙ ap (λ l. done ++ l) (sym (take-append-drop n rest)) ∙ sym (append_assoc done (take n rest) (drop n rest))
    ∙ ap (λ l. (done ++ take n rest) ++ l) (sym (take_rest rest n))

pub loop-rest-preserved : goal.loop-rest-preserved
loop-rest-preserved g c =
    let so_far = c.loop-rest.invariant in
    let rest = c.loop-rest.rest.now in
    let n = c.in-Ok.count in
    record {
      done = so_far.done ++ take n rest;
      split = moves_front _ so_far.done rest n so_far.split;
      appended = Appends-trans _ _ _ _ _ so_far.appended c.in-Ok.ensures.bytes;
    }
