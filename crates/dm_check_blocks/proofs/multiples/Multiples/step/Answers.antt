use Rattle.std.proofs.Common.{◌≡◌, ◌+◌, ◌-◌, ◌/◌, ◌%◌, ◌<◌, ℕ, List, ◌∙◌, ap, arith, length, length-append, length-take, length-drop, get_or, take, drop}
use Rattle.std.proofs.lemmas.List.{get_or-take, Elements.All-from_get_or, Elements.All-drop}
use Rattle.std.specs.{List.All, Int.Bits.bit_xor}
use Rattle.dm_gf256.specs.Field.{product, power}
use Rattle.dm_gf256.proofs.Ring.{power_byte}
use Rattle.dm_check_blocks.specs.inner.Remainders.{row_at}
use Rattle.dm_check_blocks.proofs.DivisionSteps.{row_step, split_multiple, written_value, written_bytes, sum_bytes}
use Rattle.dm_check_blocks.proofs.multiples.Multiples.step.Goals as goal

pub returns : goal.returns
returns g c =
    let s = c.args.self.now in
    let w : ℕ = g.row.ROW in
    let at : ℕ = c.args.at in
    let old : List ℕ = c.args.window.now in
    let ys : List ℕ = c.add_rows.new.words in
    let rest : List ℕ = drop (at + 1) old in
    let f : ℕ = get_or old at 0 in
    let row : List ℕ = row_at s.low 1 in
    let byte : f < 256 = c.fits-window at in
    let sums : (j : ℕ) → j < w → get_or ys j 0 ≡ bit_xor (get_or rest j 0) (product f (get_or row j 0)) =
    λ j h.
    let low : ℕ = get_or (row_at s.low (f % 16)) j 0 in
    let high : ℕ = get_or (row_at s.high (f / 16)) j 0 in
    let width : ℕ = at + 1 + w - (at + 1) in
    c.add_rows.ensures j h
    ∙ ap (λ t. bit_xor t (bit_xor low high)) (get_or-take width rest j 0 (omega arith))
    ∙ ap (bit_xor (get_or rest j 0)) (ap (bit_xor low) (s.high_multiples (f / 16) j (omega arith) (omega arith))
    ∙ ap (λ t. bit_xor t (product (f / 16) (product 16 (get_or row j 0)))) (s.multiples (f % 16) j (omega arith) (omega arith))
    ∙ split_multiple f (get_or row j 0) byte) in
    let long : length rest ≡ 335 - at = simp length-drop (omega arith) in
    let wide : length ys ≡ w = c.add_rows.auto.words ∙ simp length-take (omega arith) in
    let bytes : All (λ word. word < 256) old =
    All-from_get_or (λ word. word < 256) old 0 (λ i h. c.fits-window i) in
    record {
      values =
          λ k end p q l m.
          let first : length (take s.checks row) ≡ s.checks = simp length-take (omega (arith, s.size, s.most.0, s.most.1)) in
          written_value old ys w at end (power 2 k) (omega arith) (omega arith)
          (row_step f rest ys row w s.checks (end - (at + 1)) (power 2 k) wide (omega (arith, s.size, s.most.0, s.most.1)) (omega arith)
          (omega arith) (omega arith) (omega arith) (power_byte 2 k (omega arith)) (s.generator k p (omega arith)) s.zeros sums);
      size = simp (length-append, length-take, length-drop) (omega arith);
      bytes =
          written_bytes old ys (at + 1) (at + 1 + w - (at + 1)) bytes
          (sum_bytes f rest ys row w wide (All-drop (λ word. word < 256) (at + 1) old bytes) (omega arith) sums);
    }
