use Rattle.std.specs.Prelude.{◌%◌}
use Rattle.std.proofs.Common.{◌≡◌, ℕ, ◌+◌, ◌*◌, ◌<◌, ◌||◌, Bool, cond, eqb, false, get_or, ap, sym, ◌∙◌, arith}
use Rattle.dm_size.specs.Sizes.{side, region}
use Rattle.dm_finder_frame.specs.{Frame.is_wrong, Frame.GridView, Frame.grid_module_at, inner.Filled.wrong_among}
use Rattle.dm_finder_frame.proofs.GridPlaces.{even_columns}
use Rattle.dm_finder_frame.proofs.WrongCounts.{line_module, one_more, is_test, differs_is, wrong_is, on_ends, ends_value, test_number, at_most_one}
use Rattle.dm_finder_frame.proofs.unframing.wrong_in_row.Goals as goal

-- one module more is counted
counts : (g : GridView) (first n a b : ℕ) (t : Bool) → a ≡ wrong_among g first n → t ≡ is_wrong g (first + n) →
    b ≡ a + cond t 1 0
    → b ≡ wrong_among g first (n + 1)
counts g first n a b t ea et eb = grind (arith, one_more)

pub loop-column-preserved : goal.loop-column-preserved
loop-column-preserved c =
    let g = c.args.grid.now in
    let r = c.args.row in
    let n = c.loop-column.column in
    let h = region g.size in
    let p = r % (h + 2) in
    let q = n % (h + 2) in
    let there : n < side g.size = omega (arith, c.side-column-end.ensures.value ∙ ap side c.size.ensures) in
    let dark = grid_module_at g r n in
    let wanted : c.is_dark_at_end-wanted.result ≡ (eqb p (h + 1) || eqb (q % 2) 0) =
    c.is_dark_at_end-wanted.ensures ∙ ap (λ x. x || eqb (n % 2) 0) c.requires.which
    ∙ ap (λ x. eqb p (h + 1) || eqb x 0) (sym (even_columns g.size n)) in
    let t : c.differs.result ≡ is_wrong g (r * side g.size + n) =
    differs_is c.differs.result (get_or c.row-line.result.now n false) dark c.is_dark_at_end-wanted.result _
    c.differs.ensures (line_module g r n c.row-line.result.now c.requires.row_in there c.row-line.ensures.modules) wanted
    ∙ sym (wrong_is h p q dark _ (on_ends h p q c.requires.at_end) (ends_value h p q c.requires.at_end))
    ∙ is_test g r n there in
    let one = c.from-wrong.ensures ∙ test_number c.differs.result in
    record {
      counted = counts g (r * side g.size) n c.loop-column.wrong _ c.differs.result c.loop-column.invariant.counted t
          (ap (λ x. c.loop-column.wrong + x) one);
      most = omega (arith, one, at_most_one c.differs.result, c.loop-column.invariant.most);
    }

pub bounds-line-column : goal.bounds-line-column
bounds-line-column c = omega (arith, c.row-line.ensures.count, c.side-column-end.ensures.value ∙ ap side c.size.ensures)
