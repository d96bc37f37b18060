use Rattle.std.proofs.Common.{rules, ◌+◌, ◌∙◌, ap, vec_len, ℕ, List, ◌++◌, ◌≡◌}
use Rattle.dm_encodation.specs.Written.{text}
use Rattle.dm_encodation.proofs.Filled.{filled_parts}
use Rattle.dm_encodation.proofs.encoding.fill.Goals as goal

pub returns : goal.returns
returns g c =
    let head : c.extend_from_slice.new.self.items ≡ c.args.head.now = search rules in
    let texts = c.in_ok-in_run.ensures.words ∙
    ap (λ (l : List ℕ). l ++ text c.args.scheme (vec_len c.extend_from_slice.new.self + 1) c.args.bytes.now) head in
    filled_parts c.args.scheme c.args.head.now c.args.bytes.now c.push_text.new.out.items c.fill_up.new.out.items _ _ _
    c.args.capacity
    texts (search rules) c.in_ok-fill_up.ensures (search rules) c.in_ok-in_run.ensures.in_run
