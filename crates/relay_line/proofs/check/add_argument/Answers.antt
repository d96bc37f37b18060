use Rattle.std.proofs.Common.{◌∙◌, ℕ, List, ap, map, refl}
use Rattle.std.specs.Borrow.{Bor}
use Rattle.std.proofs.lemmas.Result.{IfOk-weaker}
use Rattle.clap.specs.Words.{found_of}
use Rattle.relay_line.proofs.Found.{all_values_of}
use Rattle.relay_line.proofs.Kept.{kept_with, values_of}
use Rattle.relay_line.proofs.check.add_argument.Goals as goal

pub returns : goal.returns
returns c =
    let values = ap (λ (s : Bor (List (Bor (List ℕ)))). map (λ v. v.now) s.now) c.unwrap_or-values.ensures
    ∙ values_of _ _ _ refl (c.get_strs.ensures ∙ all_values_of (found_of c.args.options.now) c.args.row.now.0.now) in
    IfOk-weaker c.add_values.result _ _ (λ _ last. kept_with _ _ _ _ c.args.row.now.2 _ _ values c.in_ok-add_lack.ensures last) c.add_values.ensures
