use Rattle.std.proofs.Common.{refl, sym, subst}
use Rattle.std.specs.Io.KnownBytes.{Keeps}
use Rattle.relay_program_runs.proofs.DocumentOut.{noted_same, out_all}
use Rattle.relay_program_runs.proofs.laws.all_is_out.Goals as goal

pub returns : goal.returns
returns g c command images old new at =
    let all = out_all at.between.out refl in
    let same = noted_same at.done new.standard at.noted in
    (all.0, subst (λ out. Keeps at.between.wrote.output.contents out) (sym same) all.1)
