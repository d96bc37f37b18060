use Rattle.std.proofs.Common.{◌∙◌, ◌<◌, arith, length, sym}
use Rattle.std.proofs.{Math.Nat.zero-max, lemmas.Bool.or_parts}
use Rattle.relay_shared.proofs.Files.{at_last_file, at_no_file, one_more_file}
use Rattle.relay_shared.proofs.images.each_file.Goals as goal

pub loop-file-init : goal.loop-file-init
loop-file-init g c = record {
  told = λ others new tells. rw (zero-max others) tells;
  running = c.requires;
  kept = g.met.C.OnImages.keeps_itself _ _;
}

pub loop-file-preserved : goal.loop-file-preserved
loop-file-preserved g c =
    let there : c.loop-file.file-index < length c.args.files.now = omega arith in
    let goes_on = sym c.has_stopped.ensures ∙ c.if-has_stopped.false in
    record {
      told = rw c.greater-status.ensures (one_more_file _ _ _ _ _ _ _ _ c.file-item.result _ _ there c.file-item.is
          c.loop-file.invariant.told c.each_of_file.ensures.told goes_on);
      running = (or_parts _ _ goes_on).1;
      kept = g.met.C.OnImages.keeps_later _ _ _ _ _ _ c.loop-file.invariant.kept c.each_of_file.ensures.kept;
    }

pub returns-then-has_stopped-clause-told : goal.returns-then-has_stopped-clause-told
returns-then-has_stopped-clause-told g c =
    let there : c.loop-file.file-index < length c.args.files.now = omega arith in
    rw c.greater-status.ensures (at_last_file _ _ _ _ _ _ _ _ c.file-item.result _ _ there c.file-item.is
    c.loop-file.invariant.told c.each_of_file.ensures.told (sym c.has_stopped.ensures ∙ c.if-has_stopped.true))

pub returns-clause-told : goal.returns-clause-told
returns-clause-told g c = at_no_file _ _ _ _ _ _ _ _ (omega arith) c.loop-file.invariant.told
