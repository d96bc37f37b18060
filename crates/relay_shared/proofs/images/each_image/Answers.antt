use Rattle.std.proofs.Common.{◌≡◌, inr, true, false, arith, refl}
use Rattle.std.proofs.Math.Bool.{or-false}
use Rattle.relay_shared.specs.Command.{AnswersImages.none, ImageComes.too_many, refusal_name}
use Rattle.relay_shared.specs.declared.command.Refusal.TheVariants.{TooMany}
use Rattle.relay_shared.proofs.ImageLoop.{at_end, at_failure, at_last, one_more, refused_last}
use Rattle.relay_shared.proofs.images.each_image.Goals as goal

pub loop-count-init : goal.loop-count-init
loop-count-init g c = record {
  written = none;
  running = c.requires;
  kept = g.met.C.OnImages.keeps_itself _ _;
}

pub loop-count-preserved : goal.loop-count-preserved
loop-count-preserved g c =
    let so_far = c.loop-count.invariant in
    let more = one_more _ _ _ _ _ _ so_far.written c.in-Ok.answered c.in-Ok.ensures.step c.if-answered.false in
    record {
      written = more.0;
      running = more.1;
      kept = g.met.C.OnImages.keeps_later _ _ _ _ _ _ so_far.kept c.in-Ok.ensures.kept;
    }

pub returns-then-answered-clause-told : goal.returns-then-answered-clause-told
returns-then-answered-clause-told g c =
    at_last _ _ _ _ _ _ c.loop-count.invariant.written c.in-Ok.answered _ c.in-Ok.ensures.step c.if-answered.true
    (grind (arith, c.from.ensures))

pub returns-in-Err-Write-clause-told : goal.returns-in-Err-Write-clause-told
returns-in-Err-Write-clause-told g c =
    at_failure _ _ _ _ _ _ c.loop-count.invariant.written c.in-Err-Write.ensures.step

pub returns-then-is_at_end-clause-told : goal.returns-then-is_at_end-clause-told
returns-then-is_at_end-clause-told g c =
    let all : c.loop-count.count ≡ 65536 = omega arith in
    at_last _ _ _ _ _ _ (rw all at c.loop-count.invariant.written) (record { refused = false; last = true }) _
    (at_end _ _ _ _ (omega arith) (c.is_at_end.ensures.ended c.if-is_at_end.true)
    (c.is_at_end.ensures.whole c.if-is_at_end.true)) refl
    (rw or-false (grind (arith, c.from-then-is_at_end.ensures)))

pub returns-clause-told : goal.returns-clause-told
returns-clause-told g c =
    let all : c.loop-count.count ≡ 65536 = omega arith in
    let more = c.is_at_end.ensures.another c.if-is_at_end.false in
    refused_last _ _ _ _ _ _ (rw all at c.loop-count.invariant.written) (refusal_name TooMany) more.1
    (too_many refl more.2) (inr refl) (rw c.name.ensures at c.refuse.ensures)
