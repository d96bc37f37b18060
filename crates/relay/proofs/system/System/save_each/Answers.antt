use Rattle.std.proofs.Common.{Global, refl, sym, subst}
use Rattle.std.proofs.{lemmas.List.drop_all, Math.Nat.max-zero, Math.Nat.zero-max}
use Rattle.relay_shared.specs.Files.{DeskFiles}
use Rattle.relay.specs.Program.{OpensBetween, no_id, system_at}
use Rattle.relay.proofs.AllDocuments.{given_next, max_again}
use Rattle.relay.proofs.system.System.save_each.Goals as goal

pub loop-document-init : goal.loop-document-init
loop-document-init g c = record { stays = refl; so_far = λ desk opens yields others new each. rw (zero-max others) each }

pub loop-document-preserved : goal.loop-document-preserved
loop-document-preserved g c =
    let i = c.loop-document.invariant in
    let one = c.save_one-one.ensures in record {
      stays = rw one.desk i.stays;
      so_far = λ desk opens yields others new later.
          let open_still = subst (λ (f : DeskFiles). OpensBetween desk f f) (sym i.stays) opens in
          rw (c.greater.ensures, max_again) (i.so_far desk opens yields _ new (given_next Global c.args.all.given c.args.all.file
          c.args.all.folder.now c.args.documents.now desk c.loop-document.document-index c.document-item.result
          (system_at c.loop-document.system.standard (g.P.Places.state c.loop-document.system.places))
          c.save_one-one.result.0 _ c.loop-document-test.true c.document-item.is yields open_still one.of_id one.saves
          others new later));
    }

pub returns : goal.returns
returns g c = λ desk opens yields. rw (max-zero c.loop-document.status) at (c.loop-document.invariant.so_far desk opens
    yields 0 (system_at c.loop-document.system.standard (g.P.Places.state c.loop-document.system.places))
    (rw (drop_all c.loop-document.document-index c.args.documents.now c.loop-document-test.false) no_id))
