use Rattle.std.proofs.Common.{◌≡◌, ◌≤◌, ◌<◌, ◌∙◌, Ok, length, ap, sym, arith}
use Rattle.std.specs.FinMap.{entries, len-entries}
use Rattle.std.proofs.lemmas.{List.length_push, List.take_all, List.Elements.All-push}
use Rattle.dm_assembly_desk.specs.Documents.{summaries}
use Rattle.relay_desk_commands.specs.Desks.{Yields}
use Rattle.relay_desk_commands.proofs.AllDocuments.{all_seen, next, none_more, one_more}
use Rattle.relay_desk_commands.proofs.all_documents.given_of_each.Goals.{in-Some+in_ok-push-in-Some, in-None}
use Rattle.relay_desk_commands.proofs.all_documents.given_of_each.Goals as goal

pub loop-held-preserved : goal.loop-held-preserved
loop-held-preserved g c =
    let i = c.loop-held.invariant in
    let items : c.deref-held-items.result.now ≡ summaries c.args.desk.now.held = c.deref-held-items.ensures.value ∙ c.in_ok-all.ensures.list in
    let within : c.loop-held.held-index < length (summaries c.args.desk.now.held) = rw (sym items) c.loop-held-test.true in
    let n = next c.args.given c.args.desk.now.held c.loop-held.held-index c.held-item.result within (rw items at c.held-item.is) in
    let found = c.in_ok-bytes.ensures n.pages n.there in
    elim c.match-branch-3.branch [
      | in-Some+in_ok-push-in-Some w ↦
          let pushed = w.in_ok-push-in-Some.ensures.items in
          let given = rw w.in-Some.is at found in
          let count = ap length pushed ∙ length_push _ _ in
          rw (w.documents-is, w.incomplete-is) record {
            ids = one_more (λ given. given.id) _ _ _ _ _ pushed i.ids (rw given.0 at n.more);
            yields = rw pushed (All-push (λ given. Yields c.args.given given.id c.args.desk.now.held (Ok given.bytes.items))
                _ _ i.yields given.1);
            others = omega (arith, count, i.others);
          }
      | in-None w ↦
          let none = rw w.in-None.is at found in
          rw (w.documents-is, w.incomplete-is) record {
            ids = none_more (λ given. given.id) _ _ _ i.ids (rw none at n.more);
            yields = i.yields;
            others = omega (arith, i.others);
          }
    ]

pub returns : goal.returns
returns g c =
    let i = c.loop-held.invariant in
    let items : c.deref-held-items.result.now ≡ summaries c.args.desk.now.held = c.deref-held-items.ensures.value ∙ c.in_ok-all.ensures.list in
    let count : length (entries c.args.desk.now.held) ≡ c.loop-held.held-index =
    all_seen c.args.desk.now.held c.deref-held-items.result.now c.loop-held.held-index items
    c.loop-held.auto.held-index-end c.loop-held-test.false in
    let all : length (entries c.args.desk.now.held) ≤ c.loop-held.held-index = omega arith in record {
      ids = rw (take_all _ _ all) at i.ids;
      yields = i.yields;
      others = i.others ∙ sym count ∙ sym (len-entries c.args.desk.now.held);
    }
