-- A print is a call of a relay: what it uses, and which labels leave.
use Rattle.std.proofs.Common.{false, ◌≡◌, ◌+◌, ◌++◌, ◌≤◌, inl, inr, ℕ, zero, suc, List, [], ◌∷◌, Result, Ok, Err, Some, length, map, slice_get, take, refl, sym, ap, subst, ◌∙◌, arith}
use Rattle.std.specs.Result.{result_ok}
use Rattle.std.specs.Prelude.{IfOk, IsTrue}
use Rattle.std.proofs.lemmas.List.{append_cancel_left, length-map, take_all}
use Rattle.dm_size.specs.declared.size.Size.{Size}
use Rattle.dm_encodation.specs.declared.scheme.Scheme.{Scheme}
use Rattle.dm_finder_frame.specs.Frame.{GridView}
use Rattle.dm_print_ledger.specs.declared.fault.PrintFault.{PrintFault}
use Rattle.dm_print_ledger.specs.Ledger.{JobView, LedgerView, PrinterView}
use Rattle.dm_print_ledger.specs.Verdicts.{Prints, least}
use Rattle.dm_event_history.specs.declared.{stop.Stop.Stop, reply.Reply.Reply}
use Rattle.dm_event_history.specs.declared.stop.Stop.TheVariants as stops
use Rattle.dm_event_history.specs.declared.reply.Reply.TheVariants.{Printed}
use Rattle.dm_event_history.specs.Relay.{CutDocument, Running, Goods, Label, Used}
use Rattle.dm_event_history.specs.Steps.{Answers, AreLabelsFor, Calls, Ending, LacksMemory, MayLackFirst, PrintComes, Saves, cut_of, print_faults}
use Rattle.dm_append_label.specs.Labels.{PageView}
use Rattle.dm_event_history.proofs.LedgerFacts.{made_print}
use Rattle.dm_event_world.specs.{declared.actor.LeftLabel.LeftLabel, Shows.ShowsPrinter, Shows.left_label}
use Rattle.dm_event_world.specs.declared.actor.PrinterActor.TheVariants as actors
use Rattle.dm_event_world.specs.inner.Calls.{EndsSo, IsMadeUnder, job_labels, left_labels, most_labels, planned, print_reply}
use Rattle.dm_event_world.proofs.PrinterEvents.{most_sixteen, print_ends}
use Rattle.relay_runs.specs.Runs.{grids_in, grids_of}
use Rattle.relay_runs.proofs.{Plans.fine_printer, Plans.under_stop, Calling.met_ended, Calling.met_reply}

-- ---- what leaves

pub none_mapped : {X Y : Type 0} (f : X → Y) (xs : List X) → map f xs ≡ [] → xs ≡ []
none_mapped f [] is = refl
none_mapped f (x ∷ xs) is = cc (is)

abbrev grids : {A : Type 0} → List (LeftLabel A) → List GridView
grids labels = map (λ label. label.grid) labels

grids_left : (A : Type 0) (labels : List Label) → grids (map (left_label {A = A}) labels) ≡ grids_of labels
grids_left A [] = refl
grids_left A (label ∷ labels) = ap (λ (gs : List GridView). label.grid ∷ gs) (grids_left A labels)

grids_job : (A : Type 0) (id count number : ℕ) (job : List GridView) →
    grids (left_labels {A = A} id count number job) ≡ job
grids_job A id count number [] = refl
grids_job A id count number (grid ∷ job) = ap (λ (gs : List GridView). grid ∷ gs) (grids_job A id count (number + 1) job)

-- the labels that leave are those of the job of the answer
grids_are : (A : Type 0) (left : List (LeftLabel A)) (stop : Stop) (answer : Result JobView PrintFault) (goods : Goods) →
    ((job : JobView) → answer ≡ Ok job → stop ≡ stops.None) → IfOk answer (λ job. length job.labels ≤ 16) →
    left ++ job_labels (most_labels stop) answer ≡ left ++ map left_label goods.labels →
    grids_of goods.labels ≡ grids_in (result_ok answer)
grids_are A left stop (Ok job) goods answered few is =
    sym (grids_left A goods.labels) ∙ ap (grids {A = A}) (sym (append_cancel_left left _ _ is))
    ∙ ap (λ (s : Stop). grids (job_labels {A = A} (most_labels s) (Ok job))) (answered job refl)
    ∙ grids_job A job.id job.count 1 (take 255 job.labels)
    ∙ take_all 255 job.labels (omega arith)
grids_are A left stop (Err fault) goods answered few is =
    sym (grids_left A goods.labels) ∙ ap (grids {A = A}) (sym (append_cancel_left left _ _ is))

-- ---- what the labels are cut from

-- the label is of this ID and this document
pub record IsCutFrom (id : ℕ) (document : List ℕ) (label : Label) : Type 0 where
  pub id_is : label.page.id ≡ id
  pub document_is : label.cut.bytes ≡ document

labels_cut : (cut : CutDocument) (id m : ℕ) (parts : List (List ℕ)) (labels : List Label) →
    AreLabelsFor cut id m parts labels → (i : ℕ) (label : Label) → slice_get labels i ≡ Some label →
    IsCutFrom id cut.bytes label
labels_cut cut id m [] [] are i label there = cc (there)
labels_cut cut id m [] (one ∷ labels) are i label there = absurd are
labels_cut cut id m (part ∷ parts) [] are i label there = absurd are
labels_cut cut id m (part ∷ parts) (one ∷ labels) are zero label there =
    let same : one ≡ label = cc (there) in
    subst (λ (l : Label). IsCutFrom id cut.bytes l) same (record {
      id_is = ap (λ (p : PageView). p.id) are.0.page_is;
      document_is = ap (λ (c : CutDocument). c.bytes) are.0.cut_is;
    })
labels_cut cut id m (part ∷ parts) (one ∷ labels) are (suc i) label there =
    labels_cut cut id (m + 1) parts labels are.1 i label there

-- this ID was used, and each label is of it and of this document
pub record AreCutFrom (id : ℕ) (document : List ℕ) (goods : Goods) : Type 0 where
  pub moves : goods.moves ≡ Used id ∷ []
  pub labels : (i : ℕ) (label : Label) → slice_get goods.labels i ≡ Some label → IsCutFrom id document label

-- a print that is answered has saved, and so used its ID
print_cut : (A : Type 0) (before id count : ℕ) (document : List ℕ) (size : Size) (scheme : Scheme) (stored : LedgerView)
    (end : Ending A LedgerView) →
    MayLackFirst (Calls print_faults stops.None (PrintComes before document size scheme)) (Running stored) end →
    Printed id before count ≡ end.reply → AreCutFrom id document end.goods
print_cut A before id count document size scheme stored end (inr (Saves next goods reply, comes, end_is)) told =
    let made = made_print before document size scheme stored next goods reply comes in
    let same : least stored.free ≡ id = cc (told, end_is, made.left.reply_is) in
    let goods_are = ap (λ (e : Ending A LedgerView). e.goods) end_is ∙ made.left.goods_are in
    record {
      moves = ap (λ (g : Goods). g.moves) goods_are ∙ ap (λ (n : ℕ). Used n ∷ []) same;
      labels = λ i label there. subst (λ (n : ℕ). IsCutFrom n document label) same
          (labels_cut (cut_of document size scheme made.parts) (least stored.free) 1 made.parts made.left.labels
          made.left.are_labels i label (sym (ap (λ (g : Goods). slice_get g.labels i) goods_are) ∙ there));
    }
print_cut A before id count document size scheme stored end (inl lacks) told =
    absurd (cc (told, lacks))
print_cut A before id count document size scheme stored end (inr (Answers reply, comes, end_is)) told =
    absurd (cc (told, end_is, comes.3.2))
print_cut A before id count document size scheme stored end (inr (LacksMemory, comes, end_is)) told =
    absurd (cc (told, end_is))

-- ---- the call

-- a printer that was opened over its store and has printed, as a call of a relay
pub record PrintedSo (A : Type 0) (before : ℕ) (document : List ℕ) (size : Size) (scheme : Scheme)
    (stored : LedgerView) (answer : Result JobView PrintFault) (after : PrinterView) : Type 0 where
  pub stop : Stop
  pub ends : EndsSo {A = A} (ShowsPrinter {A = A})
      (MayLackFirst (Calls print_faults stop (PrintComes before document size scheme)))
      (λ goods. (grids_of goods.labels ≡ grids_in (result_ok answer)) × (goods.tickets ≡ [])) (Running stored)
      (print_reply before answer) (actors.Running (fine_printer after))
  pub cut : (job : JobView) → answer ≡ Ok job → AreCutFrom job.id document ends.end.goods

module _ (A : Type 0) (labels : List Label) (document : List ℕ) (size : Size) (scheme : Scheme) (view after : PrinterView)
    (stored : LedgerView) (answer : Result JobView PrintFault) (runs : view.is_failed ≡ false)
    (honest : IsTrue view.saved.is_honest)
    (shown : ShowsPrinter {A = A} (actors.Running (fine_printer view)) (Running stored))
    (prints : Prints view size scheme document answer after) where
  abbrev left : List (LeftLabel A)
  left = map left_label labels

  pub printed_so : PrintedSo A (length labels) document size scheme stored answer after
  printed_so =
      let u = under_stop _ _ _ _ view after answer runs honest prints.carries in
      let reply : Reply A = print_reply (length left) answer in
      let made : IsMadeUnder planned u.stop (λ old a now. Prints old size scheme document a now) (fine_printer view) answer
      (fine_printer after) = record {
        mid = fine_printer after;
        call = record {
          cutting = prints.cutting;
          is_cutting = prints.is_cutting;
          carries = u.carries;
          made = prints.made;
          lost = prints.lost;
        };
        new_is = refl;
      } in
      let e = print_ends size scheme document u.stop (fine_printer view) (fine_printer after) _ _ answer reply reply left _
      refl u.made made refl refl (met_reply u.stop reply u.met)
      (met_ended u.stop reply (actors.Running (fine_printer after)) u.met) (Running stored) shown in
      let same : length left ≡ length labels = length-map labels left_label in
      let acts = subst (λ (n : ℕ). MayLackFirst (Calls print_faults u.stop (PrintComes n document size scheme))
      (Running stored) e.end) same e.acts in
      let reply_is = subst (λ (n : ℕ). print_reply n answer ≡ e.end.reply) same e.reply_is in
      let few = most_sixteen size scheme document answer made in
      record {
        stop = u.stop;
        ends = record {
          end = e.end;
          acts = acts;
          reply_is = reply_is;
          shows = e.shows;
          lets = (grids_are A left u.stop answer e.end.goods u.answered few e.lets.labels_are, sym e.lets.tickets_are);
        };
        cut = λ job at. print_cut A (length labels) job.id job.count document size scheme stored e.end
            (subst (λ (s : Stop). MayLackFirst (Calls print_faults s (PrintComes (length labels) document size scheme))
            (Running stored) e.end) (u.answered job at) acts) (ap (print_reply (length labels)) (sym at) ∙ reply_is);
      }
