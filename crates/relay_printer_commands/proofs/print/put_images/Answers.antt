use Rattle.std.proofs.Common.{◌≡◌, ◌∙◌, List, [], ◌∷◌, ◌++◌, ap, sym, subst, append_assoc}
use Rattle.std.proofs.{KnownBytes.Appends-trans, lemmas.Grind.flat_map-append, lemmas.List.flat_map_more}
use Rattle.std.proofs.lemmas.{List.Concat.flat_map-cons, Result.err_from_is_err_and}
use Rattle.dm_finder_frame.specs.Frame.{GridView}
use Rattle.std.specs.Io.KnownBytes.{Appends}
use Rattle.dm_pbm_io.specs.Image.{p4, written}
use Rattle.dm_print_ledger.specs.Ledger.{JobView}
use Rattle.relay_streams.specs.Streams.{AppendsPart}
use Rattle.relay_streams.proofs.Parts.{part_after, part_more}
use Rattle.relay_printer_commands.specs.Printers.{images_of, LosesImages.memory, LosesImages.write}
use Rattle.relay_printer_commands.proofs.print.put_images.Goals as goal

-- the labels that were taken, the next one, and the others
taken : (labels done : List GridView) (job rest : JobView) (grid : GridView) → labels ≡ done ++ job.labels
    → job ≡ record rest { labels = grid ∷ rest.labels } → labels ≡ done ++ grid ∷ rest.labels
taken labels done job rest grid is next = is ∙ ap (λ (j : JobView). done ++ j.labels) next

-- their images
images_at : (labels done rest : List GridView) (grid : GridView) → labels ≡ done ++ grid ∷ rest
    → images_of labels ≡ images_of done ++ (p4 grid ++ images_of rest)
images_at labels done rest grid is =
    ap images_of is ∙ flat_map-append p4 done (grid ∷ rest) ∙ ap (λ l. images_of done ++ l) (flat_map-cons p4 grid rest)

pub loop-grid-preserved : goal.loop-grid-preserved
loop-grid-preserved g c =
    let done = c.loop-grid.invariant.0 in (
      done ++ c.in-Some.grid ∷ [],
      taken _ done _ c.next_label.new.self c.in-Some.grid c.loop-grid.invariant.1 c.in-Some.ensures
          ∙ sym (append_assoc done (c.in-Some.grid ∷ []) c.next_label.new.self.labels),
      rw (flat_map_more p4 [] done c.in-Some.grid) at (Appends-trans _ _ _ _ _ c.loop-grid.invariant.2
          (subst (Appends c.loop-grid.output.contents c.write.new.output.contents)
          (ap written c.in_ok-image_of.ensures.image) c.in_ok-write.ensures.written)),
    )

pub returns-in_err-image_of : goal.returns-in_err-image_of
returns-in_err-image_of g c =
    let p = err_from_is_err_and c.from_residual.result c.from_residual.ensures.1 in
    let is = taken _ _ _ c.next_label.new.self c.in-Some.grid c.loop-grid.invariant.1 c.in-Some.ensures in
    rw (p.1, p.2) (memory _ c.in-Some.grid _ is c.loop-grid.invariant.2)

pub returns-in_err-write : goal.returns-in_err-write
returns-in_err-write g c =
    let last = c.from_residual-in_err-write in
    let p = err_from_is_err_and last.result last.ensures.1 in
    let is = taken _ _ _ c.next_label.new.self c.in-Some.grid c.loop-grid.invariant.1 c.in-Some.ensures in
    let part = subst (AppendsPart c.loop-grid.output.contents c.write.new.output.contents)
    (ap written c.in_ok-image_of.ensures.image) c.in_err-write.ensures.part in
    rw (p.1, p.2) (write _ c.in_err-write.ensures.failed (subst (AppendsPart _ _) (sym (images_at _ _ _ _ is))
    (part_after _ _ _ _ _ c.loop-grid.invariant.2 (part_more _ _ _ _ part))))
