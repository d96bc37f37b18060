use Rattle.dm_print_ledger.proofs.job.make_job.Goals as goal
use Rattle.std.proofs.Common.{◌≡◌, ◌≤◌, arith, [], ◌∷◌, ℕ, List, length, refl}
use Rattle.dm_size.specs.declared.size.Size.{Size}
use Rattle.dm_encodation.specs.declared.scheme.Scheme.{Scheme}
use Rattle.dm_finder_frame.specs.Frame.{GridView}
use Rattle.dm_append_label.specs.Labels.{parts_from}
use Rattle.dm_print_ledger.specs.Verdicts.{AreLabels, IsJobOf}

-- The labels of a document's parts make a job.
-- there are as many parts as ends
length-parts_from : (document : List ℕ) (from : ℕ) (ends : List ℕ) →
    length (parts_from document from ends) ≡ length ends
length-parts_from document from [] = refl
length-parts_from document from (end ∷ ends) = simp (length-parts_from document end ends)

-- the labels of all parts make a job
makes_job : (size : Size) (scheme : Scheme) (id : ℕ) (document ends : List ℕ) (labels : List GridView) →
    2 ≤ length ends → length ends ≤ 16 →
    AreLabels size scheme id (length ends) 1 (parts_from document 0 ends) labels →
    IsJobOf size scheme id (parts_from document 0 ends) (record { id = id; count = length ends; labels = labels })
makes_job size scheme id document ends labels least most made = grind (arith, length-parts_from)

pub returns : goal.returns
returns g c =
    rw c.new.ensures (makes_job c.args.size c.args.scheme c.args.id c.args.document.now c.args.ends.now
    c.in_ok-labels.labels.items c.requires.least c.requires.most c.in_ok-labels.ensures)
