use Rattle.std.proofs.Common.{rules, arith, ◌≡◌, length, string_bytes, ◌∙◌}
use Rattle.std.proofs.Math.Seq.{take-append_seam}
use Rattle.relay_places.proofs.Paths.{is_other}
use Rattle.relay_places.proofs.mem_places.MemPlacesPlaces.open.Goals as goal

pub returns-clause-others : goal.returns-clause-others
returns-clause-others c = λ other apart.
    let left = c.take.new.kept in
    let whole : c.insert.new.self.len ≡ length left = omega (arith, c.take.auto.kept, c.deref_mut.ensures.len) in
    rw (is_other (string_bytes c.replace-before.new.dest.path) c.args.named.file.now other (search rules) apart)
    (rw whole (rw (take-append_seam left _) (c.take.ensures.others other apart ∙ search rules)))
