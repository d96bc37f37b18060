use Rattle.std.proofs.Common.{◌≡◌, ◌∙◌, ap, arith, sym}
use Rattle.std.proofs.lemmas.Grind.{common_steps}
use Rattle.dm_disk.specs.Disk.{contents_in, found_in, held_below, with_found}
use Rattle.test_helpers.specs.DiskCalls.{disk_after}
use Rattle.test_helpers.proofs.Named.{all_found, one_more}
use Rattle.test_helpers.proofs.mem_folder.MemDiskFolders.keys.Goals as goal

pub loop-key-init : goal.loop-key-init
unfolding held_below
loop-key-init g c = c.new-held.ensures

pub loop-key-preserved : goal.loop-key-preserved
loop-key-preserved g c =
    let seen = rw (c.deref-in-loop-key.ensures.value, c.as_str.ensures.value, c.in_ok-path.ensures.path) at
    c.seen_in-found.ensures in
    one_more _ c.loop-key.key c.loop-key.held _ c.loop-key.invariant
    (c.in_ok-hold.ensures ∙ ap (with_found c.loop-key.held c.loop-key.key) seen)

pub returns-clause-lists : goal.returns-clause-lists
returns-clause-lists g c = λ _.
    let disk = disk_after c.args.self.now.calls.items in
    let found = found_in disk c.args.folder.now in
    let end : c.loop-key.key ≡ c.bound_of-key-end.result = omega arith in
    let bound = rw c.deref.ensures.value at c.bound_of-key-end.ensures in
    let all : contents_in disk c.args.folder.now ≡ c.loop-key.held =
    all_found found c.bound_of-key-end.result bound.bound (λ key lt le. bound.none c.args.folder.now key lt le)
    ∙ sym (c.loop-key.invariant ∙ ap (held_below found) end) in
    rw all (grind (arith, common_steps))
