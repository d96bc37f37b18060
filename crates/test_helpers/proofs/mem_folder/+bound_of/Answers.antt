use Rattle.std.proofs.Common.{arith}
use Rattle.dm_disk.specs.Disk.{key_path}
use Rattle.test_helpers.proofs.Named.{first_and_rest, none_at, none_from}
use Rattle.test_helpers.proofs.mem_folder.+bound_of.Goals as goal

pub returns-in-Wrote-clause-none : goal.returns-in-Wrote-clause-none
returns-in-Wrote-clause-none g t c = λ folder key lt le.
    let none = c.bound_of.ensures.none folder key lt (omega (arith, c.max.ensures, le)) in
    let apart = c.after_key.ensures.none folder key lt (omega (arith, c.max.ensures, le)) in
    rw (first_and_rest c.args.calls.now c.call-item.result c.in-len1-up.len_at_least c.call-item.is, c.in-Wrote.is)
    (none_at _ (key_path folder key) _ _ (rw c.as_str.ensures.value at apart) none)

pub returns-in-Renamed-clause-none : goal.returns-in-Renamed-clause-none
returns-in-Renamed-clause-none g t c = λ folder key lt le.
    let none = c.bound_of-in-Renamed.ensures.none folder key lt (omega (arith, c.max-in-Renamed.ensures, le)) in
    let apart = c.after_key-in-Renamed.ensures.none folder key lt (omega (arith, c.max-in-Renamed.ensures, le)) in
    rw (first_and_rest c.args.calls.now c.call-item.result c.in-len1-up.len_at_least c.call-item.is, c.in-Renamed.is)
    (none_at _ (key_path folder key) _ _ (rw c.as_str-in-Renamed.ensures.value at apart) (none_from _ _ none))
