use Rattle.std.proofs.Common.{◌≡◌, arith}
use Rattle.test_helpers.proofs.Named.{last_four}
use Rattle.test_helpers.proofs.mem_folder.after_key.Goals as goal

pub returns-in-Some-clause-none : goal.returns-in-Some-clause-none
returns-in-Some-clause-none c = λ folder key lt le is.
    let found = c.in-Some.ensures.found key lt
    (rw (c.saturating_sub.ensures, c.as_bytes-bytes.ensures.value, is) (last_four folder key)) in
    let same : c.in-Some.key ≡ key = cc in
    omega (arith, c.from.ensures, le)

pub returns-in-None-clause-none : goal.returns-in-None-clause-none
returns-in-None-clause-none c = λ folder key lt le is.
    let found = c.in-None.ensures.found key lt
    (rw (c.saturating_sub.ensures, c.as_bytes-bytes.ensures.value, is) (last_four folder key)) in cc
