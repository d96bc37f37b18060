use Rattle.relay_shared.proofs.Writing.{puts}
use Rattle.relay_shared.proofs.cure.put_image_note.Goals as goal

pub returns-in-Some : goal.returns-in-Some
returns-in-Some g c =
    let put = c.put_all in
    let note = puts _ c.args.errors.now put.new.self put.result put.ensures.written put.ensures.part put.ensures.failed in
    let is = rw (c.id_digits-id.ensures, c.as_bytes-number.ensures.value, c.format.ensures.text) at note in
    rw c.in-Some.is (put.result, rw (c.as_bytes-name.ensures.value, c.as_bytes-ending.ensures.value) at is)

pub returns-in-None : goal.returns-in-None
returns-in-None g c =
    let put = c.put_all-in-None in
    let note = puts _ c.args.errors.now put.new.self put.result put.ensures.written put.ensures.part put.ensures.failed in
    let is = rw (c.as_bytes-number.ensures.value, c.format.ensures.text) at note in
    rw c.in-None.is (put.result, rw (c.as_bytes-name.ensures.value, c.as_bytes-ending.ensures.value) at is)
