use Rattle.relay_shared.proofs.Writing.{puts}
use Rattle.relay_shared.proofs.lines.put_imported.Goals as goal

pub returns : goal.returns
returns g c =
    rw (
      c.id_digits-id.ensures,
      c.as_bytes-n.ensures.value,
      c.format.ensures.text,
      c.word_digits-added.ensures,
      c.as_bytes.ensures.value,
    ) at (puts _ c.args.output.now c.put_all.new.self c.put_all.result c.put_all.ensures.written c.put_all.ensures.part
    c.put_all.ensures.failed)
