use Rattle.relay_world_command.proofs.reply_lines.put_reply.Goals as goal

pub returns-in-Scanned : goal.returns-in-Scanned
returns-in-Scanned g c = rw c.in-Scanned.is (rw c.name.ensures at c.put_accepted.ensures)

pub returns-in-Imported : goal.returns-in-Imported
returns-in-Imported g c = rw c.in-Imported.is (rw c.name-in-Imported.ensures at c.put_imported.ensures)
