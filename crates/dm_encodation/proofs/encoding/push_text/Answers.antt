use Rattle.std.proofs.Common.{arith}
use Rattle.dm_encodation.specs.Written.{text}
use Rattle.dm_encodation.proofs.Counters.{short_base_256}
use Rattle.dm_encodation.proofs.encoding.push_text.Goals as goal

pub push_base_256-requires-clause-short : goal.push_base_256-requires-clause-short
push_base_256-requires-clause-short g c = short_base_256 c.args.bytes.now (rw c.in-Base256.is at c.requires.short)

pub returns-in_ok-push_ascii-in-Ascii : goal.returns-in_ok-push_ascii-in-Ascii
unfolding text
returns-in_ok-push_ascii-in-Ascii g c = grind arith

pub returns-in_ok-push_base_256-in-Base256 : goal.returns-in_ok-push_base_256-in-Base256
unfolding text
returns-in_ok-push_base_256-in-Base256 g c = grind arith

pub returns-in-C40 : goal.returns-in-C40
unfolding text
returns-in-C40 g c = rw c.in-C40.is c.push_run.ensures

pub returns-in-Text : goal.returns-in-Text
unfolding text
returns-in-Text g c = rw c.in-Text.is c.push_run-in-Text.ensures
