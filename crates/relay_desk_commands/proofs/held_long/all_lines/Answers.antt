use Rattle.std.proofs.Common.{◌≡◌, ◌<◌, ◌∙◌, ℕ, List, ap, get_or, length, sym}
use Rattle.dm_assembly_desk.specs.Documents.{Documents, summaries}
use Rattle.dm_assembly_desk.specs.declared.reply.Held.{Held}
use Rattle.relay_desk_commands.proofs.LongLines.{IsNextLine, next_line}
use Rattle.relay_desk_commands.proofs.held_long.all_lines.Goals as goal

-- the next of the listed documents
next_of : (held : Documents) (listed : List Held) (number : ℕ) (found : Held) → listed ≡ summaries held →
    number < length listed → found ≡ get_or listed number found → IsNextLine held number found.id
next_of held listed number found are within is =
    next_line held number found (rw (sym are) within) (is ∙ ap (λ (l : List Held). get_or l number found) are)

pub unreachable-requires : goal.unreachable-requires
unreachable-requires g c =
    let next = next_of c.args.desk.now.held c.deref-held-items.result.now c.loop-held.held-index c.held-item.result
    (c.deref-held-items.ensures.value ∙ c.in_ok-all.ensures.list) c.loop-held-test.true c.held-item.is in
    cc (c.in_default.is, c.pages.ensures.held, next.there)

pub line_of-requires : goal.line_of-requires
line_of-requires g c = c.pages.ensures.order.entries _ _ (sym c.pages.ensures.held ∙ c.in-Some.is)

pub loop-held-preserved : goal.loop-held-preserved
loop-held-preserved g c =
    let next = next_of c.args.desk.now.held c.deref-held-items.result.now c.loop-held.held-index c.held-item.result
    (c.deref-held-items.ensures.value ∙ c.in_ok-all.ensures.list) c.loop-held-test.true c.held-item.is in
    rw (next.more, ← c.loop-held.invariant) (rw (c.in_ok-push_str.ensures.bytes, c.as_str.ensures.value, c.in_ok-line.ensures) (cc (c.in-Some.is, c.pages.ensures.held, next.there)))
