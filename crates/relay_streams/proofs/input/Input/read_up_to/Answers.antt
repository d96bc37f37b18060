use Rattle.std.proofs.Common.{◌≡◌, ◌∙◌, length, sym, ap, take}
use Rattle.std.proofs.lemmas.List.{take_at}
use Rattle.relay_streams.proofs.Taken.{filled_first}
use Rattle.relay_streams.proofs.input.Input.read_up_to.Goals as goal

pub returns-clause-read : goal.returns-clause-read
returns-clause-read g c =
    let buffer = c.fill.new.buffer in
    let count = c.in_ok-count.count in
    let held : length buffer ≡ c.resize.new.self.len = c.fill.auto.buffer ∙ c.as_mut_slice.ensures.len in
    let long : length buffer ≡ c.args.limit = held ∙ c.in_ok-resize.ensures.len in
    let whole : c.truncate.new.self.items ≡ take count buffer
    = c.truncate.ensures.items ∙ ap (take count) (take_at buffer _ c.resize.new.self.len held) in
    record {
      taken = rw whole (rw (sym long) (filled_first _ _ buffer count c.in_ok-count.ensures.filled));
      whole = c.in_ok-count.ensures.kept;
    }
