use Rattle.std.proofs.Common.{◌≡◌, refl, sym, ap, subst, ◌∙◌, ℕ, List, Some, false, []}
use Rattle.relay_streams.specs.Streams.{OutputView}
use Rattle.relay_shared.specs.Command.{StreamsView}
use Rattle.relay_desk_commands.specs.Desks.{desk_at}
use Rattle.relay.specs.Program.{Does}
use Rattle.relay_program_runs.specs.Worked.{streams_of_input}
use Rattle.relay_program_runs.proofs.worked.done_within.Goals as goal

pub returns : goal.returns
returns g c =
    let empty : (items : List ℕ) → items ≡ [] → (view : OutputView) → view ≡ record { contents = Some items; has_failed = false } →
    view ≡ record { contents = Some []; has_failed = false } =
    λ items none view is. is ∙ ap (λ (xs : List ℕ). record { contents = Some xs; has_failed = false }) none in
    let streams : c.new-streams.result ≡ streams_of_input c.args.input.now = λ i. record {
      input = c.new-streams.ensures.input i;
      output = empty c.new.result.items c.new.ensures.items c.new-streams.result.output c.new-streams.ensures.output i;
      errors = empty c.new-2.result.items c.new-2.ensures.items c.new-streams.result.errors c.new-streams.ensures.errors i;
    } in
    let seen : StreamsView = record {
      input = c.streams.inside.input;
      output = c.streams.inside.output;
      errors = c.streams.inside.errors;
    } in
    let v : seen ≡ c.do_command-ended.new.streams = c.streams.view_is in
    let out : c.do_command-ended.new.streams.output.contents ≡ Some c.into_writer.result.bytes.items =
    ap (λ (s : StreamsView). s.output.contents) (sym v) ∙ sym c.into_writer.ensures in
    record {
      after = desk_at (g.S.Store.state c.do_command-ended.result.store) (g.T.StoreSet.state c.do_command-ended.result.set)
          c.do_command-ended.new.streams;
      does = subst (λ (s : StreamsView). Does g.row.A.Denot c.args.command [] (desk_at (g.S.Store.state c.args.at.0)
          (g.T.StoreSet.state c.args.at.1) s) c.do_command-ended.result.status (desk_at
          (g.S.Store.state c.do_command-ended.result.store) (g.T.StoreSet.state c.do_command-ended.result.set)
          c.do_command-ended.new.streams)) streams c.do_command-ended.ensures;
      files_are = refl;
      output_is = out;
    }
