use Rattle.std.proofs.Common.{◌≡◌, Bool, true, false, arith, rules, subst, sym, ◌∙◌, ap, inl, inr, refl, ℕ, zero, suc, List, Option, []}
use Rattle.std.specs.Prelude.{max}
use Rattle.std.specs.Io.KnownBytes.{Keeps}
use Rattle.std.proofs.KnownBytes.{Appends-nil}
use Rattle.relay_buffers.specs.Buffers.{IsPartOut}
use Rattle.relay_streams.specs.Streams.{OutputView}
use Rattle.relay_shared.specs.Command.{Tells}
use Rattle.relay.specs.{Program.PutsOut, Program.lets_all_out, Program.says_nothing, Program.says_so}
use Rattle.relay.proofs.standard.let_out.Goals as goal
use Rattle.relay.proofs.standard.let_out.Goals.{then-not-is_all+then-says, else-not-is_all, else-not-is_all-via-then-not-is_all+else-says, else-not-is_all-via-else-not-is_all, then-is_told, else-is_told}

not_both : {b : Bool} → b ≡ true → b ≡ false → ⊥
not_both is isnt = cc (is, isnt)

-- a refusal ends with 1, and 1 is more than 0
still_refused : (line : List ℕ) (old new : OutputView) (ended status : ℕ) → Tells line 1 old ended new → status ≡ max ended 1
    → Tells line 1 old status new
still_refused line old new ended status (inl (out, one)) is = inl (out, is ∙ ap (λ n. max n 1) one)
still_refused line old new ended status (inr (failed, part, one)) is = inr (failed, part, is ∙ ap (λ n. max n 1) one)

-- what was said is not out, so the command can't end well
cut_short : (wrote : Option (List ℕ)) (told : OutputView) (ended status : ℕ) (out errors : Option (List ℕ)) → status ≡ max ended 1
    → IsPartOut wrote out → IsPartOut told.contents errors → PutsOut wrote told ended status out errors
cut_short wrote told zero status out errors is writes tells =
    says_so (record told { has_failed = true }) writes (inr (refl, ([], (_, refl), Appends-nil told.contents), is)) tells
cut_short wrote told (suc n) status out errors is writes tells = says_nothing (λ zero. grind arith) writes (search (arith, is)) tells

pub returns : goal.returns
returns g c =
    let part : IsPartOut c.if-not-is_all.told.contents (g.E.Write.contents c.end-errors.result.0) =
    subst (λ x. IsPartOut x (g.E.Write.contents c.end-errors.result.0)) c.into_writer.ensures c.end-errors.ensures.part in
    let whole : c.end-errors.result.1 ≡ true → Keeps c.if-not-is_all.told.contents (g.E.Write.contents c.end-errors.result.0) =
    λ is. subst (λ x. Keeps x (g.E.Write.contents c.end-errors.result.0)) c.into_writer.ensures (c.end-errors.ensures.all is) in
    elim c.if-is_told.branch [
      | then-is_told t ↦
          elim c.if-not-is_all.branch [
            | then-not-is_all+then-says w ↦
                says_so c.if-not-is_all.told c.end-output.ensures.part (rw w.told-is (rw t.status-is (rw w.status-is w.refuse-status.ensures))) part
            | else-not-is_all w ↦
                elim w.else-not-is_all.branch [
                  | else-not-is_all-via-then-not-is_all+else-says w' ↦
                      says_nothing (λ zero. not_both (c.requires zero) (search rules)) c.end-output.ensures.part (t.status-is ∙ w.status-is) (rw (sym w.told-is) part)
                  | else-not-is_all-via-else-not-is_all w' ↦
                      lets_all_out (c.end-output.ensures.all (search rules)) (t.status-is ∙ w.status-is) (rw (sym w.told-is) part)
                      (λ _. rw (sym w.told-is) (whole t.if-is_told.true))
                ]
          ]
      | else-is_told t ↦
          elim c.if-not-is_all.branch [
            | then-not-is_all+then-says w ↦
                says_so c.if-not-is_all.told c.end-output.ensures.part
                (rw w.told-is (still_refused _ c.args.errors w.refuse-status.new.output w.refuse-status.result c.if-is_told.status
                w.refuse-status.ensures (cc (t.status-is, t.max-status.ensures, w.status-is)))) part
            | else-not-is_all w ↦
                cut_short _ c.args.errors c.args.ended c.if-is_told.status _ _
                (cc (t.status-is, t.max-status.ensures, w.status-is)) c.end-output.ensures.part (rw (sym w.told-is) part)
          ]
    ]
