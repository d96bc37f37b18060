use Rattle.std.proofs.Common.{◌≡◌, ◌∙◌, ℕ, List, [], Option, Some, false, inl, inr, refl, sym}
use Rattle.std.specs.Io.KnownBytes.{Appends}
use Rattle.std.proofs.lemmas.Bool.{false≢true}
use Rattle.dm_store.specs.Saved.{SavedSet}
use Rattle.relay_streams.specs.Streams.{OutputView}
use Rattle.relay_desk_commands.specs.Desks.{Says, SeenJoint, TellsHeld.told, TellsHeld.no_memory}
use Rattle.relay_desk_commands.specs.inner.Gathered.{GathersHeld, whole, cut_off}
use Rattle.relay_desk_commands.proofs.held.put_gathered.Goals as goal

-- what was appended to nothing is all
all_of : (items text : List ℕ) (contents : Option (List ℕ)) → Some items ≡ contents → Appends (Some []) contents text →
    items ≡ text
all_of items text contents is appends = rw (sym is) at appends

-- if memory wasn't refused, the text that was gathered is the one to be said
said : {set : SavedSet} {joint : SeenJoint} {id : Option ℕ} {empty out : OutputView} {status : ℕ} (items : List ℕ) →
    empty.contents ≡ Some [] → out.has_failed ≡ false → Some items ≡ out.contents →
    GathersHeld set joint empty status out id → Says set joint id items status
said items none fine is (whole text wanted says (inl (appends, same))) =
    rw (all_of items text _ is (rw none at appends), same) says
said items none fine is (whole text wanted says (inr failed)) = absurd (false≢true (sym fine ∙ failed.0))
said items none fine is (cut_off failed) = absurd (false≢true (sym fine ∙ failed))

pub returns-then-has_failed : goal.returns-then-has_failed
returns-then-has_failed g c = λ set joint id empty none gathers. no_memory (rw c.name.ensures at c.refuse.ensures)

pub returns-in-Ok : goal.returns-in-Ok
returns-in-Ok g c = λ set joint id empty none gathers.
    let fine = sym c.has_failed.ensures ∙ c.if-has_failed.false in
    told _ _ (said c.into_writer.result.items none fine c.into_writer.ensures gathers)
    (inl (rw c.as_slice.ensures.value at c.in-Ok.ensures.written, refl))

pub returns : goal.returns
returns g c = λ set joint id empty none gathers.
    let fine = sym c.has_failed.ensures ∙ c.if-has_failed.false in
    told _ _ (said c.into_writer.result.items none fine c.into_writer.ensures gathers)
    (inr (c.in-Err.ensures.failed, rw c.as_slice.ensures.value at c.put.ensures.part, refl))
