-- The two laws, command by command.
use Rattle.std.proofs.Common.{◌≡◌, ◌++◌, ◌<◌, inl, inr, ℕ, List, [], ◌∷◌, None, Option, Some, length, slice_get, slice_set, refl, sym, ap, subst, ◌∙◌, append_assoc}
use Rattle.std.specs.{Prelude.AllPairs, Prelude.IfSome, Prelude.IsTrue, Ordering.nat_cmp}
use Rattle.std.specs.FinMap as finite
use Rattle.std.proofs.lemmas.Option.{slice_get_within}
use Rattle.dm_store.specs.Saved.{Contents}
use Rattle.dm_print_ledger.specs.Ledger.{TicketView}
use Rattle.dm_event_history.specs.Relay.{Relay}
use Rattle.dm_event_history.proofs.Gotten.{get_more, set_at}
use Rattle.relay.specs.Program.{path_of}
use Rattle.relay_program_runs.specs.Law.{AreApart, At, DeliversPrinted, Each, FindsLeft, IsBlank, IsFirstOfItsId, NoIdIsPrintedTwice, Ran, RunInTurn, SomeRan, StoreAt, TakesGiven, TakesPrinted, WhatIsDeliveredWasPrinted, all_made, at_its_path, passed, store_of}
use Rattle.relay_program_runs.specs.{InTurn.WhatRunsInTurnFindsWhatWasLeft, InTurn.set_of, Passed.Made, Passed.made_by}
use Rattle.relay_program_runs.proofs.{Effects.Taken, Lists.at_length, Lists.made_more, Lists.one_before, Lists.one_now}
use Rattle.relay_program_runs.proofs.Printers.{Gave, OneMore, Stands, WasMade, begun, one_more}
use Rattle.relay_program_runs.proofs.Ranges.{range_found, ranges_apart, ranges_of, two_apart}
use Rattle.relay_program_runs.proofs.Desks.{AreClean, KeptAs, clean_begun, clean_more, clean_now, delivers}

-- each step from here: what was made so far, now, and later is all that is made
module _ (A : Type 0) (made : List Made) (apart : AllPairs AreApart made) (earlier : List (Ran A)) (ran : Ran A)
    (later : List (Ran A)) (are : made ≡ all_made earlier ++ all_made (ran ∷ later)) where
  pub made_next : made ≡ all_made (earlier ++ ran ∷ []) ++ all_made later
  made_next = are ∙ sym (append_assoc (all_made earlier) (made_by ran.command ran.before ran.after) (all_made later))
      ∙ ap (λ (ms : List Made). ms ++ all_made later) (sym (made_more earlier ran))

  module _ (one : Made) (is : made_by ran.command ran.before ran.after ≡ one ∷ []) where
    its_place : slice_get made (length (all_made earlier)) ≡ Some one
    its_place =
        let there : slice_get (all_made (earlier ++ ran ∷ [])) (length (all_made earlier)) ≡ Some one =
        cc (made_more earlier ran, is, at_length (all_made earlier) one) in
        cc (made_next, get_more (all_made (earlier ++ ran ∷ [])) (all_made later) (length (all_made earlier)) one there)

    not_before : WasMade (all_made earlier) one.number → ⊥
    not_before (i, other, there, same) =
        let below : i < length (all_made earlier) = slice_get_within (all_made earlier) i other there in
        let at : slice_get made i ≡ Some other =
        cc (are, get_more (all_made earlier) (all_made (ran ∷ later)) i other there) in
        (two_apart made apart i (length (all_made earlier)) other one below at its_place).0 same

    made_apart : (slice_get (ranges_of made) one.number ≡ Some one.range) × (WasMade (all_made earlier) one.number → ⊥)
    made_apart = (range_found made apart (length (all_made earlier)) one its_place, not_before)

-- a ticket that was taken in left
taken : (A : Type 0) (earlier : List (Ran A)) (relay : Relay) (o : Option TicketView) →
    ((ticket : TicketView) → SomeRan (Gave ticket) earlier → (it : ℕ) × (slice_get relay.tickets it ≡ Some ticket)) →
    IfSome o (λ ticket. SomeRan (λ giver. (passed giver).given ≡ Some ticket) earlier) → Taken relay o
taken A earlier relay None gave was = tt
taken A earlier relay (Some ticket) gave was = gave ticket was

module _ (A : Type 0) (made : List Made) (apart : AllPairs AreApart made) where
  module _ (earlier : List (Ran A)) (site : List StoreAt) (s : Stands A (ranges_of made) earlier site) (ran : Ran A)
      (later : List (Ran A)) (are : made ≡ all_made earlier ++ all_made (ran ∷ later))
      (runs : RunInTurn store_of site (ran ∷ later)) (takes : TakesGiven earlier ran) where
    abbrev next : List StoreAt
    next = slice_set site runs.0 (at_its_path ran ran.after.files.joint)

    pub goes_on : OneMore A (ranges_of made) earlier s.relay ran next
    goes_on = one_more A (ranges_of made) earlier site s ran runs.0 runs.1 (ranges_apart made apart)
        (made_apart A made apart earlier ran later are) (taken A earlier s.relay (passed ran).taken s.gave takes)

  each_first : (later earlier : List (Ran A)) (site : List StoreAt) → Stands A (ranges_of made) earlier site →
      made ≡ all_made earlier ++ all_made later → RunInTurn store_of site later → Each TakesGiven earlier later →
      Each IsFirstOfItsId earlier later
  each_first [] earlier site s are runs takes = tt
  each_first (ran ∷ later) earlier site s are runs takes =
      let o = goes_on earlier site s ran later are runs takes.0 in (
        o.first,
        each_first later (earlier ++ ran ∷ []) _ o.stands (made_next A made apart earlier ran later are) runs.2 takes.1,
      )

  module _ (IsAmong : List ℕ → Type 0) where
    module _ (earlier : List (Ran A)) (site : List StoreAt) (c : AreClean A IsAmong (ranges_of made) earlier site)
        (ran : Ran A) (later : List (Ran A)) (are : made ≡ all_made earlier ++ all_made (ran ∷ later))
        (runs : RunInTurn store_of site (ran ∷ later)) (takes : TakesGiven earlier ran)
        (brings : TakesPrinted IsAmong earlier ran) (finds : FindsLeft IsAmong earlier ran) where
      clean_next : AreClean A IsAmong (ranges_of made) (earlier ++ ran ∷ []) (next earlier site c.stands ran later are runs takes)
      clean_next = clean_more A IsAmong (ranges_of made) (ranges_apart made apart) earlier site c ran runs.0 runs.1 brings finds
          (goes_on earlier site c.stands ran later are runs takes)

    each_delivers : (later earlier : List (Ran A)) (site : List StoreAt) →
        AreClean A IsAmong (ranges_of made) earlier site → made ≡ all_made earlier ++ all_made later →
        RunInTurn store_of site later → Each TakesGiven earlier later → Each (TakesPrinted IsAmong) earlier later →
        Each (FindsLeft IsAmong) earlier later → Each (DeliversPrinted IsAmong) earlier later
    each_delivers [] earlier site c are runs takes brings finds = tt
    each_delivers (ran ∷ later) earlier site c are runs takes brings finds = (
      delivers A IsAmong (ranges_of made) (ranges_apart made apart) earlier site c ran runs.0 runs.1 brings.0 finds.0,
      each_delivers later (earlier ++ ran ∷ []) _
          (clean_next earlier site c ran later are runs takes.0 brings.0 finds.0)
          (made_next A made apart earlier ran later are) runs.2 takes.1 brings.1 finds.1,
    )

    -- ---- commands that find the whole set that was left

    -- what is at these paths is honest, and was left there
    WereLeft : List (Ran A) → List (At Contents) → Type 0
    WereLeft earlier sets = (place : ℕ) (at : At Contents) → slice_get sets place ≡ Some at → IsAmong at.path →
        IsTrue at.saved.is_honest × ((key : ℕ) (bytes : List ℕ) → finite.get at.saved.content key ≡ Some bytes →
        SomeRan (KeptAs A IsAmong key bytes) earlier)

    none_left : (sets : List (At Contents)) →
        ((place : ℕ) (at : At Contents) → slice_get sets place ≡ Some at → IsBlank finite.empty at.saved) → WereLeft [] sets
    unfolding WereLeft
    none_left sets blank place at there among =
        let b = blank place at there in
        (b.honest, λ key bytes is. absurd (let none = ap (λ (c : Contents). finite.get c key) b.empty ∙ finite.get-empty nat_cmp key in cc (none, is)))

    module _ (earlier : List (Ran A)) (sets : List (At Contents)) (were : WereLeft earlier sets) (ran : Ran A) (place : ℕ)
        (found : slice_get sets place ≡ Some (at_its_path ran ran.before.files.set)) where
      finds_left : FindsLeft IsAmong earlier ran
      unfolding WereLeft
      finds_left = record {
        honest = λ among. (were place (at_its_path ran ran.before.files.set) found among).0;
        files = λ among. (were place (at_its_path ran ran.before.files.set) found among).1;
      }

      left_next : (IsAmong (path_of ran.command) → IsTrue ran.after.files.set.is_honest) →
          WereLeft (earlier ++ ran ∷ []) (slice_set sets place (at_its_path ran ran.after.files.set))
      unfolding WereLeft
      left_next honest p at there among = elim (set_at sets place p (at_its_path ran ran.after.files.set) at there) [
        | inl same ↦
            let here : IsAmong (path_of ran.command) = subst (λ (a : At Contents). IsAmong a.path) (sym same.1) among in (
              subst (λ (a : At Contents). IsTrue a.saved.is_honest) same.1 (honest here),
              λ key bytes is. one_now _ earlier ran
                  (subst (λ (a : At Contents). finite.get a.saved.content key ≡ Some bytes) (sym same.1) is, here),
            )
        | inr other ↦ (
          (were p at other.1 among).0,
          λ key bytes is. one_before _ earlier ran ((were p at other.1 among).1 key bytes is),
        )
      ]

    each_finds : (later earlier : List (Ran A)) (site : List StoreAt) (sets : List (At Contents)) →
        AreClean A IsAmong (ranges_of made) earlier site → WereLeft earlier sets →
        made ≡ all_made earlier ++ all_made later → RunInTurn store_of site later → RunInTurn set_of sets later →
        Each TakesGiven earlier later → Each (TakesPrinted IsAmong) earlier later → Each (FindsLeft IsAmong) earlier later
    each_finds [] earlier site sets c were are runs sets_run takes brings = tt
    each_finds (ran ∷ later) earlier site sets c were are runs sets_run takes brings =
        let finds = finds_left earlier sets were ran sets_run.0 sets_run.1 in (
          finds,
          each_finds later (earlier ++ ran ∷ []) _ _ (clean_next earlier site c ran later are runs takes.0 brings.0 finds)
              (left_next earlier sets were ran sets_run.0 sets_run.1 (λ among. (clean_now A IsAmong (ranges_of made)
              (ranges_apart made apart) earlier site c ran runs.0 runs.1 brings.0 finds among).set.honest))
              (made_next A made apart earlier ran later are) runs.2 sets_run.2 takes.1 brings.1,
        )

pub no_id_is_printed_twice : (A : Type 0) → NoIdIsPrintedTwice A
no_id_is_printed_twice A site rans asks = each_first A (all_made rans) asks.apart rans [] site
    (begun A (ranges_of (all_made rans)) site asks.is_new.blank) refl asks.runs asks.tickets

pub what_is_delivered_was_printed : (A : Type 0) → WhatIsDeliveredWasPrinted A
what_is_delivered_was_printed A among site rans asks vouched =
    each_delivers A (all_made rans) asks.apart (λ path. IsTrue (among path)) rans [] site
    (clean_begun A (λ path. IsTrue (among path)) (ranges_of (all_made rans)) site asks.is_new.blank) refl asks.runs asks.tickets
    vouched.takes vouched.finds

pub what_runs_in_turn_finds_what_was_left : (A : Type 0) → WhatRunsInTurnFindsWhatWasLeft A
what_runs_in_turn_finds_what_was_left A among site sets rans asks takes new runs = record {
  takes = takes;
  finds = each_finds A (all_made rans) asks.apart (λ path. IsTrue (among path)) rans [] site sets
      (clean_begun A (λ path. IsTrue (among path)) (ranges_of (all_made rans)) site asks.is_new.blank)
      (none_left A (all_made rans) asks.apart (λ path. IsTrue (among path)) sets new.blank) refl asks.runs runs asks.tickets takes;
}
