-- Where an ID is, by the machine's printers and tickets.
use Rattle.std.proofs.Common.{◌≡◌, ◌≢◌, ◌+◌, ◌<◌, ◌≤◌, ◌++◌, inl, inr, Bool, false, true, ℕ, zero, suc, List, [], ◌∷◌, None, Option, Some, Ok, slice_get, slice_index_or, slice_set, refl, sym, ap, subst, ◌∙◌, append_assoc, append-nil, arith}
use Rattle.std.specs.{Prelude.AllPairs, Prelude.Decides, Prelude.IsSomeAnd, Prelude.nat_le, Prelude.if◌then◌else◌, Str.bytes_eq}
use Rattle.std.proofs.lemmas.{Bool.cases_lt, Option.get_or_from_slice_get, Option.slice_get_within, Slice.Eq.bytes_eq-Decides}
use Rattle.std.specs.Option.{option_map_or}
use Rattle.dm_store.specs.Saved.{Saved}
use Rattle.dm_print_ledger.specs.Ledger.{LedgerView, ShownView, TicketView, is_free, is_in, is_old, last_taken, ledger_bytes, read_ledger, shown_of}
use Rattle.dm_print_ledger.proofs.ReadLaws.{ledger_read}
use Rattle.dm_event_history.specs.Relay.{Actor, Move, Relay, stored_of}
use Rattle.dm_event_history.specs.Headline.{IsNoted, RelayIsInOrder, RelayIsSound, is_taken, on_tickets, one_if}
use Rattle.dm_event_history.specs.Headline as counts
use Rattle.dm_event_history.proofs.{Deciding.same_or_other, Headline.each_run_is_sound, Numbers.free_some}
use Rattle.dm_event_history.proofs.Gotten.{set_at}
use Rattle.dm_event_world.proofs.Changing.{at_place}
use Rattle.relay.specs.Program.{path_of}
use Rattle.relay_runs.proofs.Places.{set_there}
use Rattle.relay_program_runs.specs.{Passed.Made, Where.IsThere, Where.NoIdIsInTwoPlaces, Where.HasLedger, Where.IsLeftAt, Where.Where, Where.free_at, Where.left_at, Where.on_ticket, Where.printed}
use Rattle.relay_program_runs.specs.Law.{AreApart, Each, Ran, RunInTurn, StoreAt, TakesGiven, all_made, at_its_path, store_of}
use Rattle.relay_program_runs.proofs.{Effects.HoldsSo, Ranges.ranges_apart, Ranges.ranges_of, Walk.goes_on, Walk.made_next}
use Rattle.relay_program_runs.proofs.Printers.{Stands, begun, other_there}

-- ---- counts

one_free : (x actor : Actor LedgerView) (number : ℕ) → Some x ≡ Some actor → is_free (stored_of actor).free number ≡ true →
    one_if (is_free (stored_of x).free number) ≡ 1
one_free x actor number there free = (
    let same : x ≡ actor = cc (there) in
    ap (λ (a : Actor LedgerView). one_if (is_free (stored_of a).free number)) same ∙ ap one_if free
    )

-- where it is free at two, it is at no fewer
free_twice : (actors : List (Actor LedgerView)) (p q number : ℕ) (one other : Actor LedgerView) → (p ≡ q → ⊥) →
    slice_get actors p ≡ Some one → slice_get actors q ≡ Some other → is_free (stored_of one).free number ≡ true →
    is_free (stored_of other).free number ≡ true → 2 ≤ counts.free_at actors number
free_twice [] p q number one other isnt there here free its = cc (there)
free_twice (x ∷ xs) zero zero number one other isnt there here free its = absurd (isnt refl)
free_twice (x ∷ xs) zero (suc q) number one other isnt there here free its =
    let first = one_free x one number there free in
    let more = free_some xs q number other here its in omega (arith, first, more)
free_twice (x ∷ xs) (suc p) zero number one other isnt there here free its =
    let first = one_free x other number here its in
    let more = free_some xs p number one there free in omega (arith, first, more)
free_twice (x ∷ xs) (suc p) (suc q) number one other isnt there here free its =
    let more = free_twice xs p q number one other (λ e. isnt (ap suc e)) there here free its in omega (arith, more)

-- a ticket in this place with the ID was not taken
record Waits (moves : List Move) (from i : ℕ) (tickets : List TicketView) (ticket : TicketView) (number : ℕ) : Type 0 where
  there : slice_get tickets i ≡ Some ticket
  untaken : is_taken moves (from + i) ≡ false
  has : is_in ticket.range number ≡ true

waits_on : {moves : List Move} {from i : ℕ} {t ticket : TicketView} {ts : List TicketView} {number : ℕ} →
    Waits moves from (suc i) (t ∷ ts) ticket number → Waits moves (from + 1) i ts ticket number
waits_on {moves} {from} {i} w = record {
  there = w.there;
  untaken = (let at : from + 1 + i ≡ from + suc i = omega arith in ap (is_taken moves) at ∙ w.untaken);
  has = w.has;
}

one_waits : (moves : List Move) (from : ℕ) (t ticket : TicketView) (ts : List TicketView) (number : ℕ) →
    Waits moves from 0 (t ∷ ts) ticket number → (if is_taken moves from then 0 else one_if (is_in t.range number)) ≡ 1
one_waits moves from t ticket ts number w =
    let same : t ≡ ticket = (let there = w.there in cc (there)) in
    let at : from ≡ from + 0 = omega arith in
    let untaken : is_taken moves from ≡ false = ap (is_taken moves) at ∙ w.untaken in
    ap (λ (b : Bool). if b then 0 else one_if (is_in t.range number)) untaken
    ∙ ap (λ (u : TicketView). one_if (is_in u.range number)) same ∙ ap one_if w.has

on_some : (moves : List Move) (from i : ℕ) (tickets : List TicketView) (ticket : TicketView) (number : ℕ) →
    Waits moves from i tickets ticket number → 1 ≤ on_tickets moves from tickets number
on_some moves from i [] ticket number w = (let there = w.there in cc (there))
on_some moves from zero (t ∷ ts) ticket number w = (let one = one_waits moves from t ticket ts number w in omega (arith, one))
on_some moves from (suc i) (t ∷ ts) ticket number w =
    let more = on_some moves (from + 1) i ts ticket number (waits_on w) in omega (arith, more)

on_twice : (moves : List Move) (from i j : ℕ) (tickets : List TicketView) (one other : TicketView) (number : ℕ) →
    (i ≡ j → ⊥) → Waits moves from i tickets one number → Waits moves from j tickets other number →
    2 ≤ on_tickets moves from tickets number
on_twice moves from i j [] one other number isnt w v = (let there = w.there in cc (there))
on_twice moves from zero zero (t ∷ ts) one other number isnt w v = absurd (isnt refl)
on_twice moves from zero (suc j) (t ∷ ts) one other number isnt w v =
    let first = one_waits moves from t one ts number w in
    let more = on_some moves (from + 1) j ts other number (waits_on v) in omega (arith, first, more)
on_twice moves from (suc i) zero (t ∷ ts) one other number isnt w v =
    let first = one_waits moves from t other ts number v in
    let more = on_some moves (from + 1) i ts one number (waits_on w) in omega (arith, first, more)
on_twice moves from (suc i) (suc j) (t ∷ ts) one other number isnt w v =
    let more = on_twice moves (from + 1) i j ts one other number (λ e. isnt (ap suc e)) (waits_on w) (waits_on v) in
    omega (arith, more)

-- ---- stores

-- a printer whose ledger says this
record Keeps (relay : Relay) (shown : ShownView) (o : Option ℕ) : Type 0 where
  number : ℕ
  is : o ≡ Some number
  actor : Actor LedgerView
  there : slice_get relay.printers number ≡ Some actor
  says : shown ≡ shown_of (stored_of actor)

kept_in : (relay : Relay) (saved : Saved) (shown : ShownView) (o : Option ℕ) → HoldsSo relay saved o → HasLedger saved shown →
    Keeps relay shown o
kept_in relay saved shown None (honest, none) says = absurd (let some = says.content in cc (none, some))
kept_in relay saved shown (Some number) (actor, there, keeps) says =
    let bytes : says.bytes ≡ ledger_bytes (stored_of actor) = (let its = says.content in let own = keeps.content in cc (its, own)) in
    let read : read_ledger says.bytes ≡ Ok (shown_of (stored_of actor)) =
    ap read_ledger bytes ∙ ledger_read (stored_of actor) keeps.sound in
    record {
      number = number;
      is = refl;
      actor = actor;
      there = there;
      says = (let its = says.reads in cc (its, read));
    }

noted_old : (serial : ℕ) (o : Option ℕ) → IsSomeAnd o (λ last. serial ≤ last) → option_map_or (nat_le serial) o false ≡ true
noted_old serial None is = absurd is
noted_old serial (Some last) is = grind (arith, is)

one_value : {X : Type 0} (x y : X) → Some x ≡ Some y → x ≡ y
one_value x y same = cc (same)

-- a ticket that its receiver has not noted was not taken
module _ (relay : Relay) (order : RelayIsInOrder relay) (it : ℕ) (ticket : TicketView)
    (left : slice_get relay.tickets it ≡ Some ticket) (actor : Actor LedgerView)
    (there : slice_get relay.printers ticket.receiver ≡ Some actor)
    (awaits : is_old (stored_of actor).givers ticket.giver ticket.serial ≡ false) where
  not_noted : IsNoted relay it → ⊥
  not_noted note =
      let same : ticket ≡ note.ticket = one_value ticket note.ticket (sym left ∙ note.there) in
      let at : slice_get relay.printers note.ticket.receiver ≡ Some actor =
      subst (λ (t : TicketView). slice_get relay.printers t.receiver ≡ Some actor) same there in
      let old = noted_old note.ticket.serial (last_taken (stored_of actor).givers note.ticket.giver) (note.noted actor at) in
      let new : is_old (stored_of actor).givers note.ticket.giver note.ticket.serial ≡ false =
      subst (λ (t : TicketView). is_old (stored_of actor).givers t.giver t.serial ≡ false) same awaits in
      true_isnt_false (sym old ∙ new)
    where
      true_isnt_false : true ≡ false → ⊥
      true_isnt_false is = cc (is)

  not_taken : is_taken relay.moves it ≡ false
  not_taken = by (is_taken relay.moves it) refl
    where
      by : (b : Bool) → is_taken relay.moves it ≡ b → is_taken relay.moves it ≡ false
      by false is = is
      by true is = absurd (not_noted (order.noted it is))

-- ---- the stores at the end

-- what a site has once these commands ran
left_by : {A : Type 0} (site : List StoreAt) (rans : List (Ran A)) → RunInTurn store_of site rans → List StoreAt
left_by site [] runs = site
left_by site (ran ∷ later) runs = left_by (slice_set site runs.0 (at_its_path ran ran.after.files.joint)) later runs.2

-- no path is there twice
abbrev Once : List StoreAt → Type 0
Once site = (i j : ℕ) (one other : StoreAt) → slice_get site i ≡ Some one → slice_get site j ≡ Some other →
    one.path ≡ other.path → i ≡ j

once_new : (site : List StoreAt) → AllPairs (λ one other. one.path ≢ other.path) site → Once site
once_new site apart i j one other at there same = elim (cases_lt i j) [
  | inl below ↦ absurd (two_differ i j one other below at there same)
  | inr above ↦ elim (same_or_other i j) [
    | inl is ↦ is
    | inr isnt ↦ absurd (two_differ j i other one (omega (arith, above, isnt)) there at (sym same))
  ]
]
  where
    two_differ : (i j : ℕ) (one other : StoreAt) → i < j → slice_get site i ≡ Some one → slice_get site j ≡ Some other →
        one.path ≢ other.path
    two_differ i j one other below at there =
        subst (λ (a : StoreAt). one.path ≢ a.path) (get_or_from_slice_get site j other one there)
        (subst (λ (a : StoreAt). a.path ≢ (slice_index_or site j one).path) (get_or_from_slice_get site i one one at)
        (apart i j one below (slice_get_within site j other there)))

same_store : (one other : StoreAt) → Some one ≡ Some other → one ≡ other
same_store one other is = cc (is)

module _ {A : Type 0} (site : List StoreAt) (ran : Ran A) (place : ℕ)
    (found : slice_get site place ≡ Some (at_its_path ran ran.before.files.joint)) where
  abbrev after_it : List StoreAt
  after_it = slice_set site place (at_its_path ran ran.after.files.joint)

  -- each path was there before
  was : (i : ℕ) (at : StoreAt) → slice_get after_it i ≡ Some at →
      (old : StoreAt) × (slice_get site i ≡ Some old) × (old.path ≡ at.path)
  was i at there = elim (set_at site place i (at_its_path ran ran.after.files.joint) at there) [
    | inl same ↦ (
      at_its_path ran ran.before.files.joint,
      subst (λ (p : ℕ). slice_get site p ≡ Some (at_its_path ran ran.before.files.joint)) same.0 found,
      ap (λ (a : StoreAt). a.path) same.1,
    )
    | inr other ↦ (at, other.1, refl)
  ]

  still_once : Once site → Once after_it
  still_once once i j one other at there same =
      let a = was i one at in
      let b = was j other there in
      once i j a.0 b.0 a.1 b.1 (a.2 ∙ same ∙ sym b.2)

  -- at its path stands what it left, and elsewhere what stood there
  next_store : Once site → (i : ℕ) (path : List ℕ) (saved : Saved) →
      slice_get site i ≡ Some (record { path = path; saved = saved }) → slice_get after_it i
      ≡ Some (record { path = path; saved = if bytes_eq (path_of ran.command) path then ran.after.files.joint else saved })
  next_store once i path saved there =
      by (bytes_eq (path_of ran.command) path) (bytes_eq-Decides (path_of ran.command) path)
    where
      by : (b : Bool) → Decides b (path_of ran.command ≡ path) →
          slice_get after_it i ≡ Some (record { path = path; saved = if b then ran.after.files.joint else saved })
      by true is =
          let same : path_of ran.command ≡ path = is.0 refl in
          let here : i ≡ place = once i place _ _ there found (sym same) in
          subst (λ (p : ℕ). slice_get after_it p ≡ Some (record { path = path; saved = ran.after.files.joint })) (sym here)
          (set_there site place _ (at_its_path ran ran.after.files.joint) found
          ∙ ap (λ (q : List ℕ). Some (record { path = q; saved = ran.after.files.joint })) same)
      by false isnt =
          let other : place ≡ i → ⊥ = λ here.
          let both = ap (λ (a : StoreAt). a.path) (same_store _ _ (sym found ∙ ap (slice_get site) here ∙ there)) in
          let no : false ≡ true = isnt.1 both in cc (no) in
          other_there site place i (at_its_path ran ran.after.files.joint) (λ here. other (sym here)) ∙ there

left_there : {A : Type 0} (rans : List (Ran A)) (site : List StoreAt) → Once site → (runs : RunInTurn store_of site rans) →
    (place : ℕ) (path : List ℕ) (first : Saved) → slice_get site place ≡ Some (record { path = path; saved = first }) →
    slice_get (left_by site rans runs) place ≡ Some (record { path = path; saved = left_at path first rans })
unfolding left_by
left_there [] site once runs place path first there = there
left_there (ran ∷ later) site once runs place path first there =
    left_there later _ (still_once site ran runs.0 runs.1 once) runs.2 place path _
    (next_store site ran runs.0 runs.1 once place path first there)

module _ (A : Type 0) (made : List Made) (apart : AllPairs AreApart made) where
  -- how all stands at the end
  stands_after : (later earlier : List (Ran A)) (site : List StoreAt) → Stands A (ranges_of made) earlier site →
      made ≡ all_made earlier ++ all_made later → (runs : RunInTurn store_of site later) → Each TakesGiven earlier later →
      Stands A (ranges_of made) (earlier ++ later) (left_by site later runs)
  unfolding left_by
  stands_after [] earlier site s are runs takes =
      subst (λ (rans : List (Ran A)). Stands A (ranges_of made) rans site) (sym (append-nil earlier)) s
  stands_after (ran ∷ later) earlier site s are runs takes =
      subst (λ (rans : List (Ran A)). Stands A (ranges_of made) rans (left_by site (ran ∷ later) runs))
      (append_assoc earlier (ran ∷ []) later)
      (stands_after later (earlier ++ ran ∷ []) _ (goes_on A made apart earlier site s ran later are runs takes.0).stands
      (made_next A made apart earlier ran later are) runs.2 takes.1)

  module _ (rans : List (Ran A)) (site : List StoreAt) (s : Stands A (ranges_of made) rans site) (id : ℕ) where
    -- the store at a path, and in which place of the site
    abbrev Has : List ℕ → Saved → Type 0
    Has path saved = (place : ℕ) × (slice_get site place ≡ Some (record { path = path; saved = saved }))

    sound : RelayIsSound s.relay
    sound = (each_run_is_sound A (ranges_of made) [] s.moments s.relay (ranges_apart made apart) s.run).0

    kept : (place : ℕ) (at : StoreAt) (shown : ShownView) → slice_get site place ≡ Some at → HasLedger at.saved shown →
        (o : Option ℕ) × (slice_get s.numbers place ≡ Some o) × Keeps s.relay shown o
    kept place at shown there says =
        let o = at_place site s.numbers place at s.count there in
        (o.0, o.1, kept_in s.relay at.saved shown o.0 (s.each place at o.0 there o.1) says)

    -- the ledger at this place has it free
    record Free (place : ℕ) : Type 0 where
      number : ℕ
      numbered : slice_get s.numbers place ≡ Some (Some number)
      actor : Actor LedgerView
      there : slice_get s.relay.printers number ≡ Some actor
      free : is_free (stored_of actor).free id ≡ true

    free_of : (path : List ℕ) → (is : IsThere Has rans id (free_at path)) → Free is.1.0
    free_of path (saved, (place, there), (shown, says, free)) =
        let k = kept place (record { path = path; saved = saved }) shown there says in record {
          number = k.2.number;
          numbered = k.1 ∙ ap Some k.2.is;
          actor = k.2.actor;
          there = k.2.there;
          free = ap (λ (v : ShownView). is_free v.free id) (sym k.2.says) ∙ free;
        }

    once_free : (path : List ℕ) → IsThere Has rans id (free_at path) → 1 ≤ counts.free_at s.relay.printers id
    once_free path is =
        let f = free_of path is in free_some s.relay.printers f.number id f.actor f.there f.free

    -- the ticket with this number left, and was not taken
    waits : (ticket : TicketView) → IsThere Has rans id (on_ticket ticket) →
        (it : ℕ) × Waits s.relay.moves 0 it s.relay.tickets ticket id
    waits ticket (gave, has, (path, saved, (place, there), (shown, says, receiver, awaits))) =
        let left = s.gave ticket gave in
        let k = (kept place (record { path = path; saved = saved }) shown there says).2 in
        let number : ticket.receiver ≡ (stored_of k.actor).number =
        one_value ticket.receiver (stored_of k.actor).number (sym receiver ∙ ap (λ (v : ShownView). v.number) k.says) in
        let here : slice_get s.relay.printers ticket.receiver ≡ Some k.actor =
        ap (slice_get s.relay.printers) (number ∙ sound.order.numbers k.number k.actor k.there) ∙ k.there in
        let not_old : is_old (stored_of k.actor).givers ticket.giver ticket.serial ≡ false =
        ap (λ (v : ShownView). is_old v.givers ticket.giver ticket.serial) (sym k.says) ∙ awaits in (
          left.0,
          record {
            there = left.1;
            untaken = (let at : 0 + left.0 ≡ left.0 = omega arith in
                ap (is_taken s.relay.moves) at ∙ not_taken s.relay sound.order left.0 ticket left.1 k.actor here not_old);
            has = has;
          },
        )

    once_on : (ticket : TicketView) → IsThere Has rans id (on_ticket ticket) →
        1 ≤ on_tickets s.relay.moves 0 s.relay.tickets id
    once_on ticket is = (let w = waits ticket is in on_some s.relay.moves 0 w.0 s.relay.tickets ticket id w.1)

    one_place : (one other : Where) → IsThere Has rans id one → IsThere Has rans id other → one ≡ other
    one_place (free_at p) (free_at q) here there =
        let f = free_of p here in let g = free_of q there in
        elim (same_or_other f.number g.number) [
          | inl same ↦
              let place : here.1.0 ≡ there.1.0 =
              s.once here.1.0 there.1.0 g.number (f.numbered ∙ ap (λ (n : ℕ). Some (Some n)) same) g.numbered in
              ap (λ (a : StoreAt). free_at a.path)
              (same_store _ _ (sym here.1.1 ∙ ap (slice_get site) place ∙ there.1.1))
          | inr isnt ↦
              let twice = free_twice s.relay.printers f.number g.number id f.actor g.actor isnt f.there g.there f.free g.free in
              let most = sound.apart id in absurd (omega (arith, twice, most))
        ]
    one_place (on_ticket t) (on_ticket u) here there =
        let w = waits t here in let v = waits u there in
        elim (same_or_other w.0 v.0) [
          | inl same ↦ ap on_ticket (let a = w.1.there in let b = v.1.there in cc (a, b, same))
          | inr isnt ↦
              let twice = on_twice s.relay.moves 0 w.0 v.0 s.relay.tickets t u id isnt w.1 v.1 in
              let most = sound.apart id in absurd (omega (arith, twice, most))
        ]
    one_place printed printed here there = refl
    one_place (free_at p) (on_ticket t) here there =
        let one = once_free p here in let two = once_on t there in let most = sound.apart id in absurd (omega (arith, one, two, most))
    one_place (on_ticket t) (free_at p) here there =
        let one = once_free p there in let two = once_on t here in let most = sound.apart id in absurd (omega (arith, one, two, most))
    one_place (free_at p) printed here there =
        let one = once_free p here in let two = s.used id there in let most = sound.apart id in absurd (omega (arith, one, two, most))
    one_place printed (free_at p) here there =
        let one = once_free p there in let two = s.used id here in let most = sound.apart id in absurd (omega (arith, one, two, most))
    one_place (on_ticket t) printed here there =
        let one = once_on t here in let two = s.used id there in let most = sound.apart id in absurd (omega (arith, one, two, most))
    one_place printed (on_ticket t) here there =
        let one = once_on t there in let two = s.used id here in let most = sound.apart id in absurd (omega (arith, one, two, most))

-- what is so of stores is so of stores that are the same
pub still_there : {A : Type 0} (P Q : List ℕ → Saved → Type 0) → ((path : List ℕ) (saved : Saved) → P path saved → Q path saved) →
    (rans : List (Ran A)) (id : ℕ) (one : Where) → IsThere P rans id one → IsThere Q rans id one
still_there P Q so rans id (free_at path) (saved, has, free) = (saved, so path saved has, free)
still_there P Q so rans id (on_ticket ticket) (gave, has, (path, saved, at, awaits)) =
    (gave, has, (path, saved, so path saved at, awaits))
still_there P Q so rans id printed is = is

pub no_id_is_in_two_places : (A : Type 0) → NoIdIsInTwoPlaces A
no_id_is_in_two_places A site rans asks id one other here there =
    let end : List StoreAt = left_by site rans asks.runs in
    let so : (path : List ℕ) (saved : Saved) → IsLeftAt site rans path saved →
    (place : ℕ) × (slice_get end place ≡ Some (record { path = path; saved = saved })) = λ path saved has. (
      has.0,
      left_there rans site (once_new site asks.is_new.paths) asks.runs has.0 path has.1 has.2
          ∙ ap (λ (s : Saved). Some (record { path = path; saved = s })) (sym has.3),
    ) in
    one_place A (all_made rans) asks.apart rans end
    (stands_after A (all_made rans) asks.apart rans [] site (begun A (ranges_of (all_made rans)) site asks.is_new.blank) refl asks.runs
    asks.tickets) id one other (still_there _ _ so rans id one here) (still_there _ _ so rans id other there)
