-- The headline: clean desks, where each ID is, and what holds of every run.
use Rattle.std.specs.Prelude.{◌≡◌, ◌+◌, ℕ, Some, List, length, slice_get, IsSome, ◌⊎◌, ◌<◌, ◌≤◌, AllPairs, Bool, true, false, ◌==◌, ◌||◌, if◌then◌else◌, IsSomeAnd, [], ◌∷◌}
use Rattle.std.specs.FinMap as finite
use Rattle.dm_finder_frame.specs.Frame.{flipped}
use Rattle.dm_symbol.specs.Correction.{IsNear}
use Rattle.dm_append_label.specs.Labels.{Carries, AreParts}
use Rattle.dm_assembly_desk.specs.Documents.{Pages, page, Documents, page_at}
use Rattle.dm_event_history.specs.declared.event.Event.{Event, TheVariants.Scan, TheVariants.Ask, TheVariants.Import}
use Rattle.dm_event_history.specs.declared.reply.Reply.{Reply, TheVariants.Document}
use Rattle.dm_event_history.specs.Relay.{Actor, HasAll, stored_of, Relay, Desk, Label, Export, Move, Used, Took, Lost, start}
use Rattle.dm_event_history.specs.Steps.{Step, HasModules, may_save, Moment, IsRun}
use Rattle.dm_print_ledger.specs.declared.range.Range.{Range}
use Rattle.dm_print_ledger.specs.Ledger.{is_free, is_in, last_taken, LedgerView, TicketView}

-- ---- clean

-- a label of page m of the document with this ID left, and the page had these bytes
pub record HasLeft (labels : List Label) (id m : ℕ) (bytes : List ℕ) : Type 0 where
  pub number : ℕ
  pub label : Label
  pub there : slice_get labels number ≡ Some label
  pub id_is : label.page.id ≡ id
  pub m_is : label.page.m ≡ m
  pub bytes_are : label.page.bytes ≡ bytes

-- a label of the document with this ID left, and the document has n pages
pub record HasPages (labels : List Label) (id n : ℕ) : Type 0 where
  pub number : ℕ
  pub label : Label
  pub there : slice_get labels number ≡ Some label
  pub id_is : label.page.id ≡ id
  pub n_is : label.page.n ≡ n

-- at least one page is there
abbrev pub HasSome : Pages → Type 0
HasSome pages = (m : ℕ) × IsSome (page pages m)

-- a label of each held page left, and one of each held document, with its number of pages; each has a page that is held
pub record HaveLeft (labels : List Label) (held : Documents) : Type 0 where
  pub pages : (id m : ℕ) (bytes : List ℕ) → page_at held id m ≡ Some bytes → HasLeft labels id m bytes
  pub counts : (id : ℕ) (pages : Pages) → finite.get held id ≡ Some pages → HasPages labels id (length pages)
  pub some : (id : ℕ) (pages : Pages) → finite.get held id ≡ Some pages → HasSome pages

-- labels left of all that the desk shows and stores
abbrev pub IsCleanActor : List Label → Actor Documents → Type 0
IsCleanActor labels actor = HasAll (HaveLeft labels) actor

abbrev pub IsClean : Relay → ℕ → Type 0
IsClean relay number = (desk : Desk) → slice_get relay.desks number ≡ Some desk → IsCleanActor relay.labels desk.actor

-- labels left of all pages of an export
pub record IsCleanExport (labels : List Label) (export : Export) : Type 0 where
  pub pages : (m : ℕ) (bytes : List ℕ) → page export.pages m ≡ Some bytes → HasLeft labels export.id m bytes
  pub count : HasPages labels export.id (length export.pages)
  pub some : HasSome export.pages

-- ---- what keeps a desk clean

-- a scan is fair if its grid, the label's with these modules flipped, is near the label's
abbrev pub IsFair : Relay → ℕ → List (ℕ × ℕ) → Type 0
IsFair relay number flips = (label : Label) → slice_get relay.labels number ≡ Some label →
    IsNear (flipped label.grid flips) label.grid

-- the event is no unfair scan at this desk, and no import there of an export that is not clean
abbrev pub IsHarmless : {A : Type 0} → Relay → Event A → ℕ → Type 0
IsHarmless relay (Scan desk number flips stop) own = desk ≡ own → IsFair relay number flips
IsHarmless relay (Import desk number stop) own = desk ≡ own → (export : Export) →
    slice_get relay.exports number ≡ Some export → IsCleanExport relay.labels export
IsHarmless relay event own = Unit {0}

-- ---- labels as they were printed

-- the label carries its part of the document that it was cut from, in the size that its print was given
pub record IsPrinted (label : Label) : Type 0 where
  pub are_parts : AreParts label.cut.size label.cut.scheme label.cut.bytes label.cut.parts
  pub place : ℕ
  pub m_is : label.page.m ≡ place + 1
  pub n_is : label.page.n ≡ length label.cut.parts
  pub part : slice_get label.cut.parts place ≡ Some label.page.bytes
  pub size_is : label.grid.size ≡ label.cut.size
  pub carries : Carries label.page label.grid

abbrev pub ArePrinted : List Label → Type 0
ArePrinted labels = (number : ℕ) (label : Label) → slice_get labels number ≡ Some label → IsPrinted label

-- labels of one ID were cut from one document
abbrev pub AreOfOneDocument : List Label → Type 0
AreOfOneDocument labels = (i j : ℕ) (one other : Label) → slice_get labels i ≡ Some one →
    slice_get labels j ≡ Some other → one.page.id ≡ other.page.id → one.cut ≡ other.cut

-- every label of this ID was cut from these bytes, and there is such a label
abbrev pub IsTheDocument : List Label → ℕ → List ℕ → Type 0
IsTheDocument labels id bytes =
    ((number : ℕ) (label : Label) → slice_get labels number ≡ Some label → label.page.id ≡ id → label.cut.bytes ≡ bytes)
    × (number : ℕ) × (label : Label) × (slice_get labels number ≡ Some label) × (label.page.id ≡ id)

-- ---- laws

-- each label that leaves is as it was printed
abbrev pub EachStepPrints : Type 0 → Type 0
EachStepPrints A = (old new : Relay) (event : Event A) (reply : Reply A) → ArePrinted old.labels →
    Step old event reply new → ArePrinted new.labels

-- a step keeps a desk clean, unless it is an unfair scan there, or an import there of an export that is not clean
abbrev pub EachStepKeepsClean : Type 0 → Type 0
EachStepKeepsClean A = (old new : Relay) (event : Event A) (reply : Reply A) (desk : ℕ) → ArePrinted old.labels →
    IsClean old desk → IsHarmless old event desk → Step old event reply new → IsClean new desk

-- what a clean desk gives for an ID is the document that all labels under that ID were cut from
abbrev pub EachCleanDeskGives : Type 0 → Type 0
EachCleanDeskGives A = (old new : Relay) (desk id : ℕ) (bytes : List ℕ) → ArePrinted old.labels →
    AreOfOneDocument old.labels → IsClean old desk → Step {A = A} old (Ask desk id) (Document bytes) new →
    IsTheDocument old.labels id bytes

-- ---- Where an ID, here a number, is: free at a printer, on a ticket that was not taken, used, or lost.

-- one ends before the other begins
abbrev pub IsApart : Range → Range → Type 0
IsApart range other = (range.last < other.first) ⊎ (other.last < range.first)

-- no number is in two of the ranges that printers begin with
abbrev pub AreDisjoint : List Range → Type 0
AreDisjoint ranges = AllPairs IsApart ranges

abbrev pub one_if : Bool → ℕ
one_if true = 1
one_if false = 0

-- at how many printers the number is free, going by what they store
abbrev pub free_at : List (Actor LedgerView) → ℕ → ℕ
free_at [] number = 0
free_at (actor ∷ actors) number = one_if (is_free (stored_of actor).free number) + free_at actors number

-- the ticket with this number was taken
abbrev pub is_taken : List Move → ℕ → Bool
is_taken [] ticket = false
is_taken (Used id ∷ moves) ticket = is_taken moves ticket
is_taken (Took other ∷ moves) ticket = (other == ticket) || is_taken moves ticket
is_taken (Lost range ∷ moves) ticket = is_taken moves ticket

-- on how many untaken tickets the number is; the tickets are numbered from `from` on
abbrev pub on_tickets : List Move → ℕ → List TicketView → ℕ → ℕ
on_tickets moves from [] number = 0
on_tickets moves from (ticket ∷ tickets) number =
    (if is_taken moves from then 0 else one_if (is_in ticket.range number))
    + on_tickets moves (from + 1) tickets number

-- how often the number was used or lost
abbrev pub gone : List Move → ℕ → ℕ
gone [] number = 0
gone (Used id ∷ moves) number = one_if (id == number) + gone moves number
gone (Took ticket ∷ moves) number = gone moves number
gone (Lost range ∷ moves) number = one_if (is_in range number) + gone moves number

-- in how many places the number is
abbrev pub places : Relay → ℕ → ℕ
places relay number =
    free_at relay.printers number + on_tickets relay.moves 0 relay.tickets number + gone relay.moves number

-- in how many of the ranges that printers begin with the number is
abbrev pub opened : List Range → ℕ → ℕ
opened [] number = 0
opened (range ∷ ranges) number = one_if (is_in range number) + opened ranges number

-- the ticket with this number left, and its receiver noted its serial or a greater one
pub record IsNoted (relay : Relay) (number : ℕ) : Type 0 where
  pub ticket : TicketView
  pub there : slice_get relay.tickets number ≡ Some ticket
  pub noted : (actor : Actor LedgerView) → slice_get relay.printers ticket.receiver ≡ Some actor →
      IsSomeAnd (last_taken (stored_of actor).givers ticket.giver) (λ last. ticket.serial ≤ last)

-- each printer has its own number, and each ticket that was taken is noted
pub record RelayIsInOrder (relay : Relay) : Type 0 where
  pub numbers : (printer : ℕ) (actor : Actor LedgerView) → slice_get relay.printers printer ≡ Some actor →
      (stored_of actor).number ≡ printer
  pub noted : (number : ℕ) → is_taken relay.moves number ≡ true → IsNoted relay number

-- ---- laws

-- a step may move numbers, but adds none and loses none
abbrev pub EachStepKeepsNumbers : Type 0 → Type 0
EachStepKeepsNumbers A = (old new : Relay) (event : Event A) (reply : Reply A) → RelayIsInOrder old →
    Step old event reply new → RelayIsInOrder new × ((number : ℕ) → places new number ≡ places old number)

-- no two labels that left have both ID and page in common
abbrev pub AreOnce : List Label → Type 0
AreOnce labels = (i j : ℕ) (one other : Label) → slice_get labels i ≡ Some one → slice_get labels j ≡ Some other →
    one.page.id ≡ other.page.id → one.page.m ≡ other.page.m → i ≡ j

-- What holds of each relay that a run from disjoint ranges reaches: each number is in one place at most, and the ID of
-- each label that left was used.
pub record RelayIsSound (relay : Relay) : Type 0 where
  pub order : RelayIsInOrder relay
  pub apart : (number : ℕ) → places relay number ≤ 1
  pub used : (i : ℕ) (label : Label) → slice_get relay.labels i ≡ Some label → 1 ≤ gone relay.moves label.page.id
  pub one_document : AreOfOneDocument relay.labels
  pub once : AreOnce relay.labels

abbrev pub EachStepIsSound : Type 0 → Type 0
EachStepIsSound A = (old new : Relay) (event : Event A) (reply : Reply A) → RelayIsSound old →
    Step old event reply new → RelayIsSound new

-- ---- The headline, of every run of a relay whose printers begin with disjoint ranges.

-- if the event is a scan of something that is there, it is fair
abbrev pub IsFairEvent : {A : Type 0} → Relay → Event A → Type 0
IsFairEvent relay (Scan desk number flips stop) =
    (desk < length relay.desks) × HasModules relay number flips → IsFair relay number flips
IsFairEvent relay event = Unit {0}

-- each scan that may have saved its page was fair
abbrev pub AreSavedFair : {A : Type 0} → List (Moment A) → Type 0
AreSavedFair [] = Unit {0}
AreSavedFair (moment ∷ earlier) =
    (may_save moment.event moment.reply ≡ true → IsFairEvent moment.before moment.event) × AreSavedFair earlier

-- all desks are clean, and so are the exports that left
pub record AreAllClean (relay : Relay) : Type 0 where
  pub desks : (desk : ℕ) → IsClean relay desk
  pub exports : (number : ℕ) (export : Export) → slice_get relay.exports number ≡ Some export →
      IsCleanExport relay.labels export

-- No ID is ever printed twice: it is used once at most, no label leaves twice, and its labels are of one document.
pub record PrintsOnce (relay : Relay) : Type 0 where
  pub used : (i j id : ℕ) → slice_get relay.moves i ≡ Some (Used id) → slice_get relay.moves j ≡ Some (Used id) → i ≡ j
  pub once : AreOnce relay.labels
  pub one_document : AreOfOneDocument relay.labels

-- what holds at a moment of a run, if these are all labels that leave in the run
pub record IsTrueMoment {A : Type 0} (labels : List Label) (moment : Moment A) (earlier : List (Moment A)) : Type 0 where
  -- whatever document a clean desk gives for an ID is the one document printed under it
  pub given : (desk id : ℕ) (bytes : List ℕ) → moment.event ≡ Ask desk id → moment.reply ≡ Document bytes →
      IsClean moment.before desk → IsTheDocument labels id bytes
  -- all desks are clean as long as each scan that may have saved its page was fair
  pub clean : AreSavedFair earlier → AreAllClean moment.before

abbrev pub AreTrueMoments : {A : Type 0} → List Label → List (Moment A) → Type 0
AreTrueMoments labels [] = Unit {0}
AreTrueMoments labels (moment ∷ earlier) = IsTrueMoment labels moment earlier × AreTrueMoments labels earlier

-- ---- laws

-- what holds of each relay that a run from disjoint ranges reaches
abbrev pub EachRunIsSound : Type 0 → Type 0
EachRunIsSound A = (ranges : List Range) (capacities : List ℕ) (moments : List (Moment A)) (end : Relay) →
    AreDisjoint ranges → IsRun (start ranges capacities) moments end → RelayIsSound end × ArePrinted end.labels

-- The headline: no ID is ever printed twice, and each moment of a run is true.
abbrev pub EachRunIsTrue : Type 0 → Type 0
EachRunIsTrue A = (ranges : List Range) (capacities : List ℕ) (moments : List (Moment A)) (end : Relay) →
    AreDisjoint ranges → IsRun (start ranges capacities) moments end → PrintsOnce end × AreTrueMoments end.labels moments

-- Each ID that a printer began with is in exactly one place, and any other in none.
abbrev pub EachRunKeepsNumbers : Type 0 → Type 0
EachRunKeepsNumbers A = (ranges : List Range) (capacities : List ℕ) (moments : List (Moment A)) (end : Relay) →
    AreDisjoint ranges → IsRun (start ranges capacities) moments end →
    (number : ℕ) → (places end number ≡ opened ranges number) × (opened ranges number ≤ 1)
