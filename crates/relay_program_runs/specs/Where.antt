-- Where an ID is: free at one ledger, on one ticket that waits to be taken, or printed.
use Rattle.std.specs.Prelude.{◌≡◌, ◌∷◌, ℕ, List, [], Ok, Some, IsSomeAnd, slice_get, false, true, if◌then◌else◌}
use Rattle.std.specs.Str.{bytes_eq}
use Rattle.dm_store.specs.Saved.{Saved}
use Rattle.dm_print_ledger.specs.Ledger.{ShownView, TicketView, is_free, is_in, is_old, read_ledger}
use Rattle.relay.specs.{Places.PlacesView, Program.path_of}
use Rattle.relay_program_runs.specs.Law.{MeetsPremises, Ran, SomeRan, StoreAt, passed, store_of}
use Rattle.relay_program_runs.specs.Lines.{IsNamedBy, LineRan, LinesAsk, all_commands}

-- the store at a path once these commands ran, if this one was there before
abbrev pub left_at : {A : Type 0} → List ℕ → Saved → List (Ran A) → Saved
left_at path saved [] = saved
left_at path saved (ran ∷ later) =
    left_at path (if bytes_eq (path_of ran.command) path then ran.after.files.joint else saved) later

-- the stores of a site, by their paths, once they ran
abbrev pub IsLeftAt : {A : Type 0} → List StoreAt → List (Ran A) → List ℕ → Saved → Type 0
IsLeftAt site rans path saved = (place : ℕ) × (first : Saved)
    × (slice_get site place ≡ Some (record { path = path; saved = first })) × (saved ≡ left_at path first rans)

-- and those at the paths that the commands of lines name
abbrev pub IsLeftByLinesAt : {A : Type 0} → PlacesView → List (LineRan A) → List ℕ → Saved → Type 0
IsLeftByLinesAt places lines path saved =
    IsNamedBy lines path × (saved ≡ left_at path (store_of (places path)) (all_commands lines))

-- the store has bytes that are read as a ledger, and this is what it says
pub record HasLedger (saved : Saved) (shown : ShownView) : Type 0 where
  pub bytes : List ℕ
  pub content : saved.content ≡ Some bytes
  pub reads : read_ledger bytes ≡ Ok shown

-- the store holds a ledger to which the ID is free
abbrev pub HasFree : ℕ → Saved → Type 0
HasFree id saved = (shown : ShownView) × HasLedger saved shown × (is_free shown.free id ≡ true)

-- the store holds the ledger of the ticket's receiver, which has taken neither it nor a later one of that giver
abbrev pub AwaitsTicket : TicketView → Saved → Type 0
AwaitsTicket ticket saved = (shown : ShownView) × HasLedger saved shown × (shown.number ≡ Some ticket.receiver)
    × (is_old shown.givers ticket.giver ticket.serial ≡ false)

-- where an ID may be
pub data Where : Type 0 where
  free_at : List ℕ → Where
  on_ticket : TicketView → Where
  printed : Where

-- `Has` says which store is at a path. The one at a path has the ID free; one of these commands gave a ticket with the ID,
-- which a store awaits; or one printed it.
abbrev pub IsThere : {A : Type 0} → (List ℕ → Saved → Type 0) → List (Ran A) → ℕ → Where → Type 0
IsThere Has rans id (free_at path) = (saved : Saved) × Has path saved × HasFree id saved
IsThere Has rans id (on_ticket ticket) = SomeRan (λ ran. (passed ran).given ≡ Some ticket) rans
    × (is_in ticket.range id ≡ true)
    × ((path : List ℕ) × (saved : Saved) × Has path saved × AwaitsTicket ticket saved)
IsThere Has rans id printed = SomeRan (λ ran. IsSomeAnd (passed ran).printed (λ job. job.id ≡ id)) rans

-- Once commands ran, no ID is in two of these places. Since the first of them are a list too, this holds at each moment.
-- An ID may be in none: it is no ledger's; its ticket's receiver has no ledger yet; or it was lost, to a save that failed,
-- to a ticket that can't be taken any more, or with a ledger.
abbrev pub NoIdIsInTwoPlaces : Type 0 → Type 0
NoIdIsInTwoPlaces A = (site : List StoreAt) (rans : List (Ran A)) → MeetsPremises site rans → (id : ℕ) (one other : Where) →
    IsThere (IsLeftAt site rans) rans id one → IsThere (IsLeftAt site rans) rans id other → one ≡ other

-- The same of lines.
abbrev pub NoIdOfLinesIsInTwoPlaces : Type 0 → Type 0
NoIdOfLinesIsInTwoPlaces A = (lines : List (LineRan A)) (ask : LinesAsk lines) (id : ℕ) (one other : Where) →
    IsThere (IsLeftByLinesAt ask.places lines) (all_commands lines) id one →
    IsThere (IsLeftByLinesAt ask.places lines) (all_commands lines) id other → one ≡ other
