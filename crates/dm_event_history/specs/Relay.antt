-- A relay: its printers and desks as they run, fail and stop, and what left them.
use Rattle.std.specs.Prelude.{Option, Some, None, ℕ, ◌+◌, List, [], ◌∷◌, ◌++◌, map, slice_set}
use Rattle.std.specs.FinMap as finite
use Rattle.dm_finder_frame.specs.Frame.{GridView}
use Rattle.dm_append_label.specs.Labels.{PageView}
use Rattle.dm_print_ledger.specs.{declared.range.Range.Range, Ledger.LedgerView, Ledger.TicketView, Verdicts.opening}
use Rattle.dm_assembly_desk.specs.Documents.{Pages, Documents}
use Rattle.dm_size.specs.declared.size.Size.{Size}
use Rattle.dm_encodation.specs.declared.scheme.Scheme.{Scheme}

-- A printer or desk with content C. If it runs, it shows what its store holds. If a save failed, it shows what it
-- showed before, and its store holds either that or the new content. If it is down, it shows nothing.
pub data Actor (C : Type 0) : Type 0 where
  Running : C → Actor C
  Failed : C → C → Actor C
  Down : C → Actor C

abbrev pub stored_of : {C : Type 0} → Actor C → C
stored_of (Running held) = held
stored_of (Failed shown stored) = stored
stored_of (Down stored) = stored

abbrev pub content_shown : {C : Type 0} → Actor C → Option C
content_shown (Running held) = Some held
content_shown (Failed shown stored) = Some shown
content_shown (Down stored) = None

-- this holds of all that it shows and stores
abbrev pub HasAll : {C : Type 0} → (C → Type 0) → Actor C → Type 0
HasAll Q (Running held) = Q held
HasAll Q (Failed shown stored) = Q shown × Q stored
HasAll Q (Down stored) = Q stored

-- a desk, and how many documents it has room for
pub record Desk : Type 0 where
  pub capacity : ℕ
  pub actor : Actor Documents

-- a document, and how it was cut: the size and the encodation of its labels, and its parts
pub record CutDocument : Type 0 where
  pub bytes : List ℕ
  pub size : Size
  pub scheme : Scheme
  pub parts : List (List ℕ)

-- a label that left: its page, the document that it was cut from, and its grid
pub record Label : Type 0 where
  pub page : PageView
  pub cut : CutDocument
  pub grid : GridView

-- an export that left: the pages that its desk held of a document
pub record Export : Type 0 where
  pub id : ℕ
  pub pages : Pages

-- where IDs went: one was used by a print; those of a ticket went to the printer that took it; those of a range were
-- lost, since their ticket was saved as given and did not leave
pub data Move : Type 0 where
  Used : ℕ → Move
  Took : ℕ → Move
  Lost : Range → Move

-- what leaves by a call, and the IDs that it moves
pub record Goods : Type 0 where
  pub labels : List Label
  pub tickets : List TicketView
  pub exports : List Export
  pub moves : List Move

abbrev pub no_goods : Goods
no_goods = record { labels = []; tickets = []; exports = []; moves = [] }

-- the printers and desks, by their numbers; and what left and which IDs moved, in order
pub record Relay : Type 0 where
  pub printers : List (Actor LedgerView)
  pub desks : List Desk
  pub labels : List Label
  pub tickets : List TicketView
  pub exports : List Export
  pub moves : List Move

-- the relay in which this printer or desk has changed, and these goods left
abbrev pub with_printer : Relay → ℕ → Actor LedgerView → Goods → Relay
with_printer relay printer actor goods = record {
  printers = slice_set relay.printers printer actor;
  desks = relay.desks;
  labels = relay.labels ++ goods.labels;
  tickets = relay.tickets ++ goods.tickets;
  exports = relay.exports ++ goods.exports;
  moves = relay.moves ++ goods.moves;
}

abbrev pub with_desk : Relay → ℕ → Desk → Goods → Relay
with_desk relay number desk goods = record {
  printers = relay.printers;
  desks = slice_set relay.desks number desk;
  labels = relay.labels ++ goods.labels;
  tickets = relay.tickets ++ goods.tickets;
  exports = relay.exports ++ goods.exports;
  moves = relay.moves ++ goods.moves;
}

-- printers with these unused ranges, numbered from `number` on
abbrev pub fresh_from : ℕ → List Range → List (Actor LedgerView)
fresh_from number [] = []
fresh_from number (range ∷ ranges) = Running (opening number range) ∷ fresh_from (number + 1) ranges

abbrev pub empty_desk : ℕ → Desk
empty_desk capacity = record { capacity = capacity; actor = Running finite.empty }

-- the relay that a run begins with
abbrev pub start : List Range → List ℕ → Relay
start ranges capacities = record {
  printers = fresh_from 0 ranges;
  desks = map empty_desk capacities;
  labels = [];
  tickets = [];
  exports = [];
  moves = [];
}
