-- What a grid opens as. Each refusal is the first, in this order, that applies: the finder patterns, the blocks, the
-- head, and the text after it (ISO/IEC 16022:2006, 5.6 and 5.7, Annexes A, E and F; how many modules of the finder
-- patterns may be wrong is this project's own rule).
use Rattle.std.specs.Prelude.{◌≡◌, ℕ, ◌≤◌, List, length, drop, take, Result, Ok, Err, IfOk, codes}
use Rattle.dm_gf256.specs.Field.{differ}
use Rattle.dm_encodation.specs.{Grammar.ReadsOnly, Grammar.StuckOnly, declared.fault.DecodeFault.DecodeFault}
use Rattle.dm_finder_frame.specs.Frame.{wrong_frame_modules, GridView, HasBadFrame}
use Rattle.dm_symbol.specs.Correction.{HasBadBlock, IsReadAs, IsNear, data_of, words_of_grid}
use Rattle.dm_append_label.specs.Labels.{PageView, HeadView, head_of, head_at, Carries}
use Rattle.dm_append_label.specs.declared.{opening.TheConstants.MOST_PAGE_BYTES, fault.LabelFault.LabelFault}
use Rattle.dm_append_label.specs.declared.opening.FoundPage.{FoundPage}
use Rattle.dm_symbol.specs.declared.fault.SymbolFault.{SymbolFault}
use Rattle.dm_encodation.specs.Faults.{decode_fault_name}
use Rattle.dm_append_label.specs.declared.fault.LabelFault.TheVariants.{Border, Block, NotAppended, Sequence, FileId, Content, Memory}
use Rattle.dm_symbol.specs.declared.fault.SymbolFault.TheVariants as symbol_faults

-- ---- data codewords

-- the data codewords have the head of this page, and read as its bytes and as no others
pub record IsPageOf (words : List ℕ) (page : PageView) : Type 0 where
  pub head : head_at words ≡ Ok (head_of page)
  pub reads : ReadsOnly 5 (drop 4 words) page.bytes

-- the data codewords have a head, and the text after it has this fault and no other
pub record HasTextFault (words : List ℕ) (fault : DecodeFault) : Type 0 where
  pub head : HeadView
  pub is_head : head_at words ≡ Ok head
  pub stuck : StuckOnly 5 (drop 4 words) fault

-- what data codewords are read as: the page of a label, or the first fault that applies
abbrev pub ReadsPage : List ℕ → Result PageView LabelFault → Type 0
ReadsPage words (Ok page) = IsPageOf words page
ReadsPage words (Err (Content fault)) = HasTextFault words fault
-- of the other faults a head has but three
ReadsPage words (Err fault) = head_at words ≡ Err fault

-- a page whose bytes are the first of a room
abbrev pub page_at_front : List ℕ → FoundPage → PageView
page_at_front room page = record { id = page.id; m = page.m; n = page.n; bytes = take page.count room }

-- ---- grids

-- the grid is read as codewords that have this page
pub record OpensAs (grid : GridView) (page : PageView) (corrected wrong : ℕ) : Type 0 where
  pub words : List ℕ
  pub read : IsReadAs grid words
  pub is_page : IsPageOf (data_of grid.size words) page
  pub changed : corrected ≡ differ (words_of_grid grid) words
  pub wrong_is : wrong ≡ wrong_frame_modules grid

-- the grid is read as codewords whose head has this fault
abbrev pub HasBadHead : GridView → LabelFault → Type 0
HasBadHead grid fault = (words : List ℕ) × IsReadAs grid words × (head_at (data_of grid.size words) ≡ Err fault)

-- the grid is read as codewords whose text has this fault
abbrev pub HasBadText : GridView → DecodeFault → Type 0
HasBadText grid fault = (words : List ℕ) × IsReadAs grid words × HasTextFault (data_of grid.size words) fault

-- what a grid is opened as; no memory is asked for
abbrev pub Opens : GridView → Result PageView LabelFault → Type 0
Opens grid (Ok page) = (corrected : ℕ) × (wrong : ℕ) × OpensAs grid page corrected wrong
Opens grid (Err (Border wrong)) = HasBadFrame grid wrong
Opens grid (Err (Block block)) = HasBadBlock grid block
Opens grid (Err (Content fault)) = HasBadText grid fault
Opens grid (Err Memory) = ⊥
Opens grid (Err fault) = HasBadHead grid fault

-- a grid near the label of a page opens as that page, or it is refused for its finder patterns
abbrev pub OpensNear : PageView → Result PageView LabelFault → Type 0
OpensNear page (Ok opened) = opened ≡ page
OpensNear page (Err (Border wrong)) = Unit {0}
OpensNear page (Err fault) = ⊥

-- All that is known of what a grid is opened as: exactly what it is, that a grid near a label is that label's page, and
-- that no page has more bytes than the greatest symbol holds.
pub record LabelOpens (grid : GridView) (result : Result PageView LabelFault) : Type 0 where
  pub opens : Opens grid result
  pub near : (label : GridView) (page : PageView) → Carries page label → IsNear grid label → OpensNear page result
  pub short : IfOk result (λ page. length page.bytes ≤ MOST_PAGE_BYTES)

-- why a grid is not opened as a label with memory of its own, which is asked for once the page is found
abbrev pub RefusesLabel : GridView → LabelFault → Type 0
RefusesLabel grid Memory = (page : PageView) × (corrected : ℕ) × (wrong : ℕ) × OpensAs grid page corrected wrong
RefusesLabel grid fault = LabelOpens grid (Err fault)

-- which fault of a label a fault of its symbol is
abbrev pub symbol_fault : SymbolFault → LabelFault
symbol_fault (symbol_faults.Border wrong) = Border wrong
symbol_fault (symbol_faults.Block block) = Block block

-- the names of the faults of labels, as they are printed: each is that of its innermost fault
abbrev pub label_fault_name : LabelFault → List ℕ
label_fault_name (Border wrong) = codes "Border"
label_fault_name (Block block) = codes "Block"
label_fault_name NotAppended = codes "NotAppended"
label_fault_name (Sequence word) = codes "Sequence"
label_fault_name FileId = codes "FileId"
label_fault_name (Content fault) = decode_fault_name fault
label_fault_name Memory = codes "Memory"
