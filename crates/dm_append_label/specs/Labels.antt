-- Pages, and the labels that carry them: IDs and heads (ISO/IEC 16022:2006, 5.6), and parts.
use Rattle.std.specs.Prelude.{ℕ, ◌+◌, ◌/◌, ◌%◌, ◌≤◌, List, [], ◌∷◌, ◌-◌, ◌*◌, ◌<◌, Bool, Result, Ok, Err, ◌||◌, nat_lt, ◌==◌, if◌then◌else◌, ◌≡◌, ◌⊎◌, take, drop, length, slice_range}
use Rattle.std.specs.List.{concat}
use Rattle.dm_append_label.specs.declared.fault.LabelFault.{LabelFault}
use Rattle.dm_size.specs.{declared.size.Size.Size, Sizes.data_words}
use Rattle.dm_check_blocks.specs.Blocks.{IsSymbol}
use Rattle.dm_encodation.specs.{declared.scheme.Scheme.Scheme, Grammar.ReadsOnly}
use Rattle.dm_encodation.specs.Written.{filled, need_of, IsGreatestPrefix}
use Rattle.dm_finder_frame.specs.Frame.{GridView}
use Rattle.dm_symbol.specs.Correction.{DrawsSymbol, data_of, grid_of_words}
use Rattle.dm_append_label.specs.declared.fault.LabelFault.TheVariants as faults

-- the two codewords of an ID number
abbrev pub id_words : ℕ → List ℕ
id_words id = (id / 254 + 1) ∷ (id % 254 + 1) ∷ []

-- a codeword that an ID may have
abbrev pub IsIdWord : ℕ → Type 0
IsIdWord word = (1 ≤ word) × (word ≤ 254)

-- a page as contracts see it: page m of n of the document of this ID
pub record PageView : Type 0 where
  pub id : ℕ
  pub m : ℕ
  pub n : ℕ
  pub bytes : List ℕ

-- ---- The head of a label: Structured Append (ISO/IEC 16022:2006, 5.6). Its first four data codewords are 233, the
-- sequence indicator, with m - 1 in its high four bits and 17 - n in its low four for label m of n, and the two
-- codewords of the ID.

-- what a head says: label m of n of the document of an ID
pub record HeadView : Type 0 where
  pub m : ℕ
  pub n : ℕ
  pub id : ℕ

pub record IsHead (h : HeadView) : Type 0 where
  pub id_fits : h.id < 64516
  pub least : 2 ≤ h.n
  pub most : h.n ≤ 16
  pub first : 1 ≤ h.m
  pub last : h.m ≤ h.n

-- the head of a page's label
abbrev pub head_of : PageView → HeadView
head_of page = record { m = page.m; n = page.n; id = page.id }

-- the codewords of a head
abbrev pub head_words : HeadView → List ℕ
head_words h = 233 ∷ (16 * (h.m - 1) + (17 - h.n)) ∷ id_words h.id

-- a codeword that no ID has
abbrev pub is_no_id_word : ℕ → Bool
is_no_id_word word = nat_lt word 1 || nat_lt 254 word

-- The head that a sequence indicator and two codewords spell, or the first fault: an indicator of more than 16 labels
-- or of a label after the last, and codewords that no ID has.
abbrev pub head_from : ℕ → ℕ → ℕ → Result HeadView LabelFault
head_from indicator a b =
    let m = indicator / 16 + 1 in
    let n = 17 - indicator % 16 in
    if nat_lt 16 n || nat_lt n m then Err (faults.Sequence indicator) else
    if is_no_id_word a || is_no_id_word b then Err faults.FileId else
    Ok (record { m = m; n = n; id = (a - 1) * 254 + (b - 1) })

-- the head that data codewords begin with, or its first fault
unfoldable pub head_at : List ℕ → Result HeadView LabelFault
head_at (word ∷ indicator ∷ a ∷ b ∷ rest) = if word == 233 then head_from indicator a b else Err faults.NotAppended
head_at _ = Err faults.NotAppended

-- The grid carries the page: it is that of a symbol whose data codewords are the page's head and then codewords that
-- read as its bytes, and as no others.
pub record Carries (page : PageView) (grid : GridView) : Type 0 where
  pub words : List ℕ
  pub symbol : IsSymbol grid.size words
  pub drawn : grid ≡ grid_of_words grid.size words
  pub is_head : IsHead (head_of page)
  pub begins : take 4 (data_of grid.size words) ≡ head_words (head_of page)
  pub reads : ReadsOnly 5 (drop 4 (data_of grid.size words)) page.bytes

-- the grid of the one symbol whose data codewords are the page's head, the text of its bytes in an encodation, and pads
abbrev pub Seals : Size → Scheme → PageView → GridView → Type 0
Seals size scheme page grid = DrawsSymbol size
    (filled scheme (head_words (head_of page)) page.bytes (data_words size)) grid

-- a label of this size has room for these bytes after its head
pub record Fits (size : Size) (scheme : Scheme) (bytes : List ℕ) : Type 0 where
  pub head : 4 ≤ data_words size
  pub text : need_of scheme bytes ≤ data_words size - 4

-- a size has no room for the head, or the bytes need more codewords than it leaves
abbrev pub IsTooLong : Size → Scheme → List ℕ → Type 0
IsTooLong size scheme bytes = (data_words size < 4) ⊎ (data_words size - 4 < need_of scheme bytes)

-- ---- Where a document is cut (this project's own rule): each part is the greatest prefix of what remains that a label
-- of this size has room for after its head of four codewords, and empty parts follow until there are two.

-- From the byte `from` on, the parts end there: each is the greatest prefix of what remains that fits, and none is
-- empty.
abbrev pub AreFullEnds : Scheme → ℕ → List ℕ → ℕ → List ℕ → Type 0
AreFullEnds scheme room document from [] = from ≡ length document
AreFullEnds scheme room document from (end ∷ ends) =
    (from < end) × IsGreatestPrefix scheme room (drop from document) (end - from) ×
    AreFullEnds scheme room document end ends

-- empty parts follow until there are two
abbrev pub until_two : ℕ → List ℕ → List ℕ
until_two len [] = len ∷ len ∷ []
until_two len (end ∷ []) = end ∷ len ∷ []
until_two len (first ∷ second ∷ ends) = first ∷ second ∷ ends

-- the ends of the parts of a document
pub record AreEnds (size : Size) (scheme : Scheme) (document ends : List ℕ) : Type 0 where
  pub head : 4 ≤ data_words size
  pub full : List ℕ
  pub full_ends : AreFullEnds scheme (data_words size - 4) document 0 full
  pub few : length full ≤ 16
  pub padded : ends ≡ until_two (length document) full

-- the document has no parts of this size and encodation
abbrev pub HasNoEnds : Size → Scheme → List ℕ → Type 0
HasNoEnds size scheme document = (ends : List ℕ) → AreEnds size scheme document ends → ⊥

-- the parts of a document that end at these places, from a place on
abbrev pub parts_from : List ℕ → ℕ → List ℕ → List (List ℕ)
parts_from document from [] = []
parts_from document from (end ∷ ends) = slice_range document from end ∷ parts_from document end ends

-- the places rise from a place on, within the document, and each part fits a label
abbrev pub PartsFit : Size → Scheme → List ℕ → ℕ → List ℕ → Type 0
PartsFit size scheme document from [] = Unit {0}
PartsFit size scheme document from (end ∷ ends) =
    (from ≤ end) × (end ≤ length document) × Fits size scheme (slice_range document from end)
    × PartsFit size scheme document end ends

-- The parts of a document: part m of n is that of place m - 1.
pub record AreParts (size : Size) (scheme : Scheme) (document : List ℕ) (parts : List (List ℕ)) : Type 0 where
  pub ends : List ℕ
  pub are_ends : AreEnds size scheme document ends
  pub parts_are : parts ≡ parts_from document 0 ends

-- ---- laws

-- The parts of a document are 2 to 16; each fits a label, the last ends where the document does, and joined they are
-- the document.
pub record IsCut (size : Size) (scheme : Scheme) (document ends : List ℕ) : Type 0 where
  pub least : 2 ≤ length ends
  pub most : length ends ≤ 16
  pub fit : PartsFit size scheme document 0 ends
  pub joined : concat (parts_from document 0 ends) ≡ document

-- A document has one list of ends, and so one list of parts.
abbrev pub HasOneCut : Type 0
HasOneCut = (size : Size) (scheme : Scheme) (document one other : List ℕ)
    → AreEnds size scheme document one → AreEnds size scheme document other → one ≡ other

abbrev pub EachCutIs : Type 0
EachCutIs = (size : Size) (scheme : Scheme) (document ends : List ℕ) → AreEnds size scheme document ends →
    IsCut size scheme document ends
