-- What the calls of the library answer: symbols and labels between texts, pages and images in PBM's packed form. Each
-- refusal is the first, in its call's order, that applies; memory alone may be refused in place of any.
use Rattle.std.specs.Prelude.{◌≡◌, ◌≢◌, ℕ, ◌<◌, ◌≤◌, ◌⊎◌, List, ◌++◌, [], length, drop, Result, Ok, Err, ℤ, pos, negsuc}
use Rattle.dm_finder_frame.specs.Frame.{GridView, HasBadFrame}
use Rattle.dm_pbm_io.specs.Image.{HasShape, IsGridInside, p4, Picture, Spells}
use Rattle.dm_size.specs.{declared.size.Size.Size, Sizes.IsSide, Sizes.side, Sizes.all_words, Sizes.data_words}
use Rattle.dm_encodation.specs.declared.{fault.DecodeFault.DecodeFault, scheme.Scheme.TheVariants.Ascii}
use Rattle.dm_append_label.specs.Labels.{Seals, PageView, IsHead, IsTooLong, head_of}
use Rattle.dm_append_label.specs.Opening.{HasBadHead, HasBadText, OpensAs}
use Rattle.dm_append_label.specs.declared.fault.LabelFault.{LabelFault}
use Rattle.dm_encodation.specs.{Grammar.ReadsOnly, Grammar.StuckOnly, Written.filled, Written.need_of}
use Rattle.dm_symbol.specs.Correction.{HasBadBlock, IsReadAs, DrawsSymbol, data_of, grid_of_words}
use Rattle.relay_symbols.specs.declared.refusal.Refusal.{Refusal}
use Rattle.relay_symbols.specs.declared.refusal.Refusal.TheVariants.{NoSide, WordCount, NoPage, TooLong, NoSymbol, TooManyWrong, NoLabel, NoText, NoRoom, NoMemory}

-- the number by which the header names a refusal: -1 to -10
abbrev pub code_of : Refusal → ℤ
code_of NoSide = negsuc 0
code_of WordCount = negsuc 1
code_of NoPage = negsuc 2
code_of TooLong = negsuc 3
code_of NoSymbol = negsuc 4
code_of TooManyWrong = negsuc 5
code_of NoLabel = negsuc 6
code_of NoText = negsuc 7
code_of NoRoom = negsuc 8
code_of NoMemory = negsuc 9

-- What a call answers that may find these bytes or refusals: how many bytes it put at the front of the caller's, which
-- were `old` and are `new`, or the number of a refusal.
pub data AnswersCode (MayFind : Result (List ℕ) Refusal → Type 0) (old new : List ℕ) (answer : ℤ) : Type 0 where
  found : (bytes : List ℕ) → MayFind (Ok bytes) → length bytes ≤ length old → new ≡ bytes ++ drop (length bytes) old
      → answer ≡ pos (length bytes) → AnswersCode MayFind old new answer
  no_room : (bytes : List ℕ) → MayFind (Ok bytes) → length old < length bytes → new ≡ old → answer ≡ code_of NoRoom
      → AnswersCode MayFind old new answer
  refused : (refusal : Refusal) → MayFind (Err refusal) → new ≡ old → answer ≡ code_of refusal
      → AnswersCode MayFind old new answer

-- ---- Drawing. The text of a symbol is in ASCII encodation, with no head (ISO/IEC 16022:2006, 5.2).

-- a size has this side, and this holds of it
abbrev pub OfSide : ℕ → (Size → Type 0) → Type 0
OfSide n P = (size : Size) × (side size ≡ n) × P size

-- the image of the grid of all codewords of a symbol of this side
abbrev pub DrawsWords : ℕ → List ℕ → Result (List ℕ) Refusal → Type 0
DrawsWords n words (Ok image) =
    OfSide n (λ size. (length words ≡ all_words size) × (image ≡ p4 (grid_of_words size words)))
DrawsWords n words (Err NoSide) = IsSide n → ⊥
DrawsWords n words (Err WordCount) = OfSide n (λ size. length words ≢ all_words size)
DrawsWords n words (Err NoMemory) = OfSide n (λ size. length words ≡ all_words size)
DrawsWords n words (Err _) = ⊥

-- the image of the one symbol of this side that carries the text
abbrev pub DrawsText : ℕ → List ℕ → Result (List ℕ) Refusal → Type 0
DrawsText n text (Ok image) = OfSide n (λ size.
    (grid : GridView) × DrawsSymbol size (filled Ascii [] text (data_words size)) grid × (image ≡ p4 grid))
DrawsText n text (Err NoSide) = IsSide n → ⊥
DrawsText n text (Err TooLong) = OfSide n (λ size. data_words size < need_of Ascii text)
DrawsText n text (Err NoMemory) = OfSide n (λ size. need_of Ascii text ≤ data_words size)
DrawsText n text (Err _) = ⊥

-- the image of the label of this side of a page
abbrev pub DrawsLabel : ℕ → PageView → Result (List ℕ) Refusal → Type 0
DrawsLabel n page (Ok image) =
    IsHead (head_of page) × OfSide n (λ size. (grid : GridView) × Seals size Ascii page grid × (image ≡ p4 grid))
DrawsLabel n page (Err NoSide) = IsSide n → ⊥
DrawsLabel n page (Err NoPage) = IsSide n × (IsHead (head_of page) → ⊥)
DrawsLabel n page (Err TooLong) = IsHead (head_of page) × OfSide n (λ size. IsTooLong size Ascii page.bytes)
DrawsLabel n page (Err NoMemory) = Unit {0}
DrawsLabel n page (Err _) = ⊥

-- ---- Reading

-- the bytes begin with the spelling of a picture
pub record BeginsWithPicture (bytes : List ℕ) (shown : Picture) : Type 0 where
  pub taken : List ℕ
  pub rest : List ℕ
  pub begins : bytes ≡ taken ++ rest
  pub spelled : Spells taken shown

-- the bytes begin with a picture inside whose quiet zone the grid stands
pub record ShowsGrid (bytes : List ℕ) (grid : GridView) : Type 0 where
  pub shown : Picture
  pub picture : BeginsWithPicture bytes shown
  pub shape : HasShape shown
  pub inside : IsGridInside shown grid

-- the bytes begin with the image of a grid of which this holds
abbrev pub OfImage : List ℕ → (GridView → Type 0) → Type 0
OfImage bytes P = (grid : GridView) × ShowsGrid bytes grid × P grid

-- the bytes begin with the image of no grid
abbrev pub ShowsNone : List ℕ → Type 0
ShowsNone bytes = (grid : GridView) → ShowsGrid bytes grid → ⊥

-- more modules of the finder patterns, or more codewords of a block, are wrong than may be
abbrev pub IsTooWrong : GridView → Type 0
IsTooWrong grid = ((wrong : ℕ) × HasBadFrame grid wrong) ⊎ ((block : ℕ) × HasBadBlock grid block)

-- the text that the codewords of the symbol, corrected, read as
abbrev pub ReadsText : List ℕ → Result (List ℕ) Refusal → Type 0
ReadsText bytes (Ok text) = OfImage bytes (λ grid.
    (words : List ℕ) × IsReadAs grid words × ReadsOnly 1 (data_of grid.size words) text)
ReadsText bytes (Err NoSymbol) = ShowsNone bytes
ReadsText bytes (Err TooManyWrong) = OfImage bytes IsTooWrong
ReadsText bytes (Err NoText) = OfImage bytes (λ grid.
    (words : List ℕ) × IsReadAs grid words × (fault : DecodeFault) × StuckOnly 1 (data_of grid.size words) fault)
ReadsText bytes (Err NoMemory) = Unit {0}
ReadsText bytes (Err _) = ⊥

-- the bytes of the page that the symbol opens as
abbrev pub BeginsWithPage : List ℕ → Result (List ℕ) Refusal → Type 0
BeginsWithPage bytes (Ok text) = OfImage bytes (λ grid.
    (page : PageView) × (corrected : ℕ) × (wrong : ℕ) × OpensAs grid page corrected wrong × (text ≡ page.bytes))
BeginsWithPage bytes (Err NoSymbol) = ShowsNone bytes
BeginsWithPage bytes (Err TooManyWrong) = OfImage bytes IsTooWrong
BeginsWithPage bytes (Err NoLabel) = OfImage bytes (λ grid. (fault : LabelFault) × HasBadHead grid fault)
BeginsWithPage bytes (Err NoText) = OfImage bytes (λ grid. (fault : DecodeFault) × HasBadText grid fault)
BeginsWithPage bytes (Err NoMemory) = Unit {0}
BeginsWithPage bytes (Err _) = ⊥
