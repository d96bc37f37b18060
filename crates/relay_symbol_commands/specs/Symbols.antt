-- What `words`, `draw` and `read` write, and the names of their refusals: each is that of its innermost fault.
use Rattle.std.specs.Prelude.{ℕ, ◌⊎◌, List, ◌≡◌, ◌<◌, ◌≤◌, true, [], ◌∷◌, ◌++◌, Bool, codes, ◌≢◌, false, Err}
use Rattle.dm_append_label.specs.Labels.{PageView, id_words, head_at}
use Rattle.dm_append_label.specs.Opening.{label_fault_name, symbol_fault, OpensAs, ReadsPage}
use Rattle.dm_encodation.specs.{Faults.decode_fault_name, Faults.encode_fault_name, Written.filled, Written.need_of}
use Rattle.dm_encodation.specs.{declared.fault.EncodeFault.TheVariants.TooLong, Grammar.ReadsOnly, Grammar.StuckOnly}
use Rattle.dm_pbm_io.specs.FaultNames.{shape_fault_name}
use Rattle.relay_streams.specs.Streams.{input_fault_name, InputView, OutputView}
use Rattle.relay_streams.specs.declared.fault.InputFault.TheVariants.{Read}
use Rattle.relay_shared.specs.Command.{FileView, refusal_name, ReadsDocument, RefusesOnErrors, RefusesOnOutput, StreamsView, TellsBytes, TellsOnOutput, ImageCommand, Said, TellsInputs, progress_at, refusal_of, NotesChange}
use Rattle.relay_symbol_commands.specs.declared.refusal.{ReadRefusal.ReadRefusal, SymbolRefusal.SymbolRefusal}
use Rattle.relay_symbol_commands.specs.declared.refusal.ReadRefusal.TheVariants.{Shape, Label, Text, Memory}
use Rattle.std.specs.{List.flat_map, Fmt.decimal}
use Rattle.dm_size.specs.{declared.size.Size.Size, Sizes.IsSide, Sizes.side, Sizes.data_words}
use Rattle.dm_check_blocks.specs.Blocks.{Completes}
use Rattle.dm_symbol.specs.Correction.{grid_of_words, CorrectsGrid, IsReadAs, data_of, words_of_grid}
use Rattle.dm_pbm_io.specs.Image.{image_with_quiet_zone, written, HasShape, IsGridInside, Picture}
use Rattle.relay_symbol_commands.specs.declared.document_symbol.Form.{Form}
use Rattle.hex.specs.Hex.{encode_lower}
use Rattle.relay_shared.specs.Lines.{hexadecimal}
use Rattle.dm_gf256.specs.Field.{differ}
use Rattle.dm_encodation.specs.declared.fault.DecodeFault.{DecodeFault}
use Rattle.dm_finder_frame.specs.Frame.{wrong_frame_modules, GridView}
use Rattle.dm_symbol.specs.declared.fault.SymbolFault.{SymbolFault}
use Rattle.dm_append_label.specs.declared.fault.LabelFault.{LabelFault}
use Rattle.dm_append_label.specs.declared.fault.LabelFault.TheVariants.{Block, Border, NotAppended}
use Rattle.dm_pbm_io.specs.declared.fault.ShapeFault.TheVariants as shape_faults
use Rattle.relay_shared.specs.declared.command.Refusal.TheVariants as refusals
use Rattle.relay_symbol_commands.specs.declared.refusal.ReadRefusal.TheVariants as read_refusals
use Rattle.relay_symbol_commands.specs.declared.refusal.SymbolRefusal.TheVariants as symbol_refusals

-- ---- refusals

abbrev pub symbol_refusal_name : SymbolRefusal → List ℕ
symbol_refusal_name symbol_refusals.Side = refusal_name refusals.Side
symbol_refusal_name symbol_refusals.Read = input_fault_name Read
symbol_refusal_name symbol_refusals.TooLong = encode_fault_name TooLong
symbol_refusal_name symbol_refusals.Memory = refusal_name refusals.Memory

abbrev pub read_refusal_name : ReadRefusal → List ℕ
read_refusal_name Shape = shape_fault_name shape_faults.Shape
read_refusal_name (Label fault) = label_fault_name fault
read_refusal_name (Text fault) = decode_fault_name fault
read_refusal_name read_refusals.Memory = refusal_name refusals.Memory

-- ---- words and draw

-- The symbol that carries a document, and when there is none; and what `words` and `draw` write of it.

-- these codewords are those of the one symbol of this form that carries the document
pub record CarriesDocument (form : Form) (document : List ℕ) (size : Size) (words : List ℕ) : Type 0 where
  pub is_side : side size ≡ form.side
  pub fits : need_of form.scheme document ≤ data_words size
  pub completed : Completes size (filled form.scheme [] document (data_words size)) words

-- the document on the input was read, and these codewords are those of its symbol
abbrev pub ReadsSymbol : Form → InputView → InputView → Size → List ℕ → Type 0
ReadsSymbol form input rest size words =
    (document : List ℕ) × ReadsDocument input rest document × CarriesDocument form document size words

-- Why there is no symbol: the side comes first, before anything is read, then the input, and then the document. Memory is
-- refused before anything is read, or where a document was read that the symbol has room for.
abbrev pub RefusesSymbol : Form → InputView → InputView → SymbolRefusal → Type 0
RefusesSymbol form input rest symbol_refusals.Side = (¬ IsSide form.side) × (rest ≡ input)
RefusesSymbol form input rest symbol_refusals.Read = IsSide form.side × (rest.has_failed ≡ true)
RefusesSymbol form input rest symbol_refusals.TooLong = (size : Size) × (document : List ℕ) × (side size ≡ form.side)
    × ReadsDocument input rest document × (data_words size < need_of form.scheme document)
RefusesSymbol form input rest symbol_refusals.Memory = IsSide form.side × ((rest ≡ input) ⊎ ((size : Size)
    × (document : List ℕ) × (side size ≡ form.side) × ReadsDocument input rest document
    × (need_of form.scheme document ≤ data_words size)))

-- the codewords in decimal, a space between each two, and a line end
abbrev pub words_line : List ℕ → List ℕ
words_line [] = 10 ∷ []
words_line (word ∷ words) = decimal word ++ (flat_map (λ later. 32 ∷ decimal later) words ++ 10 ∷ [])

-- how `words` ends, where `rest` is the input once it was read: the line of codewords was written, or that of a refusal
pub data EndsWords (form : Form) (old : StreamsView) (status : ℕ) (new : StreamsView) : Type 0 where
  told : (size : Size) (words : List ℕ) (rest : InputView) → ReadsSymbol form old.input rest size words
      → TellsOnOutput (words_line words) (record old { input = rest }) status new → EndsWords form old status new
  refused : (refusal : SymbolRefusal) (rest : InputView) → RefusesSymbol form old.input rest refusal
      → RefusesOnOutput (symbol_refusal_name refusal) (record old { input = rest }) status new
      → EndsWords form old status new

-- how `draw` ends: the image was written, packed or plain, or the line of a refusal, which goes to the standard error
pub data EndsDraw (form : Form) (plain : Bool) (old : StreamsView) (status : ℕ) (new : StreamsView) : Type 0 where
  drawn : (size : Size) (words : List ℕ) (rest : InputView) → ReadsSymbol form old.input rest size words
      → TellsBytes (written (image_with_quiet_zone (grid_of_words size words) plain)) (record old { input = rest })
      status new → EndsDraw form plain old status new
  refused : (refusal : SymbolRefusal) (rest : InputView) → RefusesSymbol form old.input rest refusal
      → RefusesOnErrors (symbol_refusal_name refusal) (record old { input = rest }) status new
      → EndsDraw form plain old status new

-- ---- read

-- What `read` prints: a line for each image of a file, in order, up to the end of the file, a plain image, bytes that are
-- no image, or the greatest number of images. What a symbol carries is the standard's (ISO/IEC 16022:2006, 5.2 and 5.6,
-- Annexes A, E and F), how images follow one another Netpbm's, and where reading ends and what a line shows this
-- project's own rule.

-- how many codewords were corrected, how many modules of the finder patterns are wrong, the bytes, and the line's end
abbrev pub line_tail : ℕ → ℕ → List ℕ → List ℕ
line_tail corrected wrong bytes = codes " corrected " ++ (decimal corrected ++ (codes " wrong " ++ (decimal wrong
    ++ (32 ∷ (hexadecimal bytes ++ 10 ∷ [])))))

-- `label`, the two codewords of the ID in hexadecimal, m and n, and the end
abbrev pub label_line : PageView → ℕ → ℕ → List ℕ
label_line page corrected wrong =
    codes "label " ++ (encode_lower (id_words page.id)
    ++ (32 ∷ (decimal page.m ++ (47 ∷ (decimal page.n ++ line_tail corrected wrong page.bytes)))))

-- `symbol`, the side, and the end
abbrev pub symbol_line : ℕ → ℕ → ℕ → List ℕ → List ℕ
symbol_line modules corrected wrong bytes = codes "symbol " ++ (decimal modules ++ line_tail corrected wrong bytes)

-- ---- one grid

-- the grid is read as these codewords, and they begin with no head of a label
pub record HasNoHead (grid : GridView) (words : List ℕ) : Type 0 where
  pub read : IsReadAs grid words
  pub no_head : head_at (data_of grid.size words) ≡ Err NotAppended

-- The line of a grid: that of the label that it opens as, or, where its symbol is no label, that of the symbol.
pub data HasLine (grid : GridView) : List ℕ → Type 0 where
  label : (page : PageView) (corrected wrong : ℕ) → OpensAs grid page corrected wrong
      → HasLine grid (label_line page corrected wrong)
  symbol : (words bytes : List ℕ) → HasNoHead grid words → ReadsOnly 1 (data_of grid.size words) bytes
      → HasLine grid (symbol_line (side grid.size) (differ (words_of_grid grid) words) (wrong_frame_modules grid) bytes)

-- Why a grid has no line: its codewords can't be corrected; they have the head of a label and no page; they have no
-- head and no text; or memory was refused for the line that it has.
pub data RefusesGrid (grid : GridView) : ReadRefusal → Type 0 where
  symbol : (fault : SymbolFault) → CorrectsGrid grid (Err fault) → RefusesGrid grid (Label (symbol_fault fault))
  page : (words : List ℕ) (fault : LabelFault) → IsReadAs grid words → fault ≢ NotAppended
      → ReadsPage (data_of grid.size words) (Err fault) → RefusesGrid grid (Label fault)
  text : (words : List ℕ) (fault : DecodeFault) → HasNoHead grid words
      → StuckOnly 1 (data_of grid.size words) fault → RefusesGrid grid (Text fault)
  memory : (line : List ℕ) → HasLine grid line → RefusesGrid grid Memory

-- ---- one image

-- why a picture has no line
pub data RefusesPicture (p : Picture) : ReadRefusal → Type 0 where
  shape : ¬ HasShape p → RefusesPicture p Shape
  grid : {refusal : ReadRefusal} (grid : GridView) → HasShape p → IsGridInside p grid → RefusesGrid grid refusal
      → RefusesPicture p refusal

-- the line of a picture is that of its grid
abbrev pub HasPictureLine : Picture → List ℕ → Type 0
HasPictureLine p line = (grid : GridView) × HasShape p × IsGridInside p grid × HasLine grid line

-- the refusal is of the image itself, and not of what its symbol says
abbrev pub is_image_refusal : ReadRefusal → Bool
is_image_refusal Shape = true
is_image_refusal (Label (Border wrong)) = true
is_image_refusal (Label (Block block)) = true
is_image_refusal refusal = false

-- what is said of a picture, and the standard error before and after it
pub data PrintsPicture (number : ℕ) (p : Picture) (before : OutputView) : Said → OutputView → Type 0 where
  read : {line : List ℕ} → HasPictureLine p line →
      PrintsPicture number p before (record { line = line; refused = false }) before
  refused : {after : OutputView} (refusal : ReadRefusal) → RefusesPicture p refusal
      → NotesChange (is_image_refusal refusal) p number (read_refusal_name refusal) before after
      → PrintsPicture number p before (refusal_of (read_refusal_name refusal)) after

-- ---- the whole input

-- `read` as a command over images, whose state is the standard error
abbrev pub read_images : ImageCommand
read_images = record {
  State = OutputView;
  Answers = λ number before p said after. PrintsPicture number p before said after;
  SeesUnread = λ _ before _ after. after ≡ before;
  has_ended = λ _. false;
}

-- How `read` ends, from its streams to the exit status and the streams: the lines of its files of images were written, by
-- the bytes of each, or those of its input where it is given none, or the output has failed at one of them.
abbrev pub EndsRead : List FileView → StreamsView → ℕ → StreamsView → Type 0
EndsRead images old status new = TellsInputs read_images images (progress_at old.errors old.input old.output) status
    (progress_at new.errors new.input new.output)
