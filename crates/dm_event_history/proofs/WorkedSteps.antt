-- Single steps of the worked runs.
use Rattle.std.proofs.Common.{arith, ◌≡◌, ℕ, true, Ok, Some, List, [], ◌∷◌, slice_get, refl, ◌≤◌, zero, suc, take}
use Rattle.dm_size.specs.declared.size.Size.TheVariants.{Side12}
use Rattle.dm_encodation.specs.declared.scheme.Scheme.TheVariants.{Ascii}
use Rattle.dm_symbol.specs.Correction.{grid_of_words}
use Rattle.dm_append_label.specs.Labels.{PageView, AreParts}
use Rattle.dm_print_ledger.specs.declared.{range.Range.Range, giver.Giver.Giver}
use Rattle.dm_print_ledger.specs.{Verdicts.least, Verdicts.print_verdict, Ledger.is_sound, Ledger.LedgerView}
use Rattle.dm_assembly_desk.specs.Documents.{Documents}
use Rattle.dm_event_history.specs.{declared.reply.Reply.TheVariants.Printed, Worked.digits, Relay.CutDocument}
use Rattle.dm_event_history.specs.Relay.{Actor, Desk, Goods, Label, Relay, Used, with_desk, with_printer}
use Rattle.dm_event_history.specs.Steps.{Ending, Saves, PrintComes, DeskGoes, PrinterGoes}
use Rattle.dm_event_history.proofs.WorkedLabels.{AreWordsOf, first_page, is_label, second_page}
use Rattle.dm_size.specs.{declared.size.Size.TheVariants.Side12, Sizes.row}
use Rattle.dm_encodation.specs.{declared.scheme.Scheme.TheVariants.Ascii, Written.IsGreatestPrefix, Written.need_of}
use Rattle.dm_encodation.specs.Written as written

-- The parts of the digits.

abbrev digits_cut : CutDocument
digits_cut = record { bytes = digits; size = Side12; scheme = Ascii; parts = (49 ∷ 50 ∷ []) ∷ (51 ∷ 52 ∷ []) ∷ [] }

-- two of the digits fill a label
two_rising : IsGreatestPrefix Ascii 1 digits 2
unfolding need_of written.text written.ascii
two_rising = record { within = omega arith; fits = omega arith; greatest = most }
  where
    most : (j : ℕ) → j ≤ 4 → need_of Ascii (take j digits) ≤ 1 → j ≤ 2
    most zero within fits = omega arith
    most (suc zero) within fits = omega arith
    most (suc (suc zero)) within fits = omega arith
    most (suc (suc (suc zero))) within fits = absurd (let two : 2 ≤ 1 = fits in omega arith)
    most (suc (suc (suc (suc zero)))) within fits = absurd (let two : 2 ≤ 1 = fits in omega arith)
    most (suc (suc (suc (suc (suc j))))) within fits = absurd (omega arith)

last_rising : IsGreatestPrefix Ascii 1 (51 ∷ 52 ∷ []) 2
unfolding need_of written.text written.ascii
last_rising = record { within = omega arith; fits = omega arith; greatest = λ j within fits. within }

are_rising_parts : AreParts Side12 Ascii digits digits_cut.parts
unfolding row
are_rising_parts = record {
  ends = 2 ∷ 4 ∷ [];
  are_ends = record {
    head = omega arith;
    full = 2 ∷ 4 ∷ [];
    full_ends = (omega arith, two_rising, (omega arith, last_rising, refl));
    few = omega arith;
    padded = refl;
  };
  parts_are = refl;
}

-- ---- what goes on

pub printer_goes : {A : Type 0} (old : Relay) (printer : ℕ)
    (Acts : Actor LedgerView → Ending A LedgerView → Type 0) (actor : Actor LedgerView) (end : Ending A LedgerView) →
    slice_get old.printers printer ≡ Some actor → Acts actor end →
    PrinterGoes old printer Acts end.reply (with_printer old printer end.actor end.goods)
printer_goes old printer Acts actor end was acts = grind arith

pub desk_goes : {A : Type 0} (old : Relay) (number : ℕ)
    (Acts : ℕ → Actor Documents → Ending A Documents → Type 0) (desk : Desk) (end : Ending A Documents) →
    slice_get old.desks number ≡ Some desk → Acts desk.capacity desk.actor end →
    DeskGoes old number Acts end.reply
    (with_desk old number (record { capacity = desk.capacity; actor = end.actor }) end.goods)
desk_goes old number Acts desk end was acts = search arith

-- ---- ledgers

-- a printer's ledger with the numbers of one range
abbrev pub ledger : ℕ → ℕ → Range → List Giver → LedgerView
ledger number serial own givers = record { number = number; next_serial = serial; free = own ∷ []; givers = givers }

-- ---- prints

abbrev pub label : PageView → List ℕ → Label
label page words = record { page = page; cut = digits_cut; grid = grid_of_words Side12 words }

-- the two labels of the digits, and the number that was used
abbrev pub both_labels : ℕ → List ℕ → List ℕ → Goods
both_labels id first second = record {
  labels = label (first_page id) first ∷ label (second_page id) second ∷ [];
  tickets = [];
  exports = [];
  moves = Used id ∷ [];
}

pub saves_print : {A : Type 0} (before : ℕ) (old next : LedgerView) (first second : List ℕ) → is_sound old ≡ true →
    print_verdict old true ≡ Ok next → AreWordsOf (first_page (least old.free)) first →
    AreWordsOf (second_page (least old.free)) second →
    PrintComes {A = A} before digits Side12 Ascii old
    (Saves next (both_labels (least old.free) first second) (Printed (least old.free) before 2))
saves_print before old next first second sound verdict one two = (
  sound,
  Some digits_cut.parts,
  are_rising_parts,
  (
    verdict,
    record {
      labels = label (first_page (least old.free)) first ∷ label (second_page (least old.free)) second ∷ [];
      are_labels = grind (arith, first_page, is_label, second_page);
      goods_are = refl;
      reply_is = refl;
    },
  ),
)
