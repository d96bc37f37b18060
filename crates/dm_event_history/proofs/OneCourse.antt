-- What a call comes to is one thing, but for memory.
use Rattle.std.proofs.Common.{arith, ◌≡◌, ◌⊎◌, ℕ, Option, None, Some, List, Result, refl, ap, subst, ◌+◌, [], ◌∷◌, length, sym, ◌∙◌}
use Rattle.std.specs.Prelude.{IsSomeAnd, is_some}
use Rattle.dm_size.specs.declared.size.Size.{Size}
use Rattle.dm_encodation.specs.declared.scheme.Scheme.{Scheme}
use Rattle.dm_finder_frame.specs.Frame.{GridView}
use Rattle.dm_print_ledger.specs.{declared.range.Range.Range, Verdicts.least, Verdicts.print_verdict}
use Rattle.dm_print_ledger.specs.Ledger.{LedgerView, TicketView}
use Rattle.dm_event_history.specs.declared.reply.Reply.{Reply, TheVariants.PrintRefused}
use Rattle.dm_event_history.specs.Relay.{Export, Goods}
use Rattle.dm_event_history.specs.Steps.{Course, LacksMemory, IsCourse, GiveComes, HasParts, PrintComes, PrintLeaves, TakeComes, cut_of, ForgetComes, ImportComes, MayBe, ScanComes}
use Rattle.dm_event_history.proofs.OneReading.{reading_once}
use Rattle.dm_size.specs.{declared.size.Size.Size, Sizes.data_words}
use Rattle.dm_check_blocks.proofs.Symbols.{one_symbol}
use Rattle.dm_encodation.specs.{declared.scheme.Scheme.Scheme, Written.filled}
use Rattle.dm_symbol.specs.Correction.{grid_of_words}
use Rattle.dm_append_label.specs.Labels.{head_of, head_words, PageView, AreParts, parts_from}
use Rattle.dm_append_label.proofs.CutParts.{one_cut}
use Rattle.dm_print_ledger.specs.Verdicts.{IsLabelOf}
use Rattle.dm_event_history.specs.{Relay.CutDocument, Relay.Label, Steps.AreLabelsFor, Steps.IsLabelFor}

-- The labels of a document under an ID are the same ones.

parts_once : (size : Size) (scheme : Scheme) (document : List ℕ) (a b : List (List ℕ)) →
    AreParts size scheme document a → AreParts size scheme document b → a ≡ b
parts_once size scheme document a b p q =
    p.parts_are ∙ ap (λ (ends : List ℕ). parts_from document 0 ends)
    (one_cut size scheme document p.ends q.ends p.are_ends q.are_ends) ∙ sym q.parts_are

-- a page has one label of a size and an encodation
grid_once : (size : Size) (scheme : Scheme) (page : PageView) (a b : GridView) → IsLabelOf size scheme page a →
    IsLabelOf size scheme page b → a ≡ b
grid_once size scheme page a b p q =
    let message : List ℕ = filled scheme (head_words (head_of page)) page.bytes (data_words size) in
    p.sealed.drawn ∙ ap (λ (words : List ℕ). grid_of_words size words)
    (one_symbol size message p.sealed.words q.sealed.words p.sealed.completed q.sealed.completed) ∙ sym q.sealed.drawn

label_once : (cut : CutDocument) (page : PageView) (a b : Label) → IsLabelFor cut page a → IsLabelFor cut page b → a ≡ b
label_once cut page a b p q =
    let pages : a.page ≡ b.page = p.page_is ∙ sym q.page_is in
    let cuts : a.cut ≡ b.cut = p.cut_is ∙ sym q.cut_is in
    let grids : a.grid ≡ b.grid = grid_once cut.size cut.scheme page a.grid b.grid p.grid_is q.grid_is in
    λ i. record { page = pages i; cut = cuts i; grid = grids i }

labels_once : (cut : CutDocument) (id m : ℕ) (parts : List (List ℕ)) (a b : List Label) →
    AreLabelsFor cut id m parts a → AreLabelsFor cut id m parts b → a ≡ b
labels_once cut id m [] [] [] p q = refl
labels_once cut id m [] [] (y ∷ ys) p q = absurd q
labels_once cut id m [] (x ∷ xs) b p q = absurd p
labels_once cut id m (part ∷ parts) [] b p q = absurd p
labels_once cut id m (part ∷ parts) (x ∷ xs) [] p q = absurd q
labels_once cut id m (part ∷ parts) (x ∷ xs) (y ∷ ys) p q =
    let first : x ≡ y =
    label_once cut (record { id = id; m = m; n = length cut.parts; bytes = part }) x y p.0 q.0 in
    let rest : xs ≡ ys = labels_once cut id (m + 1) parts xs ys p.1 q.1 in
    λ i. first i ∷ rest i

abbrev pub SameCourse : {A C : Type 0} → Course A C → Course A C → Type 0
SameCourse one other = (one ≡ other) ⊎ ((one ≡ LacksMemory) ⊎ (other ≡ LacksMemory))

abbrev pub IsDetermined : {A C : Type 0} → (C → Course A C → Type 0) → Type 0
IsDetermined {A} {C} Comes = (held : C) (one other : Course A C) → Comes held one → Comes held other →
    SameCourse one other

-- ---- printers

-- of one verdict, by which one thing leaves
module _ {A F : Type 0} (refuses : F → Reply A) (verdict : Result LedgerView F) (Leaves : Goods → Reply A → Type 0)
    (once : (g h : Goods) (r s : Reply A) → Leaves g r → Leaves h s → (g ≡ h) × (r ≡ s)) where
  verdict_once : (one other : Course A LedgerView) → IsCourse refuses verdict Leaves one →
      IsCourse refuses verdict Leaves other → SameCourse one other
  verdict_once one other p q = grind arith

-- a document has one list of parts, or none
cut_once : (document : List ℕ) (size : Size) (scheme : Scheme) (a b : Option (List (List ℕ))) →
    HasParts size scheme document a → HasParts size scheme document b → a ≡ b
cut_once document size scheme None None p q = refl
cut_once document size scheme None (Some parts) p q = absurd (p q.ends q.are_ends)
cut_once document size scheme (Some parts) None p q = absurd (q p.ends p.are_ends)
cut_once document size scheme (Some a) (Some b) p q =
    ap (λ (ps : List (List ℕ)). Some ps) (parts_once size scheme document a b p q)

module _ {A : Type 0} (before : ℕ) (document : List ℕ) (size : Size) (scheme : Scheme) where
  -- by which the same labels leave
  labels_leave_once : (id : ℕ) (parts : Option (List (List ℕ))) (g h : Goods) (r s : Reply A) →
      IsSomeAnd parts (λ parts. PrintLeaves before (cut_of document size scheme parts) id g r) →
      IsSomeAnd parts (λ parts. PrintLeaves before (cut_of document size scheme parts) id h s) → (g ≡ h) × (r ≡ s)
  labels_leave_once id parts g h r s p q = grind (arith, labels_once)

  pub print_determined : IsDetermined (PrintComes {A = A} before document size scheme)
  print_determined held one other p q =
      let Be : Option (List (List ℕ)) → Type 0 = λ parts. IsCourse PrintRefused (print_verdict held (is_some parts))
      (λ goods reply. IsSomeAnd parts
      (λ parts. PrintLeaves before (cut_of document size scheme parts) (least held.free) goods reply)) other in
      verdict_once PrintRefused (print_verdict held (is_some p.1))
      (λ goods reply. IsSomeAnd p.1
      (λ parts. PrintLeaves before (cut_of document size scheme parts) (least held.free) goods reply))
      (labels_leave_once (least held.free) p.1) one other p.3 (subst Be (cut_once document size scheme q.1 p.1 q.2 p.2) q.3)

pub give_determined : {A : Type 0} (before receiver : ℕ) (range : Range) →
    IsDetermined (GiveComes {A = A} before receiver range)
give_determined before receiver range held one other p q = grind arith

pub take_determined : {A : Type 0} (number : ℕ) (ticket : TicketView) →
    IsDetermined (TakeComes {A = A} number ticket)
take_determined number ticket held one other p q = grind arith

-- ---- desks

may_be_one : {A C : Type 0} (wanted one other : Course A C) → MayBe wanted one → MayBe wanted other →
    SameCourse one other
may_be_one wanted one other a b = grind arith

pub scan_determined : {A : Type 0} (capacity : ℕ) (grid : GridView) → IsDetermined (ScanComes {A = A} capacity grid)
scan_determined {A} capacity grid held one other p q = grind (arith, may_be_one, reading_once)

pub forget_determined : {A : Type 0} (id : ℕ) → IsDetermined (ForgetComes {A = A} id)
forget_determined id held one other p q = may_be_one _ one other p q

pub import_determined : {A : Type 0} (capacity : ℕ) (export : Export) → IsDetermined (ImportComes {A = A} capacity export)
import_determined capacity export held one other p q = may_be_one _ one other p q
