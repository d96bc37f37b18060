-- What prints, gives and takes that are saved do to the numbers of a ledger.
use Rattle.std.proofs.Common.{◌≡◌, ◌<◌, ◌≤◌, ℕ, Bool, true, false, ◌==◌, ◌||◌, not, Option, Some, None, Result, Ok, Err, List, [], ◌∷◌, length, nat_le, nat_lt, if◌then◌else◌, refl, sym, ap, subst, ◌∙◌, arith}
use Rattle.std.proofs.lemmas.Bool.{or_left, leb-true, and_parts, Decides.nat_tests}
use Rattle.std.specs.{Option.option_map_or, Prelude.IfSome, Prelude.IsSomeAnd, Prelude.is_some}
use Rattle.dm_size.specs.declared.size.Size.{Size}
use Rattle.dm_encodation.specs.declared.scheme.Scheme.{Scheme}
use Rattle.dm_append_label.specs.Labels.{AreParts}
use Rattle.dm_print_ledger.specs.declared.{range.Range.Range, fault.PrintFault.PrintFault, fault.TakeFault.TakeFault}
use Rattle.dm_print_ledger.specs.declared.limits.TheConstants.{MOST_RANGES, MOST_GIVERS}
use Rattle.dm_print_ledger.specs.declared.fault.PrintFault.TheVariants as print_fault
use Rattle.dm_print_ledger.specs.declared.fault.GiveFault.TheVariants as give_fault
use Rattle.dm_print_ledger.specs.declared.fault.TakeFault.TheVariants as take_fault
use Rattle.dm_print_ledger.specs.Verdicts.{are_free, has_free, least, single, without, union_with_range, AreFree, AreTaken, IsLeastFree, TakesOut, PutsIn, NotesSerial, print_verdict, give_verdict, take_verdict, giver_of}
use Rattle.dm_print_ledger.specs.Ledger.{givers_with, is_old, last_taken, is_sound, are_ranges, free_count, is_range, LedgerView, TicketView}
use Rattle.dm_event_history.specs.{declared.reply.Reply.Reply, Relay.Goods}
use Rattle.dm_event_history.specs.Steps.{Saves, HasParts, PrintComes, PrintLeaves, cut_of}
use Rattle.dm_print_ledger.proofs.LedgerLaws.{ranges_are_numbers, first_is_least, givers_are_noted}
use Rattle.dm_print_ledger.proofs.OutLaws.{covered_free, covers_from, takes_out}
use Rattle.dm_print_ledger.proofs.InLaws.{meets_none, HasFree, meets_free}
use Rattle.dm_print_ledger.proofs.Rising.{rise_fact, sound_ranges, sound_givers}

-- ---- chains of refusals

-- what is not refused goes on
pub on : {F X : Type 0} (b : Bool) (fault : F) (rest : Result X F) (next : X) →
    (if b then Err fault else rest) ≡ Ok next → (b ≡ false) × (rest ≡ Ok next)
on b fault rest next is = grind arith

pub not_false : (b : Bool) → not b ≡ false → b ≡ true
not_false b is = grind arith

-- ---- prints

-- the numbers of a range, all free before, leave the ledger
pub record LosesNumbers (old : LedgerView) (range : Range) (new : LedgerView) : Type 0 where
  pub were_free : AreFree old.free range
  pub free : TakesOut old.free range new.free
  pub number : new.number ≡ old.number
  pub givers : new.givers ≡ old.givers

pub record UsesLeast (old new : LedgerView) : Type 0 where
  pub least_is : IsLeastFree old.free (least old.free)
  pub loses : LosesNumbers old (single (least old.free)) new

uses_first : (old : LedgerView) (free : List Range) → old.free ≡ free → is_sound old ≡ true →
    (length free == 0) ≡ false → UsesLeast old (record old { free = without old.free (single (least old.free)) })
uses_first old [] is sound some = cc (some)
uses_first old (one ∷ ranges) is sound some =
    let rises : are_ranges (one ∷ ranges) ≡ true = sym (ap are_ranges is) ∙ sound_ranges old sound in
    let rise = rise_fact 0 (one ∷ ranges) rises in
    let same : one.first ≤ one.first = omega arith in
    let covered : are_free (one ∷ ranges) (single one.first) ≡ true =
    or_left _ _ (covers_from one (single one.first) same rise.1.not_empty) in
    subst (λ (free : List Range). UsesLeast (record old { free = free })
    (record old { free = without free (single (least free)) })) (sym is) (record {
      least_is = first_is_least one ranges rises;
      loses = record {
        were_free = covered_free (one ∷ ranges) (single one.first) covered;
        free = takes_out (one ∷ ranges) (single one.first) rise same covered;
        number = refl;
        givers = refl;
      };
    })

-- a print that is saved used the least number
pub print_uses : (old next : LedgerView) (has_parts : Bool) → is_sound old ≡ true →
    print_verdict old has_parts ≡ Ok next → UsesLeast old next
print_uses old next has_parts sound is =
    let a = on (not has_parts) print_fault.TooLong _ next is in
    let b = on (length old.free == 0) print_fault.Exhausted _ next a.1 in
    let same : record old { free = without old.free (single (least old.free)) } ≡ next = cc (b.1) in
    subst (λ (l : LedgerView). UsesLeast old l) same (uses_first old old.free refl sound b.0)

-- why a print is refused
pub print_refuses : (P : PrintFault → Type 0) (old : LedgerView) (has_parts : Bool) (fault : PrintFault) →
    (has_parts ≡ false → P print_fault.TooLong) → (free_count old.free ≡ 0 → P print_fault.Exhausted) →
    print_verdict old has_parts ≡ Err fault → P fault
print_refuses P old has_parts fault too_long exhausted is = grind arith

-- a print that is saved, of a document with these parts
pub record IsMadePrint {A : Type 0} (before : ℕ) (document : List ℕ) (size : Size) (scheme : Scheme)
    (held next : LedgerView) (goods : Goods) (reply : Reply A) : Type 0 where
  pub parts : List (List ℕ)
  pub are_parts : AreParts size scheme document parts
  pub left : PrintLeaves before (cut_of document size scheme parts) (least held.free) goods reply
  pub uses : UsesLeast held next

pub made_print : {A : Type 0} (before : ℕ) (document : List ℕ) (size : Size) (scheme : Scheme) (held next : LedgerView)
    (goods : Goods) (reply : Reply A) → PrintComes before document size scheme held (Saves next goods reply) →
    IsMadePrint before document size scheme held next goods reply
made_print {A} before document size scheme held next goods reply comes =
    by_parts comes.1 comes.2 comes.0 comes.3.0 comes.3.1
  where
    by_parts : (parts : Option (List (List ℕ))) → HasParts size scheme document parts → is_sound held ≡ true →
        print_verdict held (is_some parts) ≡ Ok next →
        IsSomeAnd parts (λ parts. PrintLeaves before (cut_of document size scheme parts) (least held.free) goods reply) →
        IsMadePrint before document size scheme held next goods reply
    by_parts None cut sound is left = absurd left
    by_parts (Some parts) cut sound is left =
        record { parts = parts; are_parts = cut; left = left; uses = print_uses held next true sound is }

-- ---- gives

-- the numbers of a range that is given leave
pub give_loses : (old next : LedgerView) (receiver : ℕ) (range : Range) → is_sound old ≡ true →
    give_verdict old receiver range ≡ Ok next → LosesNumbers old range next
give_loses old next receiver range sound is =
    let a = on (not (is_range range)) give_fault.Range _ next is in
    grind (arith, covered_free, not_false, on, ranges_are_numbers, sound_ranges)

-- ---- takes

-- the numbers of a ticket, none of which was free, are free, and its serial is the last from its giver
pub record GainsNumbers (old : LedgerView) (ticket : TicketView) (new : LedgerView) : Type 0 where
  pub is_for : ticket.receiver ≡ old.number
  pub is_new : IfSome (last_taken old.givers ticket.giver) (λ last. last < ticket.serial)
  pub were_taken : AreTaken old.free ticket.range
  pub free : PutsIn old.free ticket.range new.free
  pub number : new.number ≡ old.number
  pub givers : NotesSerial old.givers ticket.giver ticket.serial new.givers

new_serial : (o : Option ℕ) (serial : ℕ) → option_map_or (nat_le serial) o false ≡ false →
    IfSome o (λ last. last < serial)
new_serial o serial is = grind arith

pub old_or_new : (last : Option ℕ) (serial : ℕ) → IsSomeAnd last (λ last. serial ≤ last) →
    IfSome last (λ last. last < serial) → ⊥
old_or_new last serial old new = grind arith

same_by : (a b : ℕ) → (a == b) ≡ true → a ≡ b
same_by a b is = grind (arith, nat_tests, is)

either_false : (a b : Bool) → (a || b) ≡ false → a ≡ false
either_false a b is = grind arith

-- why a take is refused: `Overlap` where the ticket is for this printer and new, and a number of it is free here
pub record IsOverlapping (old : LedgerView) (ticket : TicketView) : Type 0 where
  pub is_for : ticket.receiver ≡ old.number
  pub is_new : IfSome (last_taken old.givers ticket.giver) (λ last. last < ticket.serial)
  pub free : has_free old.free ticket.range ≡ true

pub take_refuses : (P : TakeFault → Type 0) (old : LedgerView) (ticket : TicketView) (fault : TakeFault) →
    P take_fault.Receiver → P take_fault.Old → (IsOverlapping old ticket → P take_fault.Overlap) →
    P take_fault.Ranges → P take_fault.Givers → take_verdict old ticket ≡ Err fault → P fault
take_refuses P old ticket fault a b c d e is = grind arith

-- some number of it is free
pub overlap_free : (old : LedgerView) (ticket : TicketView) → is_sound old ≡ true → is_range ticket.range ≡ true →
    has_free old.free ticket.range ≡ true → HasFree old.free ticket.range
overlap_free old ticket sound range some =
    meets_free 0 old.free ticket.range (rise_fact 0 old.free (sound_ranges old sound))
    (leb-true _ _ (and_parts _ _ range).0) some

pub take_gains : (old next : LedgerView) (ticket : TicketView) → is_sound old ≡ true → is_range ticket.range ≡ true →
    take_verdict old ticket ≡ Ok next → GainsNumbers old ticket next
take_gains old next ticket sound range is =
    let a = on (not (ticket.receiver == old.number) || ticket.giver == ticket.receiver) take_fault.Receiver _ next is in
    let b = on (is_old old.givers ticket.giver ticket.serial) take_fault.Old _ next a.1 in
    let c = on (has_free old.free ticket.range) take_fault.Overlap _ next b.1 in
    let d = on (nat_lt MOST_RANGES (length (union_with_range old.free ticket.range))) take_fault.Ranges _ next c.1 in
    let e = on (nat_lt MOST_GIVERS (length (givers_with old.givers (giver_of ticket)))) take_fault.Givers _ next d.1 in
    let same : record old {
      free = union_with_range old.free ticket.range;
      givers = givers_with old.givers (giver_of ticket);
    } ≡ next = cc (e.1) in
    subst (λ (l : LedgerView). GainsNumbers old ticket l) same (record {
      is_for = same_by _ _ (not_false _ (either_false _ _ a.0));
      is_new = new_serial (last_taken old.givers ticket.giver) ticket.serial b.0;
      were_taken = meets_none old.free ticket.range c.0;
      free = (ranges_are_numbers old.free ticket.range (sound_ranges old sound) range).put_in c.0;
      number = refl;
      givers = givers_are_noted old.givers (giver_of ticket) (sound_givers old sound);
    })
