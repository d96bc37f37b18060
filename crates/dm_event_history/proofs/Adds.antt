-- What a verdict on pages that are to be added comes to, by what is held.
use Rattle.std.proofs.Common.{◌≡◌, ◌≢◌, ◌⊎◌, ◌≤◌, ℕ, zero, suc, ◌&&◌, leb, true, false, Option, Some, None, Result, Ok, Err, List, [], ◌∷◌, length, IsSome, refl, ap, sym, ◌∙◌, arith, eq-eqb}
use Rattle.std.specs.{Prelude.is_none, Prelude.is_some, FinMap.get, FinMap.len}
use Rattle.dm_append_label.specs.Labels.{PageView}
use Rattle.dm_assembly_desk.specs.Desk.{lone, add_kind, add_verdict, reply_of, with_pages, Verdict, Stays, Becomes}
use Rattle.dm_assembly_desk.specs.Documents.{Documents, own_pages, page_at, added_mask, may_join, Pages, mask, names, page}
use Rattle.dm_assembly_desk.specs.declared.{adding.AddFault.AddFault, reply.Kind.Kind, reply.Kind.TheVariants.Again}
use Rattle.dm_assembly_desk.specs.declared.adding.AddFault.TheVariants as adds
use Rattle.dm_assembly_desk.specs.declared.reply.Imported as imported_type
use Rattle.dm_assembly_desk.proofs.{AddFacts.names_added, AddLaws.kind_says, Masks.names_mask, Masks.none_named}
use Rattle.dm_assembly_desk.proofs.LonePages.{length-blank, length-set_at, lone_else}
use Rattle.dm_event_history.proofs.{Deciding.same_or_other, MergedPages.Differs, MergedPages.differs}

-- ---- a verdict, by the kind of its answer

abbrev pub Answer : Type 0
Answer = Result imported_type.Imported AddFault

pub by_verdict : (P : Verdict Answer → Type 0) (capacity : ℕ) (held : Documents) (id : ℕ) (pages : Pages) →
    ((fault : AddFault) → add_kind capacity held id pages ≡ Err fault → P (Stays (Err fault))) →
    (add_kind capacity held id pages ≡ Ok Again → P (Stays (Ok (reply_of held id pages Again)))) →
    ((kind : Kind) → kind ≢ Again → add_kind capacity held id pages ≡ Ok kind →
    P (Becomes (with_pages held id pages) (Ok (reply_of held id pages kind)))) →
    P (add_verdict capacity held id pages)
by_verdict P capacity held id pages refused again adds = grind arith

-- ---- why pages are refused

no_join : (o : Option Pages) (pages : Pages) → may_join o pages ≡ false →
    (own : Pages) × (o ≡ Some own) × ((length own ≢ length pages) ⊎ Differs own pages)
no_join o pages is = grind (arith, differs, eq-eqb)

no_room : (o : Option Pages) (capacity count : ℕ) → (is_none o && leb capacity count) ≡ true → (o ≡ None) × (capacity ≤ count)
no_room o capacity count is = grind arith

-- they disagree with those that are held, or there is no room
pub add_refuses : (P : AddFault → Type 0) (capacity : ℕ) (held : Documents) (id : ℕ) (pages : Pages) (fault : AddFault) →
    ((own : Pages) → get held id ≡ Some own → (length own ≢ length pages) ⊎ Differs own pages → P adds.Conflict) →
    (get held id ≡ None → capacity ≤ len held → P adds.Full) → add_kind capacity held id pages ≡ Err fault → P fault
add_refuses P capacity held id pages fault conflicts full is = grind (arith, no_join, no_room)

-- ---- pages that are added

-- where nothing is added each page that is given is held
pub held_all : (capacity : ℕ) (held : Documents) (id : ℕ) (pages : Pages) →
    add_kind capacity held id pages ≡ Ok Again → (m : ℕ) → IsSome (page pages m) → IsSome (page_at held id m)
held_all capacity held id pages is m some =
    by_named (page_at held id m) (page pages m) some
    (sym (names_added (own_pages held id) pages m) ∙
    ap (λ (bits : ℕ). names bits m) (kind_says capacity held id pages Again is) ∙ none_named m)
  where
    by_named : (o p : Option (List ℕ)) → IsSome p → (is_none o && is_some p) ≡ false → IsSome o
    by_named (Some x) p some none = refl
    by_named None (Some y) some none = cc
    by_named None None some none = cc (some)

-- a mask names just the pages that are there
pub named_there : (pages : Pages) (m : ℕ) → names (mask pages) m ≡ true → IsSome (page pages m)
named_there pages m named = grind (arith, names_mask)

pub there_named : (pages : Pages) (m : ℕ) → IsSome (page pages m) → names (mask pages) m ≡ true
there_named pages m some = grind (arith, names_mask)

-- where some page is added, one that is given was not held
some_there : (pages : Pages) → mask pages ≢ 0 → (m : ℕ) × IsSome (page pages m)
some_there [] some = absurd (some refl)
some_there (Some x ∷ ps) some = (1, refl)
some_there (None ∷ ps) some = later (some_there ps (λ none. some (omega arith)))
  where
    later : ((m : ℕ) × IsSome (page ps m)) → (m : ℕ) × IsSome (page (None ∷ ps) m)
    later (zero, is) = cc (is)
    later (suc m, is) = (suc (suc m), is)

pub some_added : (own pages : Pages) → added_mask own pages ≢ 0 →
    (m : ℕ) × IsSome (page pages m) × (page own m ≡ None)
some_added [] pages some = grind (arith, some_there)
some_added (p ∷ ps) [] some = absurd (some refl)
some_added (None ∷ ps) (Some x ∷ qs) some = (1, refl, refl)
some_added (None ∷ ps) (None ∷ qs) some = later (some_added ps qs (λ none. some (omega arith)))
  where
    later : ((m : ℕ) × IsSome (page qs m) × (page ps m ≡ None)) →
        (m : ℕ) × IsSome (page (None ∷ qs) m) × (page (None ∷ ps) m ≡ None)
    later (zero, is, none) = cc (is)
    later (suc m, is, none) = (suc (suc m), is, none)
some_added (Some y ∷ ps) (q ∷ qs) some = later (some_added ps qs (λ none. some (omega arith)))
  where
    later : ((m : ℕ) × IsSome (page qs m) × (page ps m ≡ None)) →
        (m : ℕ) × IsSome (page (q ∷ qs) m) × (page (Some y ∷ ps) m ≡ None)
    later (zero, is, none) = cc (is)
    later (suc m, is, none) = (suc (suc m), is, none)

-- ---- the page of a label alone

pub length-lone : (p : PageView) → length (lone p) ≡ p.n
length-lone p = grind (arith, length-blank, length-set_at)

pub lone_some : (p : PageView) (m : ℕ) → 1 ≤ p.m → IsSome (page (lone p) m) → m ≡ p.m
lone_some p m least some = grind (arith, lone_else, same_or_other)
