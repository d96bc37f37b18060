-- What the verdict on pages says, and what is held where they are added.
use Rattle.std.proofs.Common.{◌≡◌, ℕ, ◌+◌, ◌*◌, ◌<◌, ◌≤◌, Bool, true, false, cond, leb, List, [], ◌∷◌, length, Option, Some, None, Result, Ok, Err, sym, ap, subst, ◌∙◌, arith}
use Rattle.std.specs.Prelude.{◌≢◌, not, is_some, if◌then◌else◌, IfSome, unwrap_or}
use Rattle.std.specs.{List.AllByRecursion, List.list_all, Cmp.nat_cmp_total, Option.option_or}
use Rattle.std.proofs.lemmas.Bool.{eq-eqb, ne_eqb}
use Rattle.std.specs.{Ordering.nat_cmp, Ordering.eq_by_cmp, FinMap.get, FinMap.len, FinMap.get-insert}
use Rattle.dm_store.specs.Saved.{Outcome}
use Rattle.dm_assembly_desk.specs.Documents.{Pages, page, mask, IsEntry, IsShort, Documents, AreEntries, own_pages, page_at, KeepsPages, DeskView, union_of_pages, added_mask}
use Rattle.dm_assembly_desk.specs.Desk.{DeskCarriesOut, SaveEnds, JudgedAs, answer_by, add_kind, kind_of, pages_with, with_pages, reply_of, verdict_by, Adds}
use Rattle.dm_assembly_desk.specs.declared.reply.Kind.{Kind, TheVariants.New, TheVariants.Again, TheVariants.Complete}
use Rattle.dm_assembly_desk.specs.declared.{reply.Imported.Imported, adding.AddFault.AddFault}
use Rattle.dm_assembly_desk.specs.declared.adding.AddFault.TheVariants as adds
use Rattle.dm_assembly_desk.proofs.{Loading.apart, Loading.same_key, Undoing.get_here, MergingLaws.length_both}
use Rattle.dm_assembly_desk.proofs.AddFacts.{page_merged}

-- ---- what an answer without a fault says

-- a kind by three tests, one after the other
abbrev chosen : Bool → Bool → Bool → Kind → Result Kind AddFault
chosen joins none full kind =
    cond (not joins) (Err adds.Conflict) (cond none (Ok Again) (cond full (Err adds.Full) (Ok kind)))

module _ (capacity : ℕ) (held : Documents) (id : ℕ) (given : Pages) (kind : Kind)
    (judged : add_kind capacity held id given ≡ Ok kind) where
  -- the pages are as many as those that are held
  pub same_count : IfSome (get held id) (λ own. length own ≡ length given)
  same_count = grind arith

  -- some are added: there is room for the document, or it is held
  pub room : kind ≢ Again → get held id ≡ None → len held < capacity
  room other = grind arith

-- the kind, by whether no page is added
abbrev kind_by : Pages → Bool → Result Kind AddFault
kind_by all none = Ok (if none then Again else kind_of all)

module _ (capacity : ℕ) (held : Documents) (id : ℕ) (given : Pages) (added : ℕ)
    (judged : JudgedAs capacity held id given (Ok added)) where
  pub judged_again : added ≡ 0 → add_kind capacity held id given ≡ Ok Again
  judged_again none = judged.1 ∙ ap (kind_by (pages_with held id given)) (eq-eqb added 0 none)

  pub judged_some : added ≢ 0 → add_kind capacity held id given ≡ Ok (kind_of (pages_with held id given))
  judged_some some = judged.1 ∙ ap (kind_by (pages_with held id given)) (ne_eqb added 0 some)

pub never_again : (all : Pages) → kind_of all ≢ Again
never_again all is = grind arith

-- what a kind says of the pages that are held and those that are given
abbrev pub KindSays : Kind → Pages → Pages → Type 0
KindSays Again own given = added_mask own given ≡ 0
KindSays New own given = (added_mask own given ≢ 0) × (list_all is_some (union_of_pages own given) ≡ false)
KindSays Complete own given = (added_mask own given ≢ 0) × (list_all is_some (union_of_pages own given) ≡ true)

pub kind_says : (capacity : ℕ) (held : Documents) (id : ℕ) (given : Pages) (kind : Kind) →
    add_kind capacity held id given ≡ Ok kind → KindSays kind (own_pages held id) given
kind_says capacity held id given kind judged = grind arith

short_at : (given : Pages) (held : Option Pages) → IfSome held (λ pages. length pages ≡ length given) →
    length (unwrap_or held []) ≤ length given
short_at given held h = grind arith

-- no more pages are held of the document than are given, held or not
pub no_longer : (capacity : ℕ) (held : Documents) (id : ℕ) (given : Pages) (kind : Kind) →
    add_kind capacity held id given ≡ Ok kind → length (unwrap_or (get held id) []) ≤ length given
no_longer capacity held id given kind judged =
    short_at given (get held id) (same_count capacity held id given kind judged)

-- ---- the pages then have an entry

more_held : (p q : Option (List ℕ)) (a b : ℕ) → a ≤ b →
    2 * a + cond (is_some p) 1 0 ≤ 2 * b + cond (is_some (option_or p q)) 1 0
more_held p q a b le = grind arith

mask_merged : (ps qs : Pages) → mask ps ≤ mask (union_of_pages ps qs)
mask_merged [] qs = omega arith
mask_merged (p ∷ ps) [] = omega arith
mask_merged (p ∷ ps) (q ∷ qs) = more_held p q (mask ps) (mask (union_of_pages ps qs)) (mask_merged ps qs)

short_or : (p q : Option (List ℕ)) → IsShort p → IsShort q → IsShort (option_or p q)
short_or p q one other = grind arith

short_merged : (ps qs : Pages) → AllByRecursion IsShort ps → AllByRecursion IsShort qs →
    AllByRecursion IsShort (union_of_pages ps qs)
short_merged [] qs one other = other
short_merged (p ∷ ps) [] one other = one
short_merged (p ∷ ps) (q ∷ qs) one other = (short_or p q one.0 other.0, short_merged ps qs one.1 other.1)

merged_at : (id : ℕ) (given : Pages) (held : Option Pages) → IsEntry id given →
    ((pages : Pages) → held ≡ Some pages → IsEntry id pages) → IfSome held (λ pages. length pages ≡ length given) →
    IsEntry id (union_of_pages (unwrap_or held []) given)
merged_at id given is sound held same = grind (arith, length_both, mask_merged, short_merged)

pub merged_entry : (capacity : ℕ) (held : Documents) (id : ℕ) (given : Pages) (kind : Kind) → AreEntries held →
    IsEntry id given → add_kind capacity held id given ≡ Ok kind → IsEntry id (pages_with held id given)
merged_entry capacity held id given kind entries sound judged =
    merged_at id given (get held id) sound (entries id) (same_count capacity held id given kind judged)

-- ---- pages that are held then

same_page : (o : Option Pages) (given pages : Pages) (m : ℕ) → o ≡ Some (union_of_pages pages given) →
    page (unwrap_or o []) m ≡ option_or (page pages m) (page given m)
same_page o given pages m is = ap (λ (x : Option Pages). page (unwrap_or x []) m) is ∙ page_merged pages given m

-- page m of the document that pages were given of
pub page_given : (held : Documents) (id : ℕ) (given : Pages) (m : ℕ) →
    page_at (with_pages held id given) id m ≡ option_or (page_at held id m) (page given m)
page_given held id given m = grind (arith, same_page, get_here)

-- page m of any document, once pages of one were given
pub page_with : (held : Documents) (id : ℕ) (given : Pages) (other m : ℕ) →
    page_at (with_pages held id given) other m ≡ cond (eq_by_cmp nat_cmp other id)
    (option_or (page_at held id m) (page given m)) (page_at held other m)
page_with held id given other m =
    ap (λ (o : Option Pages). page (unwrap_or o []) m)
    (get-insert nat_cmp_total held id (pages_with held id given) other)
    ∙ (grind (arith, page_merged))

pub page_elsewhere : (held : Documents) (id : ℕ) (given : Pages) (other m : ℕ) → other ≢ id →
    page_at (with_pages held id given) other m ≡ page_at held other m
page_elsewhere held id given other m differs = grind (arith, page_with, apart)

or_kept : (had given : Option (List ℕ)) (bytes : List ℕ) → had ≡ Some bytes → option_or had given ≡ Some bytes
or_kept had given bytes is = cc

pub kept_with : (held : Documents) (id : ℕ) (given : Pages) → KeepsPages held (with_pages held id given)
kept_with held id given other m bytes is = grind (arith, page_with, or_kept, same_key)

-- ---- a verdict that is carried out

module _ (old : DeskView) (id : ℕ) (given : Pages) where
  abbrev Carried : Result Kind AddFault → Result Imported AddFault → DeskView → Type 0
  Carried judged result new =
      DeskCarriesOut (Err adds.Memory) (Err adds.Save) id (verdict_by old.held id given judged) old result new

  again : (kind : Kind) (reply : Imported) → kind ≡ Again → reply ≡ reply_of old.held id given kind →
      Carried (Ok kind) (Ok reply) old
  again kind reply is same = grind arith

  pub adds_nothing : (kind : Kind) (reply : Imported) → add_kind old.capacity old.held id given ≡ Ok kind →
      kind ≡ Again → reply ≡ reply_of old.held id given kind → Adds id given old (Ok reply) old
  adds_nothing kind reply judged is same =
      subst (λ (a : Result Kind AddFault). Carried a (Ok reply) old) (sym judged) (again kind reply is same)

  module _ (result : Result Imported AddFault) (new : DeskView) (outcome : Outcome)
      (ends : SaveEnds id (with_pages old.held id given) outcome old new) where
    some : (kind : Kind) → kind ≢ Again →
        result ≡ answer_by (Ok (reply_of old.held id given kind)) (Err adds.Memory) (Err adds.Save) outcome →
        Carried (Ok kind) result new
    some kind other is = grind arith

    pub adds_some : (kind : Kind) → add_kind old.capacity old.held id given ≡ Ok kind → kind ≢ Again →
        result ≡ answer_by (Ok (reply_of old.held id given kind)) (Err adds.Memory) (Err adds.Save) outcome →
        Adds id given old result new
    adds_some kind judged other is =
        subst (λ (a : Result Kind AddFault). Carried a result new) (sym judged) (some kind other is)

-- ---- no page that was held has other bytes

module _ (id : ℕ) (given : Pages) (old new : DeskView) where
  same_kept : new.held ≡ old.held → KeepsPages old.held new.held
  same_kept is other m bytes held = ap (λ (d : Documents). page_at d other m) is ∙ held

  ends_kept : (outcome : Outcome) → SaveEnds id (with_pages old.held id given) outcome old new →
      KeepsPages old.held new.held
  ends_kept outcome e = grind (arith, kept_with, same_kept)

  by_kept : (judged : Result Kind AddFault) (result : Result Imported AddFault) →
      DeskCarriesOut (Err adds.Memory) (Err adds.Save) id (verdict_by old.held id given judged) old result new →
      KeepsPages old.held new.held
  by_kept judged result h = grind (arith, same_kept, ends_kept)

  pub adds_kept : (result : Result Imported AddFault) → Adds id given old result new → KeepsPages old.held new.held
  adds_kept result h = by_kept (add_kind old.capacity old.held id given) result h

-- ---- a desk fails exactly where it answers that a save failed

abbrev pub says_save : Result Imported AddFault → Bool
says_save (Err adds.Save) = true
says_save _ = false

no_save : (joins none full : Bool) (kind : Kind) → chosen joins none full kind ≡ Err adds.Save → ⊥
no_save joins none full kind is = grind arith

module _ (id : ℕ) (given : Pages) (old new : DeskView) (running : old.is_failed ≡ false)
    (result : Result Imported AddFault) where
  by_failed : (judged : Result Kind AddFault) → (judged ≡ Err adds.Save → ⊥) →
      DeskCarriesOut (Err adds.Memory) (Err adds.Save) id (verdict_by old.held id given judged) old result new →
      new.is_failed ≡ says_save result
  by_failed judged never h = grind arith

  pub adds_failed : Adds id given old result new → new.is_failed ≡ says_save result
  adds_failed h = grind (arith, by_failed, no_save, leb)
