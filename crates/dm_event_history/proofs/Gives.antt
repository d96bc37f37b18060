-- What a clean desk gives is what was printed.
use Rattle.std.proofs.Common.{◌≡◌, ◌+◌, inl, inr, ℕ, suc, Bool, true, false, Option, Some, None, List, [], ◌∷◌, length, map, slice_get, Result, Ok, Err, refl, sym, ap, subst, ◌∙◌, arith}
use Rattle.std.specs.Prelude.{is_some, unwrap_or, if◌then◌else◌}
use Rattle.std.specs.List.{list_all, concat}
use Rattle.std.specs.FinMap as finite
use Rattle.std.proofs.lemmas.List.{length-map}
use Rattle.dm_append_label.specs.Labels.{AreParts}
use Rattle.dm_append_label.proofs.CutParts.{each_cut_is}
use Rattle.dm_assembly_desk.specs.{declared.fault.AskFault.AskFault, Desk.Asks}
use Rattle.dm_assembly_desk.specs.declared.fault.AskFault.TheVariants as ask_fault
use Rattle.dm_assembly_desk.specs.Documents.{Pages, document_of, missing_mask, page, page_bytes, Documents}
use Rattle.dm_assembly_desk.specs.Desk as asking
use Rattle.dm_event_history.specs.declared.{event.Event.TheVariants.Ask, reply.Reply.Reply}
use Rattle.dm_event_history.specs.declared.reply.Reply.TheVariants.{Document}
use Rattle.dm_event_history.specs.Relay.{CutDocument, Actor, Label}
use Rattle.dm_event_history.specs.Steps.{Ending, Looks, AskTells, ask_reply, Step}
use Rattle.dm_event_history.specs.Headline.{AreOfOneDocument, ArePrinted, EachCleanDeskGives, HasLeft, HaveLeft, IsCleanActor, IsTheDocument}
use Rattle.dm_event_history.proofs.MergedPages.{whole_pages}

same_lists : {X : Type 0} (xs ys : List X) → length xs ≡ length ys →
    ((i : ℕ) (x y : X) → slice_get xs i ≡ Some x → slice_get ys i ≡ Some y → x ≡ y) → xs ≡ ys
same_lists [] [] len each = refl
same_lists [] (y ∷ ys) len each = absurd (omega arith)
same_lists (x ∷ xs) [] len each = absurd (omega arith)
same_lists {X} (x ∷ xs) (y ∷ ys) len each =
    let head : x ≡ y = each 0 x y refl refl in
    let tail : xs ≡ ys = same_lists xs ys (omega arith) (λ i. each (suc i)) in
    cc

-- the parts of a document, joined, are the document
joined : (cut : CutDocument) → AreParts cut.size cut.scheme cut.bytes cut.parts → concat cut.parts ≡ cut.bytes
joined cut are = ap concat are.parts_are ∙ (each_cut_is cut.size cut.scheme cut.bytes are.ends are.are_ends).joined

-- a document of which each page is held, and was printed, is the one that was
module _ (labels : List Label) (printed : ArePrinted labels) (one : AreOfOneDocument labels) (held : Documents)
    (left : HaveLeft labels held) (id : ℕ) (pages : Pages) (at : finite.get held id ≡ Some pages)
    (all : list_all is_some pages ≡ true) where
  page_left : (i : ℕ) (bytes : List ℕ) → slice_get (map page_bytes pages) i ≡ Some bytes →
      HasLeft labels id (suc i) bytes
  page_left i bytes is = left.pages id (suc i) bytes
      (ap (λ (o : Option Pages). page (unwrap_or o []) (suc i)) at ∙ (whole_pages pages all).1 i bytes is)

  its_document : (number : ℕ) (label : Label) → slice_get labels number ≡ Some label → label.page.id ≡ id →
      label.cut.bytes ≡ document_of pages
  its_document number label there own =
      let print = printed number label there in
      let c = left.counts id pages at in
      let counted = printed c.number c.label c.there in
      let same_cut : c.label.cut ≡ label.cut = one c.number number c.label label c.there there (c.id_is ∙ sym own) in
      let count : length pages ≡ length label.cut.parts =
      sym c.n_is ∙ counted.n_is ∙ ap (λ (d : CutDocument). length d.parts) same_cut in
      let parts : map page_bytes pages ≡ label.cut.parts =
      same_lists (map page_bytes pages) label.cut.parts (length-map pages page_bytes ∙ count)
      (λ i x y here its.
      let h = page_left i x here in
      let p = printed h.number h.label h.there in
      let cuts : h.label.cut ≡ label.cut = one h.number number h.label label h.there there (h.id_is ∙ sym own) in
      let place : p.place ≡ i =
      (let e : p.place + 1 ≡ suc i = sym p.m_is ∙ h.m_is in omega arith) in
      let part : slice_get label.cut.parts i ≡ Some h.label.page.bytes =
      subst (λ (k : ℕ). slice_get label.cut.parts k ≡ Some h.label.page.bytes) place
      (subst (λ (d : CutDocument). slice_get d.parts p.place ≡ Some h.label.page.bytes) cuts p.part) in
      let bytes : h.label.page.bytes ≡ x = h.bytes_are in
      cc (part, its, bytes)) in
      sym (joined label.cut print.are_parts) ∙ sym (ap concat parts) ∙ sym (whole_pages pages all).0

abbrev Gives : Type 0
Gives = Result (List ℕ) AskFault

by_test : (labels : List Label) → ArePrinted labels → AreOfOneDocument labels → (held : Documents) →
    HaveLeft labels held → (id : ℕ) (pages : Pages) (bytes : List ℕ) → finite.get held id ≡ Some pages → (test : Bool) →
    list_all is_some pages ≡ test →
    (let given : Gives = Ok bytes in
    asking.GivesByVerdict (λ b. b) ask_fault.Memory
    (if test then Ok (document_of pages) else Err (ask_fault.Incomplete (missing_mask pages))) given) →
    IsTheDocument labels id bytes
by_test labels printed one held left id pages bytes at true all given =
    let c = left.counts id pages at in (
      (λ number label there own.
          its_document labels printed one held left id pages at all number label there own ∙ sym given),
      c.number,
      c.label,
      c.there,
      c.id_is,
    )
by_test labels printed one held left id pages bytes at false all given = cc (given)

by_held : (labels : List Label) → ArePrinted labels → AreOfOneDocument labels → (held : Documents) →
    HaveLeft labels held → (id : ℕ) (bytes : List ℕ) (o : Option Pages) → finite.get held id ≡ o →
    (let given : Gives = Ok bytes in Asks (λ b. b) o given) → IsTheDocument labels id bytes
by_held labels printed one held left id bytes None at given = cc (given)
by_held labels printed one held left id bytes (Some pages) at given =
    by_test labels printed one held left id pages bytes at (list_all is_some pages) refl given

by_answer : {A : Type 0} (labels : List Label) → ArePrinted labels → AreOfOneDocument labels → (held : Documents) →
    HaveLeft labels held → (id : ℕ) (bytes : List ℕ) (given : Gives) → ◌≡◌ {A = Reply A} (Document bytes) (ask_reply given) →
    Asks (λ b. b) (finite.get held id) given → IsTheDocument labels id bytes
by_answer labels printed one held left id bytes given told asks = grind (arith, by_held)

by_actor : {A : Type 0} (labels : List Label) → ArePrinted labels → AreOfOneDocument labels →
    (actor : Actor Documents) → IsCleanActor labels actor → (id : ℕ) (bytes : List ℕ) (end : Ending A Documents) →
    ◌≡◌ {A = Reply A} (Document bytes) end.reply → Looks (AskTells {A = A} id) actor end → IsTheDocument labels id bytes
by_actor labels printed one actor clean id bytes end told looks = grind (arith, by_answer)

pub each_clean_desk_gives : (A : Type 0) → EachCleanDeskGives A
each_clean_desk_gives A old new desk id bytes printed one clean step = by_case step
  where
    by_case : Step {A = A} old (Ask desk id) (Document bytes) new → IsTheDocument old.labels id bytes
    by_case (inl acts) = by_actor old.labels printed one acts.1.desk.actor (clean acts.1.desk acts.1.was) id bytes
        acts.1.end acts.1.reply_is acts.1.acts
    by_case (inr none) = cc (none.1)

-- ---- exports
