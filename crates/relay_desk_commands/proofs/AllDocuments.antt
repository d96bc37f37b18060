-- What is given of all documents: the text of each ID, and the documents one after another.
use Rattle.std.proofs.Common.{◌≡◌, ◌≤◌, ◌<◌, ◌+◌, ◌++◌, ◌∷◌, Bool, true, false, ℕ, zero, suc, List, [], Option, None, Some, cond, inr, length, get_or, map, take, append-nil, ap, refl, sym, subst, ◌∙◌, arith}
use Rattle.std.specs.{Prelude.filter, Prelude.option_map, FinMap.entries, FinMap.get}
use Rattle.std.proofs.lemmas.List.{get_or-map, length-map, map-append}
use Rattle.std.proofs.lemmas.List.Elements.{All-from_recursion, All-get_or, filter_more}
use Rattle.hex.specs.Hex.{IsBytes}
use Rattle.hex.proofs.HexLemmas.{decode_sized-encode_lower}
use Rattle.dm_append_label.specs.Labels.{id_words}
use Rattle.dm_assembly_desk.specs.Documents.{AreEntries, DeskIsInOrder, DeskView, Documents, IsFile, Pages, file, summaries, summary}
use Rattle.dm_assembly_desk.specs.declared.reply.Held.{Held}
use Rattle.dm_assembly_desk.specs.Desk.{DeskOpens, HasDeskFault}
use Rattle.dm_assembly_desk.specs.declared.fault.DeskFault.TheVariants as faults
use Rattle.dm_assembly_desk.proofs.{Found.known, StoredFiles.as_many}
use Rattle.relay_shared.specs.Lines.{id_text}
use Rattle.relay_desk_commands.specs.Desks.{IsTextOfId, is_given}
use Rattle.relay_desk_commands.specs.declared.documents.Given.{Given}

are_bytes : (id : ℕ) → id < 64516 → IsBytes (id_words id)
are_bytes id below zero = omega arith
are_bytes id below (suc zero) = omega arith
are_bytes id below (suc (suc i)) = omega arith

pub is_text : (id : ℕ) → id < 64516 → IsTextOfId (id_text id) id
is_text id below = (below, decode_sized-encode_lower (id_words id) 2 refl (are_bytes id below))

abbrev IsOf : Documents → ℕ × Pages → Type 0
IsOf held e = get held e.0 ≡ Some e.1

module _ (what : Given) (held : Documents) where
  -- the IDs among the first documents of which something is given
  abbrev pub ids_before : ℕ → List ℕ
  ids_before count = map (λ e. e.0) (filter (λ e. is_given what e.1) (take count (entries held)))

  -- the next document has these pages, and its ID follows if something is given of it
  pub record IsNext (number id : ℕ) : Type 0 where
    pub pages : Pages
    pub there : get held id ≡ Some pages
    pub more : ids_before (number + 1) ≡ ids_before number ++ cond (is_given what pages) (id ∷ []) []

  id_if : (b : Bool) (e : ℕ × Pages) → map (λ (e : ℕ × Pages). e.0) (cond b (e ∷ []) []) ≡ cond b (e.0 ∷ []) []
  id_if true e = refl
  id_if false e = refl

  of_entry : (number : ℕ) (d : ℕ × Pages) → number < length (entries held) → IsNext number (get_or (entries held) number d).0
  of_entry number d within = let e : ℕ × Pages = get_or (entries held) number d in record {
    pages = e.1;
    there = All-get_or (IsOf held) (entries held) number d within (All-from_recursion (IsOf held) (entries held) (known held));
    more = ap (map (λ (e : ℕ × Pages). e.0)) (filter_more (λ (e : ℕ × Pages). is_given what e.1) (entries held) number d within)
        ∙ map-append _ _ _ ∙ ap (λ (ids : List ℕ). ids_before number ++ ids) (id_if (is_given what e.1) e);
  }

  pub next : (number : ℕ) (found : Held) → number < length (summaries held) → found ≡ get_or (summaries held) number found →
      IsNext number found.id
  next number found within is =
      let d : ℕ × Pages = (0, []) in
      let there : number < length (entries held) = subst (λ n. number < n) (length-map (entries held) summary) within in
      let same : found ≡ summary (get_or (entries held) number d) = is ∙ get_or-map summary (entries held) number d found there in
      subst (IsNext number) (sym (ap (λ (h : Held). h.id) same)) (of_entry number d there)

-- the IDs of what is given so far, once one more was given, and where none was
pub one_more : {X : Type 0} (id : X → ℕ) (given all : List X) (one : X) (before after : List ℕ) → all ≡ given ++ one ∷ [] →
    map id given ≡ before → after ≡ before ++ id one ∷ [] → map id all ≡ after
one_more id given all one before after pushed is more =
    ap (map id) pushed ∙ map-append id given (one ∷ []) ∙ ap (λ (ids : List ℕ). ids ++ id one ∷ []) is ∙ sym more

pub none_more : {X : Type 0} (id : X → ℕ) (given : List X) (before after : List ℕ) → map id given ≡ before →
    after ≡ before ++ [] → map id given ≡ after
none_more id given before after is more = is ∙ sym (append-nil before) ∙ sym more

-- as many were seen as there are documents
pub all_seen : (held : Documents) (found : List Held) (seen : ℕ) → found ≡ summaries held → seen ≤ length found →
    length found ≤ seen → length (entries held) ≡ seen
all_seen held found seen are most least =
    let same : length found ≡ length (entries held) = ap length are ∙ length-map (entries held) summary in omega (arith, same)

-- of an open desk only memory can be lacking
pub lacks_memory : (capacity : ℕ) (desk : DeskView) → DeskOpens desk.saved capacity desk → DeskIsInOrder desk →
    HasDeskFault desk.saved capacity faults.Memory
lacks_memory capacity desk opens order = (
  opens.is_capacity,
  inr (λ honest. let found = opens.found honest in (
    rw (as_many desk.saved.content desk.held found, sym opens.capacity_is) order.few,
    λ key bytes is. is_file desk.held key bytes found.entries (sym (found.files key) ∙ is),
  )),
)
  where
    is_file : (held : Documents) (key : ℕ) (bytes : List ℕ) → AreEntries held →
        option_map (file key) (get held key) ≡ Some bytes → IsFile key bytes
    is_file held key bytes entries is = of_pages (get held key) refl is
      where
        of_pages : (found : Option Pages) → get held key ≡ found → option_map (file key) found ≡ Some bytes → IsFile key bytes
        of_pages None there is = cc (is)
        of_pages (Some pages) there is =
            (pages, record { sound = entries key pages there; spelled = cc (is) })
