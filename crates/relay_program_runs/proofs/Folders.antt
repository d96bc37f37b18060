-- A set whose files are files of printed pages, each under the key of its document, holds pages of printed labels alone.
use Rattle.std.proofs.Common.{◌≡◌, ℕ, Bool, true, false, List, [], ◌∷◌, None, Option, Some, refl, sym, ap, subst, ◌∙◌}
use Rattle.std.specs.Prelude.{◌||◌, cond, is_some, option_map, unwrap_or, IsTrue}
use Rattle.std.specs.{List.list_any, Ordering.eq_by_cmp, Ordering.nat_cmp, Cmp.nat_cmp_total}
use Rattle.std.specs.FinMap as finite
use Rattle.dm_store.specs.Saved.{SavedSet}
use Rattle.dm_assembly_desk.specs.Documents.{Documents, HoldsFiles, IsEntry, Pages, file, page, page_at}
use Rattle.dm_assembly_desk.proofs.Loading.{same_key}
use Rattle.dm_event_history.specs.{Relay.Label, Headline.HasLeft, Headline.HaveLeft, Headline.IsCleanExport}
use Rattle.dm_event_history.proofs.Told.{page_none}
use Rattle.relay_desk_runs.specs.Answered.{HoldsPrinted, IsPrintedFile}

-- a file of printed pages of the document with this key
abbrev pub IsFileOf : List Label → ℕ → List ℕ → Type 0
IsFileOf labels key bytes = (f : IsPrintedFile labels bytes) × (f.id ≡ key)

module _ (labels : List Label) (set : SavedSet)
    (each : (key : ℕ) (bytes : List ℕ) → finite.get set.content key ≡ Some bytes → IsFileOf labels key bytes) where
  -- the pages of the file with a key
  abbrev Reads : ℕ → Option (List ℕ) → Option Pages → Type 0
  Reads key None pages = pages ≡ None
  Reads key (Some bytes) pages = (f : IsFileOf labels key bytes) × (pages ≡ Some f.0.pages)

  reads : (key : ℕ) (o : Option (List ℕ)) → finite.get set.content key ≡ o → (pages : Option Pages) × Reads key o pages
  reads key None is = (None, refl)
  reads key (Some bytes) is = let f = each key bytes is in (Some f.0.pages, (f, refl))

  pages_at : ℕ → Option Pages
  pages_at key = (reads key (finite.get set.content key) refl).0

  are_read : (key : ℕ) (o : Option (List ℕ)) → finite.get set.content key ≡ o → Reads key o (pages_at key)
  unfolding pages_at reads
  are_read key o is = subst (λ (p : Option (List ℕ)). Reads key p (pages_at key)) is
      (reads key (finite.get set.content key) refl).1

  -- what the set holds
  abbrev with_pages : ℕ → Option Pages → List (ℕ × Pages) → List (ℕ × Pages)
  with_pages key None entries = entries
  with_pages key (Some pages) entries = (key, pages) ∷ entries

  entries : List ℕ → List (ℕ × Pages)
  entries [] = []
  entries (key ∷ keys) = with_pages key (pages_at key) (entries keys)

  held : Documents
  held = finite.from_entries (entries (finite.keys set.content))

  same_none : (b : Bool) → cond b (let o : Option Pages = None in o) None ≡ None
  same_none true = refl
  same_none false = refl

  found_next : (q key : ℕ) (keys : List ℕ) (b : Bool) → eq_by_cmp nat_cmp q key ≡ b → (p : Option Pages) → pages_at key ≡ p →
      finite.find nat_cmp q (entries keys) ≡ cond (list_any (eq_by_cmp nat_cmp q) keys) (pages_at q) None →
      finite.find nat_cmp q (with_pages key p (entries keys))
      ≡ cond (b || list_any (eq_by_cmp nat_cmp q) keys) (pages_at q) None
  found_next q key keys true ties None none rest =
      let own : pages_at q ≡ None = ap pages_at (same_key q key ties) ∙ none in
      rest ∙ ap (λ (p : Option Pages). cond (list_any (eq_by_cmp nat_cmp q) keys) p None) own ∙ same_none _ ∙ sym own
  found_next q key keys true ties (Some pages) some rest =
      ap (λ (b : Bool). cond b (Some pages) (finite.find nat_cmp q (entries keys))) ties
      ∙ sym some ∙ ap pages_at (sym (same_key q key ties))
  found_next q key keys false ties None none rest = rest
  found_next q key keys false ties (Some pages) some rest =
      ap (λ (b : Bool). cond b (Some pages) (finite.find nat_cmp q (entries keys))) ties ∙ rest

  found : (q : ℕ) (keys : List ℕ) →
      finite.find nat_cmp q (entries keys) ≡ cond (list_any (eq_by_cmp nat_cmp q) keys) (pages_at q) None
  unfolding entries
  found q [] = refl
  found q (key ∷ keys) = found_next q key keys (eq_by_cmp nat_cmp q key) refl (pages_at key) refl (found q keys)

  some_key : (q : ℕ) (o : Option (List ℕ)) → finite.get set.content q ≡ o → cond (is_some o) (pages_at q) None ≡ pages_at q
  some_key q None is = sym (are_read q None is)
  some_key q (Some bytes) is = refl

  held_at : (q : ℕ) → finite.get held q ≡ pages_at q
  unfolding held
  held_at q = finite.get-from_entries nat_cmp_total (entries (finite.keys set.content)) q
      ∙ found q (finite.keys set.content)
      ∙ ap (λ (b : Bool). cond b (pages_at q) None) (sym (finite.contains_key-keys set.content q))
      ∙ some_key q (finite.get set.content q) refl

  -- each of these is of pages that were printed
  record IsPrintedEntry (id : ℕ) (pages : Pages) : Type 0 where
    sound : IsEntry id pages
    clean : IsCleanExport labels (record { id = id; pages = pages })

  as_entry : (id : ℕ) (bytes : List ℕ) (f : IsFileOf labels id bytes) → IsPrintedEntry id f.0.pages
  as_entry id bytes f = record {
    sound = subst (λ (n : ℕ). IsEntry n f.0.pages) f.1 f.0.sound;
    clean = subst (λ (n : ℕ). IsCleanExport labels (record { id = n; pages = f.0.pages })) f.1 f.0.clean;
  }

  each_entry : (id : ℕ) (pages : Pages) → finite.get held id ≡ Some pages → IsPrintedEntry id pages
  each_entry id pages is = by (finite.get set.content id) refl
    where
      at : pages_at id ≡ Some pages
      at = sym (held_at id) ∙ is

      by : (o : Option (List ℕ)) → finite.get set.content id ≡ o → IsPrintedEntry id pages
      by None none = (let no_pages = are_read id None none in cc (no_pages, at))
      by (Some bytes) some =
          let r = are_read id (Some bytes) some in
          let same : r.0.0.pages ≡ pages = (let own = r.1 in cc (own, at)) in
          subst (IsPrintedEntry id) same (as_entry id bytes r.0)

  holds_files : HoldsFiles set.content held
  holds_files = record {
    entries = λ id pages is. (each_entry id pages is).sound;
    files = λ id. by id (finite.get set.content id) refl;
  }
    where
      by : (id : ℕ) (o : Option (List ℕ)) → finite.get set.content id ≡ o →
          finite.get set.content id ≡ option_map (file id) (finite.get held id)
      by id None none = none ∙ sym (ap (option_map (file id)) (held_at id ∙ are_read id None none))
      by id (Some bytes) some =
          let r = are_read id (Some bytes) some in
          some ∙ ap Some (r.0.0.is_file ∙ ap (λ (n : ℕ). file n r.0.0.pages) r.0.1)
          ∙ sym (ap (option_map (file id)) (held_at id ∙ r.1))

  have_left : HaveLeft labels held
  have_left = record {
    pages = λ id m bytes is. by id m bytes (finite.get held id) refl is;
    counts = λ id pages is. (each_entry id pages is).clean.count;
    some = λ id pages is. (each_entry id pages is).clean.some;
  }
    where
      by : (id m : ℕ) (bytes : List ℕ) (o : Option Pages) → finite.get held id ≡ o → page_at held id m ≡ Some bytes →
          HasLeft labels id m bytes
      by id m bytes None none is =
          let gone = ap (λ (o : Option Pages). page (unwrap_or o []) m) none ∙ page_none m in absurd (cc (gone, is))
      by id m bytes (Some pages) some is = (each_entry id pages some).clean.pages m bytes
          (sym (ap (λ (o : Option Pages). page (unwrap_or o []) m) some) ∙ is)

  pub holds_printed : IsTrue set.is_honest → HoldsPrinted labels set
  holds_printed honest = record { honest = honest; held = held; files = holds_files; printed = have_left }
