-- Lists of pages that are joined: which pages are there, one by one, and where two lists disagree.
use Rattle.std.proofs.Common.{◌≡◌, ◌≢◌, ℕ, zero, suc, ◌≤◌, ◌&&◌, List, [], ◌∷◌, ◌++◌, length, slice_get, ap, Bool, true, false, Option, Some, None, IsSome, refl, arith, inl, inr, sym, ◌∙◌, map as mapped}
use Rattle.std.specs.{Prelude.is_some, List.list_all, List.concat}
use Rattle.std.proofs.lemmas.{Slice.Eq.bytes_eq-Decides, Bool.and_parts}
use Rattle.dm_assembly_desk.specs.Documents.{Pages, page, lacks, page_bytes, document_of, agrees_at, agree}
use Rattle.dm_event_history.proofs.Deciding.{decided}

-- where each page is there, any of them is
pub all_held : (ps : Pages) → list_all is_some ps ≡ true → (m : ℕ) → 1 ≤ m → m ≤ length ps → IsSome (page ps m)
all_held ps is zero least most = absurd (omega arith)
all_held [] is (suc m) least most = absurd (omega arith)
all_held (p ∷ ps) is (suc zero) least most = grind (arith, and_parts)
all_held (p ∷ ps) is (suc (suc m)) least most =
    all_held ps (and_parts (is_some p) (list_all is_some ps) is).1 (suc m) (omega arith) (omega arith)

-- where not each page is there, one of them is missing
pub one_lacks : (ps : Pages) → list_all is_some ps ≡ false → (m : ℕ) × (1 ≤ m) × (m ≤ length ps) × (page ps m ≡ None)
one_lacks [] is = cc
one_lacks (None ∷ ps) is = (1, omega arith, omega arith, refl)
one_lacks (Some x ∷ ps) is = later (one_lacks ps is)
  where
    later : ((m : ℕ) × (1 ≤ m) × (m ≤ length ps) × (page ps m ≡ None)) →
        (m : ℕ) × (1 ≤ m) × (m ≤ suc (length ps)) × (page (Some x ∷ ps) m ≡ None)
    later (zero, least, most, none) = absurd (omega arith)
    later (suc m, least, most, none) = (suc (suc m), omega arith, omega arith, none)

-- a page that is held with other bytes than those given
pub record Differs (own pages : Pages) : Type 0 where
  pub m : ℕ
  pub one : List ℕ
  pub other : List ℕ
  pub held : page own m ≡ Some one
  pub filed : page pages m ≡ Some other
  pub differ : one ≢ other

page_later : (p : Option (List ℕ)) (ps : Pages) (m : ℕ) (x : List ℕ) → page ps m ≡ Some x →
    page (p ∷ ps) (suc m) ≡ Some x
page_later p ps zero x is = cc (is)
page_later p ps (suc m) x is = is

differs_first : (p q : Option (List ℕ)) (ps qs : Pages) → agrees_at p q ≡ false → Differs (p ∷ ps) (q ∷ qs)
differs_first None q ps qs other = cc
differs_first (Some one) None ps qs other = cc
differs_first (Some one) (Some two) ps qs other = record {
  m = 1;
  one = one;
  other = two;
  held = refl;
  filed = refl;
  differ = grind (arith, bytes_eq-Decides);
}

-- lists that do not agree have such a page
pub differs : (own pages : Pages) → agree own pages ≡ false → Differs own pages
differs [] pages is = cc
differs (p ∷ ps) [] is = cc
differs (p ∷ ps) (q ∷ qs) is = elim (decided (agrees_at p q)) [
  | inl same ↦
      let d = differs ps qs (ap (λ (b : Bool). b && agree ps qs) (sym same) ∙ is) in record {
        m = suc d.m;
        one = d.one;
        other = d.other;
        held = page_later p ps d.m d.one d.held;
        filed = page_later q qs d.m d.other d.filed;
        differ = d.differ;
      }
  | inr other ↦ differs_first p q ps qs other
]

-- a document whose pages are all held is its pages, joined
pub whole_pages : (pages : Pages) → list_all is_some pages ≡ true →
    (document_of pages ≡ concat (mapped page_bytes pages)) ×
    ((i : ℕ) (x : List ℕ) → slice_get (mapped page_bytes pages) i ≡ Some x → page pages (suc i) ≡ Some x)
whole_pages [] all = (refl, (λ i x is. cc))
whole_pages (None ∷ ps) all = cc
whole_pages (Some y ∷ ps) all =
    let t = whole_pages ps all in
    (ap (λ (l : List ℕ). y ++ l) t.0, at t.1)
  where
    at : ((i : ℕ) (x : List ℕ) → slice_get (mapped page_bytes ps) i ≡ Some x → page ps (suc i) ≡ Some x) →
        (i : ℕ) (x : List ℕ) → slice_get (y ∷ mapped page_bytes ps) i ≡ Some x → page (Some y ∷ ps) (suc i) ≡ Some x
    at rest zero x is = is
    at rest (suc i) x is = rest i x is

-- a page that lacks is one of them, and isn't held; any other of them is held
pub lacks_means : (pages : Pages) (m : ℕ) →
    (lacks pages m ≡ true → (1 ≤ m) × (m ≤ length pages) × (page pages m ≡ None)) ×
    (lacks pages m ≡ false → 1 ≤ m → m ≤ length pages → IsSome (page pages m))
lacks_means pages zero = ((λ e. cc), (λ e low high. absurd (omega arith)))
lacks_means [] (suc m) = ((λ e. cc), (λ e low high. absurd (omega arith)))
lacks_means (None ∷ ps) (suc zero) = ((λ e. ((omega arith), (omega arith), refl)), (λ e low high. cc))
lacks_means (Some x ∷ ps) (suc zero) = ((λ e. cc), (λ e low high. refl))
lacks_means (p ∷ ps) (suc (suc m)) = grind (arith, (lacks_means ps (suc m)))
