-- What the pages that are held and those that are given are together, page by page.
use Rattle.std.proofs.Common.{arith, ◌≡◌, ℕ, zero, suc, ◌&&◌, List, [], ◌∷◌, Bool, true, false, Option, Some, None, refl, ap, sym, ◌∙◌}
use Rattle.std.specs.{Prelude.is_none, Prelude.is_some, Option.option_or}
use Rattle.std.proofs.lemmas.{Bool.and_parts, Slice.Eq.bytes_eq-Decides}
use Rattle.dm_assembly_desk.specs.Documents.{Pages, page, names, union_of_pages, added_mask, agrees_at, agree}
use Rattle.dm_assembly_desk.proofs.Masks.{half, odd, none_named, names_mask}

and_none : (b : Bool) → (b && false) ≡ false
and_none b = grind arith

-- what is added are just the pages of the file that aren't held
pub names_added : (own pages : Pages) (m : ℕ) →
    names (added_mask own pages) m ≡ (is_none (page own m) && is_some (page pages m))
names_added own pages zero = refl
names_added [] pages (suc m) = names_mask pages (suc m)
names_added (p ∷ ps) [] (suc m) = none_named (suc m) ∙ sym (and_none (is_none (page (p ∷ ps) (suc m))))
names_added (p ∷ ps) (q ∷ qs) (suc zero) = odd (added_mask ps qs) (is_none p && is_some q)
names_added (p ∷ ps) (q ∷ qs) (suc (suc m)) =
    ap (λ (x : ℕ). names x (suc m)) (half (added_mask ps qs) (is_none p && is_some q)) ∙ names_added ps qs (suc m)

else_none : (o : Option (List ℕ)) → o ≡ option_or o None
else_none o = grind arith

-- each page is what was held, else what the file has
pub page_merged : (own pages : Pages) (m : ℕ) → page (union_of_pages own pages) m
    ≡ option_or (page own m) (page pages m)
page_merged own pages zero = refl
page_merged [] pages (suc m) = refl
page_merged (p ∷ ps) [] (suc m) = else_none (page (p ∷ ps) (suc m))
page_merged (p ∷ ps) (q ∷ qs) (suc zero) = refl
page_merged (p ∷ ps) (q ∷ qs) (suc (suc m)) = page_merged ps qs (suc m)

same_bytes : (p q : Option (List ℕ)) (one other : List ℕ) → agrees_at p q ≡ true → p ≡ Some one → q ≡ Some other →
    one ≡ other
same_bytes p q one other same is is_other = grind (arith, bytes_eq-Decides)

-- a page that is held and given has the same bytes
pub agreed : (own given : Pages) (m : ℕ) (one other : List ℕ) → agree own given ≡ true → page own m ≡ Some one →
    page given m ≡ Some other → one ≡ other
agreed own given zero one other same is is_other = absurd cc
agreed [] given (suc m) one other same is is_other = absurd cc
agreed (p ∷ ps) [] (suc m) one other same is is_other = absurd cc
agreed (p ∷ ps) (q ∷ qs) (suc zero) one other same is is_other =
    same_bytes p q one other (and_parts (agrees_at p q) (agree ps qs) same).0 is is_other
agreed (p ∷ ps) (q ∷ qs) (suc (suc m)) one other same is is_other =
    agreed ps qs (suc m) one other (and_parts (agrees_at p q) (agree ps qs) same).1 is is_other
