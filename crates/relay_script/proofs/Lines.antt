-- Lists of texts that are read one after another, and the last line end of a text.
use Rattle.std.proofs.Common.{◌≡◌, ◌≢◌, ℕ, zero, suc, ◌-◌, ◌<◌, ◌≤◌, List, [], ◌∷◌, ◌++◌, length, take, get_or, Option, Some, None, Bor, cond, nat_lt, true, false, refl, arith}
use Rattle.std.proofs.lemmas.{Grind.common_steps, List.map-append, Slice.Zip.all_zipped_more}
use Rattle.std.specs.{List.AllZip, Option.MatchOption, Option.unwrap_or}
use Rattle.std.specs.Io.BufRead.{strip_last, ends_with_byte}
use Rattle.relay_script.specs.Words.{Nothing, texts}

-- one more is read
pub one_more : {B : Type 0} (R : List ℕ → B → Type 0) (parts : List (Bor (List ℕ))) (ys : List B)
    (part : Bor (List ℕ)) (y : B) → AllZip R (texts parts) ys → R part.now y
    → AllZip R (texts (parts ++ part ∷ [])) (ys ++ y ∷ [])
one_more R parts ys part y so_far at =
    rw (map-append (λ (part : Bor (List ℕ)). part.now) parts (part ∷ [])) (all_zipped_more R _ _ _ _ so_far at)

-- one text that nothing fits is enough
pub none_at : {B : Type 0} (R : List ℕ → B → Type 0) (texts : List (List ℕ)) (ys : List B) (i : ℕ) (text : List ℕ)
    → i < length texts → text ≡ get_or texts i text → Nothing (R text) → ¬ AllZip R texts ys
none_at R [] ys i text below is none all = absurd (omega arith)
none_at R (x ∷ texts) [] i text below is none all = all
none_at R (x ∷ texts) (y ∷ ys) zero text below is none all = none y (rw is all.0)
none_at R (x ∷ texts) (y ∷ ys) (suc i) text below is none all = none_at R texts ys i text (omega arith) is none all.1

-- a text without its last line end
pub stripped : (text : Bor (List ℕ)) (found : Option (Bor (List ℕ)))
    → MatchOption found ((front : List ℕ) → text.now ≢ front ++ 10 ∷ []) (λ front. text.now ≡ front.now ++ 10 ∷ [])
    → (unwrap_or found text).now ≡ strip_last 10 text.now
stripped text (Some front) is = rw is (grind (arith, common_steps))
stripped text None none =
    elim (ends_with_byte 10 text.now) as
    (λ ends. ends ≡ ends_with_byte 10 text.now → text.now ≡ strip_last 10 text.now) [
      | true ↦ λ ends. absurd (none (take (length text.now - 1) text.now) (grind (arith, common_steps)))
      | false ↦ λ ends. grind (arith, common_steps)
    ] refl

-- the place of the first line of desks, where there is one
pub place_found : (n many : ℕ) (found : Option ℕ) → found ≡ cond (nat_lt n many) (Some n) None
    → MatchOption found (many ≤ n) (λ place. (place ≡ n) × (place < many))
place_found n many (Some place) is = grind (arith, common_steps)
place_found n many None is = grind (arith, common_steps)
