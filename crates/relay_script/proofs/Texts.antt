-- The texts of a line's words, one by one.
use Rattle.std.proofs.Common.{◌≡◌, ◌+◌, ◌<◌, ◌≤◌, ◌∙◌, ℕ, suc, List, [], ◌∷◌, length, map, get_or, Bor, ap, sym, subst, arith}
use Rattle.std.proofs.Math.ListN.{get_or-map}
use Rattle.std.proofs.lemmas.{List.FromFn.fill_by_all, List.length-map}
use Rattle.std.specs.List.{range_with_len}
use Rattle.relay_script.specs.Words.{texts}

-- what is read past the last word
abbrev pub no_word : Bor (List ℕ)
no_word = record { ref_ptr = (0, 0); now = [] }

-- what holds of a name and of the m words after it holds of the line that they are
pub by_words : (P : List (List ℕ) → Type 0) (words : List (Bor (List ℕ))) (m : ℕ) (name : List ℕ)
    → suc m ≤ length words → length words < suc m + 1 → (get_or words 0 no_word).now ≡ name
    → P (name ∷ map (λ i. (get_or words i no_word).now) (range_with_len 1 m)) → P (texts words)
by_words P words m name least below named here =
    let all : texts words ≡ name ∷ map (λ i. (get_or words i no_word).now) (range_with_len 1 m) =
    fill_by_all (λ i. (get_or words i no_word).now) (texts words) (suc m) []
    (omega (arith, length-map words (λ (word : Bor (List ℕ)). word.now)))
    (λ k under. get_or-map (λ (word : Bor (List ℕ)). word.now) words k no_word)
    ∙ ap (λ first. first ∷ map (λ i. (get_or words i no_word).now) (range_with_len 1 m)) named in
    subst P (sym all) here
