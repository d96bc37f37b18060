-- There is one sound block with a given message.
use Rattle.std.proofs.Common.{◌≡◌, ℕ, ◌+◌, ◌≤◌, refl, sym, ◌∙◌, arith, List, [], ◌∷◌, ◌++◌, length, length-append, Bool, true, false, cond, eqb, eq-eqb}
use Rattle.dm_gf256.specs.Field.{differ, IsSoundBlock}
use Rattle.dm_gf256.proofs.{OneBlockWord.one_block_word, Vanish.Bytes}
use Rattle.std.proofs.lemmas.List.{append_cancel_left}

-- one place differs at most once
one_most : (c : Bool) → cond c 0 1 ≤ 1
one_most true = omega arith
one_most false = omega arith

-- the number of places that differ is at most the length
pub differ_most : (a b : List ℕ) → differ a b ≤ length a
unfolding differ
differ_most [] b = omega arith
differ_most (x ∷ xs) [] = omega arith
differ_most (x ∷ xs) (y ∷ ys) = omega (arith, differ_most xs ys, one_most (eqb x y))

-- two lists with one beginning differ only after it
pub differ_after : (m a b : List ℕ) → length a ≡ length b → differ (m ++ a) (m ++ b) ≤ length a
unfolding differ
differ_after [] a b e = differ_most a b
differ_after (x ∷ m) a b e = rw (eq-eqb x x refl) (omega (arith, differ_after m a b e))

-- there is one sound block with a given message
pub one_completion : (m a b : List ℕ) → length a ≡ length b → length (m ++ a) ≤ 255 → Bytes (m ++ a) → Bytes (m ++ b) →
    IsSoundBlock (length a) (m ++ a) → IsSoundBlock (length a) (m ++ b) → m ++ a ≡ m ++ b
one_completion m a b e l p q u v =
    one_block_word (length a) (m ++ a) (m ++ b) (simp length-append (omega arith)) l p q u v (differ_after m a b e)

-- two lists of bytes, joined, are bytes
bytes_append : (xs ys : List ℕ) → Bytes xs → Bytes ys → Bytes (xs ++ ys)
bytes_append [] ys p q = q
bytes_append (x ∷ xs) ys p q = (p.0, bytes_append xs ys (p.1) q)

-- a message has one list of error correction codewords
pub one_list_of_checks : (n : ℕ) (m a b : List ℕ) → length a ≡ n → length b ≡ n → length m + n ≤ 255 → Bytes m →
    Bytes a → Bytes b → IsSoundBlock n (m ++ a) → IsSoundBlock n (m ++ b) → a ≡ b
one_list_of_checks n m a b p q fits u v w y z =
    append_cancel_left m a b
    (one_block_word n (m ++ a) (m ++ b) (simp length-append (omega arith)) (simp length-append (omega arith))
    (bytes_append m a u v) (bytes_append m b u w) y z
    (let d = differ_after m a b (p ∙ sym q) in omega arith))
