-- What a buffer before a writer keeps where the writer has refused a part of it.
use Rattle.std.proofs.Common.{◌≡◌, ◌≤◌, ℕ, ◌+◌, ◌-◌, List, [], ◌++◌, Option, Some, None, length, take, drop, sym, ap, ◌∙◌, append_assoc, append-nil, add-zero, arith}
use Rattle.std.proofs.{lemmas.List.drop-take, Math.Seq.take-append-add}
use Rattle.std.specs.Io.KnownBytes.{Appends, append_known}
use Rattle.relay_buffers.specs.Buffers.{BufferView, promised}

-- nothing comes after the first n of the first n items
none_behind : (n : ℕ) (xs : List ℕ) → drop n (take n xs) ≡ []
none_behind n xs = ap (λ m. drop n (take m xs)) (sym (add-zero n)) ∙ drop-take n 0 xs

-- the first items of two lists, beyond those of the first
first_of_both : (xs ys : List ℕ) (n : ℕ) → length xs ≤ n → take n (xs ++ ys) ≡ xs ++ take (n - length xs) ys
first_of_both xs ys n h =
    let e : n ≡ length xs + (n - length xs) = omega arith in
    ap (λ m. take m (xs ++ ys)) e ∙ take-append-add xs ys (n - length xs)

part_taken : (a b : Option (List ℕ)) (held more : List ℕ) (n : ℕ) → length held ≤ n
    → Appends a b (take n (held ++ more))
    → Appends (append_known a held) (append_known b (drop n (take n (held ++ more)))) (take (n - length held) more)
part_taken None b held more n h p = tt
part_taken (Some x) None held more n h p = absurd p
part_taken (Some x) (Some y) held more n h p =
    ap (λ l. y ++ l) (none_behind n (held ++ more)) ∙ append-nil y ∙ p ∙ ap (λ l. x ++ l) (first_of_both held more n h)
    ∙ sym (append_assoc x held (take (n - length held) more))

-- What is out went beyond what was held: a part of the last write was taken.
pub taken_in_part : (old : BufferView) (a b : Option (List ℕ)) (held more all cut : List ℕ) (n before : ℕ) → old.out ≡ a
    → old.held ≡ held → before ≡ length held → before ≤ n → all ≡ held ++ more → cut ≡ take n all
    → Appends a b (take n all) → Appends (promised old) (append_known b (drop n cut)) (take (n - before) more)
taken_in_part old a b held more all cut n before e1 e2 e3 le e4 e5 p =
    rw e1 (rw e2 (rw e5 (rw e4 (rw e3 (part_taken a b held more n (rw e3 at le) (rw e4 at p))))))
