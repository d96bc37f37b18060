-- A ledger can be read back from its bytes.
use Rattle.std.proofs.Common.{◌≡◌, ◌≤◌, ◌<◌, ◌+◌, ◌-◌, ◌*◌, ◌/◌, ◌%◌, ℕ, List, [], ◌∷◌, ◌++◌, length, get_or, refl, ap, ◌∙◌, sym, subst, arith, append_assoc, length-append}
use Rattle.std.specs.List.{flat_map}
use Rattle.std.proofs.lemmas.List.{get_or_at, get_or-append-add}
use Rattle.dm_print_ledger.proofs.Rising.{IsSound}
use Rattle.dm_print_ledger.specs.declared.{range.Range.Range, giver.Giver.Giver}
use Rattle.dm_print_ledger.specs.Ledger.{LedgerView, free_count, ledger_bytes, range_bytes, giver_bytes, number_in, two_bytes, pairs_in, make_range, make_giver, range_count, giver_count, numbers_in}

-- a number is that of its two bytes
pub joins : (n : ℕ) → 256 * (n / 256) + n % 256 ≡ n
joins n = omega arith

-- one more pair, and the rest after it
pub pairs_more : {X : Type 0} (make : ℕ → ℕ → X) (bytes : List ℕ) (at i count : ℕ) → i < count →
    pairs_in make bytes (at + 4 * i) (count - i)
    ≡ make (number_in bytes (at + 4 * i)) (number_in bytes (at + 4 * i + 2)) ∷ pairs_in make bytes
    (at + 4 * (i + 1)) (count - (i + 1))
pairs_more make bytes at i count below = grind arith

-- what stands after a front
after_front : (front rest : List ℕ) (at k : ℕ) → length front ≡ at → get_or (front ++ rest) (at + k) 0 ≡ get_or rest k 0
after_front front rest at k e = grind (arith, get_or-append-add)

-- the number that stands after a front
first_number : (front rest : List ℕ) (n b at : ℕ) → length front ≡ at →
    number_in (front ++ (n / 256 ∷ n % 256 ∷ rest)) at ≡ n
first_number front rest n b at e = grind (arith, get_or_at, after_front, joins)

-- the number that stands two bytes after a front
second_number : (front rest : List ℕ) (a b n at : ℕ) → length front ≡ at →
    number_in (front ++ (a ∷ b ∷ n / 256 ∷ n % 256 ∷ rest)) (at + 2) ≡ n
second_number front rest a b n at e =
    let all : List ℕ = front ++ (a ∷ b ∷ n / 256 ∷ n % 256 ∷ rest) in
    let p : get_or (front ++ (a ∷ b ∷ n / 256 ∷ n % 256 ∷ rest)) (at + 2) 0
    ≡ n / 256 = after_front front (a ∷ b ∷ n / 256 ∷ n % 256 ∷ rest) at 2 e in
    let q : get_or (front ++ (a ∷ b ∷ n / 256 ∷ n % 256 ∷ rest)) (at + 3) 0
    ≡ n % 256 = after_front front (a ∷ b ∷ n / 256 ∷ n % 256 ∷ rest) at 3 e in
    let s : at + 2 + 1 ≡ at + 3 = omega arith in
    let r : get_or (front ++ (a ∷ b ∷ n / 256 ∷ n % 256 ∷ rest)) (at + 2 + 1) 0
    ≡ n % 256 = ap (λ i. get_or (front ++ (a ∷ b ∷ n / 256 ∷ n % 256 ∷ rest)) i 0) s ∙ q in
    ap (λ x. 256 * x + get_or (front ++ (a ∷ b ∷ n / 256 ∷ n % 256 ∷ rest)) (at + 2 + 1) 0) p ∙
    ap (λ x. 256 * (n / 256) + x) r ∙ joins n

-- pairs that were written are read
pub pairs_again : {X : Type 0} (make : ℕ → ℕ → X) (one two : X → ℕ) → ((x : X) → make (one x) (two x) ≡ x) →
    (front : List ℕ) (xs : List X) (rest : List ℕ) (at : ℕ) → length front ≡ at →
    pairs_in make (front ++ (flat_map (λ x. one x / 256 ∷ one x % 256 ∷ two x / 256 ∷ two x % 256 ∷ []) xs ++ rest)) at
    (length xs) ≡ xs
pairs_again make one two whole front [] rest at e = refl
pairs_again {X} make one two whole front (x ∷ xs) rest at e =
    let four : List ℕ = one x / 256 ∷ one x % 256 ∷ two x / 256 ∷ two x % 256 ∷ [] in
    let tail : List ℕ = flat_map (λ x. one x / 256 ∷ one x % 256 ∷ two x / 256 ∷ two x % 256 ∷ []) xs ++ rest in
    let all : List ℕ = front ++ (one x / 256 ∷ one x % 256 ∷ two x / 256 ∷ two x % 256 ∷ tail) in
    let p : number_in all at ≡ one x = first_number front (two x / 256 ∷ two x % 256 ∷ tail) (one x) 0 at e in
    let q : number_in all (at + 2) ≡ two x = second_number front tail (one x / 256) (one x % 256) (two x) at e in
    let len : length (front ++ four) ≡ at + 4 = length-append front four ∙ ap (λ n. n + 4) e in
    let same : (front ++ four) ++ tail ≡ all = append_assoc front four tail in
    let r : pairs_in make all (at + 4) (length xs) ≡ xs =
    subst (λ (bytes : List ℕ). pairs_in make bytes (at + 4) (length xs)
    ≡ xs) same (pairs_again make one two whole (front ++ four) xs rest (at + 4) len) in
    ap (λ n. make n (number_in all (at + 2)) ∷ pairs_in make all (at + 4) (length xs)) p
    ∙ ap (λ n. make (one x) n ∷ pairs_in make all (at + 4) (length xs)) q
    ∙ ap (λ y. y ∷ pairs_in make all (at + 4) (length xs)) (whole x)
    ∙ ap (λ ys. x ∷ ys) r

-- items of four bytes each
pub length_fours : {X : Type 0} (f : X → List ℕ) → ((x : X) → length (f x) ≡ 4) → (xs : List X) →
    length (flat_map f xs) ≡ 4 * length xs
length_fours f four [] = refl
length_fours f four (x ∷ xs) = grind (arith, length-append, length_fours f four xs)

-- the ten bytes before the ranges
abbrev front_of : LedgerView → List ℕ
front_of l = 68 ∷ 77 ∷ 76 ∷ 71 ∷ 2 ∷ l.number / 256 ∷ l.number % 256 ∷ l.next_serial / 256 ∷ l.next_serial %
    256 ∷ length l.free ∷ []

-- the bytes after the count of givers
abbrev givers_of : LedgerView → List ℕ
givers_of l = flat_map giver_bytes l.givers ++ two_bytes (65535 - free_count l.free)

-- with the ranges after them
abbrev ranges_of : LedgerView → List ℕ
ranges_of l = front_of l ++ flat_map range_bytes l.free

-- the ranges with what is before them, and the givers with what is after them
pub regrouped : (l : LedgerView) → ledger_bytes l ≡ ranges_of l ++ (length l.givers ∷ givers_of l)
unfolding ledger_bytes
regrouped l = sym (append_assoc (front_of l) (flat_map range_bytes l.free) (length l.givers ∷ givers_of l))

-- how many bytes stand before the count of givers
length-ranges_of : (l : LedgerView) → length (ranges_of l) ≡ 10 + 4 * length l.free
length-ranges_of l = grind (arith, length_fours, length-append)

-- how many bytes a ledger has
pub length-ledger_bytes : (l : LedgerView) → length (ledger_bytes l) ≡ 13 + 4 * length l.free + 4 * length l.givers
length-ledger_bytes l = grind (arith, regrouped, length-append, length-ranges_of, length_fours)

-- the tenth byte is the count of ranges
pub range_count_is : (l : LedgerView) → range_count (ledger_bytes l) ≡ length l.free
unfolding ledger_bytes
range_count_is l = refl

-- the count of givers stands after the ranges
pub giver_count_is : (l : LedgerView) → giver_count (ledger_bytes l) ≡ length l.givers
giver_count_is l = grind (arith, range_count_is, regrouped, get_or_at, length-ranges_of)

-- there are as many bytes as the counts ask for
pub record HasSize (bytes : List ℕ) : Type 0 where
  pub ranges : range_count bytes ≤ 64
  pub givers : giver_count bytes ≤ 64
  pub size : length bytes ≡ 13 + 4 * range_count bytes + 4 * giver_count bytes

-- a sound ledger has as many bytes as its counts ask for
pub has_size : (l : LedgerView) → IsSound l → HasSize (ledger_bytes l)
has_size l sound = grind (arith, range_count_is, giver_count_is, length-ledger_bytes)

-- the ranges are read back
free_again : (l : LedgerView) → pairs_in make_range (ledger_bytes l) 10 (length l.free) ≡ l.free
unfolding ledger_bytes
free_again l = pairs_again make_range (λ r. r.first) (λ r. r.last) (λ r. refl) (front_of l) l.free
    (length l.givers ∷ givers_of l) 10 refl

-- the givers are read back
givers_again : (l : LedgerView) → pairs_in make_giver (ledger_bytes l) (11 + 4 * length l.free)
    (length l.givers) ≡ l.givers
givers_again l =
    let front : List ℕ = ranges_of l ++ (length l.givers ∷ []) in
    let len : length (ranges_of l ++ (length l.givers ∷ [])) ≡ 11 + 4 * length l.free =
    (let a : length (ranges_of l ++ (length l.givers ∷ [])) ≡ length (ranges_of l) + 1 = length-append (ranges_of l)
    (length l.givers ∷ []) in
    let b : length (ranges_of l) ≡ 10 + 4 * length l.free = length-ranges_of l in
    omega arith) in
    let same : front ++ givers_of l ≡ ledger_bytes l = append_assoc (ranges_of l) (length l.givers ∷ []) (givers_of l)
    ∙ sym (regrouped l) in
    subst (λ (bytes : List ℕ). pairs_in make_giver bytes (11 + 4 * length l.free) (length l.givers) ≡ l.givers) same
    (pairs_again make_giver (λ g. g.number) (λ g. g.serial) (λ g. refl) front l.givers
    (two_bytes (65535 - free_count l.free))
    (11 + 4 * length l.free) len)

-- the number is read back
number_again : (l : LedgerView) → number_in (ledger_bytes l) 5 ≡ l.number
unfolding ledger_bytes
number_again l = joins l.number

-- the next serial is read back
serial_again : (l : LedgerView) → number_in (ledger_bytes l) 7 ≡ l.next_serial
unfolding ledger_bytes
serial_again l = joins l.next_serial

-- the ledger of four fields
abbrev pub view_of : ℕ → ℕ → List Range → List Giver → LedgerView
view_of number serial free givers = record { number = number; next_serial = serial; free = free; givers = givers }

-- what is written is read
pub read_again : (l : LedgerView) → numbers_in (ledger_bytes l) ≡ l
unfolding numbers_in
read_again l = grind (arith, range_count_is, free_again, giver_count_is, givers_again, number_again, serial_again)

-- bytes of a sound ledger have the size that their counts ask for
pub size_spelled : (bytes : List ℕ) (l : LedgerView) → IsSound l → bytes ≡ ledger_bytes l → HasSize bytes
size_spelled bytes l sound e = subst HasSize (sym e) (has_size l sound)

-- one pair more was read
pub pairs_step : {X : Type 0} (make : ℕ → ℕ → X) (bytes : List ℕ) (at i count a b : ℕ) (old new all : List X) →
    i < count →
    new ≡ old ++ make a b ∷ [] → a ≡ number_in bytes (at + 4 * i) → b ≡ number_in bytes (at + 4 * i + 2) →
    old ++ pairs_in make bytes (at + 4 * i) (count - i) ≡ all →
    new ++ pairs_in make bytes (at + 4 * (i + 1)) (count - (i + 1)) ≡ all
pairs_step make bytes at i count a b old new all below grown first second before =
    grind (arith, pairs_more, append_assoc)

-- what is written, piece by piece
pub written : (number serial ranges count others : ℕ) (free : List Range) (givers : List Giver)
    (a b c d e f g h : List ℕ) →
    a ≡ 68 ∷ 77 ∷ 76 ∷ 71 ∷ 2 ∷ [] → b ≡ a ++ two_bytes number → c ≡ b ++ two_bytes serial → d ≡ c ++ ranges ∷ [] →
    e ≡ d ++ flat_map range_bytes free → f ≡ e ++ others ∷ [] → g ≡ f ++ flat_map giver_bytes givers →
    h ≡ g ++ two_bytes (65535 - count) →
    ranges ≡ length free → others ≡ length givers → count ≡ free_count free →
    h ≡ ledger_bytes (view_of number serial free givers)
unfolding ledger_bytes
written number serial ranges count others free givers a b c d e f g h pa pb pc pd pe pf pg ph pr po pn =
    grind (arith, append_assoc)
