-- Where a number is, after one thing is changed.
use Rattle.std.proofs.Common.{◌≡◌, ◌≢◌, ◌⊎◌, ◌+◌, ◌≤◌, ◌<◌, ℕ, zero, suc, Bool, true, false, ◌==◌, ◌||◌, if◌then◌else◌, Some, List, [], ◌∷◌, ◌++◌, length, map, slice_get, slice_set, refl, ap, ◌∙◌, arith, eq-eqb}
use Rattle.dm_print_ledger.specs.Ledger.{is_free, is_in, LedgerView, TicketView}
use Rattle.dm_event_history.proofs.Deciding.{other_number, same_or_other}
use Rattle.dm_event_history.specs.Relay.{Actor, stored_of, Lost, Move, Took, Used}
use Rattle.dm_event_history.specs.Steps.{lost}
use Rattle.dm_event_history.specs.Headline.{free_at, gone, is_taken, on_tickets, one_if}

-- ---- printers

-- at how many printers it is free, once one is another
pub free_set : (actors : List (Actor LedgerView)) (p number : ℕ) (old new : Actor LedgerView) →
    slice_get actors p ≡ Some old →
    free_at (slice_set actors p new) number + one_if (is_free (stored_of old).free number)
    ≡ free_at actors number + one_if (is_free (stored_of new).free number)
free_set [] p number old new is = cc
free_set (x ∷ xs) zero number old new is = grind arith
free_set (x ∷ xs) (suc p) number old new is = (let h = free_set xs p number old new is in omega arith)

-- where it is free at one, it is at some
pub free_some : (actors : List (Actor LedgerView)) (p number : ℕ) (actor : Actor LedgerView) →
    slice_get actors p ≡ Some actor → is_free (stored_of actor).free number ≡ true → 1 ≤ free_at actors number
free_some [] p number actor is free = cc
free_some (x ∷ xs) zero number actor is free = grind arith
free_some (x ∷ xs) (suc p) number actor is free = (let h = free_some xs p number actor is free in omega arith)

-- ---- moves

pub gone_more : (xs ys : List Move) (number : ℕ) → gone (xs ++ ys) number ≡ gone xs number + gone ys number
gone_more [] ys number = omega arith
gone_more (Used id ∷ xs) ys number = (let h = gone_more xs ys number in omega arith)
gone_more (Took ticket ∷ xs) ys number = gone_more xs ys number
gone_more (Lost range ∷ xs) ys number = (let h = gone_more xs ys number in omega arith)

or_assoc : (a b c : Bool) → ((a || b) || c) ≡ (a || (b || c))
or_assoc a b c = grind arith

pub taken_more : (xs ys : List Move) (ticket : ℕ) → is_taken (xs ++ ys) ticket ≡ (is_taken xs ticket || is_taken ys ticket)
taken_more [] ys ticket = refl
taken_more (Used id ∷ xs) ys ticket = taken_more xs ys ticket
taken_more (Took other ∷ xs) ys ticket = grind (arith, or_assoc, (taken_more xs ys ticket))
taken_more (Lost range ∷ xs) ys ticket = taken_more xs ys ticket

or_none : (a b : Bool) → b ≡ false → (a || b) ≡ a
or_none a b none = grind arith

-- moves that take no ticket
pub taken_same : (xs ys : List Move) (ticket : ℕ) → is_taken ys ticket ≡ false →
    is_taken (xs ++ ys) ticket ≡ is_taken xs ticket
taken_same xs ys ticket none = taken_more xs ys ticket ∙ or_none (is_taken xs ticket) (is_taken ys ticket) none

-- ---- tickets

pub on_same : (moves others : List Move) (from : ℕ) (tickets : List TicketView) (number : ℕ) →
    ((k : ℕ) → is_taken others k ≡ is_taken moves k) →
    on_tickets others from tickets number ≡ on_tickets moves from tickets number
on_same moves others from tickets number same = grind arith

pub on_more : (moves : List Move) (from : ℕ) (ts us : List TicketView) (number : ℕ) →
    on_tickets moves from (ts ++ us) number
    ≡ on_tickets moves from ts number + on_tickets moves (from + length ts) us number
on_more moves from [] us number = grind arith
on_more moves from (t ∷ ts) us number = grind (arith, (on_more moves (from + 1) ts us number))

-- in how many of the ranges of tickets it is
abbrev pub all_in : List TicketView → ℕ → ℕ
all_in [] number = 0
all_in (ticket ∷ tickets) number = one_if (is_in ticket.range number) + all_in tickets number

-- tickets none of which was taken
pub on_new : (moves : List Move) (from : ℕ) (tickets : List TicketView) (number : ℕ) →
    ((k : ℕ) → from ≤ k → is_taken moves k ≡ false) → on_tickets moves from tickets number ≡ all_in tickets number
on_new moves from [] number none = refl
on_new moves from (t ∷ ts) number none =
    grind (arith, (on_new moves (from + 1) ts number (λ k above. none k (omega arith))))

-- the ranges of tickets that do not leave are lost
pub gone_lost : (tickets : List TicketView) (number : ℕ) → gone (map lost tickets) number ≡ all_in tickets number
gone_lost [] number = refl
gone_lost (t ∷ ts) number = (let h = gone_lost ts number in omega arith)

pub lost_takes_none : (tickets : List TicketView) (k : ℕ) → is_taken (map lost tickets) k ≡ false
lost_takes_none [] k = refl
lost_takes_none (t ∷ ts) k = lost_takes_none ts k

-- one ticket is taken
took_it : (k : ℕ) → is_taken (Took k ∷ []) k ≡ true
took_it k = (let e : (k == k) ≡ true = eq-eqb k k refl in ap (λ (b : Bool). b || false) e)

took_other : (k j : ℕ) → k ≢ j → is_taken (Took k ∷ []) j ≡ false
took_other k j other = ap (λ (b : Bool). b || false) (other_number k j other)

or_true : (a b : Bool) → b ≡ true → (a || b) ≡ true
or_true a b is = grind arith

pub on_taken : (moves : List Move) (from i : ℕ) (tickets : List TicketView) (ticket : TicketView) (k number : ℕ) →
    slice_get tickets i ≡ Some ticket → k ≡ from + i → is_taken moves k ≡ false →
    on_tickets (moves ++ Took k ∷ []) from tickets number + one_if (is_in ticket.range number)
    ≡ on_tickets moves from tickets number
on_taken moves from i [] ticket k number there at none = cc
on_taken moves from zero (t ∷ ts) ticket k number there at none =
    let same : t ≡ ticket = cc (there) in
    let own : from ≡ k = omega arith in
    let now : is_taken (moves ++ Took k ∷ []) from ≡ true =
    ap (λ (j : ℕ). is_taken (moves ++ Took k ∷ []) j) own ∙ taken_more moves (Took k ∷ []) k ∙
    or_true (is_taken moves k) _ (took_it k) in
    let was : is_taken moves from ≡ false = ap (λ (j : ℕ). is_taken moves j) own ∙ none in
    let first : (if is_taken (moves ++ Took k ∷ []) from then 0 else one_if (is_in t.range number)) ≡ 0 =
    ap (λ (b : Bool). if b then 0 else one_if (is_in t.range number)) now in
    let before : (if is_taken moves from then 0 else one_if (is_in t.range number)) ≡ one_if (is_in t.range number) =
    ap (λ (b : Bool). if b then 0 else one_if (is_in t.range number)) was in
    let range : one_if (is_in t.range number) ≡ one_if (is_in ticket.range number) =
    ap (λ (x : TicketView). one_if (is_in x.range number)) same in
    let rest : on_tickets (moves ++ Took k ∷ []) (from + 1) ts number ≡ on_tickets moves (from + 1) ts number =
    on_later moves (from + 1) ts k number (omega arith) in
    omega arith
  where
    on_later : (moves : List Move) (from : ℕ) (ts : List TicketView) (k number : ℕ) → k < from →
        on_tickets (moves ++ Took k ∷ []) from ts number ≡ on_tickets moves from ts number
    on_later moves from [] k number below = refl
    on_later moves from (t ∷ ts) k number below =
        let rest = on_later moves (from + 1) ts k number (omega arith) in
        let same : is_taken (moves ++ Took k ∷ []) from ≡ is_taken moves from =
        taken_same moves (Took k ∷ []) from (took_other k from (λ e. omega arith)) in
        let first : (if is_taken (moves ++ Took k ∷ []) from then 0 else one_if (is_in t.range number))
        ≡ (if is_taken moves from then 0 else one_if (is_in t.range number)) =
        ap (λ (b : Bool). if b then 0 else one_if (is_in t.range number)) same in
        omega arith
on_taken moves from (suc i) (t ∷ ts) ticket k number there at none =
    grind (arith, taken_same, took_other, (on_taken moves (from + 1) i ts ticket k number there (omega arith) none))

pub taken_by : (moves : List Move) (k j : ℕ) → is_taken (moves ++ Took k ∷ []) j ≡ true →
    (k ≡ j) ⊎ (is_taken moves j ≡ true)
taken_by moves k j is = grind (arith, same_or_other, taken_same, took_other)
