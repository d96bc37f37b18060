-- What a grid opens as, from its corrected symbol and the symbol's page; a grid near a label opens as that label's
-- page.
use Rattle.std.proofs.Common.{MatchResult, IfOk, ◌≡◌, ℕ, ◌+◌, ◌-◌, ◌*◌, ◌/◌, ◌%◌, ◌≤◌, List, [], ◌∷◌, Result, Ok, Err, take, drop, length, get_or, sym, ap, subst, ◌∙◌, arith, eq-eqb, le-ltb}
use Rattle.std.proofs.lemmas.List.{length-take}
use Rattle.dm_size.specs.declared.size.Size.{Size}
use Rattle.dm_check_blocks.specs.Blocks.{IsSymbol}
use Rattle.dm_encodation.specs.Grammar.{ReadsOnly}
use Rattle.dm_finder_frame.specs.Frame.{GridView}
use Rattle.dm_symbol.specs.Correction.{CorrectedView, CorrectsNear, IsCorrectedAs, IsNear, data_of, grid_of_words}
use Rattle.dm_symbol.specs.declared.fault.SymbolFault.{SymbolFault}
use Rattle.dm_append_label.specs.Labels.{PageView, HeadView, IsHead, head_at, head_from, head_of, head_words, Carries}
use Rattle.dm_append_label.specs.Opening.{IsPageOf, LabelOpens, Opens, OpensAs, RefusesLabel, OpensNear, ReadsPage, page_at_front}
use Rattle.dm_append_label.specs.declared.{opening.TheConstants.MOST_PAGE_BYTES, opening.FoundPage.FoundPage, fault.LabelFault.LabelFault}
use Rattle.dm_append_label.specs.declared.fault.LabelFault.TheVariants.{Border, Block, Content, Memory}

-- ---- heads

head_by_parts : (h : HeadView) (m n id : ℕ) → m ≡ h.m → n ≡ h.n → id ≡ h.id →
    let q : HeadView = record { m = m; n = n; id = id } in q ≡ h
head_by_parts h m n id a b c =
    ap (λ (x : ℕ). let q : HeadView = record { m = x; n = n; id = id } in q) a
    ∙ ap (λ (x : ℕ). let q : HeadView = record { m = h.m; n = x; id = id } in q) b
    ∙ ap (λ (x : ℕ). let q : HeadView = record { m = h.m; n = h.n; id = x } in q) c

-- The codewords of a head spell that head.
spelled : (h : HeadView) (i a b : ℕ) → IsHead h → i ≡ 16 * (h.m - 1) + (17 - h.n) → a ≡ h.id / 254 + 1 →
    b ≡ h.id % 254 + 1 → head_from i a b ≡ Ok h
spelled h i a b is ei ea eb =
    let fits = is.id_fits in let least = is.least in let most = is.most in let first = is.first in let last = is.last in
    let low : i % 16 ≡ 17 - h.n = omega arith in
    let high : i / 16 ≡ h.m - 1 = omega arith in
    let a_low : 1 ≤ a = omega arith in
    let a_high : a ≤ 254 = omega arith in
    let b_low : 1 ≤ b = omega arith in
    let b_high : b ≤ 254 = omega arith in
    let n_is : 17 - i % 16 ≡ h.n = omega arith in
    let m_is : i / 16 + 1 ≡ h.m = omega arith in
    let id_is : (a - 1) * 254 + (b - 1) ≡ h.id = omega arith in
    rw (le-ltb 16 (17 - i % 16) (omega arith)) (
    rw (le-ltb (17 - i % 16) (i / 16 + 1) (omega arith)) (
    rw (le-ltb a 1 a_low) (
    rw (le-ltb 254 a a_high) (
    rw (le-ltb b 1 b_low) (
    rw (le-ltb 254 b b_high) (
    let ok : HeadView → Result HeadView LabelFault = λ q. Ok q in
    ap ok (head_by_parts h _ _ _ m_is n_is id_is)))))))

-- Codewords that begin with the codewords of a head have that head.
at_head : (h : HeadView) (words : List ℕ) → IsHead h → take 4 words ≡ head_words h → head_at words ≡ Ok h
unfolding head_at
at_head h [] is e = absurd (omega (arith, ap length e))
at_head h (w ∷ []) is e = absurd (omega (arith, ap length e))
at_head h (w ∷ i ∷ []) is e = absurd (omega (arith, ap length e))
at_head h (w ∷ i ∷ a ∷ []) is e = absurd (omega (arith, ap length e))
at_head h (w ∷ i ∷ a ∷ b ∷ rest) is e =
    let at : (k : ℕ) → get_or (w ∷ i ∷ a ∷ b ∷ []) k 0 ≡ get_or (head_words h) k 0 =
    λ k. ap (λ (x : List ℕ). get_or x k 0) e in
    rw (eq-eqb w 233 (at 0)) (spelled h i a b is (at 1) (at 2) (at 3))

-- the faults of heads
abbrev IsOfHead : Result HeadView LabelFault → Type 0
IsOfHead (Err (Border wrong)) = ⊥
IsOfHead (Err (Block block)) = ⊥
IsOfHead (Err (Content fault)) = ⊥
IsOfHead (Err Memory) = ⊥
IsOfHead read = Unit {0}

of_head : (words : List ℕ) → IsOfHead (head_at words)
unfolding head_at
of_head (w ∷ i ∷ a ∷ b ∷ rest) = grind arith
of_head _ = tt

-- a fault in reading a head is one that a head can have
refused_head : (words : List ℕ) (fault : LabelFault) → head_at words ≡ Err fault → IsOfHead (Err fault)
refused_head words fault e = subst IsOfHead e (of_head words)

-- the fault of a head is that of the page
pub bad_head : (words : List ℕ) (fault : LabelFault) → head_at words ≡ Err fault → ReadsPage words (Err fault)
bad_head words (Content fault) e = absurd (refused_head words (Content fault) e)
bad_head words fault e = e

-- ---- a label of the size of a grid near it

record CarriesAt (size : Size) (page : PageView) (label : GridView) : Type 0 where
  words : List ℕ
  symbol : IsSymbol size words
  drawn : label ≡ grid_of_words size words
  is_head : IsHead (head_of page)
  begins : take 4 (data_of size words) ≡ head_words (head_of page)
  reads : ReadsOnly 5 (drop 4 (data_of size words)) page.bytes

at_size : (s : Size) (page : PageView) (label : GridView) → Carries page label → s ≡ label.size → CarriesAt s page label
at_size s page label c e =
    let here : CarriesAt label.size page label =
    record {
      words = c.words;
      symbol = c.symbol;
      drawn = c.drawn;
      is_head = c.is_head;
      begins = c.begins;
      reads = c.reads;
    } in
    subst (λ (x : Size). CarriesAt x page label) (sym e) here

-- what a call says of a grid near that of a symbol
abbrev pub GivesNear : GridView → Result CorrectedView SymbolFault → Type 0
GivesNear grid result = (words : List ℕ) → IsSymbol grid.size words → IsNear grid (grid_of_words grid.size words) →
    CorrectsNear words result

gives : (grid label : GridView) (page : PageView) (result : Result CorrectedView SymbolFault) → GivesNear grid result →
    Carries page label
    → (near : IsNear grid label) → (c : CarriesAt grid.size page label) × CorrectsNear c.words result
gives grid label page result give carries near =
    let c = at_size grid.size page label carries near.same_size in
    (c, give c.words c.symbol (subst (λ (g : GridView). IsNear grid g) c.drawn near))

page_by_parts : (p q : PageView) → p.id ≡ q.id → p.m ≡ q.m → p.n ≡ q.n → p.bytes ≡ q.bytes → p ≡ q
page_by_parts p q a b c d =
    ap (λ (x : ℕ). let v : PageView = record { id = x; m = p.m; n = p.n; bytes = p.bytes } in v) a
    ∙ ap (λ (x : ℕ). let v : PageView = record { id = q.id; m = x; n = p.n; bytes = p.bytes } in v) b
    ∙ ap (λ (x : ℕ). let v : PageView = record { id = q.id; m = q.m; n = x; bytes = p.bytes } in v) c
    ∙ ap (λ (x : List ℕ). let v : PageView = record { id = q.id; m = q.m; n = q.n; bytes = x } in v) d

-- the head that was read, or any
abbrev head_or : HeadView → Result HeadView LabelFault → HeadView
head_or h (Ok q) = q
head_or h (Err fault) = h

not_both : (r : Result HeadView LabelFault) (h : HeadView) (fault : LabelFault) → r ≡ Ok h → r ≡ Err fault → ⊥
not_both r h fault a b = grind arith

-- Data codewords that are read as a page are read as no other.
one_page : (words : List ℕ) (one other : PageView) → IsPageOf words one → IsPageOf words other → one ≡ other
one_page words one other p q =
    let same : head_of one ≡ head_of other = ap (head_or (head_of other)) (sym p.head ∙ q.head) in
    page_by_parts one other (ap (λ (h : HeadView). h.id) same) (ap (λ (h : HeadView). h.m) same)
    (ap (λ (h : HeadView). h.n) same)
    (q.reads.only one.bytes p.reads.reads)

-- the page of the codewords of a label
page_there : (grid label : GridView) (page : PageView) (symbol : CorrectedView) (c : CarriesAt grid.size page label) →
    symbol.size ≡ grid.size
    → symbol.words ≡ c.words → IsPageOf (data_of symbol.size symbol.words) page
page_there grid label page symbol c size words =
    let here : IsPageOf (data_of grid.size c.words) page =
    record { head = at_head (head_of page) (data_of grid.size c.words) c.is_head c.begins; reads = c.reads } in
    let same : data_of symbol.size symbol.words ≡ data_of grid.size c.words =
    ap (λ (s : Size). data_of s symbol.words) size ∙ ap (data_of grid.size) words in
    subst (λ (d : List ℕ). IsPageOf d page) (sym same) here

-- the data codewords of a symbol that was read from a grid
data_there : (grid : GridView) (symbol : CorrectedView) → symbol.size ≡ grid.size →
    data_of symbol.size symbol.words ≡ data_of grid.size symbol.words
data_there grid symbol size = ap (λ (s : Size). data_of s symbol.words) size

-- ---- how an opening ends

-- The symbol has no page.
pub no_page : (grid : GridView) (symbol : CorrectedView) (fault : LabelFault) → IsCorrectedAs grid symbol →
    GivesNear grid (Ok symbol)
    → ReadsPage (data_of symbol.size symbol.words) (Err fault) → LabelOpens grid (Err fault)
no_page grid symbol fault is give reads = record {
  opens = opens fault (subst (λ (d : List ℕ). ReadsPage d (Err fault)) (data_there grid symbol is.same_size) reads);
  near = λ label page carries near.
      let near_words = gives grid label page (Ok symbol) give carries near in
      nothing page fault (page_there grid label page symbol near_words.0 is.same_size near_words.1) reads;
  short = tt;
}
  where
    opens : (f : LabelFault) → ReadsPage (data_of grid.size symbol.words) (Err f) → Opens grid (Err f)
    opens (Border wrong) h = absurd (refused_head _ _ h)
    opens (Block block) h = absurd (refused_head _ _ h)
    opens Memory h = refused_head _ _ h
    opens f h = (symbol.words, is.read, h)

    nothing : (page : PageView) (f : LabelFault) → IsPageOf (data_of symbol.size symbol.words) page →
        ReadsPage (data_of symbol.size symbol.words) (Err f) → OpensNear page (Err f)
    nothing page (Border wrong) p h = tt
    nothing page (Content f) p h = let stuck = h.stuck in stuck.unread page.bytes p.reads.reads
    nothing page f p h = not_both (head_at (data_of symbol.size symbol.words)) (head_of page) f p.head h

pub opens_as : (grid : GridView) (symbol : CorrectedView) (page : PageView) → IsCorrectedAs grid symbol →
    IsPageOf (data_of symbol.size symbol.words) page → OpensAs grid page symbol.corrected symbol.wrong
opens_as grid symbol page is is_page = record {
  words = symbol.words;
  read = is.read;
  is_page = subst (λ (d : List ℕ). IsPageOf d page) (data_there grid symbol is.same_size) is_page;
  changed = is.corrected;
  wrong_is = is.wrong;
}

-- The symbol has a page.
pub one_page_opens : (grid : GridView) (symbol : CorrectedView) (page : PageView) → IsCorrectedAs grid symbol →
    GivesNear grid (Ok symbol) → IsPageOf (data_of symbol.size symbol.words) page
    → length page.bytes ≤ MOST_PAGE_BYTES
    → LabelOpens grid (Ok page) × OpensAs grid page symbol.corrected symbol.wrong
one_page_opens grid symbol page is give is_page short =
    let opens = opens_as grid symbol page is is_page in (
      record {
        opens = (symbol.corrected, symbol.wrong, opens);
        near = λ label other carries near.
            let near_words = gives grid label other (Ok symbol) give carries near in
            one_page (data_of symbol.size symbol.words) page other is_page
            (page_there grid label other symbol near_words.0 is.same_size near_words.1);
        short = short;
      },
      opens,
    )

-- ---- what is found in room of the caller's

-- what a call says of the page of a symbol
abbrev FindsPage : List ℕ → CorrectedView → Result FoundPage LabelFault → Type 0
FindsPage room symbol result = MatchResult result
    (λ page. IsPageOf (data_of symbol.size symbol.words) (page_at_front room page))
    (λ fault. ReadsPage (data_of symbol.size symbol.words) (Err fault))

-- the grid opens as what is found in its symbol
pub found_opens : (grid : GridView) (symbol : CorrectedView) (room : List ℕ) (result : Result FoundPage LabelFault) →
    IsCorrectedAs grid symbol → GivesNear grid (Ok symbol) → FindsPage room symbol result
    → IfOk result (λ page. IsHead (head_of (page_at_front room page)) × (page.count ≤ MOST_PAGE_BYTES))
    → MatchResult result (λ page. LabelOpens grid (Ok (page_at_front room page)))
    (λ fault. LabelOpens grid (Err fault))
found_opens grid symbol room (Ok page) is give finds short =
    (one_page_opens grid symbol (page_at_front room page) is give finds
    (grind (arith, length-take page.count room, short.1))).0
found_opens grid symbol room (Err fault) is give finds short = no_page grid symbol fault is give finds

-- the grid opens as no label that has memory of its own
pub refused_opens : (grid : GridView) (symbol : CorrectedView) (fault : LabelFault) → IsCorrectedAs grid symbol →
    GivesNear grid (Ok symbol) → ReadsPage (data_of symbol.size symbol.words) (Err fault) → RefusesLabel grid fault
refused_opens grid symbol Memory is give reads = absurd (refused_head _ _ reads)
refused_opens grid symbol fault is give reads = no_page grid symbol fault is give reads
