-- Modules that are gathered one after another, and the text of a change.
use Rattle.std.specs.Prelude.{codes, IfSome, ◌==◌}
use Rattle.std.specs.{Fmt.decimal, List.range_with_len, Result.is_ok, Result.result_ok}
use Rattle.std.proofs.Common.{◌≡◌, ◌+◌, ◌*◌, ◌<◌, ℕ, zero, suc, Bor, get_or, Bool, true, false, not, List, [], ◌∷◌, ◌++◌, Some, Result, Ok, Err, map, ap, sym, refl, ◌∙◌, zero-add, cond, arith}
use Rattle.std.proofs.{Math.Bool.xor, Math.Bool.beq, lemmas.List.FromFn.map-range_with_len_more}
use Rattle.dm_size.specs.Sizes.{side}
use Rattle.dm_finder_frame.specs.Frame.{GridView}
use Rattle.dm_pbm_io.specs.Image.{Picture}
use Rattle.dm_symbol.specs.{Correction.CorrectedView, Correction.CorrectsGrid, declared.fault.SymbolFault.SymbolFault}
use Rattle.relay_shared.specs.{Command.cure_text, Command.module_after, Command.IsCure, declared.cure.Cure.Cure}

-- how the text of a change ends
abbrev pub reads_text : ℕ → List ℕ
reads_text scale = cond (scale == 1) (codes "it reads") (codes "reduced " ++ (decimal scale ++ codes " times, it reads"))

-- as a program spells the exclusive or of two
other : (a b : Bool) → not (beq a b) ≡ xor a b
unfolding xor
other true true = refl
other true false = refl
other false true = refl
other false false = refl

-- one module more
pub module_more : {E : Type 0} (f : ℕ → Bool) (i : ℕ) (was now : List Bool) (pixel inverted : Bool)
    (put : Result (Unit {0}) E) (done : Unit {0}) → was ≡ map f (range_with_len 0 i) → xor pixel inverted ≡ f i
    → result_ok put ≡ Some done → now ≡ cond (is_ok put) (was ++ not (beq pixel inverted) ∷ []) was
    → now ≡ map f (range_with_len 0 (i + 1))
module_more f i was now pixel inverted (Ok x) done before is ok put =
    put ∙ ap (λ xs. xs ++ not (beq pixel inverted) ∷ []) before
    ∙ ap (λ p. map f (range_with_len 0 i) ++ p ∷ []) (other pixel inverted ∙ is)
    ∙ sym (map-range_with_len_more f 0 i i (zero-add i))
module_more f i was now pixel inverted (Err e) done before is ok put = grind arith

-- the grid that was gathered is corrected, and so it is that of a change
pub cured : (p : Picture) (cure : Cure) (grid : GridView) (n : ℕ) (r : Result CorrectedView SymbolFault)
    → n ≡ side grid.size → p.width ≡ p.height → (n + 2) * cure.scale ≡ p.width
    → grid.modules ≡ map (module_after cure p n) (range_with_len 0 (n * n)) → CorrectsGrid grid r
    → IfSome (result_ok r) (λ _. IsCure p cure)
cured p cure grid n (Ok symbol) n_is square wide modules is = record {
  grid = grid;
  square = square;
  side = rw (← n_is) wide;
  modules = rw (← n_is) modules;
  read = (symbol, is);
}
cured p cure grid n (Err fault) n_is square wide modules is = tt

-- the text of a change from its parts
pub text_is : (cure : Cure) (i m t s text : List ℕ) → i ≡ cond cure.inverted (codes "inverted, ") []
    → m ≡ cond cure.mirrored (codes "mirrored, ") []
    → t ≡ get_or ([] ∷ codes "turned right, " ∷ codes "turned round, " ∷ codes "turned left, " ∷ []) cure.turns []
    → s ≡ reads_text cure.scale → text ≡ codes "; " ++ (i ++ (m ++ (t ++ s))) → text ≡ cure_text cure
text_is cure i m t s text i_is m_is t_is s_is is = rw (← i_is, ← m_is, ← t_is, ← s_is) is

-- an entry of a table of texts
pub text_at : (n : ℕ) (a b c d none : Bor (List ℕ)) → n < 4
    → (get_or (a ∷ b ∷ c ∷ d ∷ []) n none).now ≡ get_or (a.now ∷ b.now ∷ c.now ∷ d.now ∷ []) n []
text_at zero a b c d none l = refl
text_at (suc zero) a b c d none l = refl
text_at (suc (suc zero)) a b c d none l = refl
text_at (suc (suc (suc zero))) a b c d none l = refl
text_at (suc (suc (suc (suc k)))) a b c d none l = absurd (omega (arith, l))
