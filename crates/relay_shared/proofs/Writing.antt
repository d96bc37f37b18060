-- A text after another, and a line for each element of a list: what came before is out, and then the next text is, or a
-- part of it.
use Rattle.std.proofs.Common.{◌≡◌, ◌<◌, ℕ, suc, List, ◌∷◌, ◌++◌, Result, Ok, Err, OnOk, true, length, take, drop, get_or, ap, sym, ◌∙◌, subst}
use Rattle.std.specs.{Prelude.IsErrAnd, Prelude.OnErr, List.flat_map, Io.KnownBytes.Appends}
use Rattle.std.proofs.{KnownBytes.Appends-trans, Math.Seq.split_at, lemmas.Grind.flat_map-append}
use Rattle.std.proofs.lemmas.{List.Concat.flat_map-cons, Result.on_ok_weaker}
use Rattle.relay_streams.proofs.Parts.{part_after, part_more}
use Rattle.relay_streams.specs.{Streams.AppendsPart, Streams.OutputView, declared.fault.WriteFault.WriteFault}
use Rattle.relay_shared.specs.Command.{PutsText}

-- a text was to be written, by the clauses of a write
pub puts : {T : Type 0} (text : List ℕ) (old new : OutputView) (put : Result T WriteFault)
    → OnOk put (Appends old.contents new.contents text) → AppendsPart old.contents new.contents text
    → OnErr put (new.has_failed ≡ true) → PutsText text old put new
puts text old new put written part failed = record { written = written; part = part; failed = failed }

-- the output has failed, and a part of the text is out
pub puts_part : {T : Type 0} (Q : WriteFault → Type 0) {text : List ℕ} {old new : OutputView}
    (put : Result T WriteFault) → IsErrAnd put Q → AppendsPart old.contents new.contents text
    → new.has_failed ≡ true → PutsText text old put new
puts_part Q (Ok x) is part failed = absurd is
puts_part Q (Err e) is part failed = record { written = tt; part = part; failed = failed }

-- the first text was written, and then the next was to be
pub puts_next : {T : Type 0} (first : List ℕ) {next : List ℕ} {old mid new : OutputView} (put : Result T WriteFault)
    → Appends old.contents mid.contents first → PutsText next mid put new → PutsText (first ++ next) old put new
puts_next first put before last = record {
  written = on_ok_weaker put (Appends-trans _ _ _ _ _ before) last.written;
  part = part_after _ _ _ _ _ before last.part;
  failed = last.failed;
}

pub puts_both : {T U : Type 0} {first next : List ℕ} {old mid new : OutputView} {done : U} (put : Result T WriteFault)
    → PutsText first old (Ok done) mid → PutsText next mid put new → PutsText (first ++ next) old put new
puts_both put before last = puts_next _ put before.written last

-- the first text was not written whole, so nothing of the next is out
pub puts_first : {T U : Type 0} (Q : WriteFault → Type 0) {first : List ℕ} (next : List ℕ) {old new : OutputView}
    {fault : WriteFault} (put : Result T WriteFault) → IsErrAnd put Q → PutsText {T = U} first old (Err fault) new
    → PutsText (first ++ next) old put new
puts_first Q next put is before = puts_part Q put is (part_more _ _ _ _ before.part) before.failed

-- the lines before an element were written, and its own was not written whole
pub puts_before : {X T U : Type 0} (Q : WriteFault → Type 0) (line : X → List ℕ) (xs : List X) (i : ℕ) (d : X)
    {old mid new : OutputView} {fault : WriteFault} (put : Result T WriteFault) → i < length xs
    → Appends old.contents mid.contents (flat_map line (take i xs)) → IsErrAnd put Q
    → PutsText {T = U} (line (get_or xs i d)) mid (Err fault) new → PutsText (flat_map line xs) old put new
puts_before Q line xs i d put there before is last =
    let lines = ap (flat_map line) (split_at xs i d there) ∙
    flat_map-append line (take i xs) (get_or xs i d ∷ drop (suc i) xs) ∙
    ap (λ l. flat_map line (take i xs) ++ l) (flat_map-cons line (get_or xs i d) (drop (suc i) xs)) in
    puts_part Q put is
    (subst (AppendsPart _ _) (sym lines) (part_after _ _ _ _ _ before (part_more _ _ _ _ last.part))) last.failed
