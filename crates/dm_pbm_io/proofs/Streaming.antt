-- What a source has given, step by step, and what it remembers.
use Rattle.std.proofs.Common.{arith, ◌≡◌, ℕ, List, [], ◌++◌, Option, Result, refl, ◌∙◌}
use Rattle.std.specs.Prelude.{◌≢◌, OnOk}
use Rattle.std.proofs.KnownBytes.{Appends-trans, Appends-nil, Consumes-trans, Consumes-nil}
use Rattle.relay_streams.proofs.Parts.{part_more, part_after}
use Rattle.relay_streams.specs.Streams.{AppendsPart, InputView, OutputView}
use Rattle.dm_pbm_io.specs.inner.Streaming.{TakesBytes, FindsEnd, Remembers, TakesUntil, AppendsText}
use Rattle.dm_pbm_io.specs.declared.fault.PbmFault.{PbmFault, TheVariants.Read}

-- nothing is taken yet
pub takes-nil : (a : InputView) → TakesBytes a a []
takes-nil a = record { consumed = Consumes-nil a.remaining; kept = refl }

-- first some bytes, and then more
pub takes-trans : (a b c : InputView) (bs cs : List ℕ) → TakesBytes a b bs → TakesBytes b c cs →
    TakesBytes a c (bs ++ cs)
takes-trans a b c bs cs p q =
    record {
      consumed = Consumes-trans a.remaining b.remaining c.remaining bs cs p.consumed q.consumed;
      kept = cc;
    }

-- what the source remembers is not changed by what was taken before
remembers-after : (a b c : InputView) (fault : PbmFault) → b.has_failed ≡ a.has_failed → Remembers b c fault →
    Remembers a c fault
remembers-after a b c fault same r = record { failed = r.failed; kept = λ n. r.kept n ∙ same }

-- a fault that is not `Read` leaves what the source remembers
pub remembers-other : (a b : InputView) (fault : PbmFault) → b.has_failed ≡ a.has_failed → fault ≢ Read →
    Remembers a b fault
remembers-other a b fault same n = record { failed = λ e. absurd (n e); kept = λ _. same }

-- a fault after some bytes
pub until-trans : (a b c : InputView) (bs cs : List ℕ) (fault : PbmFault) → TakesBytes a b bs → TakesUntil b c cs fault
    → TakesUntil a c (bs ++ cs) fault
until-trans a b c bs cs fault p q = record {
  consumed = Consumes-trans a.remaining b.remaining c.remaining bs cs p.consumed q.consumed;
  remembers = remembers-after a b c fault p.kept q.remembers;
}

-- a fault that took nothing more
pub until-here : (a b c : InputView) (bs : List ℕ) (fault : PbmFault) → TakesBytes a b bs → TakesUntil b c [] fault →
    TakesUntil a c bs fault
until-here a b c bs fault p q = grind arith

-- a fault of the bytes that were taken
pub until-now : (a b : InputView) (bs : List ℕ) (fault : PbmFault) → TakesBytes a b bs → fault ≢ Read →
    TakesUntil a b bs fault
until-now a b bs fault p n = record { consumed = p.consumed; remembers = remembers-other a b fault p.kept n }

-- a fault at the end
pub until-end : (a b c : InputView) (bs : List ℕ) (fault : PbmFault) → TakesBytes a b bs → FindsEnd b c → fault ≢ Read →
    TakesUntil a c bs fault
until-end a b c bs fault p q n = grind arith

-- nothing is written yet
pub adds_nil : (a : OutputView) → AppendsText a a []
adds_nil a = record { appended = Appends-nil a.contents; kept = refl }

-- first some text, and then more
pub adds-trans : (a b c : OutputView) (bs cs : List ℕ) → AppendsText a b bs → AppendsText b c cs →
    AppendsText a c (bs ++ cs)
adds-trans a b c bs cs p q =
    record {
      appended = Appends-trans a.contents b.contents c.contents bs cs p.appended q.appended;
      kept = cc;
    }

-- first some text, and then the rest of the whole, if it was written
pub adds_rest : {E : Type 0} (a b c : OutputView) (all first rest : List ℕ) (put : Result (Unit {0}) E) →
    all ≡ first ++ rest
    → AppendsText a b first → OnOk put (AppendsText b c rest) → OnOk put (AppendsText a c all)
adds_rest a b c all first rest put is p q = grind (arith, adds-trans)

-- first some text, and then a part of what comes next
pub adds_part : (a b : OutputView) (end : Option (List ℕ)) (all done next rest : List ℕ) → all ≡ done ++ (next ++ rest)
    → AppendsText a b done → AppendsPart b.contents end next → AppendsPart a.contents end all
adds_part a b end all done next rest is p q = grind (
  arith,
  part_after a.contents b.contents end done (next ++ rest)
      p.appended (part_more b.contents end next rest q),
)
