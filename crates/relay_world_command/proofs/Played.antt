-- From the lines of single answers to those of all.
use Rattle.std.proofs.Common.{◌≡◌, ◌⊎◌, inl, inr, Bool, true, false, ◌||◌, ℕ, List, [], ◌∷◌, Result, Ok, Err, refl, ap, sym, ◌∙◌, subst}
use Rattle.std.specs.Prelude.{if◌then◌else◌}
use Rattle.std.specs.{List.flat_map, Io.KnownBytes.Appends}
use Rattle.std.proofs.{lemmas.Bool.or_right, KnownBytes.Appends-nil, KnownBytes.Appends-trans}
use Rattle.dm_event_world.specs.{Shows.HearsAll, declared.answers.Answer.Answer}
use Rattle.relay_streams.specs.{Streams.AppendsPart, Streams.OutputView, declared.fault.WriteFault.WriteFault}
use Rattle.relay_streams.specs.declared.fault.WriteFault.TheVariants.{Write}
use Rattle.relay_streams.proofs.Parts.{part_after, part_more, part_none, part_whole}
use Rattle.relay_shared.specs.Command.{PutsText}
use Rattle.relay_world_command.specs.World.{answer_line, has_refusal, is_refused_answer, TellsAnswers}

-- the line of one answer: it is written unless the output has failed before, and it is kept whether it is of a refusal
abbrev pub PutsAnswer : {A : Type 0} → Answer A → OutputView → Bool → OutputView → Bool → Type 0
PutsAnswer answer old before new after = (after ≡ (before || is_refused_answer answer))
    × (old.has_failed ≡ false → (put : Result (Unit {0}) WriteFault) × PutsText (answer_line answer) old put new)
    × (old.has_failed ≡ true → new ≡ old)

-- the lines are out, or the output has failed, with a part of them
abbrev pub Out : {A : Type 0} → List (Answer A) → OutputView → OutputView → Type 0
Out answers old new = Appends old.contents new.contents (flat_map answer_line answers)
    ⊎ ((new.has_failed ≡ true) × AppendsPart old.contents new.contents (flat_map answer_line answers))

pub record Played {A : Type 0} (answers : List (Answer A)) (old : OutputView) (before : Bool) (new : OutputView)
    (after : Bool) : Type 0 where
  pub refused : after ≡ (before || has_refusal answers)
  pub out : Out answers old new
  pub stuck : old.has_failed ≡ true → new ≡ old

or_later : (a b c : Bool) → ((a || b) || c) ≡ (a || (b || c))
or_later true b c = refl
or_later false b c = refl

or_none : (a : Bool) → a ≡ (a || false)
or_none true = refl
or_none false = refl

-- what was written before, and the lines after it
out_more : {A : Type 0} (answer : Answer A) (answers : List (Answer A)) (old mid new : OutputView)
    (put : Result (Unit {0}) WriteFault) → PutsText (answer_line answer) old put mid
    → Out answers mid new → (mid.has_failed ≡ true → new ≡ mid) → Out (answer ∷ answers) old new
out_more answer answers old mid new (Ok x) puts (inl all) stuck =
    inl (Appends-trans _ _ _ _ _ puts.written all)
out_more answer answers old mid new (Ok x) puts (inr part) stuck =
    inr (part.0, part_after _ _ _ _ _ puts.written part.1)
out_more answer answers old mid new (Err e) puts later stuck =
    subst (λ (v : OutputView). Out (answer ∷ answers) old v) (sym (stuck puts.failed))
    (inr (puts.failed, part_more _ _ _ _ puts.part))

out_by : {A : Type 0} (answer : Answer A) (answers : List (Answer A)) (old mid new : OutputView) (failed : Bool)
    → old.has_failed ≡ failed
    → (old.has_failed ≡ false → (put : Result (Unit {0}) WriteFault) × PutsText (answer_line answer) old put mid)
    → (old.has_failed ≡ true → mid ≡ old) → Out answers mid new → (mid.has_failed ≡ true → new ≡ mid)
    → Out (answer ∷ answers) old new
out_by answer answers old mid new false is puts same later stuck =
    let put = puts is in out_more answer answers old mid new put.0 put.1 later stuck
out_by answer answers old mid new true is puts same later stuck =
    let same_mid = same is in
    let same_new = stuck (ap (λ (v : OutputView). v.has_failed) same_mid ∙ is) ∙ same_mid in
    subst (λ (v : OutputView). Out (answer ∷ answers) old v) (sym same_new) (inr (is, part_none _ _))

-- the same of a listener, by what it shows
pub played : {A L : Type 0} (output : L → OutputView) (refused : L → Bool) (hears : L → Answer A → L → Type 0)
    → ((before : L) (answer : Answer A) (after : L) → hears before answer after
    → PutsAnswer answer (output before) (refused before) (output after) (refused after))
    → (first : L) (answers : List (Answer A)) (last : L) → HearsAll hears first answers last
    → Played answers (output first) (refused first) (output last) (refused last)
played {A} {L} output refused hears each first [] last heard = record {
  refused = ap refused heard ∙ or_none (refused first);
  out = inl (subst (λ (l : L). Appends (output first).contents (output l).contents []) (sym heard) (Appends-nil _));
  stuck = λ _. ap output heard;
}
played {A} {L} output refused hears each first (answer ∷ answers) last heard =
    let now = each first answer heard.0 heard.1 in
    let later = played output refused hears each heard.0 answers last heard.2 in
    record {
      refused = later.refused ∙ ap (λ (b : Bool). b || has_refusal answers) now.0
          ∙ or_later (refused first) (is_refused_answer answer) (has_refusal answers);
      out = out_by answer answers (output first) (output heard.0) (output last) _ refl now.1 now.2 later.out
          later.stuck;
      stuck = λ is.
          let same = now.2 is in
          later.stuck (ap (λ (v : OutputView). v.has_failed) same ∙ is) ∙ same;
    }

-- what no answer changes
pub unchanged : {A L N : Type 0} (name : L → N) (hears : L → Answer A → L → Type 0)
    → ((before : L) (answer : Answer A) (after : L) → hears before answer after → name after ≡ name before)
    → (first : L) (answers : List (Answer A)) (last : L) → HearsAll hears first answers last → name last ≡ name first
unchanged name hears each first [] last heard = ap name heard
unchanged name hears each first (answer ∷ answers) last heard =
    unchanged name hears each heard.0 answers last heard.2 ∙ each first answer heard.0 heard.1

-- what was put of the lines
pub put_of : {A : Type 0} (answers : List (Answer A)) (old new : OutputView) → Out answers old new →
    (put : Result (Unit {0}) WriteFault) × PutsText (flat_map answer_line answers) old put new
put_of answers old new (inl all) = (Ok tt, record { written = all; part = part_whole _ _ _ all; failed = tt })
put_of answers old new (inr part) = (Err Write, record { written = tt; part = part.1; failed = part.0 })

-- the exit status after the lines
pub tells : {A : Type 0} (answers : List (Answer A)) (old new : OutputView) (put : Result (Unit {0}) WriteFault)
    (refused failed : Bool) (status : ℕ) → PutsText (flat_map answer_line answers) old put new →
    refused ≡ has_refusal answers → failed ≡ new.has_failed → status ≡ (if refused || failed then 1 else 0) →
    TellsAnswers answers old status new
tells answers old new put refused true status puts is failed told =
    inr (sym failed, puts.part, told ∙ ap (λ (b : Bool). if b then 1 else 0) (or_right refused true refl))
tells answers old new (Ok x) refused false status puts is failed told =
    inl (puts.written, told ∙ ap (λ (b : Bool). if b then 1 else 0) (sym (or_none refused) ∙ is))
tells answers old new (Err e) refused false status puts is failed told = cc (failed, puts.failed)
