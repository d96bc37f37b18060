-- What a counter of codewords says, and how large its numbers are.
use Rattle.std.proofs.Common.{◌≡◌, ℕ, ◌+◌, ◌*◌, ◌≤◌, List, [], length, drop, refl, arith}
use Rattle.std.proofs.lemmas.Bool.{cases_lt, leb-false, lt-leb, ne_eqb, cond_both}
use Rattle.std.proofs.lemmas.List.{length-take-le, length-drop}
use Rattle.dm_encodation.specs.inner.Counting.{Counts, CountsRun, IsSmall, IsSmallRun, base_256_need, run_need}
use Rattle.dm_encodation.specs.declared.counter.{AsciiCounter.AsciiCounter, RunCounter.RunCounter, Counter.Counter}
use Rattle.dm_encodation.specs.declared.counter.Counter.TheVariants as counters
use Rattle.dm_encodation.specs.declared.letters.Letters.{Letters, TheVariants.Capital, TheVariants.Small}
use Rattle.dm_encodation.specs.declared.scheme.Scheme.{Scheme}
use Rattle.dm_encodation.specs.declared.scheme.Scheme.TheVariants.{Ascii, C40, Text, Base256}
use Rattle.dm_encodation.specs.Written.{ascii, base_256, run_length, run_and_rest, text, need_of}
use Rattle.dm_encodation.proofs.{AsciiWords.length-ascii, Base256Words.length-base_256}
use Rattle.dm_encodation.proofs.RunWords.{run_length-nil, run_within, length-values, words_run, run_few}

-- ---- how many codewords a text needs

-- the need in Base 256 by the number of bytes
pub need-base_256 : (bytes : List ℕ) → need_of Base256 bytes ≡ base_256_need (length bytes)
unfolding need_of text
need-base_256 bytes = grind (arith, cond_both, length-base_256, leb-false, ne_eqb, lt-leb)

-- a text has as many codewords as it needs
pub length-text : (scheme : Scheme) (p : ℕ) (bytes : List ℕ) → length (text scheme p bytes) ≡ need_of scheme bytes
unfolding text need_of
length-text scheme p bytes = grind (arith, length-base_256, need-base_256)

-- an empty text has no run
run-nil : (t : Letters) → length (run_and_rest t (run_length t []) []) ≡ 0
unfolding run_and_rest ascii
run-nil t = rw (run_length-nil t) refl

-- an empty text needs no codeword
pub need-nil : (scheme : Scheme) → need_of scheme [] ≡ 0
unfolding need_of text ascii base_256
need-nil scheme = grind (arith, run-nil)

-- the need in Base 256 is as many codewords as bytes, and at most three more
few : (n : ℕ) → (n ≤ base_256_need n) × (base_256_need n ≤ n + 3)
few n = grind arith

-- A codeword stands for at most two bytes, and no text needs many more codewords than it has bytes.
pub need_near : (scheme : Scheme) (bytes : List ℕ) →
    (length bytes ≤ 2 * need_of scheme bytes) × (need_of scheme bytes ≤ 4 * length bytes + 4)
unfolding need_of text
need_near scheme bytes = grind (arith, length-ascii, run_few, need-base_256, few)

-- what fits a symbol in Base 256 has a text
pub short_base_256 : (bytes : List ℕ) → need_of Base256 bytes ≤ 1304 → length bytes ≤ 1555
short_base_256 bytes le = grind (arith, cases_lt, ne_eqb, lt-leb, need-base_256)

-- ---- what a counter says

-- an ASCII counter has the need
pub words-ascii : (c : AsciiCounter) (scheme : Scheme) (bytes : List ℕ) → Counts scheme bytes (counters.Ascii c) →
    c.words ≡ need_of scheme bytes
unfolding need_of text
words-ascii c scheme bytes counts = grind arith

-- a run's counter has the number of codewords
counts_run : (t : Letters) (c : RunCounter) (bytes : List ℕ) → CountsRun t bytes c →
    run_need c.run c.after.words ≡ length (run_and_rest t (run_length t bytes) bytes)
counts_run t c bytes counts = grind (arith, words_run, run_within)

-- a run's counter has the need
pub words-run : (t : Letters) (c : RunCounter) (scheme : Scheme) (bytes : List ℕ) →
    Counts scheme bytes (counters.Run t c) → run_need c.run c.after.words ≡ need_of scheme bytes
unfolding need_of text
words-run t c scheme bytes counts = grind (arith, counts_run)

-- a Base 256 counter has the need
pub words-base_256 : (n k : ℕ) → k ≡ base_256_need n → (scheme : Scheme) (bytes : List ℕ) →
    Counts scheme bytes (counters.Base256 n) → k ≡ need_of scheme bytes
words-base_256 n k e scheme bytes counts = grind (arith, need-base_256)

-- ---- a counter's numbers

-- the numbers of a run's counter
small_run : (n : ℕ) (t : Letters) (bytes : List ℕ) (c : RunCounter) → length bytes ≤ n → CountsRun t bytes c
    → IsSmallRun n c
small_run n t bytes c le counts =
    let run = run_length t bytes in
    let ascii = length-ascii (drop run bytes) in
    grind (arith, run_within, length-values, ascii.1, length-take-le, length-drop)

-- the numbers of a counter
pub small : (n : ℕ) (scheme : Scheme) (bytes : List ℕ) (c : Counter) → length bytes ≤ n → Counts scheme bytes c
    → IsSmall n c
small n scheme bytes (counters.Ascii c) le counts = grind (arith, length-ascii)
small n C40 bytes (counters.Run Capital c) le counts = small_run n Capital bytes c le counts
small n Text bytes (counters.Run Small c) le counts = small_run n Small bytes c le counts
small n scheme bytes (counters.Base256 k) le counts = grind arith
small n Ascii bytes (counters.Run t c) le counts = absurd counts
small n C40 bytes (counters.Run Small c) le counts = absurd counts
small n Text bytes (counters.Run Capital c) le counts = absurd counts
small n Base256 bytes (counters.Run t c) le counts = absurd counts
