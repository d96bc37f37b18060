-- A symbol filled with a text: how many codewords it has, and that they read as the text alone.
use Rattle.std.proofs.Common.{◌≡◌, ℕ, ◌+◌, ◌-◌, ◌<◌, ◌≤◌, Bool, List, ◌++◌, length, take, drop, append_assoc, arith}
use Rattle.std.specs.List.{AllByRecursion}
use Rattle.std.proofs.lemmas.{Bool.and_parts, Bool.leb-true, Bool.cond_both, List.length-append, List.drop_at}
use Rattle.std.proofs.Math.Seq.{take-append_seam}
use Rattle.dm_encodation.specs.{declared.scheme.Scheme.Scheme, Grammar.Reads, Grammar.ReadsOnly}
use Rattle.dm_encodation.specs.Written.{text, need_of, ends_in_run, words_after_text, filled}
use Rattle.dm_encodation.proofs.{Base256Words.base_256_read, Counters.length-text, Counters.short_base_256}
use Rattle.dm_encodation.proofs.Reread.{ascii_read, pads_read, reads_only, length-pads}
use Rattle.dm_encodation.proofs.RunRead.{run_read_back}

-- the codewords after a text are as many as asked for
length-words_after_text : (in_run : Bool) (p n : ℕ) → length (words_after_text in_run p n) ≡ n
length-words_after_text in_run p n = grind (arith, cond_both, leb-true, and_parts, length-pads)

-- a filled symbol has all its data codewords
pub length-filled : (scheme : Scheme) (head bytes : List ℕ) (n : ℕ) → length head + need_of scheme bytes ≤ n →
    length (filled scheme head bytes n) ≡ n
unfolding filled
length-filled scheme head bytes n fits = grind (arith, length-append, length-words_after_text, length-text)

-- a filled symbol begins with the head
pub take-filled : (scheme : Scheme) (head bytes : List ℕ) (n : ℕ) →
    take (length head) (filled scheme head bytes n) ≡ head
unfolding filled
take-filled scheme head bytes n = grind (arith, append_assoc, take-append_seam)

-- the codewords, one part after another
pub filled_parts : (scheme : Scheme) (head bytes first second : List ℕ) (in_run : Bool) (p q n : ℕ) →
    first ≡ head ++ text scheme p bytes → p ≡ length head + 1 →
    second ≡ first ++ words_after_text in_run (q + 1) (n - q) → q ≡ length first → in_run ≡ ends_in_run scheme bytes
    → second ≡ filled scheme head bytes n
unfolding filled
filled_parts scheme head bytes first second in_run p q n a p-is b q-is run-is = grind arith

-- a filled symbol without its head
drop-filled : (head words tail : List ℕ) → drop (length head) ((head ++ words) ++ tail) ≡ words ++ tail
drop-filled head words tail = grind (arith, append_assoc, drop_at)

-- The text and what fills the room read as the bytes.
text_read : (scheme : Scheme) (p q n : ℕ) (bytes : List ℕ) → AllByRecursion (λ b. b < 256) bytes →
    need_of scheme bytes ≤ 1304 → Reads p (text scheme p bytes ++ words_after_text (ends_in_run scheme bytes) q n) bytes
unfolding text need_of
text_read scheme p q n bytes fits short =
    grind (arith, ascii_read, pads_read, run_read_back, base_256_read, short_base_256)

-- The codewords of a filled symbol after its head read as the text alone.
pub filled_read : (scheme : Scheme) (head bytes : List ℕ) (n : ℕ) → AllByRecursion (λ b. b < 256) bytes →
    need_of scheme bytes ≤ 1304
    → ReadsOnly (length head + 1) (drop (length head) (filled scheme head bytes n)) bytes
unfolding filled
filled_read scheme head bytes n fits short = search (arith, reads_only, drop-filled, text_read)
