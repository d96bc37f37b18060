use Rattle.std.proofs.Common.{◌≡◌, take, map}
use Rattle.arrayvec.specs.ArrayVec.{array_vec_len}
use Rattle.dm_pbm_io.specs.Header.{digit_of}
use Rattle.dm_pbm_io.proofs.write.line_text.Given as goal

abbrev pub invariant-loop-i : goal.invariant-loop-i
invariant-loop-i l = record {
  digits : l.text.items ≡ map digit_of (take l.i l.line);
  count : array_vec_len l.text ≡ l.i;
}
