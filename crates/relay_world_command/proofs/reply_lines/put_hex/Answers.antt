use Rattle.std.proofs.Common.{◌<◌, length, take, arith, ◌≡◌, ℕ, suc, List, [], ◌∷◌, ◌++◌, Option, drop, get_or, refl, ap, sym, ◌∙◌, subst}
use Rattle.std.proofs.{KnownBytes.Appends-nil, KnownBytes.Appends-trans, lemmas.List.take_more}
use Rattle.relay_shared.proofs.Writing.{puts_part}
use Rattle.relay_world_command.proofs.reply_lines.put_hex.Goals as goal
use Rattle.std.proofs.Math.Seq.{split_at}
use Rattle.std.specs.Io.KnownBytes.{Appends}
use Rattle.hex.specs.Hex.{encode_lower, encode_with}
use Rattle.relay_streams.specs.Streams.{AppendsPart}
use Rattle.relay_streams.proofs.Parts.{part_after, part_more}

-- Bytes in hexadecimal, one after another.
-- the digits of bytes, and then those of others
hex_append : (bytes others : List ℕ) → encode_lower (bytes ++ others) ≡ encode_lower bytes ++ encode_lower others
unfolding encode_with
hex_append [] others = refl
hex_append (first ∷ bytes) others = ap (λ l. encode_lower (first ∷ []) ++ l) (hex_append bytes others)

-- a part of the digits of a byte is out after those before it
part_of_hex : (bytes : List ℕ) (i : ℕ) (a b c : Option (List ℕ)) → i < length bytes
    → Appends a b (encode_lower (take i bytes)) → AppendsPart b c (encode_lower (get_or bytes i 0 ∷ []))
    → AppendsPart a c (encode_lower bytes)
part_of_hex bytes i a b c there before part =
    let byte = get_or bytes i 0 in
    let rest = drop (suc i) bytes in
    subst (AppendsPart a c)
    (sym (ap encode_lower (split_at bytes i 0 there) ∙ hex_append (take i bytes) (byte ∷ rest) ∙
    ap (λ l. encode_lower (take i bytes) ++ l) (hex_append (byte ∷ []) rest)))
    (part_after a b c _ _ before (part_more b c _ _ part))

hex_none : encode_lower [] ≡ []
unfolding encode_with
hex_none = refl

pub loop-byte-init : goal.loop-byte-init
loop-byte-init g c = rw hex_none (Appends-nil _)

pub loop-byte-preserved : goal.loop-byte-preserved
loop-byte-preserved g c =
    let i = c.loop-byte.byte-index in
    let there : i < length c.args.bytes.now = omega arith in
    rw (take_more c.args.bytes.now i 0 there, hex_append (take i c.args.bytes.now) _)
    (Appends-trans _ _ _ _ _ c.loop-byte.invariant
    (rw c.in-Ok.ensures.written at c.in_ok-put.ensures.written))

pub returns-in_err-put : goal.returns-in_err-put
returns-in_err-put g c =
    puts_part _ _ c.from_residual.ensures.1
    (part_of_hex c.args.bytes.now c.loop-byte.byte-index _ c.loop-byte.output.contents _ c.loop-byte-test.true
    c.loop-byte.invariant (rw c.in-Ok.ensures.written at c.put.ensures.part)) c.in_err-put.ensures.failed
