use Rattle.std.proofs.Common.{◌≡◌, ◌<◌, ◌%◌, ◌∙◌, ℕ, length, sym, arith, rules, tests}
use Rattle.std.proofs.lemmas.{Bool.Decides.nat_tests, Grind.common_steps, Iterator.Adapters.YieldsList-from_bytes}
use Rattle.std.proofs.lemmas.{Iterator.Search.all_from_yields_List, List.Sums.AllPass-from_list_all}
use Rattle.std.proofs.lemmas.List.Sums.{list_all-from_AllPass}
use Rattle.std.specs.Char.{is_ascii_hexdigit}
use Rattle.hex.{specs.Hex.is_hex_digit, proofs.HexLemmas.decode_of-digits, proofs.HexLemmas.decode_of-ok}
use Rattle.relay_script.proofs.words.is_hexadecimal.Goals as goal

same_digit : (c : ℕ) → is_ascii_hexdigit c ≡ is_hex_digit c
same_digit c = grind (arith, nat_tests)

pub returns-then-word-eq0 : goal.returns-then-word-eq0
returns-then-word-eq0 c =
    let all = all_from_yields_List is_hex_digit _ _ c.all.result c.all.ensures.ran
    (YieldsList-from_bytes c.args.word.now c.bytes.ensures.rest)
    (λ x b q k. search (rules, tests, same_digit)) in
    let some : 0 < length c.args.word.now = grind (arith, common_steps) in
    let even : length c.args.word.now % 2 ≡ 0 = grind (arith, common_steps) in (
      λ yes.
          let bytes = decode_of-digits c.args.word.now even
          (AllPass-from_list_all is_hex_digit c.args.word.now (sym all ∙ yes)) in (some, bytes.0, bytes.1),
      λ is. all ∙ list_all-from_AllPass is_hex_digit c.args.word.now (decode_of-ok c.args.word.now is.1 is.2).1,
    )
