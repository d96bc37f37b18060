use Rattle.std.proofs.Common.{◌≡◌, ◌==◌, ◌∙◌, [], List, ap, ap₂, map, arith, codes, false, true, ◌<◌, length, ◌+◌, sym, Bool, ℕ}
use Rattle.std.proofs.lemmas.List.{map_more, take_all, length-map}
use Rattle.std.proofs.lemmas.Simd.{map-map}
use Rattle.clap.specs.Words.{App, Shape, with_subcommand}
use Rattle.clap.specs.Simple.{new_shape}
use Rattle.relay_line.specs.Parsed.{app_of_table, listing_of, shape_of_listing, the_app}
use Rattle.relay_line.specs.declared.options.Listed.{Listed}
use Rattle.relay_line.proofs.options.program.Goals as goal

abbrev some_listed : Listed
some_listed = record {
  name = record { ref_ptr = (0, 0); now = [] };
  rows = record { ref_ptr = (0, 0); now = [] };
}

abbrev shape_of_listed : Listed → Shape
shape_of_listed listed = shape_of_listing (listing_of listed)

-- the program with these commands
abbrev app_with : Bool → List Shape → App
app_with leaf subs = record { top = record (new_shape (codes "relay")) { is_leaf = leaf; has_version = true }; subs = subs }

no_leaf : (i : ℕ) → false ≡ ((i + 1) == 0)
no_leaf i = grind arith

pub loop-listed-preserved : goal.loop-listed-preserved
loop-listed-preserved c =
    let there : c.loop-listed.listed-index < length c.all_commands-commands.result.now = c.loop-listed-test.true in
    let more = map_more shape_of_listed c.all_commands-commands.result.now c.loop-listed.listed-index some_listed there in
    c.in_ok-program.ensures.shape c.in_ok-subcommand.ensures.local ∙ (ap₂ with_subcommand c.loop-listed.invariant c.in_ok-subcommand.ensures.shape
    ∙ ap₂ app_with (no_leaf c.loop-listed.listed-index) (sym more))

pub returns : goal.returns
unfolding the_app
returns c =
    let commands = c.all_commands-commands.result.now in
    let all : c.loop-listed.listed-index ≡ length commands = omega arith in
    c.loop-listed.invariant ∙ ap₂ app_with (ap (λ (n : ℕ). n == 0) (all ∙ sym (length-map commands listing_of)))
    (ap (map shape_of_listed) (take_all c.loop-listed.listed-index commands c.loop-listed-test.false)
    ∙ sym (map-map shape_of_listing listing_of commands))
    ∙ ap app_of_table c.all_commands-commands.ensures
