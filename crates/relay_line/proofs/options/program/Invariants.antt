use Rattle.std.proofs.Common.{◌≡◌, ◌==◌, map, take, true, codes}
use Rattle.clap.specs.Words.{app_of}
use Rattle.clap.specs.Simple.{new_shape}
use Rattle.relay_line.specs.Parsed.{listing_of, shape_of_listing}
use Rattle.relay_line.proofs.options.program.Given as goal

-- the commands so far
abbrev pub invariant-loop-listed : goal.invariant-loop-listed
invariant-loop-listed l = app_of l.program ≡ record {
  top = record (new_shape (codes "relay")) { is_leaf = l.listed-index == 0; has_version = true };
  subs = map (λ listed. shape_of_listing (listing_of listed)) (take l.listed-index l.commands);
}
