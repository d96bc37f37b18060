-- Paths that begin or end with others.
use Rattle.std.proofs.Common.{◌≡◌, ◌∙◌, ◌++◌, List, ℕ, drop, ap, sym, append_assoc}
use Rattle.std.specs.Prelude.{codes}
use Rattle.std.specs.Str.Pattern.{FindsTextPrefix, HasPrefixMatch, StripsPrefix}
use Rattle.relay_places.specs.Places.{IsInFolder}

-- what is left of a text without its start
pub strips : (start whole rest : List ℕ) → StripsPrefix (FindsTextPrefix start) whole rest → whole ≡ start ++ rest
strips start whole rest is = is.1.1 ∙ ap (λ r. start ++ r) (sym is.2)

pub begins_in_folder : (folder name rest : List ℕ) → name ≡ folder ++ rest
    → HasPrefixMatch (FindsTextPrefix (codes "/")) rest → IsInFolder folder name
begins_in_folder folder name rest is begins =
    let below = drop begins.0 rest in
    (below, is ∙ ap (λ r. folder ++ r) begins.1.1 ∙ sym (append_assoc folder (codes "/") below))
