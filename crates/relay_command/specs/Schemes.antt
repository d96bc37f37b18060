-- The encodations by name.
use Rattle.std.specs.Prelude.{ℕ, List, codes}
use Rattle.dm_encodation.specs.declared.scheme.Scheme.{Scheme}
use Rattle.dm_encodation.specs.declared.scheme.Scheme.TheVariants.{Ascii, C40, Text, Base256}

-- the name of an encodation
abbrev pub scheme_name : Scheme → List ℕ
scheme_name Ascii = codes "ascii"
scheme_name C40 = codes "c40"
scheme_name Text = codes "text"
scheme_name Base256 = codes "base256"
