-- How object identifiers are printed.
use Rattle.std.specs.Prelude.{ℕ, List, [], ◌∷◌, ◌++◌, codes}
use Rattle.std.specs.List.{flat_map}
use Rattle.std.specs.Fmt.{decimal}

-- a dot and an arc in decimal
abbrev pub dotted_arc : ℕ → List ℕ
dotted_arc arc = codes "." ++ decimal arc

-- the arcs in decimal, separated by dots
abbrev pub dotted_text : List ℕ → List ℕ
dotted_text [] = []
dotted_text (first ∷ further) = decimal first ++ flat_map dotted_arc further
