-- The scopes of a stack.
use Rattle.std.specs.Prelude.{List, [], ◌∷◌, reverse, Option, Some, None}

-- The open scopes, the innermost first. The innermost one is apart; those around it are in the order in which they
-- began.
abbrev pub stacked : {F : Type 0} → Option F → List F → List F
stacked None fs = []
stacked (Some f) fs = f ∷ reverse fs
