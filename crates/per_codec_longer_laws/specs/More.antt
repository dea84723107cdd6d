-- The state of a decoder of PER (X.691) after bits were appended.
use Rattle.std.specs.Prelude.{Bool, true, false, cond, List, [], ◌∷◌, ◌++◌}
use Rattle.per_codec_laws.specs.Takes.{Position, State, Scope, open_type}

-- Whether an open type is open.
abbrev pub is_within : List Scope → Bool
is_within [] = false
is_within (open_type rest ∷ k) = true
is_within (s ∷ k) = is_within k

-- A position in scopes k: the bits of an open type are fixed by its length, and appended ones follow it.
abbrev pub place_with : List Bool → List Scope → Position → Position
place_with e k p = (p.0, cond (is_within k) p.1 (p.1 ++ e))

abbrev pub scopes_with : List Bool → List Scope → List Scope
scopes_with e [] = []
scopes_with e (open_type rest ∷ k) = open_type (place_with e k rest) ∷ scopes_with e k
scopes_with e (s ∷ k) = s ∷ scopes_with e k

-- A state with the bits e appended: to those left if no open type is open, otherwise to those after the outermost open
-- type.
abbrev pub with_more : List Bool → State → State
with_more e a = (place_with e a.1 a.0, scopes_with e a.1)

-- The bits to which they are appended.
abbrev pub bits_behind : Position → List Scope → List Bool
bits_behind p [] = p.1
bits_behind p (open_type rest ∷ k) = bits_behind rest k
bits_behind p (s ∷ k) = bits_behind p k

abbrev pub outermost : State → List Bool
outermost a = bits_behind a.0 a.1
