-- The state of a decoder of OER (X.696) after octets were appended.
use Rattle.std.specs.Prelude.{ℕ, Bool, true, false, cond, List, [], ◌∷◌, ◌++◌}
use Rattle.oer_codec_laws.specs.Takes.{State, Scope, open_type}

-- Whether an open type is open.
abbrev pub is_within : List Scope → Bool
is_within [] = false
is_within (open_type rest ∷ k) = true
is_within (s ∷ k) = is_within k

-- The octets left in scopes k: the octets of an open type are fixed by its length, and appended ones follow it.
abbrev pub octets_with : List ℕ → List Scope → List ℕ → List ℕ
octets_with e k os = cond (is_within k) os (os ++ e)

abbrev pub scopes_with : List ℕ → List Scope → List Scope
scopes_with e [] = []
scopes_with e (open_type rest ∷ k) = open_type (octets_with e k rest) ∷ scopes_with e k
scopes_with e (s ∷ k) = s ∷ scopes_with e k

-- A state with the octets e appended: to those left if no open type is open, otherwise to those after the outermost
-- open type.
abbrev pub with_more : List ℕ → State → State
with_more e a = (octets_with e a.1 a.0, scopes_with e a.1)

-- The octets to which they are appended.
abbrev pub octets_behind : List ℕ → List Scope → List ℕ
octets_behind os [] = os
octets_behind os (open_type rest ∷ k) = octets_behind rest k
octets_behind os (s ∷ k) = octets_behind os k

abbrev pub outermost : State → List ℕ
outermost a = octets_behind a.0 a.1
