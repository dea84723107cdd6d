-- Encodings in shared octets, one after the other.
use Rattle.std.specs.Prelude.{ℕ, ◌≤◌, List, [], ◌∷◌}
use Rattle.std.specs.List.{slice_range}
use Rattle.asn1_schema_order.specs.declared.encodings.Span.{Span}

-- the octets of spans
abbrev pub cut : List ℕ → List Span → List (List ℕ)
cut octets [] = []
cut octets (s ∷ ss) = slice_range octets s.from s.to ∷ cut octets ss

-- the spans are within a given number of octets
abbrev pub AreWithin : ℕ → List Span → Type 0
AreWithin n [] = Unit {0}
AreWithin n (s ∷ ss) = (s.from ≤ s.to) × (s.to ≤ n) × AreWithin n ss
