-- Encodings with their indices, and their ascending order (X.691 22, X.696 19).
use Rattle.std.specs.Prelude.{◌≡◌, ℕ, suc, List, [], ◌∷◌, Some, ltb}
use Rattle.asn1_model.specs.Form.{ascending, stands_before}
use Rattle.asn1_schema_order.specs.declared.encodings.Entry.{Entry}

-- the octets of an entry
abbrev pub octets_of : Entry → List ℕ
octets_of e = e.octets.now

-- each encoding has its entry, in the same order, with its index, counted from the given number
abbrev pub ArePlaced : ℕ → List (List ℕ) → List Entry → Type 0
ArePlaced i [] [] = Unit {0}
ArePlaced i (w ∷ ws) (e ∷ es) = (octets_of e ≡ w) × (e.index ≡ i) × ArePlaced (suc i) ws es
ArePlaced i ws es = ⊥

-- The entries are those of the encodings, each with its index, in ascending order of their octets (X.691 22, X.696
-- 19); entries of equal octets keep their order.
pub record AreInOrder (encodings : List (List ℕ)) (ordered : List Entry) : Type 0 where
  pub all : List Entry
  pub placed : ArePlaced 0 encodings all
  pub ascend : ascending (λ e. Some (octets_of e)) (stands_before ltb) all ≡ Some ordered
