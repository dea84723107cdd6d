-- Field-lists of forms. A field-list at an unknown position leaves its padding open: for instance an element of a bag,
-- whose position is known only at the end of the bag.
use Rattle.std.specs.Prelude.{ℕ, ◌+◌, Bool, List, [], ◌∷◌, ◌++◌, length, map, Option, Some, None, option_map}
use Rattle.std.specs.Prelude.{option_and_then}
use Rattle.asn1_model.specs.Form.{exactly, refused, both, placed, varied, within, written}
use Rattle.asn1_model.specs.Per

-- A bit, or the padding from its position to the next octet boundary.
pub data Atom : Type 0 where
  bit : Bool → Atom
  padding : Atom

abbrev pub FieldList : Type 0
FieldList = List Atom

-- Bits as a field-list.
abbrev pub as_field_list : List Bool → FieldList
as_field_list l = map (λ b. bit b) l

-- The bits of a field-list in which nothing is left open.
abbrev pub plain : FieldList → Option (List Bool)
plain [] = Some []
plain (bit b ∷ t) = option_map (λ l. b ∷ l) (plain t)
plain (padding ∷ t) = None

-- A position advanced by a number of bits, if it is known.
abbrev pub moved : Option ℕ → ℕ → Option ℕ
moved q n = option_map (λ p. p + n) q

-- The position after a field-list.
abbrev pub on : Option ℕ → FieldList → Option ℕ
on q t = moved q (length t)

-- The canonical field-list of a form from a position, if there is one: that of the definitions, if the position is
-- known. In the forms of PER only padding depends on the position.
unfoldable pub field_list_at : Per.BitForm → Option ℕ → Option FieldList
field_list_at (exactly l) q = Some (as_field_list l)
field_list_at refused q = None
field_list_at (both x y) q =
    option_and_then (λ a. option_map (λ b. a ++ b) (field_list_at y (on q a))) (field_list_at x q)
field_list_at (placed f) (Some p) = field_list_at (f p) (Some p)
field_list_at (placed f) None = Some (padding ∷ [])
field_list_at (varied c d f) q = field_list_at (f d) q
field_list_at (within x f) q = option_and_then (λ w. field_list_at (f w) q) (written x 0)

-- A field-list as a form.
abbrev pub as_form : FieldList → Per.BitForm
as_form [] = exactly []
as_form (bit b ∷ t) = both (exactly (b ∷ [])) (as_form t)
as_form (padding ∷ t) = both (placed (λ p. Per.padding (Per.missing p))) (as_form t)
