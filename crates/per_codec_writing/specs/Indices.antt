-- Enumeration and choice indices (X.691 14 and 23).
use Rattle.std.specs.Prelude.{ℕ, ◌-◌, Bool, true, false, [], ◌∷◌}
use Rattle.asn1_model.specs.Form.{exactly, refused, both}
use Rattle.asn1_model.specs.Per

-- An index: one of `n` in the root is a constrained whole number after the extension bit; an added one is a normally
-- small number after an extension bit of 1, which only an extensible type has (X.691 14.2, 14.3 and 23.5 to 23.8).
abbrev pub index_form : Bool → ℕ → Bool → Bool → ℕ → Per.BitForm
index_form al n e false i = both (Per.extension_bit_of e false) (Per.constrained al (n - 1) i)
index_form al n true true i = both (exactly (true ∷ [])) (Per.normally_small al i)
index_form al n false true i = refused
