-- Whether a value is {a TRUE}.
use Rattle.std.proofs.Common.{◌≡◌, ℕ, Bool, true, false, Option, Some, None, refl}
use Rattle.std.specs.Prelude.{not, is_some}
use Rattle.asn1_model.specs.Value.{Value, truth, fields, end, absent, present, same, same_parts}
use Rattle.asn1_schema_laws.specs.Presents.{with_part}
use Rattle.asn1_schema_laws.specs.Parts.{part_of}
use Rattle.asn1_relay_types.specs.Defaults.{true_and}

-- of the older version
pub old_is_true : (a : Bool) → a ≡ same (fields (present (truth a) end) end) (true_and end)
unfolding same same_parts
old_is_true true = refl
old_is_true false = refl

module _ (meaning : ℕ → Value) where
  -- of the newer version, if `a` is TRUE
  pub new_is_true : (a none : Bool) (b : Option ℕ) → a ≡ true → is_some b ≡ not none → none ≡ same (fields (present (truth a) end) (with_part (part_of meaning b) end)) (true_and (absent end))
  unfolding same same_parts
  new_is_true false none b e f = cc
  new_is_true true true None e f = refl
  new_is_true true false None e f = f
  new_is_true true true (Some x) e f = f
  new_is_true true false (Some x) e f = refl

  -- and if it is not
  pub new_is_false : (a : Bool) (b : Option ℕ) → a ≡ false → a ≡ same (fields (present (truth a) end) (with_part (part_of meaning b) end)) (true_and (absent end))
  unfolding same same_parts
  new_is_false false b e = refl
  new_is_false true b e = cc
