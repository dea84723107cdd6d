-- Equality of a value and the identifier of its type, by what they mean.
use Rattle.std.specs.Prelude.{◌≡◌, refl, Bool, true, false, ◌&&◌}
use Rattle.asn1_model.specs.Value.{Value, fields, present, end, same}

-- two tests in a row, with nothing after them
both : (p q : Bool) → (p && q) ≡ ((p && (q && true)) && true)
both true true = refl
both true false = refl
both false q = refl

-- SEQUENCE values with two components that are present are equal exactly if both components are.
pub instances_agree : (u v w z : Value) {a b : Bool} → a ≡ same u v → b ≡ same w z → (a && b)
    ≡ same (fields (present u (present w end)) end) (fields (present v (present z end)) end)
unfolding same
instances_agree u v w z {a} {b} e f = rw (e, f) (both (same u v) (same w z))
