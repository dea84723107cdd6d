-- The number of octets in which the numbers within bounds are encoded.
use Rattle.std.specs.Prelude.{ℕ, max, ℤ, pos, negsuc, Bool, true, false, Option, Some, None}
use Rattle.asn1_model.specs.Numbers.{signed_octets, octet_width}
use Rattle.asn1_model.specs.Oer.{fixed_octets}

-- Whether numbers from a lower bound on, or all if there is none, may be negative (X.696 10).
abbrev pub has_sign : Option ℤ → Bool
has_sign None = true
has_sign (Some (pos low)) = false
has_sign (Some (negsuc low)) = true

-- The fixed number of octets for the numbers between two bounds: the least of 1, 2, 4 and 8 that hold both bounds,
-- signed if the lower one is negative (X.696 10).
abbrev pub fixed_width : Option ℤ → Option ℤ → Option ℕ
fixed_width (Some (pos low)) (Some (pos high)) = fixed_octets (octet_width high)
fixed_width (Some (negsuc low)) (Some high) = fixed_octets (max (signed_octets (negsuc low)) (signed_octets high))
fixed_width low high = None
