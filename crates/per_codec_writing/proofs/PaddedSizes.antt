-- Padding before units under a size constraint, and sizes without a constraint.
use Rattle.std.proofs.Common.{◌≡◌, ℕ, ◌-◌, ltb, Bool, true, cond, ◌&&◌, List, length, Option, Some, None, refl, ap, arith}
use Rattle.std.proofs.lemmas.Bool.{le-leb}
use Rattle.asn1_model.specs.Form.{only_if, both, joined}
use Rattle.asn1_model.specs.Numbers.{is_count_within}
use Rattle.asn1_model.specs.Schema.{Size, Counts}
use Rattle.asn1_model.specs.Per

-- ---- there is padding for these counts only

root_padded : (al : Bool) (c : Counts) (o : Option ℕ) (has_padding has_padding' : Counts → Bool) (us : List Per.BitForm) →
    has_padding c ≡ has_padding' c → Per.sized_root al c o has_padding us ≡ Per.sized_root al c o has_padding' us
unfolding Per.sized_root
root_padded al c None has_padding has_padding' us e = refl
root_padded al c (Some high) has_padding has_padding' us e =
    ap (λ b. cond (ltb high 65536) (both (Per.constrained al (high - c.low) (length us - c.low)) (Per.at_octet (al && b) (joined us))) (Per.counted al us)) e

pub sized_padded : (al : Bool) (z : Size) (h : Counts) (has_padding has_padding' : Counts → Bool) (us : List Per.BitForm) →
    has_padding z.counts ≡ has_padding' z.counts → Per.sized al z h has_padding us ≡ Per.sized al z h has_padding' us
unfolding Per.sized
sized_padded al z h has_padding has_padding' us e =
    ap (λ r. only_if (is_count_within h (length us)) (Per.with_extension_bit z.extensible (is_count_within z.counts (length us)) r
    (Per.counted al us))) (root_padded al z.counts z.counts.high has_padding has_padding' us e)

-- ---- under no size constraint

pub any_number : (n : ℕ) → is_count_within (record { low = 0; high = None }) n ≡ true
any_number n = ap (λ b. b && true) (le-leb 0 n (omega arith))
