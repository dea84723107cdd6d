-- The presence bits of components.
use Rattle.std.proofs.Common.{◌≡◌, ℕ, suc, Bool, cond, true, false, List, length, refl, ap}
use Rattle.asn1_model.specs.Value.{Parts, end, absent, present}
use Rattle.asn1_model.specs.Schema.{Components, no_component, component}
use Rattle.asn1_model.specs.Normal.{is_required, presence_bit_unless, presence_bits}
use Rattle.asn1_schema_laws.specs.Presents.{optional_count}

pub unless_count : (q t : Bool) (ms : List Bool) (n : ℕ) → length ms ≡ n → length (presence_bit_unless q t ms) ≡ cond q n (suc n)
unless_count true t ms n e = e
unless_count false t ms n e = ap suc e

-- as many presence bits as components that may be absent
pub presence_bits_count : (cs : Components) (ps : Parts) → length (presence_bits cs ps) ≡ optional_count cs
presence_bits_count no_component ps = refl
presence_bits_count (component t o s cs) (present v ps) = unless_count (is_required o) true _ _ (presence_bits_count cs ps)
presence_bits_count (component t o s cs) (absent ps) = unless_count (is_required o) false _ _ (presence_bits_count cs ps)
presence_bits_count (component t o s cs) end = unless_count (is_required o) false _ _ (presence_bits_count cs end)
