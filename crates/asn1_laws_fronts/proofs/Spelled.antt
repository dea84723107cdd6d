-- Prefixes of extension bits, preambles and components that are encoded.
use Rattle.std.proofs.Common.{◌≡◌, suc, Bool, true, false, cond, List, length, refl, ap}
use Rattle.asn1_model.specs.Value.{Value, Parts, end, absent, present}
use Rattle.asn1_model.specs.Schema.{Presence, Schema, Components, no_component, component}
use Rattle.asn1_model.specs.Form.{Form, varied, only_if, Freedom, Detail, default_spelled_out, empty_group}
use Rattle.asn1_model.specs.Normal.{is_at_default, is_group_left_out, spelled, presence_bits, is_required, presence_bit_unless}
use Rattle.asn1_laws_fronts.proofs.Fronts.{Agree, agree_varied_left, agree_varied_right, agree_if_left, agree_if_right}

-- ---- presence bits
unless_long : (b m n : Bool) (ms ns : List Bool) → length ms ≡ length ns → length (presence_bit_unless b m ms) ≡ length (presence_bit_unless b n ns)
unless_long true m n ms ns e = e
unless_long false m n ms ns e = ap suc e

-- all values have the same number of presence bits
pub presence_bits_long : (cs : Components) (ps qs : Parts) → length (presence_bits cs ps) ≡ length (presence_bits cs qs)
presence_bits_long no_component ps qs = refl
presence_bits_long (component t o s cs) end end = unless_long (is_required o) _ _ _ _ (presence_bits_long cs end end)
presence_bits_long (component t o s cs) end (absent qs) = unless_long (is_required o) _ _ _ _ (presence_bits_long cs end qs)
presence_bits_long (component t o s cs) end (present w qs) = unless_long (is_required o) _ _ _ _ (presence_bits_long cs end qs)
presence_bits_long (component t o s cs) (absent ps) end = unless_long (is_required o) _ _ _ _ (presence_bits_long cs ps end)
presence_bits_long (component t o s cs) (absent ps) (absent qs) = unless_long (is_required o) _ _ _ _ (presence_bits_long cs ps qs)
presence_bits_long (component t o s cs) (absent ps) (present w qs) = unless_long (is_required o) _ _ _ _ (presence_bits_long cs ps qs)
presence_bits_long (component t o s cs) (present v ps) end = unless_long (is_required o) _ _ _ _ (presence_bits_long cs ps end)
presence_bits_long (component t o s cs) (present v ps) (absent qs) = unless_long (is_required o) _ _ _ _ (presence_bits_long cs ps qs)
presence_bits_long (component t o s cs) (present v ps) (present w qs) = unless_long (is_required o) _ _ _ _ (presence_bits_long cs ps qs)

-- ---- components that are encoded
module _ {A : Type 0} (free : Freedom → Bool) where
  abbrev tests : Bool → Bool → Form Freedom Detail A → Form Freedom Detail A
  tests a b x =
      cond a (varied default_spelled_out false (λ t. only_if t x)) (cond b (varied empty_group false (λ t. only_if t x)) x)

  tests_left : (a b : Bool) (x y : Form Freedom Detail A) (P : Type 0) → Agree free x y P → Agree free (tests a b x) y P
  tests_left true b x y P h = agree_varied_left free (λ t. agree_if_left free t {x = x} {y = y} (λ e. h))
  tests_left false true x y P h = agree_varied_left free (λ t. agree_if_left free t {x = x} {y = y} (λ e. h))
  tests_left false false x y P h = h

  pub tests_right : (a b : Bool) (x y : Form Freedom Detail A) (P : Type 0) → Agree free x y P → Agree free x (tests a b y) P
  tests_right true b x y P h = agree_varied_right free (λ t. agree_if_right free t {x = x} {y = y} (λ e. h))
  tests_right false true x y P h = agree_varied_right free (λ t. agree_if_right free t {x = x} {y = y} (λ e. h))
  tests_right false false x y P h = h

  pub spelled_alike : (o : Presence) (s : Schema) (v w : Value) (x y : Form Freedom Detail A) (P : Type 0) → Agree free x y P →
      Agree free (spelled o s v x) (spelled o s w y) P
  unfolding spelled
  spelled_alike o s v w x y P h =
      let k = tests_right (is_at_default o s w) (is_group_left_out s w) x y P h in
      tests_left (is_at_default o s v) (is_group_left_out s v) x _ P k
