-- How numbers within a range are read.
use Rattle.std.proofs.Common.{◌≡◌, sym, subst, ℕ, ℤ, pos, negsuc, Bool, true, false, cond, ◌||◌, Option, Some, None, refl}
use Rattle.std.proofs.lemmas.Bool.{and_parts}
use Rattle.asn1_model.specs.Numbers.{is_at_most, is_within}
use Rattle.asn1_model.specs.Schema.{Range, any_number}
use Rattle.asn1_model.specs.Value.{number}
use Rattle.asn1_schema_constraints.specs.Bounds.{later, earlier}
use Rattle.asn1_schema_constraints.proofs.Common.{number_order}
use Rattle.asn1_schema_constraints.specs.Terms.{Meant, meant, held_where, from_to}
use Rattle.asn1_schema_constraints.specs.declared.lists.Constraints.{Constraints}
use Rattle.asn1_schema_errors.specs.declared.DecodeError.{DecodeError}
use Rattle.asn1_schema_laws.specs.Records.{Record, whole, asks_whole}
use Rattle.asn1_schema_types.specs.Constrained.{met_range, within_range, constrained_type}
use Rattle.asn1_schema_types.specs.Told.{whole_under, asks_whole_under}
use Rattle.asn1_schema_decode.specs.Answers.{is_admitted}
use Rattle.asn1_schema_decode.specs.Reads.{NoRecord, Reads, Unread}
use Rattle.asn1_schema_decode.proofs.SingleRecords.{reads_integer, unread_integer}
use Rattle.std.specs.Option.{option_map_or}

-- the numbers of an unsigned octet
abbrev octet : Range
octet = record { low = Some (pos 0); high = Some (pos 255) }

module _ {S : Type 0} {step : S → Record → S → Type 0} (low high : ℤ) (c : Meant) (n : ℕ) (r : Constraints) where
  -- in a type that can hold all numbers of 128 bits
  pub reads_ranged : (held : Range) → held_where true held ≡ held_where true any_number → is_at_most low high ≡ true
      → meant r ≡ within_range low high c → {y z : ℤ} {a b : S} → y ≡ z → step a (whole_under r held z) b
      → Reads step (λ _. constrained_type low high c) n (number y) a b
  reads_ranged held q e m {y} {z} {a} {b} same k =
      let k' = subst (λ (v : ℤ). step a (whole_under r held v) b) (sym same) k in
      let m' = subst (λ (w : Meant). step a (whole w.bounds (held_where w.is_bounded held) y) b) m k' in
      rw e (reads_integer _ _ n (subst (λ (h : Range). step a (whole (within_range low high c).bounds h y) b) q m'))

  pub unread_ranged : (held : Range) → held_where true held ≡ held_where true any_number → is_at_most low high ≡ true
      → meant r ≡ within_range low high c → {few : S → S → S → Type 0} {a failed : S} {x : DecodeError} → NoRecord step few (asks_whole_under r held) a failed x
      → Unread step few (λ _. constrained_type low high c) n a failed x
  unread_ranged held q e m {few} {a} {failed} {x} k =
      let m' = subst (λ (w : Meant). NoRecord step few (asks_whole w.bounds (held_where w.is_bounded held)) a failed x) m k in
      rw e (unread_integer _ _ n (subst (λ (h : Range). NoRecord step few (asks_whole (within_range low high c).bounds h) a failed x) q m'))

  pub unread_unranged : is_at_most low high ≡ false → meant r ≡ from_to (negsuc 0) (negsuc 0) → {few : S → S → S → Type 0} {a failed : S} {x : DecodeError}
      → NoRecord step few (asks_whole_under r octet) a failed x → Unread step few (λ _. constrained_type low high c) n a failed x
  unread_unranged e m {few} {a} {failed} {x} k = rw e (unread_integer _ _ n (subst (λ (w : Meant). NoRecord step few (asks_whole w.bounds (held_where w.is_bounded octet)) a failed x) m k))

-- what is at least the greater of two numbers, is at least the second
from_later : (o : Option ℤ) (low v : ℤ) → option_map_or (λ x. is_at_most x v) (later is_at_most o (Some low)) true ≡ true → is_at_most low v ≡ true
from_later None low v h = h
from_later (Some a) low v h = go (is_at_most a low) refl h where
  go : (b : Bool) → is_at_most a low ≡ b → is_at_most (cond b low a) v ≡ true → is_at_most low v ≡ true
  go true e h = h
  go false e h = number_order.chained low a v (number_order.total a low e) h

-- what is at most the lesser of two numbers, is at most the second
to_earlier : (o : Option ℤ) (high v : ℤ) → option_map_or (λ x. is_at_most v x) (earlier is_at_most o (Some high)) true ≡ true → is_at_most v high ≡ true
to_earlier None high v h = h
to_earlier (Some a) high v h = go (is_at_most a high) refl h where
  go : (b : Bool) → is_at_most a high ≡ b → is_at_most v (cond b a high) ≡ true → is_at_most v high ≡ true
  go true e h = number_order.chained v a high h e
  go false e h = h

-- what a range and another allow together, the last one allows
pub met_within : (low high : ℤ) (c : Meant) (r : Constraints) → meant r ≡ within_range low high c → (v : ℤ) → is_admitted r v ≡ true
    → is_within (record { low = Some low; high = Some high }) v ≡ true
met_within low high c r m v h =
    let h' : is_within (met_range c.bounds.range low high) v ≡ true = subst (λ (w : Meant). (w.bounds.extensible || is_within w.bounds.range v) ≡ true) m h in
    let p = and_parts _ _ h' in
    rw (from_later c.bounds.range.low low v p.0, to_earlier c.bounds.range.high high v p.1) refl
