-- How numbers within a range are written.
use Rattle.std.proofs.Common.{◌≡◌, ℤ, true, subst}
use Rattle.asn1_model.specs.Numbers.{is_at_most}
use Rattle.asn1_model.specs.Value.{number}
use Rattle.asn1_schema_constraints.specs.Terms.{Meant, meant, held_where}
use Rattle.asn1_schema_constraints.specs.declared.lists.Constraints.{Constraints}
use Rattle.asn1_schema_errors.specs.declared.EncodeError.{EncodeError}
use Rattle.asn1_schema_laws.specs.Records.{Record, whole}
use Rattle.asn1_model.specs.Schema.{any_number}
use Rattle.asn1_schema_types.specs.Constrained.{within_range, constrained_type}
use Rattle.asn1_schema_types.specs.Told.{whole_under}
use Rattle.asn1_schema_encode.specs.Writes.{Refused, Writes, CannotWrite}
use Rattle.asn1_schema_encode.proofs.SingleRecords.{writes_integer, cannot_integer}

-- the record of a number under constraints with a known meaning
abbrev pub told : Meant → ℤ → Record
told m z = whole m.bounds (held_where m.is_bounded any_number) z

module _ {S : Type 0} {step : S → Record → S → Type 0} (low high : ℤ) (c : Meant) (r : Constraints) (z : ℤ) (m : meant r ≡ within_range low high c) where
  pub writes_ranged : is_at_most low high ≡ true → {a b : S} → step a (whole_under r any_number z) b → Writes step (λ _. constrained_type low high c) (number z) a b
  writes_ranged e {a} {b} k = let h : step a (told (within_range low high c) z) b = subst (λ (t : Meant). step a (told t z) b) m k in rw e (writes_integer _ _ h)

  pub cannot_ranged : is_at_most low high ≡ true → {a : S} {x : EncodeError} → Refused step (whole_under r any_number z) a x → CannotWrite step (λ _. constrained_type low high c) (number z) a x
  cannot_ranged e {a} {x} k = let h : Refused step (told (within_range low high c) z) a x = subst (λ (t : Meant). Refused step (told t z) a x) m k in rw e (cannot_integer _ _ h)
