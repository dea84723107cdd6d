-- Octets that begin with an OBJECT IDENTIFIER.
use Rattle.std.proofs.Common.{◌≡◌, ℕ, Bool, true, ◌⊎◌, inl, inr, List, Ok, Err, sym, ap, ◌∙◌, subst}
use Rattle.asn1_model.specs.Schema.{object_identifier}
use Rattle.asn1_model.specs.Value.{Value, arcs}
use Rattle.asn1_model.specs.Form.{Reads}
use Rattle.asn1_model.specs.Strings.{is_identifier, identifier_octets}
use Rattle.asn1_model.specs.Oer.{Freedom, form, counted}
use Rattle.asn1_schema_errors.specs.declared.DecodeError.{DecodeError}
use Rattle.asn1_schema_errors.specs.declared.DecodeError.TheVariants.{AlreadyFailed, OutOfMemory}
use Rattle.asn1_values_identifiers.specs.Identifiers.{arcs_of}
use Rattle.asn1_values_identifiers.specs.declared.fault.IdentifierError.{IdentifierError}
use Rattle.asn1_values_identifiers.specs.declared.fault.IdentifierError.TheVariants.{Memory}
use Rattle.asn1_values_identifiers.proofs.Whole.{identifier_read}
use Rattle.oer_codec_reading.specs.Fronts.{Stands, FrontOf, NoneStands, NoFront}
use Rattle.oer_codec_reading.proofs.Fronts.{if_stands, if_front, none_misses}
use Rattle.oer_codec_reading.proofs.LengthFronts.{counted_one}

module _ (free : Freedom → Bool) where
  identifier_front : (v : Value) (w rest : List ℕ) → FrontOf free object_identifier v w rest → (ns : List ℕ) × (is_identifier ns ≡ true) × Stands free (counted (identifier_octets ns)) w rest
  unfolding form Reads
  identifier_front (arcs ns) w rest h = let i = if_front free (is_identifier ns) (counted (identifier_octets ns)) w rest h in (ns, i.0, i.1)
  identifier_front v w rest h = absurd h.2

  pub identifier_stands : (ns os w rest : List ℕ) → is_identifier ns ≡ true → identifier_octets ns ≡ os → Stands free (counted os) w rest → FrontOf free object_identifier (arcs ns) w rest
  unfolding form
  identifier_stands ns os w rest i e h = if_stands free (is_identifier ns) (counted (identifier_octets ns)) w rest i (subst (λ x. Stands free (counted x) w rest) (sym e) h)

  pub no_octets : (w : List ℕ) → NoneStands free counted w → NoneStands free (form object_identifier) w
  no_octets w n v rest h = let f = identifier_front v w rest h in n (identifier_octets f.0) rest f.2

  no_arcs : (os w mid : List ℕ) (e : IdentifierError) → arcs_of os ≡ Err e → Stands free (counted os) w mid → NoneStands free (form object_identifier) w
  no_arcs os w mid e n h v rest s =
      let f = identifier_front v w rest s in
      let o = (counted_one free os (identifier_octets f.0) w mid rest h f.2).0 in
      let k : arcs_of os ≡ Ok f.0 = ap arcs_of o ∙ identifier_read f.0 f.1 in
      let x : Err e ≡ Ok f.0 = sym n ∙ k in
      cc

  pub no_identifier : (os w mid : List ℕ) (e : IdentifierError) (x : DecodeError) → (e ≡ Memory) ⊎ (arcs_of os ≡ Err e) →
      (e ≡ Memory → x ≡ OutOfMemory) → ¬ (x ≡ AlreadyFailed) → Stands free (counted os) w mid → NoFront free object_identifier w x
  no_identifier os w mid e x (inl m) f q h = subst (NoFront free object_identifier w) (sym (f m)) tt
  no_identifier os w mid e x (inr n) f q h = none_misses free (form object_identifier) w x q (no_arcs os w mid e n h)
