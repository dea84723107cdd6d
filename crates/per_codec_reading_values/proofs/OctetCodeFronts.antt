-- Bits that begin with a string encoded as the octets of its characters (X.691 30.5).
use Rattle.std.proofs.Common.{◌≡◌, ◌⊎◌, inl, inr, ℕ, Bool, true, false, cond, ◌&&◌, List, [], ◌∷◌, length, Option, Some, option_map, refl, ap, sym, ◌∙◌, subst}
use Rattle.std.specs.Prelude.{not}
use Rattle.std.proofs.lemmas.Bool.{false≢true}
use Rattle.asn1_model.specs.Form.{only_if}
use Rattle.asn1_model.specs.Numbers.{is_count_within}
use Rattle.asn1_model.specs.Per
use Rattle.asn1_model.specs.Schema.{StringKind, any_count, character_string}
use Rattle.asn1_model.specs.Strings.{may_hold, permitted}
use Rattle.asn1_model.specs.Value.{Value, text}
use Rattle.asn1_laws_fronts.proofs.PerNumbers.{counted_octets_alike}
use Rattle.asn1_schema_constraints.specs.Terms.{alphabet_of, sizes_of}
use Rattle.asn1_schema_constraints.specs.declared.extensions.Extensible.{Extensible}
use Rattle.asn1_schema_constraints.specs.declared.extensions.PermittedAlphabet.{PermittedAlphabet}
use Rattle.asn1_schema_constraints.specs.declared.parts.Size.{Size}
use Rattle.asn1_schema_errors.specs.declared.DecodeError.{DecodeError}
use Rattle.asn1_schema_errors.specs.declared.DecodeError.TheVariants.{OutOfMemory}
use Rattle.asn1_values_alphabets.specs.Permitted.{permits, permits_all, first_refused}
use Rattle.asn1_values_alphabets.specs.declared.error.InvalidRestrictedString.{InvalidRestrictedString}
use Rattle.per_codec_alphabets.specs.Octets.{is_encoded_as_octets}
use Rattle.per_codec_alphabets.proofs.OctetCodes.{as_octets, has_codes}
use Rattle.per_codec_laws.specs.Takes.{Position, Front}
use Rattle.per_codec_laws.proofs.Fronts.{if_in, if_out, of_refused}
use Rattle.per_codec_laws.proofs.Next.{same_fronts}
use Rattle.per_codec_reading.specs.Fronts.{NoneStands, IsFresh, Misses}
use Rattle.per_codec_reading.proofs.Fronts.{none_misses}

-- If one is refused, not all are permitted.
pub not_all : (k : StringKind) (refused : ℕ → InvalidRestrictedString) (cs : List ℕ) (e : InvalidRestrictedString) → option_map refused (first_refused k cs) ≡ Some e → permits_all k cs ≡ false
not_all k refused [] e h = cc
not_all k refused (c ∷ cs) e h = go (permits k c) (not_all k refused cs e) h
  where
    go : (t : Bool) → (option_map refused (first_refused k cs) ≡ Some e → permits_all k cs ≡ false) →
        option_map refused (cond (not t) (Some c) (first_refused k cs)) ≡ Some e → (t && permits_all k cs) ≡ false
    go true f h = f h
    go false f h = refl

module _ (free : Per.Freedom → Bool) (al : Bool) (k : StringKind) (z : Option (Extensible Size)) (l : Option (Extensible PermittedAlphabet))
    (e : is_encoded_as_octets al k z l ≡ true) (holds : (cs : List ℕ) → may_hold k cs ≡ permits_all k cs) where
  abbrev in_codes : Bool → List ℕ → Per.BitForm
  in_codes t cs = cond t (only_if (is_count_within any_count (length cs)) (Per.counted_octets al cs)) (Per.characters al (sizes_of z) any_count (permitted k (alphabet_of l)) cs)

  abbrev string_form : Value → Per.BitForm
  string_form v = Per.form al (character_string k (sizes_of z) (alphabet_of l) any_count) v

  pub codes_stand : (os : List ℕ) (p q : Position) → permits_all k os ≡ true → Front free (Per.counted_octets al os) p q → Front free (string_form (text os)) p q
  unfolding Per.form Per.string_form
  codes_stand os p q m f =
      let x = subst (λ x. Front free x p q) (sym (as_octets al k z l os e m)) f in
      if_in free (may_hold k os) _ p q (holds os ∙ m) (subst (λ t. Front free (in_codes t os) p q) (sym (has_codes al k z l e)) x)

  told : (v : Value) (p q : Position) → Front free (string_form v) p q → (os : List ℕ) × (permits_all k os ≡ true) × Front free (Per.counted_octets al os) p q
  unfolding Per.form Per.string_form
  told (text os) p q f =
      let i = if_out free (may_hold k os) _ p q f in
      let m = sym (holds os) ∙ i.0 in
      let x = subst (λ t. Front free (in_codes t os) p q) (has_codes al k z l e) i.1 in
      (os, m, subst (λ x. Front free x p q) (as_octets al k z l os e m) x)
  told v p q f = absurd (of_refused free p q f)

  pub no_codes : (p : Position) → NoneStands free (Per.counted_octets al) p → NoneStands free string_form p
  no_codes p n v q f = let t = told v p q f in n t.0 q t.2

  no_string : (os : List ℕ) (p c : Position) → permits_all k os ≡ false → Front free (Per.counted_octets al os) p c → NoneStands free string_form p
  no_string os p c m g v q f =
      let t = told v p q f in
      let same : os ≡ t.0 = (same_fronts free (counted_octets_alike free al os t.0) p c q g t.2).0 in
      false≢true (sym m ∙ ap (permits_all k) same ∙ t.1)

  -- Octets that are not all characters are refused, or memory ran out.
  pub refused_octets : (os : List ℕ) (p c : Position) (x : DecodeError) → Front free (Per.counted_octets al os) p c →
      (x ≡ OutOfMemory) ⊎ (permits_all k os ≡ false) → IsFresh x → Misses free string_form p x
  refused_octets os p c x g (inl m) n = subst (Misses free string_form p) (sym m) tt
  refused_octets os p c x g (inr m) n = none_misses free string_form p x n (no_string os p c m g)
