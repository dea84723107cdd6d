-- Complete encodings and open types, as a reader finds them: the value's bits, their padding, and octets after them.
use Rattle.std.proofs.Common.{◌≡◌, ℕ, zero, suc, ◌+◌, ◌*◌, Bool, List, [], ◌∷◌, ◌++◌, length, map, refl, ap, sym, ◌∙◌, subst, append_assoc, arith}
use Rattle.asn1_model.specs.Numbers.{binary, octet_bits, packed, by_eights}
use Rattle.asn1_model.specs.Form.{exactly, only_if, Reads}
use Rattle.asn1_model.specs.Strings.{is_octet}
use Rattle.std.specs.List.{list_all}
use Rattle.asn1_model.specs.Per
use Rattle.asn1_laws_values.proofs.Octets.{packed_back, packed_octets, eights_units}
use Rattle.asn1_laws_fronts.proofs.Units.{complete_whole, joined_long}
use Rattle.per_codec_laws.specs.Takes.{Position, State, Scope, Front, completion, Closes}
use Rattle.per_codec_laws.proofs.Fronts.{if_in, if_out}

-- octets as units of eight bits
octets_as_units : (os : List ℕ) → map (λ o. exactly o) (Per.by_eights (octet_bits os)) ≡ Per.octet_units os
octets_as_units [] = refl
octets_as_units (o ∷ os) = ap (λ l. exactly (binary 8 o) ∷ l) (octets_as_units os)

module _ (free : Per.Freedom → Bool) where
  -- the padding of a value's bits comes after them
  pub padded_in : (u padding : List Bool) (n : ℕ) → 0 + length u ≡ n → Reads free (completion n) n padding → Reads free (Per.padded u) 0 (u ++ padding)
  unfolding Per.padded Reads
  padded_in [] padding zero e r = r
  padded_in [] padding (suc n) e r = absurd (omega arith)
  padded_in (b ∷ u) padding zero e r = absurd (omega arith)
  padded_in (b ∷ u) padding (suc n) e r =
      let l : suc n ≡ length (b ∷ u) = omega arith in
      let m : suc n ≡ 0 + length (b ∷ u) = omega arith in
      (b ∷ u, padding, refl, subst (λ p. Reads free (Per.padding (Per.missing (length (b ∷ u)))) p padding) m (subst (λ i. Reads free (Per.padding (Per.missing i)) (suc n) padding) l r), refl)

  pub padded_out : (u c : List Bool) → Reads free (Per.padded u) 0 c → (padding : List Bool) × (u ++ padding ≡ c) × Reads free (completion (length u)) (length u) padding
  unfolding Per.padded Reads
  padded_out [] c r = (c, refl, r)
  padded_out (b ∷ u) c r =
      let l : length r.0 ≡ length (b ∷ u) = ap (λ (l : List Bool). length l) (sym r.2) in
      let m : 0 + length r.0 ≡ length (b ∷ u) = omega arith in
      (r.1, ap (λ l. l ++ r.1) r.2 ∙ r.4, subst (λ p. Reads free (Per.padding (Per.missing (length (b ∷ u)))) p r.1) m r.3)

  module _ (al : Bool) where
    pub open_in : (x : Per.BitForm) (a rest left : Position) (os : List ℕ) (k : List Scope) (l : State) →
        Front free (Per.counted_octets al os) a rest → Front free x (0, octet_bits os) left → Closes free left rest k l → Front free (Per.open_type al x) a rest
    unfolding Per.open_type Per.complete Per.counted_octets Reads
    open_in x a rest left os k l f g c =
        let all : (g.text ++ c.2.text) ++ octet_bits c.1 ≡ octet_bits os = append_assoc g.text c.2.text (octet_bits c.1) ∙
        ap (λ w. g.text ++ (c.2.text ++ w)) (sym c.4) ∙ ap (λ w. g.text ++ w) c.2.in_front ∙ g.in_front in
        let counted = if_out free (list_all is_octet os) (Per.counted al (Per.octet_units os)) a rest f in
        let eights : Front free (Per.counted al (map (λ o. exactly o) (by_eights (octet_bits os)))) a rest = subst (λ us. Front free (Per.counted al us) a rest) (sym (octets_as_units os)) counted.1 in
        let whole : Front free (Per.counted al (map (λ o. exactly o) (by_eights ((g.text ++ c.2.text) ++ octet_bits c.1)))) a rest =
        subst (λ w. Front free (Per.counted al (map (λ o. exactly o) (by_eights w))) a rest) (sym all) eights in
        let told = if_in free (list_all is_octet c.1) (Per.counted al (map (λ o. exactly o) (by_eights ((g.text ++ c.2.text) ++ octet_bits c.1)))) a rest c.3 whole in
        record {
          text = told.text;
          has_form = (g.text ++ c.2.text, (g.text, g.has_form, padded_in g.text c.2.text left.0 g.moved c.2.has_form), (c.1, c.5, told.has_form));
          in_front = told.in_front;
          moved = told.moved;
        }

    abbrev pub OpenRead : Per.BitForm → Position → Position → Type 0
    OpenRead x a rest = (os : List ℕ) × (left : Position) × Front free (Per.counted_octets al os) a rest × Front free x (0, octet_bits os) left × ((k : List Scope) → Closes free left rest k (rest, k))

    pub open_out : (x : Per.BitForm) (a rest : Position) → Front free (Per.open_type al x) a rest → OpenRead x a rest
    unfolding Per.open_type Per.complete Per.counted_octets Reads
    open_out x a rest f =
        let r = f.has_form in
        let k = complete_whole free x r.0 0 r.1 in
        let long : length (r.0 ++ octet_bits r.2.0) ≡ 8 * (k.0 + length r.2.0) = joined_long free r.0 r.2.0 k.0 k.1 in
        let back : octet_bits (packed (r.0 ++ octet_bits r.2.0)) ≡ r.0 ++ octet_bits r.2.0 = packed_back (k.0 + length r.2.0) (r.0 ++ octet_bits r.2.0) long in
        let told : Front free (only_if (list_all is_octet r.2.0) (Per.counted al (map (λ o. exactly o) (by_eights (r.0 ++ octet_bits r.2.0))))) a
        rest = record { text = f.text; has_form = r.2.2; in_front = f.in_front; moved = f.moved } in
        let s = if_out free (list_all is_octet r.2.0) (Per.counted al (map (λ o. exactly o) (by_eights (r.0 ++ octet_bits r.2.0)))) a rest told in
        let units : Front free (Per.counted al (Per.octet_units (packed (r.0 ++ octet_bits r.2.0)))) a rest =
        subst (λ us. Front free (Per.counted al us) a rest) (eights_units (k.0 + length r.2.0) (r.0 ++ octet_bits r.2.0) long) s.1 in
        let counted = if_in free (list_all is_octet (packed (r.0 ++ octet_bits r.2.0)))
        (Per.counted al (Per.octet_units (packed (r.0 ++ octet_bits r.2.0)))) a rest (packed_octets (k.0 + length r.2.0) (r.0 ++ octet_bits r.2.0) long) units in
        let z = padded_out r.1.0 r.0 r.1.2 in
        let all : r.1.0 ++ (z.0 ++ octet_bits r.2.0) ≡ octet_bits (packed (r.0 ++ octet_bits r.2.0)) =
        sym (append_assoc r.1.0 z.0 (octet_bits r.2.0)) ∙ ap (λ l. l ++ octet_bits r.2.0) z.1 ∙ sym back in
        let value : Front free x (0, octet_bits (packed (r.0 ++ octet_bits r.2.0))) (length r.1.0, z.0 ++ octet_bits r.2.0) =
        record { text = r.1.0; has_form = r.1.1; in_front = all; moved = omega arith } in
        let padded : Front free (completion (length r.1.0)) (length r.1.0, z.0 ++ octet_bits r.2.0) (length r.1.0 + length z.0, octet_bits r.2.0) =
        record { text = z.0; has_form = z.2; in_front = refl; moved = refl } in
        (packed (r.0 ++ octet_bits r.2.0), (length r.1.0, z.0 ++ octet_bits r.2.0), counted, value, λ k. ((length r.1.0 + length z.0, octet_bits r.2.0), r.2.0, padded, s.0, refl, r.2.1, refl))
