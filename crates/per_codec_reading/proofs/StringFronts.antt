-- Bits that begin with an OCTET STRING, a BIT STRING, a text or an OBJECT IDENTIFIER.
use Rattle.std.proofs.Common.{◌≡◌, ◌⊎◌, inl, inr, ℕ, ◌*◌, ◌==◌, Bool, true, false, List, [], ◌∷◌, length, Ok, Err, refl, ap, sym, ◌∙◌, subst, arith}
use Rattle.std.proofs.lemmas.Bool.{false≢true, eqb-true, eq-eqb, le-leb, and_from}
use Rattle.asn1_model.specs.Schema.{Counts, Size, Alphabet, bit_string, octet_string, character_string, object_identifier, utf8}
use Rattle.asn1_model.specs.Value.{Value, bit_list, octet_list, text, arcs}
use Rattle.asn1_model.specs.Schema.{any_count}
use Rattle.asn1_model.specs.Numbers.{octet_bits, is_count_within}
use Rattle.asn1_model.specs.Strings.{is_octet, may_hold, is_identifier, identifier_octets}
use Rattle.std.specs.List.{list_all}
use Rattle.asn1_model.specs.Form.{exactly}
use Rattle.asn1_model.specs.Per
use Rattle.asn1_laws_fronts.proofs.PerNumbers.{counted_octets_alike}
use Rattle.asn1_schema_errors.specs.declared.DecodeError.{DecodeError}
use Rattle.asn1_schema_errors.specs.declared.DecodeError.TheVariants.{OutOfMemory}
use Rattle.asn1_values_identifiers.specs.Identifiers.{arcs_of}
use Rattle.asn1_values_identifiers.specs.declared.fault.IdentifierError.{IdentifierError}
use Rattle.asn1_values_identifiers.specs.declared.fault.IdentifierError.TheVariants.{Memory}
use Rattle.asn1_values_identifiers.proofs.Whole.{identifier_read}
use Rattle.per_codec_laws.specs.Takes.{Position, Front}
use Rattle.per_codec_laws.proofs.Fronts.{if_in, if_out, of_refused}
use Rattle.per_codec_reading.specs.Fronts.{NoneStands, IsFresh, Misses}
use Rattle.per_codec_reading.proofs.Fronts.{none_misses}
use Rattle.per_codec_reading.specs.Units.{Units, units_of}
use Rattle.per_codec_reading.specs.Headings.{contents_have_padding, sized_units}
use Rattle.per_codec_reading.specs.declared.sized.Contents.TheVariants.{Strings}
use Rattle.per_codec_reading.proofs.OctetFronts.{length-octet_bits, octet_pieces}
use Rattle.per_codec_reading.proofs.RunFronts.{one}

bit_pieces : (bs : List Bool) → units_of 1 (length bs) bs ≡ Per.bit_units bs
bit_pieces [] = refl
bit_pieces (b ∷ bs) = ap (λ us. exactly (b ∷ []) ∷ us) (bit_pieces bs)

module _ (free : Per.Freedom → Bool) (al : Bool) where
  pub sized_size : (z : Size) (h : Counts) (w : ℕ) (has_padding : ℕ → Counts → Bool) (us : Units) (a b : Position) → Front free (sized_units al z h w has_padding us) a b → length us.1 ≡ us.0 * w
  sized_size z h w has_padding us a b f = eqb-true _ _ (if_out free (length us.1 == us.0 * w) _ a b f).0

  -- ---- OCTET STRING
  pub octet_string_stands : (z : Size) (h : Counts) (us : Units) (os : List ℕ) (a b : Position) →
      Front free (sized_units al z h 8 (contents_have_padding Strings 8) us) a b → list_all is_octet os ≡ true → octet_bits os ≡ us.1 → Front free (Per.form al (octet_string z h) (octet_list os)) a b
  unfolding Per.form
  octet_string_stands z h us os a b f s e =
      let i = if_out free (length us.1 == us.0 * 8) _ a b f in
      let n = eqb-true _ _ i.0 in
      let l = length-octet_bits os in
      let m = ap length e in
      let k : us.0 ≡ length os = omega arith in
      let q : units_of 8 us.0 us.1 ≡ Per.octet_units os = ap (λ j. units_of 8 j us.1) k ∙ ap (units_of 8 (length os)) (sym e) ∙ octet_pieces os in
      let g = subst (λ u. Front free (Per.sized al z h (Per.string_has_padding 8 us.0) u) a b) q i.1 in
      if_in free (list_all is_octet os) _ a b s (subst (λ j. Front free (Per.sized al z h (Per.string_has_padding 8 j) (Per.octet_units os)) a b) k g)

  pub no_octet_string : (z : Size) (h : Counts) (a : Position) → NoneStands free (sized_units al z h 8 (contents_have_padding Strings 8)) a → NoneStands free (Per.form al (octet_string z h)) a
  unfolding Per.form
  no_octet_string z h a n (octet_list os) b f =
      let i = if_out free (list_all is_octet os) _ a b f in
      let g = subst (λ u. Front free (Per.sized al z h (Per.string_has_padding 8 (length os)) u) a b) (sym (octet_pieces os)) i.1 in
      n (length os, octet_bits os) b (if_in free (length (octet_bits os) == length os * 8) _ a b (eq-eqb _ _ (length-octet_bits os)) g)
  no_octet_string z h a n v b f = of_refused free a b f

  -- ---- BIT STRING
  pub bit_string_stands : (z : Size) (h : Counts) (us : Units) (a b : Position) →
      Front free (sized_units al z h 1 (contents_have_padding Strings 1) us) a b → Front free (Per.form al (bit_string z h) (bit_list us.1)) a b
  unfolding Per.form
  bit_string_stands z h us a b f =
      let i = if_out free (length us.1 == us.0 * 1) _ a b f in
      let n = eqb-true _ _ i.0 in
      let k : us.0 ≡ length us.1 = omega arith in
      let q : units_of 1 us.0 us.1 ≡ Per.bit_units us.1 = ap (λ j. units_of 1 j us.1) k ∙ bit_pieces us.1 in
      let g = subst (λ u. Front free (Per.sized al z h (Per.string_has_padding 1 us.0) u) a b) q i.1 in
      subst (λ j. Front free (Per.sized al z h (Per.string_has_padding 1 j) (Per.bit_units us.1)) a b) k g

  pub no_bit_string : (z : Size) (h : Counts) (a : Position) → NoneStands free (sized_units al z h 1 (contents_have_padding Strings 1)) a → NoneStands free (Per.form al (bit_string z h)) a
  unfolding Per.form
  no_bit_string z h a n (bit_list bs) b f =
      let l : length bs ≡ length bs * 1 = omega arith in
      let g = subst (λ u. Front free (Per.sized al z h (Per.string_has_padding 1 (length bs)) u) a b) (sym (bit_pieces bs)) f in
      n (length bs, bs) b (if_in free (length bs == length bs * 1) _ a b (eq-eqb _ _ l) g)
  no_bit_string z h a n v b f = of_refused free a b f

  -- ---- UTF8String
  octets_one : (os ps : List ℕ) (a b c : Position) → Front free (Per.counted_octets al os) a b → Front free (Per.counted_octets al ps) a c → os ≡ ps
  octets_one os ps a b c f g = (one free a b c (counted_octets_alike free al os ps) f g).0

  pub text_stands : (z : Size) (l : Alphabet) (os : List ℕ) (a b : Position) → may_hold utf8 os ≡ true → Front free (Per.counted_octets al os) a b →
      Front free (Per.form al (character_string utf8 z l any_count) (text os)) a b
  unfolding Per.form Per.string_form
  text_stands z l os a b m f = if_in free (may_hold utf8 os) _ a b m (if_in free (is_count_within any_count (length os)) _ a b (and_from _ _ (le-leb 0 (length os) (omega arith)) refl) f)

  text_out : (z : Size) (l : Alphabet) (v : Value) (a b : Position) → Front free (Per.form al (character_string utf8 z l any_count) v) a b →
      (os : List ℕ) × (may_hold utf8 os ≡ true) × Front free (Per.counted_octets al os) a b
  unfolding Per.form Per.string_form
  text_out z l (text os) a b f = let i = if_out free (may_hold utf8 os) _ a b f in (os, i.0, (if_out free (is_count_within any_count (length os)) (Per.counted_octets al os) a b i.1).1)
  text_out z l v a b f = absurd (of_refused free a b f)

  pub no_text_octets : (z : Size) (l : Alphabet) (a : Position) → NoneStands free (Per.counted_octets al) a → NoneStands free (Per.form al (character_string utf8 z l any_count)) a
  no_text_octets z l a n v b f = let t = text_out z l v a b f in n t.0 b t.2

  pub no_text : (z : Size) (l : Alphabet) (os : List ℕ) (a c : Position) → may_hold utf8 os ≡ false → Front free (Per.counted_octets al os) a c →
      NoneStands free (Per.form al (character_string utf8 z l any_count)) a
  no_text z l os a c m g v b f = let t = text_out z l v a b f in false≢true (sym m ∙ ap (may_hold utf8) (octets_one os t.0 a c b g t.2) ∙ t.1)

  -- ---- OBJECT IDENTIFIER
  pub identifier_stands : (ns os : List ℕ) (a b : Position) → is_identifier ns ≡ true → identifier_octets ns ≡ os →
      Front free (Per.counted_octets al os) a b → Front free (Per.form al object_identifier (arcs ns)) a b
  unfolding Per.form
  identifier_stands ns os a b i e f = if_in free (is_identifier ns) (Per.counted_octets al (identifier_octets ns)) a b i (subst (λ x. Front free (Per.counted_octets al x) a b) (sym e) f)

  identifier_out : (v : Value) (a b : Position) → Front free (Per.form al object_identifier v) a b → (ns : List ℕ) × (is_identifier ns ≡ true) ×
      Front free (Per.counted_octets al (identifier_octets ns)) a b
  unfolding Per.form
  identifier_out (arcs ns) a b f = let i = if_out free (is_identifier ns) (Per.counted_octets al (identifier_octets ns)) a b f in (ns, i.0, i.1)
  identifier_out v a b f = absurd (of_refused free a b f)

  pub no_identifier_octets : (a : Position) → NoneStands free (Per.counted_octets al) a → NoneStands free (Per.form al object_identifier) a
  no_identifier_octets a n v b f = let i = identifier_out v a b f in n (identifier_octets i.0) b i.2

  no_arcs : (os : List ℕ) (a c : Position) (e : IdentifierError) → arcs_of os ≡ Err e → Front free (Per.counted_octets al os) a c → NoneStands free (Per.form al object_identifier) a
  no_arcs os a c e n g v b f =
      let i = identifier_out v a b f in
      let o = octets_one os (identifier_octets i.0) a c b g i.2 in
      let k : arcs_of os ≡ Ok i.0 = ap arcs_of o ∙ identifier_read i.0 i.1 in
      let x : Err e ≡ Ok i.0 = sym n ∙ k in
      cc

  pub no_identifier : (os : List ℕ) (a c : Position) (e : IdentifierError) (x : DecodeError) → (e ≡ Memory) ⊎ (arcs_of os ≡ Err e) →
      (e ≡ Memory → x ≡ OutOfMemory) → IsFresh x → Front free (Per.counted_octets al os) a c → Misses free (Per.form al object_identifier) a x
  no_identifier os a c e x (inl m) h r f = subst (Misses free (Per.form al object_identifier) a) (sym (h m)) tt
  no_identifier os a c e x (inr n) h r f = none_misses free (Per.form al object_identifier) a x r (no_arcs os a c e n f)
