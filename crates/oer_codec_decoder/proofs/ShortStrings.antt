-- Strings with missing octets.
use Rattle.std.proofs.Common.{◌≡◌, ℕ, ◌+◌, ◌-◌, ◌/◌, ◌≤◌, ◌^◌, Bool, true, false, List, [], ◌∷◌, ◌++◌, length, take, Option, Some, None, refl, subst, length-append, arith}
use Rattle.std.proofs.lemmas.List.{length-take}
use Rattle.asn1_model.specs.Oer
use Rattle.asn1_model.specs.Schema.{Size, Counts, Range, StringKind, Alphabet, wide_range, integer, bit_string, octet_string, character_string, utf8, object_identifier}
use Rattle.asn1_model.specs.Strings.{may_hold}
use Rattle.asn1_values_alphabets.specs.Permitted.{permits_all, permits}
use Rattle.asn1_schema_constraints.specs.Terms.{one_size, bounds_of, held_of}
use Rattle.asn1_schema_constraints.specs.Widths.{fixed_width}
use Rattle.asn1_schema_constraints.specs.declared.extensions.Extensible.{Extensible}
use Rattle.asn1_schema_constraints.specs.declared.parts.Value as Constraint
use Rattle.asn1_schema_forms.specs.Forms.{form_bounds}
use Rattle.asn1_schema_forms.specs.declared.number.NumberForm.{NumberForm}
use Rattle.oer_codec_laws.specs.Takes.{Scope, components, State, Front, AdditionsBegin}
use Rattle.oer_codec_longer_laws.proofs.Behind.{front_more}
use Rattle.oer_codec_reading.specs.declared.rules.EncodingRules.{EncodingRules}
use Rattle.oer_codec_reading.specs.Fronts.{freedoms, Stands, NoneStands}
use Rattle.oer_codec_reading.specs.Sized.{sized}
use Rattle.oer_codec_reading.specs.Bits.{sized_bits}
use Rattle.oer_codec_reading.specs.Characters.{octet_size}
use Rattle.oer_codec_reading.specs.Integers.{sign_under, width_under}
use Rattle.oer_codec_reading.proofs.LengthFronts.{few_counted}
use Rattle.oer_codec_reading.proofs.SizedFronts.{too_few, no_number, no_sized}
use Rattle.oer_codec_reading.proofs.CharacterFronts as Characters
use Rattle.oer_codec_reading.proofs.TextFronts as Texts
use Rattle.oer_codec_reading.proofs.WholeFronts as Wholes
use Rattle.oer_codec_reading.proofs.IntegerFronts as Integers
use Rattle.oer_codec_reading.proofs.FormFronts as Forms
use Rattle.oer_codec_reading.proofs.BitFronts as Bits
use Rattle.oer_codec_reading.proofs.BitStringFronts as BitStrings
use Rattle.oer_codec_reading.proofs.BitmapFronts as Bitmaps
use Rattle.oer_codec_reading.proofs.IdentifierFronts as Identifiers
use Rattle.oer_codec_reading.proofs.Skipping.{as_stands}
use Rattle.oer_codec_decoder.specs.Missing.{TooShort, StillTooShort, octets_of_bits, bitmap_size}
use Rattle.oer_codec_decoder.proofs.Finding.{take_whole}

-- ---- the number of missing octets
pub none_known : (free : Oer.Freedom → Bool) (size : Option ℕ) (os : List ℕ) (n : ℕ) → n ≡ 0 → StillTooShort free size os n
none_known free size os n z more h l = absurd (omega arith)

pub of_size : (free : Oer.Freedom → Bool) (count : ℕ) (os : List ℕ) (n : ℕ) → n ≡ count - length os - 1 → StillTooShort free (Some count) os n
of_size free count os n z more h l = let a : length (os ++ more) ≡ length os + length more = length-append os more in omega arith

front : {free : Oer.Freedom → Bool} {x : Oer.OctetForm} {os rest : List ℕ} → Stands free x os rest → Front free x os rest
front s = record { text = s.0; has_form = s.2; in_front = s.1 }

pub behind_number : (free : Oer.Freedom → Bool) (count : ℕ) (os behind : List ℕ) (n : ℕ) → Stands free (Oer.length_form count) os behind → n ≡ count - length behind - 1 → StillTooShort free None os n
behind_number free count os behind n s z more h l =
    let a : length (behind ++ more) ≡ length behind + length more = length-append behind more in
    (count, behind ++ more, as_stands free (Oer.length_form count) (os ++ more) (behind ++ more) (front_more free more (Oer.length_form count) [] os behind (front s)), omega arith)

-- all octets are looked at if they are within the limit
pub looked_at : (os : List ℕ) → length os ≤ length (take (2 ^ 60 - 1) os) → take (2 ^ 60 - 1) os ≡ os
looked_at os h = take_whole (2 ^ 60 - 1) os (omega (arith, h, length-take (2 ^ 60 - 1) os))

-- ---- strings
module _ (free : Oer.Freedom → Bool) where
  pub none_counted : (w : List ℕ) → TooShort free None w → NoneStands free Oer.counted w
  none_counted w t = few_counted free t.0 w t.1 t.2 t.3

  pub none_sized : (size : Option ℕ) (w : List ℕ) → TooShort free size w → NoneStands free (sized size) w
  none_sized (Some n) w t = too_few free (Some n) n w refl t
  none_sized None w t = no_number free None w refl (none_counted w t)

  none_spelled : (wide : Bool) (size : Option ℕ) (w : List ℕ) → TooShort free size w → NoneStands free (sized (octet_size wide size)) w
  none_spelled wide (Some n) w t = Characters.few_characters free wide (Some n) n w refl t
  none_spelled wide None w t = no_number free (octet_size wide None) w refl (none_counted w t)

  pub no_octet_string : (z : Size) (h : Counts) (size : Option ℕ) → size ≡ one_size z → (w : List ℕ) → TooShort free size w → NoneStands free (Oer.form (octet_string z h)) w
  no_octet_string z h size e w t = no_sized free z h size w e (none_sized size w t)

  pub no_text : (z : Size) (a : Alphabet) (h : Counts) (size : Option ℕ) → size ≡ one_size z → (w : List ℕ) → TooShort free size w → NoneStands free (Oer.form (character_string utf8 z a h)) w
  no_text z a h size e w t = Texts.no_octets free z a h w (no_octet_string z h size e w t)

  pub no_characters : (k : StringKind) → ((cs : List ℕ) → may_hold k cs ≡ permits_all k cs) →
      (z : Size) (a : Alphabet) (h : Counts) (size : Option ℕ) → size ≡ one_size z → (w : List ℕ) → TooShort free size w → NoneStands free (Oer.form (character_string k z a h)) w
  no_characters k law z a h size e w t = Characters.no_octets free k law (permits k 256) refl z a h size e w (none_spelled (permits k 256) size w t)

  pub no_identifier : (w : List ℕ) → TooShort free None w → NoneStands free (Oer.form object_identifier) w
  no_identifier w t = Identifiers.no_octets free w (none_counted w t)

-- ---- numbers and bits
module _ (r : EncodingRules) where
  pub no_whole : (c : Option (Extensible Constraint.Value)) (h : Range) (size : Option ℕ) → size ≡ width_under (bounds_of c) → (w : List ℕ) →
      TooShort (freedoms r) size w → NoneStands (freedoms r) (Oer.form (integer (bounds_of c) (held_of c h))) w
  no_whole c h size e w t =
      Integers.no_integer (freedoms r) c h (sign_under (bounds_of c)) size w refl e (Wholes.no_octets r (sign_under (bounds_of c)) size w (none_sized (freedoms r) size w t))

  -- between two bounds, in its form
  pub no_in_form : (f : NumberForm) (k : ℕ) → Some k ≡ fixed_width (Some f.low) (Some f.high) → (w : List ℕ) →
      TooShort (freedoms r) (Some k) w → NoneStands (freedoms r) (Oer.form (integer (form_bounds f) wide_range)) w
  no_in_form f k e w t = Forms.form_missed r f k w e (none_sized (freedoms r) (Some k) w t)

  no_varying : (w : List ℕ) → TooShort (freedoms r) None w → NoneStands (freedoms r) (Oer.bit_string_form false) w
  no_varying w t = BitStrings.few_octets r w t.1 t.0 (λ z. let l = t.3 in absurd (omega (arith, z, l))) t.3 t.2

  none_in_octets : (size : Option ℕ) (w : List ℕ) → TooShort (freedoms r) (octets_of_bits size) w → NoneStands (freedoms r) (sized_bits size) w
  none_in_octets (Some n) w t = BitStrings.none_of_size r (Some n) n w refl (Bits.short_bits r n ((n + 7) / 8) w (omega arith) t)
  none_in_octets None w t = BitStrings.none_of_any_size r None w refl (no_varying w t)

  pub no_bit_string : (z : Size) (h : Counts) (size octets : Option ℕ) → size ≡ one_size z → octets ≡ octets_of_bits size → (w : List ℕ) →
      TooShort (freedoms r) octets w → NoneStands (freedoms r) (Oer.form (bit_string z h)) w
  no_bit_string z h size octets e f w t = BitStrings.no_string r z h size w e (none_in_octets size w (subst (λ o. TooShort (freedoms r) o w) f t))

  -- presence bitmaps
  pub no_bitmap_yet : (n : ℕ) (set : Bool) (os : List ℕ) (k : List Scope) (b : State) →
      AdditionsBegin (freedoms r) n os (components (Some set) [] ∷ k) b → TooShort (freedoms r) (bitmap_size set) os → ⊥
  no_bitmap_yet n true os k b a t = Bitmaps.no_bitmap r os (no_varying os t) a.0 b.0 (as_stands (freedoms r) (Oer.counted_bits a.0) os b.0 a.2)
  no_bitmap_yet n false os k b a t = absurd (omega (arith, t))
