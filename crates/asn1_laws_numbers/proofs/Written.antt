-- What is written, as octets.
use Rattle.std.proofs.Common.{◌≡◌, ℕ, ◌^◌, ◌<◌, ltb, Bool, true, false, cond, List, length, Some, None, option_and_then, refl, ◌∙◌, subst}
use Rattle.std.proofs.lemmas.Bool.{lt-ltb}
use Rattle.asn1_model.specs.Value.{Value}
use Rattle.asn1_model.specs.Schema.{Schema}
use Rattle.asn1_model.specs.Normal.{normal}
use Rattle.asn1_model.specs.Numbers.{packed}
use Rattle.asn1_model.specs.Strings.{is_octet}
use Rattle.std.specs.List.{list_all}
use Rattle.asn1_model.specs.Form.{Reads, written}
use Rattle.asn1_model.specs.Lawful.{is_lawful}
use Rattle.asn1_model.specs.Rules.{Rules, uper, aper, uper_strict, aper_strict, oer, coer, octet_bits, per, octet_encoding, of_moderate_length, encoding, canonical, IsEncoding}
use Rattle.asn1_model.specs.Per
use Rattle.asn1_model.specs.Oer
use Rattle.asn1_model.proofs.Forms.{chain_parts, map_parts, reads_written, writes_read}
use Rattle.asn1_laws_values.proofs.Messages.{per_text, octet_text, complete_whole}
use Rattle.asn1_laws_values.proofs.Octets.{packed_octets}
use Rattle.asn1_laws_numbers.proofs.Numbers.{octets_and_bits}
use Rattle.asn1_laws_numbers.specs.OctetLaws.{IsEncodingWithNoFreedom}
use Rattle.asn1_laws_numbers.proofs.OerOctets.{oer_octets}
use Rattle.asn1_laws_values.specs.MessageLaws.{canonically}

moderate : (w : List ℕ) → length w < 2 ^ 60 → of_moderate_length w ≡ Some w
moderate w h = let e = lt-ltb (length w) (2 ^ 60) h in rw e refl

same_if_moderate : (t : Bool) (w u : List ℕ) → cond t (Some w) None ≡ Some u → w ≡ u
same_if_moderate true w u e = cc
same_if_moderate false w u e = cc

-- ---- octets
packed_are_octets : (al : Bool) (s : Schema) (v : Value) (w : List ℕ) → option_and_then of_moderate_length (per al s v) ≡ Some w → list_all is_octet w ≡ true
unfolding per Per.message
packed_are_octets al s v w e =
    let q = chain_parts (per al s v) of_moderate_length w e in
    let m : q.0 ≡ w = same_if_moderate (ltb (length q.0) (2 ^ 60)) q.0 w q.2 in
    let r = map_parts (written (Per.message al s v) 0) packed q.0 q.1 in
    let k = complete_whole (Per.form al s v) r.0 r.1 in
    subst (λ x. list_all is_octet x ≡ true) (r.2 ∙ m) (packed_octets k.0 r.0 k.1)

written_in_octets : (s : Schema) (v : Value) (w : List ℕ) → is_lawful s ≡ true → option_and_then of_moderate_length (octet_encoding s v) ≡ Some w → list_all is_octet w ≡ true
written_in_octets s v w l e = let t = octet_text s v w e in oer_octets canonically s v 0 w l (reads_written (Oer.form s v) 0 w t.1)

pub written_are_octets : (r : Rules) (s : Schema) (v : Value) (w : List ℕ) → is_lawful s ≡ true → canonical r s v ≡ Some w → list_all is_octet w ≡ true
unfolding canonical encoding
written_are_octets uper s v w l e = packed_are_octets false s (normal s v) w e
written_are_octets uper_strict s v w l e = packed_are_octets false s (normal s v) w e
written_are_octets aper s v w l e = packed_are_octets true s (normal s v) w e
written_are_octets aper_strict s v w l e = packed_are_octets true s (normal s v) w e
written_are_octets oer s v w l e = written_in_octets s (normal s v) w l e
written_are_octets coer s v w l e = written_in_octets s (normal s v) w l e

pub read_are_octets : (s : Schema) (v : Value) (w : List ℕ) → is_lawful s ≡ true → (IsEncoding oer s v w → list_all is_octet w ≡ true) × (IsEncoding coer s v w → list_all is_octet w ≡ true)
unfolding IsEncoding
read_are_octets s v w l = (λ e. oer_octets _ s v 0 w l e.1, λ e. oer_octets _ s v 0 w l e.1)

-- ---- no freedom
packed_free : (al : Bool) (s : Schema) (v : Value) (w : List ℕ) → option_and_then of_moderate_length (per al s v) ≡ Some w →
    (length w < 2 ^ 60) × Reads canonically (Per.message al s v) 0 (octet_bits w)
packed_free al s v w e = let t = per_text al s v w e in (t.0, reads_written (Per.message al s v) 0 (octet_bits w) t.1)

octets_free : (s : Schema) (v : Value) (w : List ℕ) → option_and_then of_moderate_length (octet_encoding s v) ≡ Some w → (length w < 2 ^ 60) × Reads canonically (Oer.form s v) 0 w
octets_free s v w e = let t = octet_text s v w e in (t.0, reads_written (Oer.form s v) 0 w t.1)

pub written_is_free : (r : Rules) (s : Schema) (v : Value) (w : List ℕ) → canonical r s v ≡ Some w → IsEncodingWithNoFreedom r s (normal s v) w
unfolding canonical encoding IsEncodingWithNoFreedom
written_is_free uper s v w e = packed_free false s (normal s v) w e
written_is_free uper_strict s v w e = packed_free false s (normal s v) w e
written_is_free aper s v w e = packed_free true s (normal s v) w e
written_is_free aper_strict s v w e = packed_free true s (normal s v) w e
written_is_free oer s v w e = octets_free s (normal s v) w e
written_is_free coer s v w e = octets_free s (normal s v) w e

free_packed : (al : Bool) (s : Schema) (v : Value) (w : List ℕ) → list_all is_octet w ≡ true → length w < 2 ^ 60 →
    Reads canonically (Per.message al s v) 0 (octet_bits w) → option_and_then of_moderate_length (per al s v) ≡ Some w
unfolding per
free_packed al s v w o h r =
    let e = writes_read (Per.message al s v) 0 (octet_bits w) r in
    let f = octets_and_bits.0 w o in
    let m = moderate w h in
    rw (e, f) m

free_octets : (s : Schema) (v : Value) (w : List ℕ) → length w < 2 ^ 60 → Reads canonically (Oer.form s v) 0 w → option_and_then of_moderate_length (octet_encoding s v) ≡ Some w
unfolding octet_encoding
free_octets s v w h r =
    let e = writes_read (Oer.form s v) 0 w r in
    let m = moderate w h in
    rw e m

pub free_is_written : (r : Rules) (s : Schema) (v : Value) (w : List ℕ) → list_all is_octet w ≡ true → IsEncodingWithNoFreedom r s (normal s v) w → canonical r s v ≡ Some w
unfolding canonical encoding IsEncodingWithNoFreedom
free_is_written uper s v w o h = free_packed false s (normal s v) w o h.0 h.1
free_is_written uper_strict s v w o h = free_packed false s (normal s v) w o h.0 h.1
free_is_written aper s v w o h = free_packed true s (normal s v) w o h.0 h.1
free_is_written aper_strict s v w o h = free_packed true s (normal s v) w o h.0 h.1
free_is_written oer s v w o h = free_octets s (normal s v) w h.0 h.1
free_is_written coer s v w o h = free_octets s (normal s v) w h.0 h.1
