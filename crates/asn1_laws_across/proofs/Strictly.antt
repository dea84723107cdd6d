-- What a strict reader accepts as it is written is canonical.
use Rattle.std.proofs.Common.{◌≡◌, ℕ, ◌+◌, ◌^◌, ◌<◌, Bool, true, false, IsTrue, List, [], ◌∷◌, ◌++◌, length, take, drop, Some, option_and_then, refl, ap, sym, ◌∙◌, subst, inl, inr, ◌⊎◌}
use Rattle.std.proofs.lemmas.Bool.{ltb-true, lt-ltb, and_parts}
use Rattle.asn1_model.specs.Value.{Value}
use Rattle.asn1_model.specs.Schema.{Schema}
use Rattle.asn1_model.specs.Normal.{normal}
use Rattle.asn1_model.specs.Form.{Form, exactly, refused, both, placed, varied, within, Reads, written}
use Rattle.asn1_model.specs.Numbers.{packed, binary}
use Rattle.asn1_model.specs.Rules.{Rules, uper, aper, uper_strict, aper_strict, oer, coer, octet_bits, strict_per}
use Rattle.asn1_model.specs.Rules.{strict_oer, canonical, encoding, per, octet_encoding, of_moderate_length, lenient}
use Rattle.asn1_model.specs.Rules.{IsEncoding}
use Rattle.asn1_model.specs.Strings.{is_octet}
use Rattle.std.specs.List.{list_all}
use Rattle.asn1_model.specs.Per
use Rattle.asn1_model.specs.Oer
use Rattle.asn1_model.proofs.Forms.{widens}
use Rattle.asn1_laws_values.proofs.PerRead.{message_normal}
use Rattle.asn1_laws_values.proofs.OerRead.{octets_normal}
use Rattle.asn1_laws_values.proofs.Octets.{packed_back, packed_octets}
use Rattle.asn1_laws_values.proofs.Normal.{normal_stays}
use Rattle.asn1_laws_fronts.proofs.PerNumbers.{binary_equal}
use Rattle.asn1_laws_fronts.proofs.Complete.{bits_length}
use Rattle.asn1_laws_across.proofs.AsWritten.{ReadsAsWritten, IsEncodingAsWritten}
use Rattle.asn1_laws_values.specs.MessageLaws.{canonically}

-- what is read as it is written is read, and is what is written
pub as_read : {F : Type 0} {D : F → Type 0} {A : Type 0} (free : F → Bool) (x : Form F D A) (p : ℕ) (w : List A) → ReadsAsWritten free x p w → Reads free x p w
unfolding Reads ReadsAsWritten
as_read free (exactly l) p w r = r
as_read free refused p w r = r
as_read free (both x y) p w r = (r.0, r.1, as_read free x p r.0 r.2, as_read free y (p + length r.0) r.1 r.3, r.4)
as_read free (placed f) p w r = as_read free (f p) p w r
as_read free (varied c d f) p w r = (r.0, met r.1, as_read free (f r.0) p w r.2)
  where
    met : {P Q R : Type 0} → P ⊎ (Q × R) → P ⊎ Q
    met (inl e) = inl e
    met (inr e) = inr e.0
as_read free (within x f) p w r = (r.0, as_read free x 0 r.0 r.1, as_read free (f r.0) p w r.2)

pub as_written : {F : Type 0} {D : F → Type 0} {A : Type 0} (free : F → Bool) (x : Form F D A) (p : ℕ) (w : List A) → ReadsAsWritten free x p w → written x p ≡ Some w
unfolding written ReadsAsWritten
as_written free (exactly l) p w r = ap Some r
as_written free refused p w r = absurd r
as_written free (both x y) p w r = let e1 = as_written free x p r.0 r.2 in let e2 = as_written free y (p + length r.0) r.1 r.3 in rw (e1, e2, r.4) refl
as_written free (placed f) p w r = as_written free (f p) p w r
as_written {D = D} free (varied c d f) p w r = go r.0 r.1 (as_written free (f r.0) p w r.2)
  where
    go : (e : D c) → (e ≡ d) ⊎ (IsTrue (free c) × (written (f e) p ≡ written (f d) p)) → written (f e) p ≡ Some w → written (f d) p ≡ Some w
    go e (inl h) i = subst (λ x. written (f x) p ≡ Some w) h i
    go e (inr h) i = sym h.1 ∙ i
as_written free (within x f) p w r = let e1 = as_written free x 0 r.0 r.1 in let e2 = as_written free (f r.0) p w r.2 in rw (e1, e2) refl

-- what is written is read as it is written
pub written_as : {F : Type 0} {D : F → Type 0} {A : Type 0} (free : F → Bool) (x : Form F D A) (p : ℕ) (w : List A) → Reads canonically x p w → ReadsAsWritten free x p w
unfolding Reads ReadsAsWritten
written_as free (exactly l) p w r = r
written_as free refused p w r = r
written_as free (both x y) p w r = (r.0, r.1, written_as free x p r.0 r.2, written_as free y (p + length r.0) r.1 r.3, r.4)
written_as free (placed f) p w r = written_as free (f p) p w r
written_as free (varied c d f) p w r = (r.0, met r.1, written_as free (f r.0) p w r.2)
  where
    met : {P Q : Type 0} → P ⊎ IsTrue false → P ⊎ Q
    met (inl e) = inl e
    met (inr h) = let e : false ≡ true = h in cc
written_as free (within x f) p w r = (r.0, written_as free x 0 r.0 r.1, written_as free (f r.0) p w r.2)

-- octets, from their bits
front_bits : (o p : ℕ) (r s : List Bool) → o < 256 → p < 256 → binary 8 o ++ r ≡ binary 8 p ++ s → (o ≡ p) × (r ≡ s)
front_bits o p r s h i e = (binary_equal 8 o p h i (ap (λ l. take 8 l) e), ap (λ l. drop 8 l) e)

bits_equal : (os ps : List ℕ) → list_all is_octet os ≡ true → list_all is_octet ps ≡ true → octet_bits os ≡ octet_bits ps → os ≡ ps
bits_equal [] [] h i e = refl
bits_equal [] (p ∷ ps) h i e = cc
bits_equal (o ∷ os) [] h i e = cc
bits_equal (o ∷ os) (p ∷ ps) h i e =
    let h' = and_parts _ _ h in
    let i' = and_parts _ _ i in
    let q = front_bits o p (octet_bits os) (octet_bits ps) (ltb-true _ _ h'.0) (ltb-true _ _ i'.0) e in
    let x = q.0 in
    let y = bits_equal os ps h'.1 i'.1 q.1 in
    cc

packed_bits : (os : List ℕ) → list_all is_octet os ≡ true → packed (octet_bits os) ≡ os
packed_bits os h =
    let l = bits_length os in
    bits_equal (packed (octet_bits os)) os (packed_octets (length os) (octet_bits os) l) h (packed_back (length os) (octet_bits os) l)

moderate : (w : List ℕ) → length w < 2 ^ 60 → of_moderate_length w ≡ Some w
moderate w h = let e = lt-ltb (length w) (2 ^ 60) h in rw e refl

packed_strictly : (al : Bool) (s : Schema) (v : Value) (w : List ℕ) → list_all is_octet w ≡ true → length w < 2 ^ 60 →
    ReadsAsWritten strict_per (Per.message al s v) 0 (octet_bits w) → option_and_then of_moderate_length (per al s (normal s v)) ≡ Some w
unfolding per
packed_strictly al s v w o h r =
    let n = normal_stays s v (message_normal al s v (octet_bits w) (as_read strict_per (Per.message al s v) 0 (octet_bits w) r)) in
    let e : written (Per.message al s (normal s v)) 0 ≡ Some (octet_bits w) = ap (λ x. written (Per.message al s x) 0) n ∙ as_written strict_per _ 0 (octet_bits w) r in
    let f = packed_bits w o in
    let m = moderate w h in
    rw (e, f) m

octets_strictly : (s : Schema) (v : Value) (w : List ℕ) → length w < 2 ^ 60 → ReadsAsWritten strict_oer (Oer.form s v) 0 w → option_and_then of_moderate_length (octet_encoding s (normal s v)) ≡ Some w
unfolding octet_encoding
octets_strictly s v w h r =
    let n = normal_stays s v (octets_normal s v w (as_read strict_oer (Oer.form s v) 0 w r)) in
    let e : written (Oer.form s (normal s v)) 0 ≡ Some w = ap (λ x. written (Oer.form s x) 0) n ∙ as_written strict_oer _ 0 w r in
    let m = moderate w h in
    rw e m

pub strictly : (r : Rules) (s : Schema) (v : Value) (w : List ℕ) → list_all is_octet w ≡ true → IsEncodingAsWritten r s v w → canonical r s v ≡ Some w
unfolding canonical encoding IsEncodingAsWritten
strictly uper s v w o h = packed_strictly false s v w o h.0 h.1
strictly uper_strict s v w o h = packed_strictly false s v w o h.0 h.1
strictly aper s v w o h = packed_strictly true s v w o h.0 h.1
strictly aper_strict s v w o h = packed_strictly true s v w o h.0 h.1
strictly oer s v w o h = octets_strictly s v w h.0 h.1
strictly coer s v w o h = octets_strictly s v w h.0 h.1

-- what is read as it is written is an encoding
pub is_encoding : (r : Rules) (s : Schema) (v : Value) (w : List ℕ) → IsEncodingAsWritten r s v w → IsEncoding r s v w
unfolding IsEncodingAsWritten IsEncoding
is_encoding uper s v w h = (h.0, widens strict_per lenient _ 0 _ (λ c k. refl) (as_read strict_per _ 0 _ h.1))
is_encoding aper s v w h = (h.0, widens strict_per lenient _ 0 _ (λ c k. refl) (as_read strict_per _ 0 _ h.1))
is_encoding uper_strict s v w h = (h.0, as_read strict_per _ 0 _ h.1)
is_encoding aper_strict s v w h = (h.0, as_read strict_per _ 0 _ h.1)
is_encoding oer s v w h = (h.0, widens strict_oer lenient _ 0 _ (λ c k. refl) (as_read strict_oer _ 0 _ h.1))
is_encoding coer s v w h = (h.0, as_read strict_oer _ 0 _ h.1)
