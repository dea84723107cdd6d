-- What is read with each SET OF ascending, and with bitmaps of the type's width, is read as it is written.
use Rattle.std.proofs.Common.{◌≡◌, ℕ, ◌+◌, ◌^◌, ◌<◌, Bool, true, false, IsTrue, List, [], ◌∷◌, map, length, Some, refl, sym, subst, inl, inr, ◌⊎◌, option_and_then}
use Rattle.std.proofs.lemmas.Bool.{ltb-true}
use Rattle.asn1_model.specs.Value.{Value, values_of}
use Rattle.asn1_model.specs.Schema.{Schema}
use Rattle.asn1_model.specs.Lawful.{is_lawful}
use Rattle.asn1_model.specs.Types.{any_size, any_count, bag_of, bag_with, num}
use Rattle.asn1_model.specs.Types.{whole as integers}
use Rattle.asn1_model.proofs.OnValues.{on_values}
use Rattle.asn1_model.specs.Normal.{normal}
use Rattle.asn1_model.specs.Form.{Form, exactly, refused, both, placed, varied, within, Reads}
use Rattle.asn1_model.specs.Strings.{is_octet}
use Rattle.std.specs.List.{list_all}
use Rattle.asn1_model.specs.Rules.{Rules, uper, aper, uper_strict, aper_strict, oer, coer, octet_bits, strict_per, strict_oer, canonical, encoding, per, octet_encoding, of_moderate_length}
use Rattle.asn1_model.specs.Per
use Rattle.asn1_model.specs.Oer
use Rattle.asn1_model.proofs.Forms.{reads_written}
use Rattle.asn1_laws_values.proofs.Messages.{per_text, octet_text}
use Rattle.asn1_laws_across.specs.InOrder.{ReadsWith, HasAscendingBag, HasAscendingOctetBag, IsEncodingInOrder, InOrderRows}
use Rattle.asn1_laws_across.specs.OwnWidth.{IsAlikeHere, AreOctetsAlikeHere, IsEncodingOfOwnWidth}
use Rattle.asn1_laws_across.proofs.AsWritten.{ReadsAsWritten, IsEncodingAsWritten}
use Rattle.asn1_laws_across.proofs.Strictly.{strictly}
use Rattle.asn1_laws_across.proofs.Ascending.{packed_bags, octets_bags}
use Rattle.asn1_laws_across.proofs.OwnWidth.{packed_bitmaps, octet_bitmaps}
use Rattle.asn1_laws_values.specs.MessageLaws.{canonically}

module _ {F : Type 0} {D : F → Type 0} {A : Type 0} (free : F → Bool) (may : Form F D A → Form F D A → Type 0) where
  -- if each form that is allowed instead is read as it is written, all is
  pub each_as_written : ((x y : Form F D A) (p : ℕ) (w : List A) → may x y → ReadsAsWritten free y p w → ReadsAsWritten free x p w) →
      (x : Form F D A) (p : ℕ) (w : List A) → ReadsWith may x p w → ReadsAsWritten free x p w
  unfolding ReadsWith ReadsAsWritten
  each_as_written h (exactly l) p w r = r
  each_as_written h refused p w r = r
  each_as_written h (both x y) p w r = (r.0, r.1, each_as_written h x p r.0 r.2, each_as_written h y (p + length r.0) r.1 r.3, r.4)
  each_as_written h (placed f) p w r = each_as_written h (f p) p w r
  each_as_written h (varied c d f) p w r = go r.1 (each_as_written h (f r.0) p w r.2)
    where
      go : (r.0 ≡ d) ⊎ may (varied c d f) (f r.0) → ReadsAsWritten free (f r.0) p w → ReadsAsWritten free (varied c d f) p w
      go (inl e) t = (r.0, inl e, t)
      go (inr m) t = h (varied c d f) (f r.0) p w m t
  each_as_written h (within x f) p w r = (r.0, each_as_written h x 0 r.0 r.1, each_as_written h (f r.0) p w r.2)

  -- what is allowed may grow
  pub read_with_more : (more : Form F D A → Form F D A → Type 0) → ((x y : Form F D A) → may x y → more x y) → (x : Form F D A) (p : ℕ) (w : List A) → ReadsWith may x p w → ReadsWith more x p w
  unfolding ReadsWith
  read_with_more more h (exactly l) p w r = r
  read_with_more more h refused p w r = r
  read_with_more more h (both x y) p w r = (r.0, r.1, read_with_more more h x p r.0 r.2, read_with_more more h y (p + length r.0) r.1 r.3, r.4)
  read_with_more more h (placed f) p w r = read_with_more more h (f p) p w r
  read_with_more more h (varied c d f) p w r = (r.0, allowed r.1, read_with_more more h (f r.0) p w r.2)
    where
      allowed : (r.0 ≡ d) ⊎ may (varied c d f) (f r.0) → (r.0 ≡ d) ⊎ more (varied c d f) (f r.0)
      allowed (inl e) = inl e
      allowed (inr m) = inr (h (varied c d f) (f r.0) m)
  read_with_more more h (within x f) p w r = (r.0, read_with_more more h x 0 r.0 r.1, read_with_more more h (f r.0) p w r.2)

  -- what is written is read in this way
  pub written_with : (x : Form F D A) (p : ℕ) (w : List A) → Reads canonically x p w → ReadsWith may x p w
  unfolding Reads ReadsWith
  written_with (exactly l) p w r = r
  written_with refused p w r = r
  written_with (both x y) p w r = (r.0, r.1, written_with x p r.0 r.2, written_with y (p + length r.0) r.1 r.3, r.4)
  written_with (placed f) p w r = written_with (f p) p w r
  written_with (varied c d f) p w r = (r.0, met r.1, written_with (f r.0) p w r.2)
    where
      met : {P Q : Type 0} → P ⊎ IsTrue false → P ⊎ Q
      met (inl e) = inl e
      met (inr i) = let e : false ≡ true = i in cc
  written_with (within x f) p w r = (r.0, written_with x 0 r.0 r.1, written_with (f r.0) p w r.2)

bits_step : (al : Bool) (x y : Per.BitForm) (p : ℕ) (w : List Bool) → IsAlikeHere al x y → ReadsAsWritten strict_per y p w → ReadsAsWritten strict_per x p w
bits_step al x y p w (inl (z, held, s, vs, is, ys, l, e, f, c, a)) r =
    subst (λ t. ReadsAsWritten strict_per t p w) (sym e) (packed_bags strict_per al z held s vs is ys p w refl l c a (subst (λ t. ReadsAsWritten strict_per t p w) f r))
bits_step al x y p w (inr (ms, root, xs, all, b, e, f, c, l)) r =
    subst (λ t. ReadsAsWritten strict_per t p w) (sym e) (packed_bitmaps strict_per al ms root xs all b p w refl c l (subst (λ t. ReadsAsWritten strict_per t p w) f r))

octets_step : (x y : Oer.OctetForm) (p : ℕ) (w : List ℕ) → AreOctetsAlikeHere x y → ReadsAsWritten strict_oer y p w → ReadsAsWritten strict_oer x p w
octets_step x y p w (inl (z, held, s, vs, is, ys, l, e, f, c, a)) r =
    subst (λ t. ReadsAsWritten strict_oer t p w) (sym e) (octets_bags strict_oer z held s vs is ys p w refl l c a (subst (λ t. ReadsAsWritten strict_oer t p w) f r))
octets_step x y p w (inr (ms, root, xs, all, b, e, f, c, l)) r =
    subst (λ t. ReadsAsWritten strict_oer t p w) (sym e) (octet_bitmaps strict_oer ms root xs all b p w refl c l (subst (λ t. ReadsAsWritten strict_oer t p w) f r))

bits_as_written : (al : Bool) (x : Per.BitForm) (p : ℕ) (w : List Bool) → ReadsWith (IsAlikeHere al) x p w → ReadsAsWritten strict_per x p w
bits_as_written al x p w r = each_as_written strict_per (IsAlikeHere al) (bits_step al) x p w r

octets_as_written : (x : Oer.OctetForm) (p : ℕ) (w : List ℕ) → ReadsWith AreOctetsAlikeHere x p w → ReadsAsWritten strict_oer x p w
octets_as_written x p w r = each_as_written strict_oer AreOctetsAlikeHere octets_step x p w r

pub own_width_as_written : (r : Rules) (s : Schema) (v : Value) (w : List ℕ) → IsEncodingOfOwnWidth r s v w → IsEncodingAsWritten r s v w
unfolding IsEncodingOfOwnWidth IsEncodingAsWritten
own_width_as_written uper s v w h = (h.0, bits_as_written false (Per.message false s v) 0 (octet_bits w) h.1)
own_width_as_written uper_strict s v w h = (h.0, bits_as_written false (Per.message false s v) 0 (octet_bits w) h.1)
own_width_as_written aper s v w h = (h.0, bits_as_written true (Per.message true s v) 0 (octet_bits w) h.1)
own_width_as_written aper_strict s v w h = (h.0, bits_as_written true (Per.message true s v) 0 (octet_bits w) h.1)
own_width_as_written oer s v w h = (h.0, octets_as_written (Oer.form s v) 0 w h.1)
own_width_as_written coer s v w h = (h.0, octets_as_written (Oer.form s v) 0 w h.1)

pub own_width : (r : Rules) (s : Schema) (v : Value) (w : List ℕ) → list_all is_octet w ≡ true → IsEncodingOfOwnWidth r s v w → canonical r s v ≡ Some w
own_width r s v w o h = strictly r s v w o (own_width_as_written r s v w h)

-- what is in order has bitmaps of the type's width
bits_in_order : (al : Bool) (x : Per.BitForm) (p : ℕ) (w : List Bool) → ReadsWith (HasAscendingBag al) x p w → ReadsWith (IsAlikeHere al) x p w
bits_in_order al x p w r = read_with_more strict_per (HasAscendingBag al) (IsAlikeHere al) (λ x y m. inl m) x p w r

octets_in_order : (x : Oer.OctetForm) (p : ℕ) (w : List ℕ) → ReadsWith HasAscendingOctetBag x p w → ReadsWith AreOctetsAlikeHere x p w
octets_in_order x p w r = read_with_more strict_oer HasAscendingOctetBag AreOctetsAlikeHere (λ x y m. inl m) x p w r

pub in_order_of_own_width : (r : Rules) (s : Schema) (v : Value) (w : List ℕ) → IsEncodingInOrder r s v w → IsEncodingOfOwnWidth r s v w
unfolding IsEncodingInOrder IsEncodingOfOwnWidth
in_order_of_own_width uper s v w h = (h.0, bits_in_order false (Per.message false s v) 0 (octet_bits w) h.1)
in_order_of_own_width uper_strict s v w h = (h.0, bits_in_order false (Per.message false s v) 0 (octet_bits w) h.1)
in_order_of_own_width aper s v w h = (h.0, bits_in_order true (Per.message true s v) 0 (octet_bits w) h.1)
in_order_of_own_width aper_strict s v w h = (h.0, bits_in_order true (Per.message true s v) 0 (octet_bits w) h.1)
in_order_of_own_width oer s v w h = (h.0, octets_in_order (Oer.form s v) 0 w h.1)
in_order_of_own_width coer s v w h = (h.0, octets_in_order (Oer.form s v) 0 w h.1)

pub in_order_as_written : (r : Rules) (s : Schema) (v : Value) (w : List ℕ) → IsEncodingInOrder r s v w → IsEncodingAsWritten r s v w
in_order_as_written r s v w h = own_width_as_written r s v w (in_order_of_own_width r s v w h)

pub in_order : (r : Rules) (s : Schema) (v : Value) (w : List ℕ) → list_all is_octet w ≡ true → IsEncodingInOrder r s v w → canonical r s v ≡ Some w
in_order r s v w o h = own_width r s v w o (in_order_of_own_width r s v w h)

-- what is canonical is in order
packed_in : (al : Bool) (s : Schema) (v : Value) (w : List ℕ) → option_and_then of_moderate_length (per al s v) ≡ Some w → (length w < 2 ^ 60) ×
    ReadsWith (HasAscendingBag al) (Per.message al s v) 0 (octet_bits w)
packed_in al s v w e = let t = per_text al s v w e in
    (t.0, written_with strict_per (HasAscendingBag al) (Per.message al s v) 0 (octet_bits w) (reads_written (Per.message al s v) 0 (octet_bits w) t.1))

octets_in : (s : Schema) (v : Value) (w : List ℕ) → option_and_then of_moderate_length (octet_encoding s v) ≡ Some w → (length w < 2 ^ 60) × ReadsWith HasAscendingOctetBag (Oer.form s v) 0 w
octets_in s v w e = let t = octet_text s v w e in (t.0, written_with strict_oer HasAscendingOctetBag (Oer.form s v) 0 w (reads_written (Oer.form s v) 0 w t.1))

pub canonical_in : (r : Rules) (s : Schema) (v : Value) (w : List ℕ) → canonical r s v ≡ Some w → IsEncodingInOrder r s (normal s v) w
unfolding canonical encoding IsEncodingInOrder
canonical_in uper s v w e = packed_in false s (normal s v) w e
canonical_in uper_strict s v w e = packed_in false s (normal s v) w e
canonical_in aper s v w e = packed_in true s (normal s v) w e
canonical_in aper_strict s v w e = packed_in true s (normal s v) w e
canonical_in oer s v w e = octets_in s (normal s v) w e
canonical_in coer s v w e = octets_in s (normal s v) w e

-- ---- the SET OF 3, 1 and 2
in_order_here : List Oer.OctetForm
in_order_here = map (λ v. Oer.form integers v) (num 1 ∷ num 2 ∷ num 3 ∷ [])

pub in_order_rows : InOrderRows
unfolding IsEncodingInOrder ReadsWith on_values is_lawful in_order_here
in_order_rows =
    let m : HasAscendingOctetBag (Oer.form (bag_of integers) (bag_with (num 3 ∷ num 1 ∷ num 2 ∷ []))) (Oer.members_form any_count in_order_here) =
    (any_size, any_count, integers, values_of (num 3 ∷ num 1 ∷ num 2 ∷ []), 1 ∷ 1 ∷ 0 ∷ [], in_order_here, refl, refl, refl, refl, refl) in (
      ltb-true _ _ refl,
      (
        Some (1 ∷ 1 ∷ 0 ∷ []),
        inr m,
        written_with strict_oer HasAscendingOctetBag (Oer.members_form any_count in_order_here) 0 _
            (reads_written (Oer.members_form any_count in_order_here) 0 _ refl),
      ),
    )
