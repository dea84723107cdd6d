-- Octets that begin with a tag.
use Rattle.std.proofs.Common.{◌≡◌, ℕ, ◌+◌, ◌*◌, ◌/◌, ◌%◌, ◌^◌, ◌<◌, ◌≤◌, ltb, leb, Bool, true, false, cond, IsTrue, ◌⊎◌, inl, inr, List, [], ◌∷◌, ◌++◌, Option, Some, None, refl, ap, sym, ◌∙◌, arith}
use Rattle.std.proofs.lemmas.Bool.{false≢true, le-leb, lt-ltb, leb-true, ltb-true}
use Rattle.asn1_model.specs.Schema.{Tag}
use Rattle.asn1_model.specs.Form.{exactly, only_if}
use Rattle.asn1_model.specs.Oer.{Freedom, OctetForm, long_tag, long_tag_octets, tag_form}
use Rattle.asn1_model.specs.Strings.{groups_of_seven}
use Rattle.oer_codec_reading.specs.declared.rules.EncodingRules.{EncodingRules}
use Rattle.oer_codec_reading.specs.declared.rules.EncodingRules.TheVariants.{Oer, Coer}
use Rattle.oer_codec_reading.specs.Fronts.{freedoms, is_basic, Stands, NoneStands}
use Rattle.oer_codec_reading.proofs.Fronts.{exactly_stands, exactly_front, if_stands, if_front, varied_stands, varied_front}
use Rattle.oer_codec_reading.specs.Tags.{number_behind, tag_in}
use Rattle.oer_codec_reading.proofs.Groups.{same_read, number_read, group_read}

long_tag_is_basic : (r : EncodingRules) → freedoms r long_tag ≡ is_basic r
long_tag_is_basic Oer = refl
long_tag_is_basic Coer = refl

abbrev either_tag : Tag → Bool → OctetForm
either_tag t long = cond long (long_tag_octets t) (only_if (ltb t.number 63) (exactly ((t.class * 64 + t.number) ∷ [])))

-- The octets begin with a tag in the long form.
record Long (free : Freedom → Bool) (t : Tag) (os rest : List ℕ) : Type 0 where
  pub some : 1 ≤ t.number
  pub may : (63 ≤ t.number) ⊎ (free long_tag ≡ true)
  pub text : (t.class * 64 + 63) ∷ (groups_of_seven t.number ++ rest) ≡ os

module _ (free : Freedom → Bool) where
  tag_front : (t : Tag) (os rest : List ℕ) → Stands free (tag_form t) os rest → ((t.number < 63) × ((t.class * 64 + t.number) ∷ rest ≡ os)) ⊎ Long free t os rest
  unfolding tag_form
  tag_front t os rest h = let v = varied_front free long_tag (leb 63 t.number) (either_tag t) os rest h in go v.0 v.1 v.2
    where
      go : (e : Bool) → (e ≡ leb 63 t.number) ⊎ IsTrue (free long_tag) → Stands free (either_tag t e) os rest → ((t.number < 63) × ((t.class * 64 + t.number) ∷ rest ≡ os)) ⊎ Long free t os rest
      go true a s =
          let i = if_front free (leb 1 t.number) (exactly ((t.class * 64 + 63) ∷ groups_of_seven t.number)) os rest s in
          inr (record {
            some = leb-true _ _ i.0;
            may = elim a [ inl e ↦ inl (leb-true 63 t.number (sym e)) | inr e ↦ inr e ];
            text =
                exactly_front free ((t.class * 64 + 63) ∷ groups_of_seven t.number) os rest i.1;
          })
      go false a s =
          let i = if_front free (ltb t.number 63) (exactly ((t.class * 64 + t.number) ∷ [])) os rest s in
          inl (ltb-true _ _ i.0, exactly_front free ((t.class * 64 + t.number) ∷ []) os rest i.1)

  low_stands : (t : Tag) (os rest : List ℕ) → t.number < 63 → (t.class * 64 + t.number) ∷ rest ≡ os → Stands free (tag_form t) os rest
  unfolding tag_form
  low_stands t os rest l e =
      let f : false ≡ leb 63 t.number = grind arith in
      varied_stands free long_tag (leb 63 t.number) false (either_tag t) os rest (inl f)
      (if_stands free (ltb t.number 63) (exactly ((t.class * 64 + t.number) ∷ [])) os rest (lt-ltb _ _ l) (exactly_stands free ((t.class * 64 + t.number) ∷ []) os rest e))

  long_stands : (t : Tag) (os rest : List ℕ) → Long free t os rest → Stands free (tag_form t) os rest
  unfolding tag_form
  long_stands t os rest h =
      varied_stands free long_tag (leb 63 t.number) true (either_tag t) os rest (elim h.may [ inl e ↦ inl (sym (le-leb 63 t.number e)) | inr e ↦ inr e ])
      (if_stands free (leb 1 t.number) (exactly ((t.class * 64 + 63) ∷ groups_of_seven t.number)) os rest (le-leb _ _ h.some)
      (exactly_stands free ((t.class * 64 + 63) ∷ groups_of_seven t.number) os rest h.text))

-- ---- what read_tag returns

low_bits : (c n o : ℕ) → n < 64 → c * 64 + n ≡ o → o % 64 ≡ n
low_bits c n o l e = omega arith

same_number : (v w : ℕ) (os ps : List ℕ) → ◌≡◌ {A = Option (ℕ × List ℕ)} (Some (v, os)) (Some (w, ps)) → v ≡ w
same_number v w os ps e = ap (λ (p : ℕ × List ℕ). p.0) (same_read (v, os) (w, ps) e)

none_some : (w : ℕ) (ps : List ℕ) → ◌≡◌ {A = Option (ℕ × List ℕ)} None (Some (w, ps)) → ⊥
none_some w ps e = cc e

module _ (r : EncodingRules) where
  pub low_tag : (t : Tag) (o : ℕ) (os new : List ℕ) → os ≡ o ∷ new → t.class ≡ o / 64 → t.number ≡ o % 64 → o % 64 < 63 → Stands (freedoms r) (tag_form t) os new
  low_tag t o os new e c n l =
      let f : t.class * 64 + t.number ≡ o = omega (arith, c, n) in
      low_stands (freedoms r) t os new (omega (arith, n, l)) (ap (λ x. x ∷ new) f ∙ sym e)

  pub high_tag : (t : Tag) (o : ℕ) (os mid new : List ℕ) → os ≡ o ∷ mid → t.class ≡ o / 64 → 63 ≤ o % 64 →
      number_behind 0 mid ≡ Some (t.number, new) → (63 ≤ t.number) ⊎ (is_basic r ≡ true) → Stands (freedoms r) (tag_form t) os new
  high_tag t o os mid new e c l n b =
      let q = number_read mid 0 t.number new n in
      let f : t.class * 64 + 63 ≡ o = omega (arith, c, l) in
      long_stands (freedoms r) t os new (record {
        some = q.some;
        may = elim b [ inl h ↦ inl h | inr h ↦ inr (long_tag_is_basic r ∙ h) ];
        text = ap (λ x. (t.class * 64 + 63) ∷ x) q.text ∙ ap (λ x. x ∷ mid) f ∙ sym e;
      })

  pub no_octet : (os : List ℕ) → os ≡ [] → NoneStands (freedoms r) tag_in os
  no_octet os e t rest h = elim (tag_front (freedoms r) t os rest (if_front (freedoms r) (ltb t.number (2 ^ 32)) (tag_form t) os rest h).1) [
    | inl a ↦ let x : (t.class * 64 + t.number) ∷ rest ≡ [] = a.1 ∙ e in cc
    | inr b ↦ let x : (t.class * 64 + 63) ∷ (groups_of_seven t.number ++ rest) ≡ [] = b.text ∙ e in cc
  ]

  -- if the first octet has six one bits, a tag that comes first has the number that is read after it
  in_groups : (t : Tag) (o : ℕ) (os mid rest : List ℕ) → os ≡ o ∷ mid → 63 ≤ o % 64 → Stands (freedoms r) (tag_in t) os rest →
      (number_behind 0 mid ≡ Some (t.number, rest)) × ((63 ≤ t.number) ⊎ (is_basic r ≡ true))
  in_groups t o os mid rest e l h =
      let i = if_front (freedoms r) (ltb t.number (2 ^ 32)) (tag_form t) os rest h in
      elim (tag_front (freedoms r) t os rest i.1) [
        | inl a ↦
            let x : (t.class * 64 + t.number) ∷ rest ≡ o ∷ mid = a.1 ∙ e in
            let y : t.class * 64 + t.number ≡ o = cc in
            let k = a.0 in
            let z = low_bits t.class t.number o (omega (arith, k)) y in
            absurd (omega (arith, k, z, l))
        | inr b ↦
            let x : (t.class * 64 + 63) ∷ (groups_of_seven t.number ++ rest) ≡ o ∷ mid = b.text ∙ e in
            let y : groups_of_seven t.number ++ rest ≡ mid = cc in
            (ap (number_behind 0) (sym y) ∙ group_read t.number rest b.some (ltb-true _ _ i.0), elim b.may [ inl h ↦ inl h | inr h ↦ inr (sym (long_tag_is_basic r) ∙ h) ])
      ]

  pub no_groups : (o : ℕ) (os mid : List ℕ) → os ≡ o ∷ mid → 63 ≤ o % 64 → number_behind 0 mid ≡ None → NoneStands (freedoms r) tag_in os
  no_groups o os mid e l n t rest h = let g = (in_groups t o os mid rest e l h).0 in none_some t.number rest (sym n ∙ g)

  pub not_needed : (o v : ℕ) (os mid new : List ℕ) → os ≡ o ∷ mid → 63 ≤ o % 64 → number_behind 0 mid ≡ Some (v, new) → v < 63 → is_basic r ≡ false → NoneStands (freedoms r) tag_in os
  not_needed o v os mid new e l n s b t rest h =
      let g = in_groups t o os mid rest e l h in
      let i : v ≡ t.number = same_number v t.number new rest (sym n ∙ g.0) in
      elim g.1 [ inl k ↦ omega (arith, i, k, s) | inr k ↦ false≢true (sym b ∙ k) ]
