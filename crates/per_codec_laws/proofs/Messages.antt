-- The records of a value at the start of octets, and the padding of a message after them.
use Rattle.std.proofs.Common.{◌≡◌, ◌≤◌, ℕ, ◌+◌, ◌*◌, Bool, true, false, IsTrue, List, [], ◌++◌, length, take, drop, refl, ap, sym, ◌∙◌, subst, append_assoc, length-append, arith}
use Rattle.std.proofs.lemmas.List.{append_cancel_right, length-take, take-append-drop}
use Rattle.std.proofs.lemmas.Grind.{flat_map-append}
use Rattle.std.proofs.Math.Seq.{drop-append_seam}
use Rattle.asn1_model.specs.Value.{Value, same}
use Rattle.asn1_model.specs.Schema.{Schema}
use Rattle.asn1_model.specs.Form.{Reads}
use Rattle.asn1_model.specs.Lawful.{is_lawful}
use Rattle.asn1_model.specs.Numbers.{binary, octet_bits}
use Rattle.asn1_model.specs.Per
use Rattle.asn1_model.specs.Rules.{uper, aper, uper_strict, aper_strict, lenient, strict_per, IsEncoding}
use Rattle.asn1_laws_fronts.proofs.Units.{complete_whole, joined_long}
use Rattle.asn1_schema_laws.specs.Presents.{presents, Fits}
use Rattle.asn1_schema_laws.specs.Chains.{Chain}
use Rattle.asn1_schema_laws.proofs.OneValue.{one_value}
use Rattle.asn1_schema_reading_laws.proofs.Fitting.{records_fit}
use Rattle.per_codec_laws.specs.Takes.{Position, State, Front, completion, Takes}
use Rattle.per_codec_laws.specs.Laws.{FindsIn, FoundFirst}
use Rattle.per_codec_laws.proofs.Next.{place_same, one_taken}
use Rattle.per_codec_laws.proofs.Opened.{padded_in, padded_out}
use Rattle.per_codec_laws.proofs.Whole.{records_read, forms_show}

octets_long : (os : List ℕ) → length (octet_bits os) ≡ 8 * length os
octets_long os = let e = joined_long (λ c. false) [] os 0 refl in omega (arith, e)

-- bits after whole octets of these are octets of them
behind_octets : (os : List ℕ) (k : ℕ) (t u : List Bool) → length t ≡ 8 * k → t ++ u ≡ octet_bits os → (length (take k os) ≡ k) × (u ≡ octet_bits (drop k os))
behind_octets os k t u h e =
    let a = octets_long os in
    let b = ap length e in
    let c = length-append t u in
    let n : k ≤ length os = omega arith in
    let m : length (take k os) ≡ k = omega (arith, n, length-take k os) in
    let d = octets_long (take k os) in
    let l : length (octet_bits (take k os)) ≡ length t = omega arith in
    let parts : octet_bits (take k os) ++ octet_bits (drop k os) ≡ octet_bits os = sym (flat_map-append (binary 8) (take k os) (drop k os)) ∙ ap octet_bits (take-append-drop k os) in (
      m,
      sym (drop-append_seam t u) ∙ ap (drop (length t)) (e ∙ sym parts) ∙
          ap (λ i. drop i (octet_bits (take k os) ++ octet_bits (drop k os))) (sym l) ∙ drop-append_seam (octet_bits (take k os)) (octet_bits (drop k os)),
    )

module _ (al : Bool) (free : Per.Freedom → Bool) (other : IsTrue (free Per.other_bitmap)) where
  -- if a message comes first, records are found
  pub message_out : (s : Schema) (v : Value) (w rest : List ℕ) → IsTrue (is_lawful s) → Reads free (Per.message al s v) 0 (octet_bits w) →
      (u : Value) × (same v u ≡ true) × FoundFirst al free s u w rest
  unfolding Per.message Per.complete Reads
  message_out s v w rest l r =
      let z = padded_out free r.0 (octet_bits w) r.2 in
      let all : r.0 ++ (z.0 ++ octet_bits rest) ≡ octet_bits (w ++ rest) = sym (append_assoc r.0 z.0 (octet_bits rest)) ∙
      ap (λ l. l ++ octet_bits rest) z.1 ∙ sym (flat_map-append (binary 8) w rest) in
      let n : length r.0 + length z.0 ≡ 8 * length w = sym (length-append r.0 z.0) ∙ ap length z.1 ∙ octets_long w in
      let f : Front free (Per.form al s v) (0, octet_bits (w ++ rest)) (length r.0, z.0 ++ octet_bits rest) = record { text = r.0; has_form = r.1; in_front = all; moved = omega arith } in
      let t = forms_show al free s v ((0, octet_bits (w ++ rest)), []) ((length r.0, z.0 ++ octet_bits rest), []) other l (f, refl) in
      (t.0, t.1, ((length r.0, z.0 ++ octet_bits rest), t.2, record { text = z.0; has_form = z.2; in_front = refl; moved = n }))

  fits : (s : Schema) (v : Value) (a b : State) → Chain (Takes al free) (presents s v) a b → Fits s v
  fits s v a b c = records_fit _ _ (λ a b m. m) s v a b c

  -- one position follows the records of whichever value is found
  pub padded : (s : Schema) (u v : Value) (w rest : List ℕ) (left : Position) → IsTrue (is_lawful s) →
      Reads free (Per.message al s v) 0 (octet_bits w) → Chain (Takes al free) (presents s u) ((0, octet_bits (w ++ rest)), []) (left, []) →
      Front free (completion left.0) left (8 * length w, octet_bits rest)
  padded s u v w rest left l r c =
      let t = message_out s v w rest l r in
      let x = t.2 in
      let start : State = ((0, octet_bits (w ++ rest)), []) in
      let e = one_value (one_taken al free) s t.0 u start (x.0, []) (left, []) (fits s t.0 start (x.0, []) x.1) (fits s u start (left, []) c) x.1 c in
      subst (λ (p : Position). Front free (completion p.0) p (8 * length w, octet_bits rest)) (ap (λ (b : State). b.0) e.1) x.2

  module _ (order : IsTrue (free Per.other_order)) where
    -- records that are found belong to a message that comes first
    pub message_in : (s : Schema) (v : Value) (w rest : List ℕ) → FoundFirst al free s v w rest → Reads free (Per.message al s v) 0 (octet_bits w)
    unfolding Per.message Per.complete Reads
    message_in s v w rest r =
        let left : Position = r.0 in
        let f : Front free (Per.form al s v) (0, octet_bits (w ++ rest)) left = (records_read al free s v ((0, octet_bits (w ++ rest)), []) (left, []) other order r.1).0 in
        let g = r.2 in
        let both : (f.text ++ g.text) ++ octet_bits rest ≡ octet_bits w ++ octet_bits rest = append_assoc f.text g.text (octet_bits rest) ∙
        ap (λ l. f.text ++ l) g.in_front ∙ f.in_front ∙ flat_map-append (binary 8) w rest in
        let all : f.text ++ g.text ≡ octet_bits w = append_cancel_right (f.text ++ g.text) (octet_bits w) (octet_bits rest) both in
        (f.text, f.has_form, subst (λ l. Reads free (Per.padded f.text) 0 l) all (padded_in free f.text g.text left.0 f.moved g.has_form))

    -- a message ends at an octet boundary
    pub ends_at_octet : (s : Schema) (v : Value) (os : List ℕ) (left after : Position) →
        Chain (Takes al free) (presents s v) ((0, octet_bits os), []) (left, []) → Front free (completion left.0) left after → (w : List ℕ) ×
        (rest : List ℕ) × (w ++ rest ≡ os) × (after ≡ (8 * length w, octet_bits rest))
    unfolding Per.complete Reads
    ends_at_octet s v os left after c g =
        let f : Front free (Per.form al s v) (0, octet_bits os) left = (records_read al free s v ((0, octet_bits os), []) (left, []) other order c).0 in
        let k = complete_whole free (Per.form al s v) (f.text ++ g.text) 0 (f.text, f.has_form, padded_in free f.text g.text left.0 f.moved g.has_form) in
        let all : (f.text ++ g.text) ++ after.1 ≡ octet_bits os = append_assoc f.text g.text after.1 ∙ ap (λ l. f.text ++ l) g.in_front ∙ f.in_front in
        let r = behind_octets os k.0 (f.text ++ g.text) after.1 k.1 all in
        let n = r.0 in
        let l = k.1 in
        let p = length-append f.text g.text in
        let x = f.moved in
        let y = g.moved in
        (take k.0 os, drop k.0 os, take-append-drop k.0 os, place_same after (8 * length (take k.0 os), octet_bits (drop k.0 os)) (omega arith) r.1)

pub finds_uper : FindsIn uper false lenient
unfolding IsEncoding
finds_uper s v w rest h = (λ c. (h, message_in false lenient refl refl s v w rest c), λ l r. message_out false lenient refl s v w rest l r.1)

pub finds_aper : FindsIn aper true lenient
unfolding IsEncoding
finds_aper s v w rest h = (λ c. (h, message_in true lenient refl refl s v w rest c), λ l r. message_out true lenient refl s v w rest l r.1)

pub finds_uper_strict : FindsIn uper_strict false strict_per
unfolding IsEncoding
finds_uper_strict s v w rest h = (λ c. (h, message_in false strict_per refl refl s v w rest c), λ l r. message_out false strict_per refl s v w rest l r.1)

pub finds_aper_strict : FindsIn aper_strict true strict_per
unfolding IsEncoding
finds_aper_strict s v w rest h = (λ c. (h, message_in true strict_per refl refl s v w rest c), λ l r. message_out true strict_per refl s v w rest l r.1)
