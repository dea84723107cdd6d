-- What a writer holds after the records of a value.
use Rattle.std.proofs.Common.{◌≡◌, ℕ, Bool, true, false, cond, List, [], ◌∷◌, Option, Some, None, option_map, option_and_then, refl, ap, sym, subst, ◌∙◌, arith}
use Rattle.asn1_model.specs.Schema.{Schema}
use Rattle.asn1_model.specs.Value.{Value, depth}
use Rattle.asn1_model.specs.Normal.{normal}
use Rattle.asn1_model.specs.Numbers.{packed}
use Rattle.asn1_model.specs.Form.{written}
use Rattle.asn1_model.specs.Per
use Rattle.asn1_model.specs.Rules.{uper, aper, uper_strict, aper_strict, per, encoding, of_moderate_length, canonical}
use Rattle.asn1_schema_encode.specs.Written.{IsWrittenIn}
use Rattle.asn1_schema_laws.specs.Records.{Record}
use Rattle.asn1_schema_laws.specs.Presents.{presents, Fits}
use Rattle.asn1_schema_laws.specs.Chains.{Chain}
use Rattle.asn1_schema_laws.specs.Tables.{IsValue}
use Rattle.per_codec_packing.specs.FieldLists.{FieldList, as_field_list, plain, field_list_at}
use Rattle.per_codec_encoder.specs.Steps.{State, Step}
use Rattle.per_codec_encoder.specs.Ties.{octets_of}
use Rattle.per_codec_encoder.specs.Written.{canonical_bits, WrittenByRecords, RefusedByRecords, IsWriter, packed_rules, WritesTheOctets, RefusesOnlyNone}
use Rattle.per_codec_packing.proofs.Formed.{known, plain_field_list}
use Rattle.per_codec_encoder.proofs.Chains.{added}

-- the bits of a value that is in its normal form
as_it_is : (al : Bool) (s : Schema) (v : Value) → normal s v ≡ v → canonical_bits al s v ≡ written (Per.form al s v) 0
as_it_is al s v e = ap (λ u. written (Per.form al s u) 0) e

-- a field-list at the start consists of bits
to_bits : (x : Per.BitForm) (w : FieldList) → field_list_at x (Some 0) ≡ Some w → (l : List Bool) × (written x 0 ≡ Some l) × (w ≡ as_field_list l)
to_bits x w e = go (written x 0) refl (sym (known x 0) ∙ e)
  where
    go : (o : Option (List Bool)) → written x 0 ≡ o → option_map as_field_list o ≡ Some w → (l : List Bool) × (written x 0 ≡ Some l) × (w ≡ as_field_list l)
    go None f g = cc
    go (Some l) f g = (l, f, let q : w ≡ as_field_list l = cc in q)

chain_to_bits : (al : Bool) (s : Schema) (v : Value) (new : State) → normal s v ≡ v → Chain (Step al) (presents s v) ([], []) new → (l : List Bool) ×
    (canonical_bits al s v ≡ Some l) × (new ≡ (as_field_list l, []))
chain_to_bits al s v new e c =
    let t = (added al s v [] [] new).0 c in
    let b = to_bits (Per.form al s v) t.0 t.1 in
    (b.0, as_it_is al s v e ∙ b.1, t.2 ∙ ap (λ w. (w, [])) b.2)

chain_by_bits : (al : Bool) (s : Schema) (v : Value) (l : List Bool) → normal s v ≡ v → canonical_bits al s v ≡ Some l → Chain (Step al) (presents s v) ([], []) (as_field_list l, [])
chain_by_bits al s v l e h = (added al s v [] [] (as_field_list l, [])).1 (as_field_list l, known (Per.form al s v) 0 ∙ ap (option_map as_field_list) (sym (as_it_is al s v e) ∙ h), refl)

at_its_depth : (schema : ℕ → Schema) (v : Value) → IsValue schema v → Fits (schema (depth v)) v
at_its_depth schema v h = h.fits (depth v) (omega arith)

-- the state determines the bits
same_bits : (l m : List Bool) → ◌≡◌ {A = State} (as_field_list l, []) (as_field_list m, []) → l ≡ m
same_bits l m e =
    let f : Some l ≡ Some m = sym (plain_field_list l) ∙ ap (λ (s : State). plain s.0) e ∙ plain_field_list m in
    cc

pub written_by_records : WrittenByRecords
written_by_records al schema v new h = (
  λ w.
      let t = chain_to_bits al (schema (depth v)) v new (h.normal (depth v)) (w.chain (depth v) (at_its_depth schema v h)) in
      (t.0, t.2, λ n f. let u = chain_to_bits al (schema n) v new (h.normal n) (w.chain n f) in u.1 ∙ ap Some (same_bits u.0 t.0 (sym u.2 ∙ t.2))),
  λ t. record { chain = λ n f. let P : State → Type 0 = λ s. Chain (Step al) (presents (schema n) v) ([], []) s in subst P (sym t.1) (chain_by_bits al (schema n) v t.0 (h.normal n) (t.2 n f)) },
)

-- no chain, no bits
none_by_none : (al : Bool) (s : Schema) (v : Value) → normal s v ≡ v → ((new : State) → Chain (Step al) (presents s v) ([], []) new → ⊥) → canonical_bits al s v ≡ None
none_by_none al s v e h = go (canonical_bits al s v) refl
  where
    go : (o : Option (List Bool)) → canonical_bits al s v ≡ o → o ≡ None
    go None f = refl
    go (Some l) f = absurd (h (as_field_list l, []) (chain_by_bits al s v l e f))

pub refused_by_records : RefusedByRecords
refused_by_records al schema v x h y = (
  λ c n f. none_by_none al (schema n) v (h.normal n) (λ new k. c.none y n new f k),
  λ t. record { none = λ z n new f k. let a = (chain_to_bits al (schema n) v new (h.normal n) k) in let b : None ≡ Some a.0 = sym (t n f) ∙ a.1 in cc },
)

-- ---- any writer

module _ {S : Type 0} {step : S → Record → S → Type 0} {aligned : S → Bool} {held : S → State} {Ready : S → Type 0} (w : IsWriter step aligned held Ready) where
  chain_held : (rs : List Record) (a b : S) → Chain step rs a b → Chain (Step (aligned a)) rs (held a) (held b)
  chain_held [] a b c = ap held c
  chain_held (r ∷ rs) a b c =
      let t = w.takes a r c.0 c.1 in
      let P : Bool → Type 0 = λ al. Chain (Step al) rs (held c.0) (held b) in
      (held c.0, t.0, subst P t.1 (chain_held rs c.0 b c.2))

  chain_taken : (rs : List Record) (a : S) (m : State) → Ready a → Chain (Step (aligned a)) rs (held a) m → (b : S) × Chain step rs a b × (held b ≡ m)
  chain_taken [] a m k c = (a, refl, sym c)
  chain_taken (r ∷ rs) a m k c =
      let t = w.takes_all a r c.0 k c.1 in
      let i = w.takes a r t.0 t.1 in
      let P : State → Type 0 = λ s. Chain (Step (aligned a)) rs s m in
      let Q : Bool → Type 0 = λ al. Chain (Step al) rs (held t.0) m in
      let u = chain_taken rs t.0 m i.2 (subst Q (sym i.1) (subst P (sym t.2) c.2)) in
      (u.0, (t.0, t.1, u.1), u.2)

-- the rules of a variant
by_variant : (al : Bool) (s : Schema) (v : Value) → (encoding (cond al aper uper) s v ≡ per al s v) × (encoding (cond al aper_strict uper_strict) s v ≡ per al s v)
unfolding encoding
by_variant true s v = (refl, refl)
by_variant false s v = (refl, refl)

-- the message of bits
padded_octets : Option (List Bool) → Option (List ℕ)
padded_octets o = option_map packed (option_and_then (λ w. written (Per.padded w) 0) o)

canonically : (al : Bool) (schema : ℕ → Schema) (v : Value) (o : Option (List Bool)) →
    ((n : ℕ) → Fits (schema n) v → canonical_bits al (schema n) v ≡ o) → IsWrittenIn (packed_rules al) schema v (option_and_then of_moderate_length (padded_octets o))
unfolding canonical per Per.message Per.complete written padded_octets
canonically al schema v o h n f =
    let b = by_variant al (schema n) (normal (schema n) v) in
    let m : per al (schema n) (normal (schema n) v) ≡ padded_octets o = ap padded_octets (h n f) in
    (ap (option_and_then of_moderate_length) (b.0 ∙ m), ap (option_and_then of_moderate_length) (b.1 ∙ m))

padded_field_list : (l : List Bool) → padded_octets (Some l) ≡ octets_of (as_field_list l, [])
unfolding padded_octets
padded_field_list l = ap (option_and_then (λ w. option_map packed (written (Per.padded w) 0))) (sym (plain_field_list l))

pub writes_the_octets : {S : Type 0} {step : S → Record → S → Type 0} {aligned : S → Bool} {held : S → State} {Ready : S → Type 0} →
    IsWriter step aligned held Ready → WritesTheOctets step aligned held
writes_the_octets {aligned} {held} h schema v old new i e w =
    let P : State → Type 0 = λ s. (n : ℕ) → Fits (schema n) v → Chain (Step (aligned old)) (presents (schema n) v) s (held new) in
    let t = (written_by_records (aligned old) schema v (held new) i).0 (record { chain = subst P e (λ n f. chain_held h (presents (schema n) v) old new (w.chain n f)) }) in
    let Q : Option (List ℕ) → Type 0 = λ o. IsWrittenIn (packed_rules (aligned old)) schema v (option_and_then of_moderate_length o) in
    (ap (λ (s : State). s.1) t.1, subst Q (padded_field_list t.0 ∙ ap octets_of (sym t.1)) (canonically (aligned old) schema v (Some t.0) t.2))

pub refuses_only_none : {S : Type 0} {step : S → Record → S → Type 0} {aligned : S → Bool} {held : S → State} {Ready : S → Type 0} →
    IsWriter step aligned held Ready → RefusesOnlyNone step aligned held Ready
unfolding padded_octets
refuses_only_none {aligned} h schema v old x i k e y c =
    canonically (aligned old) schema v None ((refused_by_records (aligned old) schema v x i y).0
    (record {
      none = λ z n new f t. let P : State → Type 0 = λ s. Chain (Step (aligned old)) (presents (schema n) v) s new in let u =
          chain_taken h (presents (schema n) v) old new k (subst P (sym e) t) in c.none z n u.0 f u.1;
    }))
