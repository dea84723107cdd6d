-- What a writer holds after the records of a value.
use Rattle.std.proofs.Common.{◌≡◌, ℕ, List, [], ◌∷◌, Option, Some, None, option_and_then, refl, ap, sym, subst, ◌∙◌, arith}
use Rattle.asn1_model.specs.Schema.{Schema}
use Rattle.asn1_model.specs.Value.{Value, depth}
use Rattle.asn1_model.specs.Normal.{normal}
use Rattle.asn1_model.specs.Form.{written}
use Rattle.asn1_model.specs.Rules.{octet_encoding, encoding, of_moderate_length, canonical}
use Rattle.asn1_model.specs.Oer
use Rattle.asn1_schema_encode.specs.Written.{IsWrittenIn}
use Rattle.asn1_schema_laws.specs.Records.{Record}
use Rattle.asn1_schema_laws.specs.Presents.{presents, Fits}
use Rattle.asn1_schema_laws.specs.Chains.{Chain}
use Rattle.asn1_schema_laws.specs.Tables.{IsValue}
use Rattle.oer_codec_encoder.specs.Steps.{State, Step}
use Rattle.oer_codec_encoder.specs.Written.{WrittenByRecords, RefusedByRecords, IsWriter, octet_rules, WritesTheOctets, RefusesOnlyNone}
use Rattle.oer_codec_encoder.proofs.Chains.{chains_add}

-- the octets of a value that is in its normal form
as_it_is : (s : Schema) (v : Value) → normal s v ≡ v → octet_encoding s (normal s v) ≡ written (Oer.form s v) 0
unfolding octet_encoding
as_it_is s v e = ap (λ u. written (Oer.form s u) 0) e

to_octets : (s : Schema) (v : Value) (new : State) → normal s v ≡ v → Chain Step (presents s v) ([], []) new → (new.1 ≡ []) × (octet_encoding s (normal s v) ≡ Some new.0)
to_octets s v new e c = let t = (chains_add s v [] [] new).0 c in (ap (λ (b : State). b.1) t.2, as_it_is s v e ∙ t.1 ∙ ap (λ (b : State). Some b.0) (sym t.2))

by_octets : (s : Schema) (v : Value) (w : List ℕ) → normal s v ≡ v → octet_encoding s (normal s v) ≡ Some w → Chain Step (presents s v) ([], []) (w, [])
by_octets s v w e h = (chains_add s v [] [] (w, [])).1 (w, sym (as_it_is s v e) ∙ h, refl)

at_its_depth : (schema : ℕ → Schema) (v : Value) → IsValue schema v → Fits (schema (depth v)) v
at_its_depth schema v h = h.fits (depth v) (omega arith)

pub written_by_records : WrittenByRecords
written_by_records schema v new h = (
  λ w. ((to_octets (schema (depth v)) v new (h.normal (depth v)) (w.chain (depth v) (at_its_depth schema v h))).0, λ n f. (to_octets (schema n) v new (h.normal n) (w.chain n f)).1),
  λ t. record { chain = λ n f. let P : _ → Type 0 = λ k. Chain Step (presents (schema n) v) ([], []) (new.0, k) in subst P (sym t.0) (by_octets (schema n) v new.0 (h.normal n) (t.1 n f)) },
)

-- no chain, no octets
none_by_none : (s : Schema) (v : Value) → normal s v ≡ v → ((new : State) → Chain Step (presents s v) ([], []) new → ⊥) → octet_encoding s (normal s v) ≡ None
none_by_none s v e h = go (octet_encoding s (normal s v)) refl
  where
    go : (o : Option (List ℕ)) → octet_encoding s (normal s v) ≡ o → o ≡ None
    go None f = refl
    go (Some w) f = absurd (h (w, []) (by_octets s v w e f))

pub refused_by_records : RefusedByRecords
refused_by_records schema v x h y = (
  λ c n f. none_by_none (schema n) v (h.normal n) (λ new k. c.none y n new f k),
  λ t. record { none = λ z n new f k. let a = (to_octets (schema n) v new (h.normal n) k).1 in let b : None ≡ Some new.0 = sym (t n f) ∙ a in cc },
)

-- ---- any writer

chain_held : {S : Type 0} {step : S → Record → S → Type 0} {held : S → State} {Ready : S → Type 0} → IsWriter step held Ready →
    (rs : List Record) (a b : S) → Chain step rs a b → Chain Step rs (held a) (held b)
chain_held {held} h [] a b c = ap held c
chain_held {held} h (r ∷ rs) a b c = (held c.0, (h.takes a r c.0 c.1).0, chain_held h rs c.0 b c.2)

chain_taken : {S : Type 0} {step : S → Record → S → Type 0} {held : S → State} {Ready : S → Type 0} → IsWriter step held Ready →
    (rs : List Record) (a : S) (m : State) → Ready a → Chain Step rs (held a) m → (b : S) × Chain step rs a b × (held b ≡ m)
chain_taken h [] a m k c = (a, refl, sym c)
chain_taken h (r ∷ rs) a m k c =
    let t = h.takes_all a r c.0 k c.1 in
    let P : State → Type 0 = λ s. Chain Step rs s m in
    let u = chain_taken h rs t.0 m (h.takes a r t.0 t.1).1 (subst P (sym t.2) c.2) in
    (u.0, (t.0, t.1, u.1), u.2)

canonically : (schema : ℕ → Schema) (v : Value) (o : Option (List ℕ)) →
    ((n : ℕ) → Fits (schema n) v → octet_encoding (schema n) (normal (schema n) v) ≡ o) → IsWrittenIn octet_rules schema v (option_and_then of_moderate_length o)
unfolding canonical encoding
canonically schema v o h n f = (ap (option_and_then of_moderate_length) (h n f), ap (option_and_then of_moderate_length) (h n f))

pub writes_the_octets : {S : Type 0} {step : S → Record → S → Type 0} {held : S → State} {Ready : S → Type 0} → IsWriter step held Ready → WritesTheOctets step held
writes_the_octets {held} h schema v old new i e w =
    let P : State → Type 0 = λ s. (n : ℕ) → Fits (schema n) v → Chain Step (presents (schema n) v) s (held new) in
    let t = (written_by_records schema v (held new) i).0 (record { chain = subst P e (λ n f. chain_held h (presents (schema n) v) old new (w.chain n f)) }) in
    (t.0, canonically schema v (Some (held new).0) t.1)

pub refuses_only_none : {S : Type 0} {step : S → Record → S → Type 0} {held : S → State} {Ready : S → Type 0} → IsWriter step held Ready → RefusesOnlyNone step held Ready
refuses_only_none h schema v old x i k e y c =
    canonically schema v None
    ((refused_by_records schema v x i y).0
    (record {
      none = λ z n new f t. let P : State → Type 0 = λ s. Chain Step (presents (schema n) v) s new in let u =
          chain_taken h (presents (schema n) v) old new k (subst P (sym e) t) in c.none z n u.0 f u.1;
    }))
