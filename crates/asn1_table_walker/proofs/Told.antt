-- Values that were read, and the records that are written.
use Rattle.std.proofs.Common.{◌≡◌, ◌∙◌, sym, ap, subst, ℕ, true, List, Some, Result, Ok, Err, IfOk, IfErr, Vec, Global}
use Rattle.asn1_model.specs.Lawful.{is_lawful}
use Rattle.asn1_model.specs.Normal.{normal}
use Rattle.asn1_model.specs.Rules.{Rules}
use Rattle.asn1_model.specs.Schema.{Schema}
use Rattle.asn1_model.specs.Value.{Value}
use Rattle.asn1_schema_decode.specs.Messages.{NoMessage}
use Rattle.asn1_schema_encode.specs.Writes.{Writes, CannotWrite}
use Rattle.asn1_schema_encode.specs.Written.{IsWrittenIn, NotWrittenIn}
use Rattle.asn1_table_walker.specs.Texts.{EncodedIn, NotEncodedIn}
use Rattle.asn1_schema_errors.specs.declared.DecodeError.{DecodeError}
use Rattle.asn1_schema_errors.specs.declared.EncodeError.{EncodeError}
use Rattle.asn1_schema_laws.specs.Chains.{Chain}
use Rattle.asn1_schema_laws.specs.Presents.{presents, Fits}
use Rattle.asn1_schema_laws.specs.Records.{Record}
use Rattle.asn1_schema_laws.specs.Tables.{IsValue}
use Rattle.asn1_table_laws.proofs.Normal.{normal_twice, normal_fits}
use Rattle.asn1_table_tape.specs.Replays.{CannotChain}

-- the normal form of a value is one
pub value_of : (s : Schema) (raw v : Value) → is_lawful s ≡ true → Fits s raw → normal s raw ≡ v → IsValue (λ _. s) v
value_of s raw v l f e = record {
  fits = λ n h. subst (λ (w : Value). Fits s w) e (normal_fits s raw l f);
  normal = λ n. ap (λ w. normal s w) (sym e) ∙ normal_twice s raw ∙ e;
}

-- no message of a type unfolded to 128 levels
pub none_at : {r : Rules} {input : List ℕ} {e : DecodeError} (schema : ℕ → Schema) → NoMessage r schema input e → NoMessage r (λ _. schema 128) input e
none_at schema u = record { none = u.none }

-- the records of a value are written, or not
pub writes_records : {S : Type 0} {step : S → Record → S → Type 0} {rs : List Record} {a b : S} (s : Schema) (v : Value) → rs ≡ presents s v → Chain step rs a b → Writes step (λ _. s) v a b
writes_records {S} {step} {rs} {a} {b} s v e p = record { chain = λ n f. subst (λ rs. Chain step rs a b) e p }

pub cannot_write_records : {S : Type 0} {step : S → Record → S → Type 0} {rs : List Record} {a : S} {x : EncodeError} (s : Schema) (v : Value) → rs ≡ presents s v → CannotChain step rs a x →
    CannotWrite step (λ _. s) v a x
cannot_write_records {S} {step} {rs} {a} s v e u = record { none = λ w n b f p. u.none w b (subst (λ rs. Chain step rs a b) (sym e) p) }

-- what holds of a result for each value
pub encoded_all : (rules : List Rules) {rs : List Record} (r : Result (Vec ℕ Global) EncodeError) →
    ((s : Schema) (v : Value) → IsValue (λ _. s) v → rs ≡ presents s v → IfOk r (λ octets. IsWrittenIn rules (λ _. s) v (Some octets.items))) → IfOk r (λ octets. EncodedIn rules rs octets.items)
encoded_all rules (Ok x) h = record { encoded = λ s v i k. h s v i k }
encoded_all rules (Err e) h = tt

pub not_encoded_all : (rules : List Rules) {rs : List Record} (r : Result (Vec ℕ Global) EncodeError) →
    ((s : Schema) (v : Value) → IsValue (λ _. s) v → rs ≡ presents s v → IfErr r (NotWrittenIn rules (λ _. s) v)) → IfErr r (NotEncodedIn rules rs)
not_encoded_all rules (Ok x) h = tt
not_encoded_all rules (Err e) h = record { none = λ s v i k. h s v i k }
