-- Enumeration items as records.
use Rattle.std.proofs.Common.{◌≡◌, ℕ, ℤ, Bool, List, refl, subst, sym}
use Rattle.asn1_model.specs.Value.{Value, item}
use Rattle.asn1_model.specs.Schema.{Schema, enumerated}
use Rattle.asn1_model.specs.Normal.{normal}
use Rattle.asn1_schema_errors.specs.declared.EncodeError.{EncodeError}
use Rattle.asn1_schema_errors.specs.declared.DecodeError.{DecodeError}
use Rattle.asn1_schema_laws.specs.Records.{Record, one_of, asks_one_of}
use Rattle.asn1_schema_laws.specs.Presents.{presents, Fits}
use Rattle.asn1_schema_laws.specs.Chains.{Chain}
use Rattle.asn1_schema_encode.specs.Writes.{Refused, Writes, CannotWrite}
use Rattle.asn1_schema_encode.proofs.Writing.{writes_as, cannot_as}
use Rattle.asn1_schema_decode.specs.Reads.{NoRecord, Reads, Unread}
use Rattle.asn1_schema_decode.proofs.Reading.{reads_as, unread_as}

module _ {S : Type 0} {step : S → Record → S → Type 0} (rs : List ℤ) (e : Bool) (xs : List ℤ) where
  writes_enumerated : {y : ℤ} {a b : S} → step a (one_of rs e xs y) b → Writes step (λ _. enumerated rs e xs) (item y) a b
  unfolding presents
  writes_enumerated {b = b} k = record { chain = λ n f. (b, k, refl) }

  cannot_enumerated : {y : ℤ} {a : S} {x : EncodeError} → Refused step (one_of rs e xs y) a x → CannotWrite step (λ _. enumerated rs e xs) (item y) a x
  unfolding presents
  cannot_enumerated k = record { none = λ w n b f p. k.none w p.0 p.1 }

  reads_enumerated : (n : ℕ) {y : ℤ} {a b : S} → step a (one_of rs e xs y) b → Reads step (λ _. enumerated rs e xs) n (item y) a b
  unfolding presents Fits normal
  reads_enumerated n {y} {b = b} k = record { raw = item y; fits = tt; means = refl; chain = (b, k, refl) }

  unread_enumerated : (n : ℕ) {few : S → S → S → Type 0} {a failed : S} {x : DecodeError} → NoRecord step few (asks_one_of rs e xs) a failed x → Unread step few (λ _. enumerated rs e xs) n a failed x
  unfolding presents Fits
  unread_enumerated n k = record {
    none = λ w start near v c. elim v as (λ v. Fits (enumerated rs e xs) v →
        Chain step (presents (enumerated rs e xs) v) start c → ⊥) [ item z ↦ λ f p. k.none w start near _ p.0 refl p.1 | _ ↦ λ f p. f ];
  }

-- the same for a type with these items, and a value that means one of them
module _ {S : Type 0} {step : S → Record → S → Type 0} {rs : List ℤ} {e : Bool} {xs : List ℤ} {s : ℕ → Schema} (h : (n : ℕ) → s n ≡ enumerated rs e xs) where
  pub writes_item : {v : Value} {y : ℤ} {a b : S} → v ≡ item y → step a (one_of rs e xs y) b → Writes step s v a b
  writes_item {v} {y} {a} {b} m k = subst (λ u. Writes step s u a b) (sym m) (writes_as (λ _. enumerated rs e xs) s h (writes_enumerated rs e xs k))

  pub cannot_item : {v : Value} {y : ℤ} {a : S} {x : EncodeError} → v ≡ item y → Refused step (one_of rs e xs y) a x → CannotWrite step s v a x
  cannot_item {v} {y} {a} {x} m k = subst (λ u. CannotWrite step s u a x) (sym m) (cannot_as (λ _. enumerated rs e xs) s h (cannot_enumerated rs e xs k))

  pub reads_item : (n : ℕ) {v : Value} {y : ℤ} {a b : S} → v ≡ item y → step a (one_of rs e xs y) b → Reads step s n v a b
  reads_item n {v} {y} {a} {b} m k = subst (λ u. Reads step s n u a b) (sym m) (reads_as (λ _. enumerated rs e xs) s h (reads_enumerated rs e xs n k))

  pub unread_item : (n : ℕ) {few : S → S → S → Type 0} {a failed : S} {x : DecodeError} → NoRecord step few (asks_one_of rs e xs) a failed x → Unread step few s n a failed x
  unread_item n k = unread_as (λ _. enumerated rs e xs) s h (unread_enumerated rs e xs n k)
