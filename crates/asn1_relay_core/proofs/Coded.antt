-- What was read and written is the result for a message.
use Rattle.std.proofs.Common.{◌≡◌, ◌≢◌, ◌≤◌, ◌⊎◌, inl, inr, ℕ, ◌==◌, true, false, length, List, [], ◌∷◌, ◌++◌, Option}
use Rattle.std.proofs.Common.{Some, None, option_and_then, IfSome, refl, sym, ◌∙◌, ap}
use Rattle.std.proofs.Common.{subst, arith}
use Rattle.std.proofs.lemmas.Bool.{eqb-true}
use Rattle.std.proofs.lemmas.List.{append-nil}
use Rattle.asn1_model.specs.Schema.{Schema}
use Rattle.asn1_model.specs.Value.{Value, depth}
use Rattle.asn1_model.specs.Lawful.{IsLawful}
use Rattle.asn1_model.specs.Rules.{Rules, canonical, encoding, of_moderate_length, IsEncoding}
use Rattle.asn1_laws_values.proofs.Normal.{normal_depth}
use Rattle.asn1_schema_errors.specs.declared.DecodeError.{DecodeError}
use Rattle.asn1_schema_errors.specs.declared.DecodeError.TheVariants as Decoding
use Rattle.asn1_schema_errors.specs.declared.EncodeError.{EncodeError}
use Rattle.asn1_schema_errors.specs.declared.EncodeError.TheVariants as Encoding
use Rattle.asn1_schema_laws.specs.Tables.{IsValue}
use Rattle.asn1_schema_decode.specs.Messages.{HasMessage, Tells, NoMessage}
use Rattle.asn1_relay_core.specs.declared.codec.Codec.{Codec}
use Rattle.asn1_relay_core.specs.declared.translation.RecodeFault.{RecodeFault}
use Rattle.asn1_relay_core.specs.declared.translation.RecodeFault.TheVariants.{Surplus}
use Rattle.asn1_relay_core.specs.Coding.{rules_of, IsWritten, NotWritten}
use Rattle.asn1_relay_core.specs.Recoding.{IsMessage, Answer, answered, not_an_encoding, surplus, no_target, IsAnswer}
use Rattle.asn1_relay_core.specs.Recoding.{NamesMemoryAlone, NamesNoEarlierRefusal, NamesNoMisplacedCall}
use Rattle.asn1_relay_core.specs.Recoding.{NamesNoPlatformSize, refusal_of, source_fault_of, target_fault_of}
use Rattle.asn1_laws_versions.proofs.Answers.{one_answer}

module _ (source target : Rules) (schema : ℕ → Schema) (v : Value) (input rest : List ℕ) (t : Tells source schema v input rest) where
  -- the value nests no deeper than what was read
  not_deeper : depth v ≤ 128
  not_deeper = let n = normal_depth (schema 128) t.raw in let l = t.message.levels in let e = ap depth t.means in omega (arith, n, l, e)

  written_as : IsValue schema v → canonical target (schema 128) t.raw ≡ canonical target (schema 128) v
  unfolding canonical
  written_as i = ap (λ u. option_and_then of_moderate_length (encoding target (schema 128) u)) (t.means ∙ sym (i.normal 128))

  pub of_raw : (w : Option (List ℕ)) → IsValue schema v → IsWritten target schema v w → canonical target (schema 128) t.raw ≡ w
  of_raw w i h = written_as i ∙ h 128 (i.fits 128 not_deeper)

  all_of_it : rest ≡ [] → IsMessage source (schema 128) t.raw input
  all_of_it e =
      let m = t.message in
      let f : m.message ≡ input = sym (append-nil m.message) ∙ ap (λ l. m.message ++ l) (sym e) ∙ m.in_front in
      (subst (λ l. IsEncoding source (schema 128) t.raw l) f m.encoding, m.levels)

  pub is_answered : (w : List ℕ) → rest ≡ [] → IsValue schema v → IsWritten target schema v (Some w) → IsAnswer source target (schema 128) input (answered w)
  is_answered w e i h = (t.raw, all_of_it e, of_raw (Some w) i h)

  pub is_not_written : rest ≡ [] → IsValue schema v → IsWritten target schema v None → IsAnswer source target (schema 128) input no_target
  is_not_written e i h = (t.raw, all_of_it e, of_raw None i h)

  pub is_surplus : rest ≢ [] → IsAnswer source target (schema 128) input surplus
  is_surplus n = (t.message.message, rest, t.raw, t.message.in_front, n, (t.message.encoding, t.message.levels))

pub is_no_encoding : (source target : Rules) (schema : ℕ → Schema) (input : List ℕ) →
    ((v : Value) (rest : List ℕ) → HasMessage source (schema 128) v input rest → ⊥) → IsAnswer source target (schema 128) input not_an_encoding
is_no_encoding source target schema input h front behind v e m = h v behind (record { message = front; in_front = e; encoding = m.0; levels = m.1 })

-- ---- what was returned is right, and nothing else is

module _ (c d : Codec) (schema : ℕ → Schema) (w : List ℕ) where
  abbrev Right : Option Answer → Type 0
  Right x = IfSome x (IsAnswer (rules_of c) (rules_of d) (schema 128) w)

  not_read : (e : DecodeError) → NoMessage (rules_of c) schema w e → Right (refusal_of (source_fault_of e))
  not_read Decoding.OutOfMemory h = tt
  not_read e h = is_no_encoding (rules_of c) (rules_of d) schema w (h.none (λ q. cc))

  pub right_not_read : (e : DecodeError) (f : RecodeFault) → NoMessage (rules_of c) schema w e → f ≡ source_fault_of e → Right (refusal_of f)
  right_not_read e f h j = subst (λ x. Right (refusal_of x)) (sym j) (not_read e h)

  module _ (v : Value) (rest : List ℕ) (t : Tells (rules_of c) schema v w rest) where
    pub right_surplus : rest ≢ [] → Right (refusal_of Surplus)
    right_surplus n = is_surplus (rules_of c) (rules_of d) schema v w rest t n

    module _ (e : rest ≡ []) (i : IsValue schema v) where
      pub right_answered : (o : List ℕ) → IsWritten (rules_of d) schema v (Some o) → Right (Some (answered o))
      right_answered o h = is_answered (rules_of c) (rules_of d) schema v w rest t o e i h

      not_written : (x : EncodeError) → NotWritten (rules_of d) schema v x → Right (refusal_of (target_fault_of x))
      not_written Encoding.OutOfMemory h = tt
      not_written x h = is_not_written (rules_of c) (rules_of d) schema v w rest t e i (h.none (λ q. cc))

      pub right_not_written : (x : EncodeError) (f : RecodeFault) → NotWritten (rules_of d) schema v x → f ≡ target_fault_of x → Right (refusal_of f)
      right_not_written x f h j = subst (λ y. Right (refusal_of y)) (sym j) (not_written x h)

  pub only_one : IsLawful (schema 128) → (x : Option Answer) → Right x → (a : Answer) → IsAnswer (rules_of c) (rules_of d) (schema 128) w a → (x ≡ None) ⊎ (x ≡ Some a)
  only_one lawful None r a q = inl refl
  only_one lawful (Some x) r a q = inr (ap Some (one_answer (rules_of c) (rules_of d) (schema 128) w lawful x a r q))

-- ---- no octets remain

pub none_left : (l : List ℕ) → (length l == 0) ≡ true → l ≡ []
none_left [] e = refl
none_left (x ∷ l) e = let i = eqb-true (length (x ∷ l)) 0 e in absurd (omega (arith, i))

pub some_left : (l : List ℕ) → (length l == 0) ≡ false → l ≢ []
some_left l e h = let k : true ≡ false = sym (ap (λ (m : List ℕ). length m == 0) h) ∙ e in cc

-- ---- out of memory

pub source_names_memory : (e : DecodeError) (f : RecodeFault) → f ≡ source_fault_of e → NamesMemoryAlone f
source_names_memory e f h = subst NamesMemoryAlone (sym h) (at e)
  where
    at : (e : DecodeError) → NamesMemoryAlone (source_fault_of e)
    at Decoding.OutOfMemory = tt
    at e = tt

pub target_names_memory : (e : EncodeError) (f : RecodeFault) → f ≡ target_fault_of e → NamesMemoryAlone f
target_names_memory e f h = subst NamesMemoryAlone (sym h) (at e)
  where
    at : (e : EncodeError) → NamesMemoryAlone (target_fault_of e)
    at Encoding.OutOfMemory = tt
    at e = tt

-- ---- earlier errors

pub source_names_none : (e : DecodeError) (f : RecodeFault) → f ≡ source_fault_of e → ¬ (e ≡ Decoding.AlreadyFailed) → NamesNoEarlierRefusal f
source_names_none e f h n = subst NamesNoEarlierRefusal (sym h) (at e n)
  where
    at : (e : DecodeError) → ¬ (e ≡ Decoding.AlreadyFailed) → NamesNoEarlierRefusal (source_fault_of e)
    at Decoding.OutOfMemory n = tt
    at Decoding.AlreadyFailed n = n refl
    at e n = tt

pub target_names_none : (e : EncodeError) (f : RecodeFault) → f ≡ target_fault_of e → ¬ (e ≡ Encoding.AlreadyFailed) → NamesNoEarlierRefusal f
target_names_none e f h n = subst NamesNoEarlierRefusal (sym h) (at e n)
  where
    at : (e : EncodeError) → ¬ (e ≡ Encoding.AlreadyFailed) → NamesNoEarlierRefusal (target_fault_of e)
    at Encoding.OutOfMemory n = tt
    at Encoding.AlreadyFailed n = n refl
    at e n = tt

-- ---- misplaced calls

pub source_names_no_call : (e : DecodeError) (f : RecodeFault) → f ≡ source_fault_of e → NamesNoMisplacedCall f
source_names_no_call e f h = subst NamesNoMisplacedCall (sym h) (at e)
  where
    at : (e : DecodeError) → NamesNoMisplacedCall (source_fault_of e)
    at Decoding.OutOfMemory = tt
    at e = tt

pub target_names_no_call : (e : EncodeError) (f : RecodeFault) → f ≡ target_fault_of e → ¬ (e ≡ Encoding.CallOutOfPlace) → NamesNoMisplacedCall f
target_names_no_call e f h n = subst NamesNoMisplacedCall (sym h) (at e n)
  where
    at : (e : EncodeError) → ¬ (e ≡ Encoding.CallOutOfPlace) → NamesNoMisplacedCall (target_fault_of e)
    at Encoding.OutOfMemory n = tt
    at Encoding.CallOutOfPlace n = n refl
    at e n = tt

-- ---- lengths that do not fit the platform

pub source_names_no_size : (e : DecodeError) (f : RecodeFault) → f ≡ source_fault_of e → NamesNoPlatformSize f
source_names_no_size e f h = subst NamesNoPlatformSize (sym h) (at e)
  where
    at : (e : DecodeError) → NamesNoPlatformSize (source_fault_of e)
    at Decoding.OutOfMemory = tt
    at e = tt

pub target_names_no_size : (e : EncodeError) (f : RecodeFault) → f ≡ target_fault_of e → ¬ (e ≡ Encoding.LengthExceedsPlatformSize) → NamesNoPlatformSize f
target_names_no_size e f h n = subst NamesNoPlatformSize (sym h) (at e n)
  where
    at : (e : EncodeError) → ¬ (e ≡ Encoding.LengthExceedsPlatformSize) → NamesNoPlatformSize (target_fault_of e)
    at Encoding.OutOfMemory n = tt
    at Encoding.LengthExceedsPlatformSize n = n refl
    at e n = tt
