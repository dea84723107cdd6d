-- What a call of an encoder or decoder leaves, whatever it answers.
use Rattle.std.specs.Prelude.{◌≡◌, ◌+◌, ℕ, Result, Err, OnOk, OnErr}
use Rattle.asn1_schema_errors.specs.declared.DecodeError.{DecodeError}
use Rattle.asn1_schema_errors.specs.declared.DecodeError.TheVariants as Decoding
use Rattle.asn1_schema_errors.specs.declared.EncodeError.{EncodeError}
use Rattle.asn1_schema_errors.specs.declared.EncodeError.TheVariants as Encoding

-- After an error an encoder counts as failed, and then every call fails with `AlreadyFailed`, as no other call does.
-- What was written before the encoder's own message stays.
pub record EncoderCall {T S F : Type 0} (has_failed : S → Type 0) (before : S → F) (old new : S)
    (result : Result T EncodeError) : Type 0 where
  pub failed : OnErr result (has_failed new)
  pub front : before new ≡ before old
  pub already : has_failed old → result ≡ Err Encoding.AlreadyFailed
  pub after : result ≡ Err Encoding.AlreadyFailed → has_failed old

-- After an error a decoder counts as failed, and then every call fails with `AlreadyFailed`, as no other call does.
-- `moved` says how the number of levels that may still be nested changes.
pub record DecoderCall {T S : Type 0} (has_failed : S → Type 0) (moved : S → S → Type 0) (old new : S)
    (result : Result T DecodeError) : Type 0 where
  pub failed : OnErr result (has_failed new)
  pub level : OnOk result (moved old new)
  pub already : has_failed old → result ≡ Err Decoding.AlreadyFailed
  pub after : result ≡ Err Decoding.AlreadyFailed → has_failed old

-- As many levels may be nested as before; one fewer, within a level that has begun; one more, after its end.
abbrev pub SameLevel : {S : Type 0} → (S → ℕ) → S → S → Type 0
SameLevel levels old new = levels new ≡ levels old

abbrev pub OneLevelLess : {S : Type 0} → (S → ℕ) → S → S → Type 0
OneLevelLess levels old new = levels old ≡ levels new + 1

abbrev pub OneLevelMore : {S : Type 0} → (S → ℕ) → S → S → Type 0
OneLevelMore levels old new = levels new ≡ levels old + 1
