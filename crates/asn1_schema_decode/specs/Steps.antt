-- What a call of `Iter::next` does.
use Rattle.std.specs.Prelude.{◌≡◌, ℕ, List, Option, Some, None, Result, Ok, Err}
use Rattle.asn1_model.specs.Schema.{Schema}
use Rattle.asn1_model.specs.Value.{Value}
use Rattle.asn1_model.specs.Rules.{Rules}
use Rattle.asn1_schema_errors.specs.declared.DecodeError.{DecodeError}
use Rattle.asn1_schema_errors.specs.declared.DecodeError.TheVariants.{AlreadyFailed}
use Rattle.asn1_schema_decode.specs.Messages.{NoMessage, Tells}

-- Returns the value of the message with which the unread octets begin, and drops just that message; or returns the
-- error of the reader, if the unread octets begin with no message, and keeps them. Each call starts anew, so none
-- returns `AlreadyFailed`.
abbrev pub ReadsNext : {T : Type 0} → Rules → (ℕ → Schema) → (T → Value) → (List ℕ → DecodeError → Type 0) → List ℕ
    → Option (Result T DecodeError) → List ℕ → Type 0
ReadsNext r schema meaning refuses before None after = ⊥
ReadsNext r schema meaning refuses before (Some (Ok x)) after = Tells r schema (meaning x) before after
ReadsNext r schema meaning refuses before (Some (Err e)) after =
    refuses before e × NoMessage r schema before e × ¬ (e ≡ AlreadyFailed) × (after ≡ before)
