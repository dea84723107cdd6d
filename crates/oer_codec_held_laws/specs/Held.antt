-- The state of a decoder of OER (X.696), and how each record that it finds changes it.
use Rattle.std.specs.Prelude.{◌≡◌, ℕ, Bool, true, false, List, Some}
use Rattle.asn1_schema_errors.specs.declared.CodecKind.{CodecKind}
use Rattle.asn1_schema_errors.specs.declared.CodecKind.TheVariants.{Oer as OerKind, Coer as CoerKind}
use Rattle.asn1_schema_laws.specs.Records.{Record}
use Rattle.asn1_schema_laws.specs.Levels.{level}
use Rattle.oer_codec_reading.specs.Fronts.{freedoms}
use Rattle.oer_codec_reading.specs.declared.rules.EncodingRules.{EncodingRules}
use Rattle.oer_codec_reading.specs.declared.rules.EncodingRules.TheVariants.{Oer, Coer}
use Rattle.oer_codec_laws.specs.Takes.{Scope, State, Takes}

-- The state: the octets that are left, the open scopes, how many more levels may be nested, how many could be at the
-- start, whether the decoder has failed, how many octets are then missing at least, and its rules.
pub record Held : Type 0 where
  pub octets : List ℕ
  pub scopes : List Scope
  pub levels : ℕ
  pub most : ℕ
  pub failed : Bool
  pub short : ℕ
  pub rules : EncodingRules

abbrev pub state_of : Held → State
state_of h = (h.octets, h.scopes)

-- The rules under the names of the traits.
abbrev pub kind_of : EncodingRules → CodecKind
kind_of Oer = OerKind
kind_of Coer = CoerKind

-- It has failed.
abbrev pub HasFailed : Held → Type 0
HasFailed h = h.failed ≡ true

-- It has not failed.
abbrev pub IsReady : Held → Type 0
IsReady h = h.failed ≡ false

-- A decoder that has not failed finds a record, within the levels that are left.
pub record Finds (old : Held) (r : Record) (new : Held) : Type 0 where
  pub ready : IsReady old
  pub taken : Takes (freedoms old.rules) (state_of old) r (state_of new)
  pub levels : level old.most r old.levels ≡ Some new.levels
  pub most : new.most ≡ old.most
  pub ready_still : IsReady new
  pub short : new.short ≡ old.short
  pub rules : new.rules ≡ old.rules
