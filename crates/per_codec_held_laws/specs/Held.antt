-- The state of a decoder of PER (X.691), and how each record that it finds changes it.
use Rattle.std.specs.Prelude.{◌≡◌, ℕ, Bool, true, false, List, [], ◌∷◌, length, drop, Option, Some, None, is_some}
use Rattle.asn1_schema_errors.specs.declared.CodecKind.{CodecKind}
use Rattle.asn1_schema_errors.specs.declared.CodecKind.TheVariants.{Uper as UperKind, Aper as AperKind}
use Rattle.asn1_schema_laws.specs.Records.{Record, addition, addition_ends, choice_begins, ends}
use Rattle.asn1_schema_laws.specs.Levels.{level}
use Rattle.per_codec_reading.specs.Fronts.{freedoms, is_aligned}
use Rattle.per_codec_reading.specs.Runs.{Storage, storage_inside}
use Rattle.per_codec_reading.specs.declared.rules.PackedRules.{PackedRules}
use Rattle.per_codec_reading.specs.declared.rules.PackedRules.TheVariants.{Uper, Aper, UperStrict, AperStrict}
use Rattle.per_codec_laws.specs.Takes.{Position, Scope, State, open_type, Takes}

-- The state: the position in the message and the bits that are left, the open scopes, how many more levels may be
-- nested, how many could be at the start, how many bits are missing at least after those that are left if the decoder
-- has failed, its rules, and where the bits are stored: those of the innermost message or open type, then those of each
-- message or open type around it.
pub record Held : Type 0 where
  pub place : Position
  pub scopes : List Scope
  pub levels : ℕ
  pub most : ℕ
  pub failed : Option ℕ
  pub rules : PackedRules
  pub stands : List Storage

abbrev pub state_of : Held → State
state_of h = (h.place, h.scopes)

-- The rules under the names of the traits.
abbrev pub kind_of : PackedRules → CodecKind
kind_of Uper = UperKind
kind_of Aper = AperKind
kind_of UperStrict = UperKind
kind_of AperStrict = AperKind

-- Where the bits of the innermost message or open type are stored.
abbrev pub innermost : List Storage → Storage
innermost [] = None
innermost (s ∷ k) = s

-- Where the bits of an open type that has begun are stored, from its bits and the position after it (X.691 11.2).
abbrev pub opened_in : Storage → Position → List Scope → Storage
opened_in s p (open_type rest ∷ k) = storage_inside s (length p.1) rest.0
opened_in s p k = None

-- An open type begins, if there is one.
abbrev pub stands_within : Bool → List Storage → Position → List Scope → List Storage
stands_within false l p k = l
stands_within true l p k = opened_in (innermost l) p k ∷ l

-- A scope ends, and its open type with it if it is one.
abbrev pub stands_outside : List Scope → List Storage → List Storage
stands_outside (open_type p ∷ k) l = drop 1 l
stands_outside s l = l

-- Where bits are stored after a record, at this position in these scopes: where they were, unless an open type begins
-- or ends.
abbrev pub kept : Held → Record → Position → List Scope → List Storage
kept h (addition v) p k = stands_within v h.stands p k
kept h addition_ends p k = drop 1 h.stands
kept h (choice_begins roots e others v i) p k = stands_within v h.stands p k
kept h ends p k = stands_outside h.scopes h.stands
kept h r p k = h.stands

-- It has failed.
abbrev pub HasFailed : Held → Type 0
HasFailed h = is_some h.failed ≡ true

-- It has not failed.
abbrev pub IsReady : Held → Type 0
IsReady h = is_some h.failed ≡ false

-- A decoder that has not failed finds a record, within the levels that are left.
pub record Finds (old : Held) (r : Record) (new : Held) : Type 0 where
  pub ready : IsReady old
  pub taken : Takes (is_aligned old.rules) (freedoms old.rules) (state_of old) r (state_of new)
  pub levels : level old.most r old.levels ≡ Some new.levels
  pub most : new.most ≡ old.most
  pub ready_still : IsReady new
  pub rules : new.rules ≡ old.rules
  pub stands : new.stands ≡ kept old r new.place new.scopes
