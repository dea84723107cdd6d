-- Character strings at the start of the unread bits (X.691 30).
use Rattle.std.specs.Prelude.{List, ℕ}
use Rattle.asn1_model.specs.Per
use Rattle.asn1_model.specs.Schema.{StringKind}
use Rattle.asn1_model.specs.Schema.{any_count}
use Rattle.asn1_model.specs.Value.{text}
use Rattle.asn1_schema_constraints.specs.declared.lists.Constraints.{Constraints}
use Rattle.asn1_schema_constraints.specs.Terms.{character_string_under, meant}
use Rattle.asn1_schema_errors.specs.declared.DecodeError.{DecodeError}
use Rattle.per_codec_laws.specs.Takes.{Position, Front}
use Rattle.per_codec_reading.specs.Fronts.{freedoms, is_aligned, Misses}
use Rattle.per_codec_reading.specs.declared.rules.PackedRules.{PackedRules}

-- The bits begin with these characters, as a string under these constraints.
abbrev pub Stands : PackedRules → StringKind → Constraints → List ℕ → Position → Position → Type 0
Stands v k cs xs old new =
    Front (freedoms v) (Per.form (is_aligned v) (character_string_under k (meant cs) any_count) (text xs)) old new

-- Why a reader of a string fails: memory ran out, or the bits do not begin with one.
abbrev pub MissesString : PackedRules → StringKind → Constraints → Position → DecodeError → Type 0
MissesString v k cs old e = Misses (freedoms v) (Per.form (is_aligned v)
    (character_string_under k (meant cs) any_count)) old e
