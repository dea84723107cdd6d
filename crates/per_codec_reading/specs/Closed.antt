-- What may follow the value in an open type (X.691 11.2).
use Rattle.std.specs.Prelude.{Bool, List}
use Rattle.asn1_model.specs.Per
use Rattle.per_codec_laws.specs.Takes.{Position, Scope, Closes}

-- What follows the value in an open type, up to its end, may follow it.
abbrev pub IsClosed : (Per.Freedom → Bool) → Position → Type 0
IsClosed free a = (rest : Position) (k : List Scope) → Closes free a rest k (rest, k)
