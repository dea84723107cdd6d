-- Why no tag of an alternative is found (X.696 20).
use Rattle.std.specs.Prelude.{◌≡◌, ℕ, Bool, List}
use Rattle.asn1_model.specs.Oer
use Rattle.asn1_model.specs.Schema.{Tag}
use Rattle.asn1_schema_errors.specs.declared.DecodeError.{DecodeError}
use Rattle.asn1_schema_errors.specs.declared.DecodeError.TheVariants.{AlreadyFailed, OutOfMemory}
use Rattle.oer_codec_laws.specs.Takes.{IsPlace}
use Rattle.oer_codec_reading.specs.Fronts.{Stands}

-- No tag that is in one of the tables (X.696 8.7).
pub record NoTag (free : Oer.Freedom → Bool) (roots others : List Tag) (os : List ℕ) (e : DecodeError) : Type 0 where
  pub none : ¬ (e ≡ OutOfMemory) → (extensible : Bool) (t : Tag) (plus : Bool) (i : ℕ) (rest : List ℕ)
      → IsPlace roots extensible others t plus i → Stands free (Oer.tag_form t) os rest → ⊥
  pub fresh : ¬ (e ≡ AlreadyFailed)
