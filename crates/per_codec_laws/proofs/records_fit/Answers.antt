use Rattle.asn1_schema_reading_laws.proofs.Fitting as Fitting
use Rattle.per_codec_laws.proofs.records_fit.Goals as goal

pub returns : goal.returns
returns c al free s v a b t = Fitting.records_fit _ _ (λ x y m. m) s v a b t
