use Rattle.asn1_schema_reading_laws.proofs.Fitting as Fitting
use Rattle.asn1_schema_reading_laws.proofs.records_fit.Goals as goal

pub returns : goal.returns
returns g c s v a b t = Fitting.records_fit _ _ g.S.Finder.no_mismatch s v a b t
