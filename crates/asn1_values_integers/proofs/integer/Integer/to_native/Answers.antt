use Rattle.std.proofs.Common.{sym}
use Rattle.asn1_values_natives.proofs.RangeLaws.{outside}
use Rattle.asn1_values_integers.proofs.integer.Integer.to_native.Goals as goal

pub returns-in_err-to_wide-clause-fits : goal.returns-in_err-to_wide-clause-fits
returns-in_err-to_wide-clause-fits g c =
    let o = outside g.T.NativeInteger.SIGNED g.T.NativeInteger.greatest c.args.self.now g.met.T.NativeInteger.bounded (sym c.in_err-to_wide.ensures.fits) in
    rw c.from_residual.ensures (sym o)
