use Rattle.std.proofs.Common.{ap, ◌∙◌, arith, ◌^◌, ◌<◌}
use Rattle.asn1_model.specs.Numbers.{binary}
use Rattle.asn1_values_bits.specs.BitWindow.{shown}
use Rattle.asn1_values_bits.proofs.Shown.{first_digits, first_small, high_half}
use Rattle.asn1_values_bits.proofs.bit_window.BitWindow.first_bits.Goals as goal

pub returns-clause-digits : goal.returns-clause-digits
unfolding shown
returns-clause-digits c =
    ap (binary c.args.width) (high_half c.args.width c.args.self.now.number c.requires.narrow)
    ∙ first_digits c.args.width c.args.self.now.width c.args.self.now.number c.requires.within c.args.self.now.narrow

pub returns-clause-fits : goal.returns-clause-fits
returns-clause-fits c =
    let small : c.args.self.now.number < 2 ^ 128 = omega arith in
    rw (high_half c.args.width c.args.self.now.number c.requires.narrow) (first_small c.args.width c.args.self.now.number (omega arith) small)
