use Rattle.std.proofs.Common.{arith, ◌^◌, ◌<◌}
use Rattle.asn1_values_bits.specs.BitWindow.{shown}
use Rattle.asn1_values_bits.proofs.Shown.{first_digits, first_small}
use Rattle.asn1_values_bits.proofs.bit_window.BitWindow.first_u128.Goals as goal

pub returns-clause-digits : goal.returns-clause-digits
unfolding shown
returns-clause-digits c = first_digits c.args.width c.args.self.now.width c.args.self.now.number c.requires.within c.args.self.now.narrow

pub returns-clause-fits : goal.returns-clause-fits
returns-clause-fits c =
    let small : c.args.self.now.number < 2 ^ 128 = omega arith in
    first_small c.args.width c.args.self.now.number (omega (arith, c.args.self.now.narrow)) small
