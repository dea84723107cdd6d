use Rattle.std.proofs.Common.{sym, arith}
use Rattle.std.proofs.lemmas.List.{take-take}
use Rattle.asn1_model.specs.Numbers.{binary}
use Rattle.asn1_values_bits.specs.BitWindow.{shown}
use Rattle.asn1_values_bits.proofs.bit_window.BitWindow.front.Goals as goal

pub returns-clause-front : goal.returns-clause-front
unfolding shown
returns-clause-front c = sym (take-take c.min-width.result c.args.self.now.width (binary 128 c.args.self.now.number) (omega (arith, c.min-width.ensures)))
