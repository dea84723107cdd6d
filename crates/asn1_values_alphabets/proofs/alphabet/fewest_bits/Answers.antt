use Rattle.std.proofs.Common.{◌≡◌, ◌-◌, arith, ap, sym, ◌∙◌}
use Rattle.asn1_model.specs.Numbers.{width}
use Rattle.asn1_model.specs.Strings.{how_many}
use Rattle.asn1_values_alphabets.specs.Codes.{singles}
use Rattle.asn1_values_alphabets.proofs.SingleRuns.{ascends, how_many-singles}
use Rattle.asn1_values_alphabets.proofs.Coded.{fewest-le}
use Rattle.asn1_values_alphabets.proofs.alphabet.fewest_bits.Goals as goal

pub returns-clause-fewest : goal.returns-clause-fewest
returns-clause-fewest c = c.bits_of.ensures ∙ ap width (c.saturating_sub.ensures ∙ ap (λ n. n - 1) (sym (how_many-singles c.args.characters.now)))

pub returns-clause-narrow : goal.returns-clause-narrow
returns-clause-narrow c =
    let most = fewest-le c.args.characters.now (ascends c.args.characters.now c.requires) (λ i _. (c.type_inv.characters i).fits) in
    let e : c.bits_of.result ≡ width (how_many (singles c.args.characters.now) - 1) = returns-clause-fewest c in
    omega (arith, most, e)
