use Rattle.std.proofs.Common.{rules, ℕ, get_or, Fits, w8}
use Rattle.asn1_values_strings.proofs.Units.{octets_permitted}
use Rattle.asn1_values_strings.proofs.bmp.units_of.Goals as goal

pub returns-in_err-characters-clause-permitted : goal.returns-in_err-characters-clause-permitted
returns-in_err-characters-clause-permitted c =
    let fits : (k : ℕ) → Fits w8 (get_or c.args.octets.now k 0) = search rules in
    octets_permitted c.args.octets.now fits

pub returns-in_err-push-clause-permitted : goal.returns-in_err-push-clause-permitted
returns-in_err-push-clause-permitted c =
    let fits : (k : ℕ) → Fits w8 (get_or c.args.octets.now k 0) = search rules in
    octets_permitted c.args.octets.now fits

pub returns-clause-permitted : goal.returns-clause-permitted
returns-clause-permitted c =
    let fits : (k : ℕ) → Fits w8 (get_or c.args.octets.now k 0) = search rules in
    octets_permitted c.args.octets.now fits
