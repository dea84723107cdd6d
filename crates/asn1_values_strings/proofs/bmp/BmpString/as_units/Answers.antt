use Rattle.std.proofs.Common.{rules, ◌≡◌, ℕ, true, get_or, Fits, w16}
use Rattle.asn1_model.specs.Schema.{bmp}
use Rattle.asn1_values_alphabets.specs.Permitted.{permits_all}
use Rattle.asn1_values_strings.proofs.Units.{units_permitted}
use Rattle.asn1_values_strings.proofs.bmp.BmpString.as_units.Goals as goal

pub returns-clause-permitted : goal.returns-clause-permitted
returns-clause-permitted c =
    let fits : (k : ℕ) → Fits w16 (get_or c.as_slice-characters.result.now k 0) = search rules in
    let all : permits_all bmp c.as_slice-characters.result.now ≡ true = units_permitted c.as_slice-characters.result.now fits in
    let same : c.as_slice-characters.result.now ≡ c.args.self.now = search rules in
    rw (← same) all
