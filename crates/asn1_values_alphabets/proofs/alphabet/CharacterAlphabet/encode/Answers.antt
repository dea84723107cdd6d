use Rattle.std.proofs.Common.{rules, ◌≡◌, Some, arith}
use Rattle.asn1_model.specs.Strings.{place_of}
use Rattle.asn1_values_alphabets.specs.Codes.{code_of, singles}
use Rattle.asn1_values_alphabets.proofs.SingleRuns.{ascends}
use Rattle.asn1_values_alphabets.proofs.Coded.{coded, narrow, same_code, place_of-le}
use Rattle.asn1_values_alphabets.proofs.alphabet.CharacterAlphabet.encode.Goals as goal

pub overflow_cast-result : goal.overflow_cast-result
overflow_cast-result c =
    let a = ascends c.self.inside.characters.items c.self.invariant.ascending in
    let p : place_of c.args.character (singles c.self.inside.characters.items) ≡ Some c.in-Some.field-0 = search rules in
    let l = place_of-le c.self.inside.characters.items c.args.character c.in-Some.field-0 a p in
    let f = c.ranges.character.fits in
    omega (arith, l, f)

pub returns-in-Some-clause-narrow : goal.returns-in-Some-clause-narrow
returns-in-Some-clause-narrow c =
    let a = ascends c.self.inside.characters.items c.self.invariant.ascending in
    let e : code_of (coded c.self.inside.characters.items c.self.inside.width) c.args.character ≡ Some c.args.character = search rules in
    rw (← c.self.view_is) (narrow c.self.inside.characters.items c.self.inside.width c.args.character c.args.character a c.self.invariant.enough e)

pub returns-in-Some-2-clause-narrow : goal.returns-in-Some-2-clause-narrow
returns-in-Some-2-clause-narrow c =
    let a = ascends c.self.inside.characters.items c.self.invariant.ascending in
    let e : code_of (coded c.self.inside.characters.items c.self.inside.width) c.args.character ≡ Some c.in-Some.field-0 = search rules in
    rw (← c.self.view_is) (narrow c.self.inside.characters.items c.self.inside.width c.args.character c.in-Some.field-0 a c.self.invariant.enough e)

pub returns-in-Some-2-clause-alone : goal.returns-in-Some-2-clause-alone
returns-in-Some-2-clause-alone c other h =
    let e : code_of c.args.self.now c.args.character ≡ Some c.in-Some.field-0 = search rules in
    same_code c.args.self.now.characters c.args.self.now.code_bits other c.args.character c.in-Some.field-0 h e
