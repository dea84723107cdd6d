use Rattle.std.proofs.Common.{◌≡◌, ◌^◌, ◌<◌, ◌≤◌, false, length, get_or, ltb, sym, ◌∙◌, ap}
use Rattle.asn1_model.specs.Strings.{largest}
use Rattle.asn1_values_alphabets.specs.Codes.{singles}
use Rattle.asn1_values_alphabets.proofs.SingleRuns.{ascends}
use Rattle.asn1_values_alphabets.proofs.Coded.{code_of-place, code_of-past, same_code}
use Rattle.asn1_values_alphabets.proofs.alphabet.CharacterAlphabet.decode.Goals as goal

pub returns-in-Some-get-clause-character : goal.returns-in-Some-get-clause-character
returns-in-Some-get-clause-character c =
    let a = ascends c.self.inside.characters.items c.self.invariant.ascending in
    let by_place : ltb (largest (singles c.self.inside.characters.items)) (2 ^ c.self.inside.width) ≡ false = sym c.self.invariant.by_number ∙ c.if-self.false in
    let is : c.in-Some-get.character.now ≡ get_or c.self.inside.characters.items c.args.code 0 = c.in-Some-get.ensures.lookup.3.1 0 ∙ ap (λ l. get_or l c.args.code 0) c.deref-2.ensures.value in
    let within : c.args.code < length c.self.inside.characters.items = rw c.deref-2.ensures.value at c.in-Some-get.ensures.lookup.3.0 in
    rw (← c.self.view_is, is) (code_of-place c.self.inside.characters.items c.self.inside.width c.args.code a by_place within)

pub returns-in-None-get-clause-missing : goal.returns-in-None-get-clause-missing
returns-in-None-get-clause-missing c character h =
    let by_place : ltb (largest (singles c.self.inside.characters.items)) (2 ^ c.self.inside.width) ≡ false = sym c.self.invariant.by_number ∙ c.if-self.false in
    let past : length c.self.inside.characters.items ≤ c.args.code = rw c.deref-2.ensures.value at c.in-None-get.ensures.lookup.3 in
    code_of-past c.self.inside.characters.items c.self.inside.width character c.args.code by_place past (rw (← c.self.view_is) at h)

pub returns-in-Some-get-clause-alone : goal.returns-in-Some-get-clause-alone
returns-in-Some-get-clause-alone c other h = same_code c.args.self.now.characters c.args.self.now.code_bits other _ c.args.code h (returns-in-Some-get-clause-character c)
