use Rattle.std.proofs.Common.{◌≡◌, ◌^◌, ltb, true, sym, ◌∙◌}
use Rattle.asn1_model.specs.Strings.{largest}
use Rattle.per_codec_writing.proofs.CharacterFieldLists.{number_codes, run_codes}
use Rattle.per_codec_writing.proofs.character_units.CharacterUnits.base.Goals as goal

pub returns-then-is_by_number : goal.returns-then-is_by_number
returns-then-is_by_number g c d h =
    let a = c.args.self.now.alphabet.now in
    let by_number : ltb (largest a.runs) (2 ^ a.code_bits) ≡ true = sym c.is_by_number.ensures ∙ c.if-is_by_number.true in
    number_codes a d by_number h

pub returns-then-run-lt256 : goal.returns-then-run-lt256
returns-then-run-lt256 g c d h = run_codes c.args.self.now.alphabet.now c.in_ok-run.run' d c.in_ok-run.ensures.codes h
