use Rattle.std.proofs.Common.{◌≡◌, true, false, ◌^◌, ltb, Some, ap, sym, ◌∙◌}
use Rattle.asn1_model.specs.Strings.{largest}
use Rattle.per_codec_alphabets.specs.Codes.{character_at}
use Rattle.per_codec_alphabets.specs.Held.{held_runs}
use Rattle.per_codec_alphabets.proofs.Places.{of_number, of_place}
use Rattle.per_codec_alphabets.proofs.alphabet.EffectiveAlphabet.candidate.Goals as goal

pub returns-then-self : goal.returns-then-self
returns-then-self c d h =
    let by_number : ltb (largest (held_runs c.self.inside.runs)) (2 ^ c.self.inside.width) ≡ true = sym c.self.invariant.by_number ∙ c.if-self.true in
    of_number (record { runs = held_runs c.self.inside.runs; code_bits = c.self.inside.width }) d c.args.code by_number (rw (← c.self.view_is) at h)

pub returns-else-self : goal.returns-else-self
returns-else-self c d h =
    let by_place : ltb (largest (held_runs c.self.inside.runs)) (2 ^ c.self.inside.width) ≡ false = sym c.self.invariant.by_number ∙ c.if-self.false in
    let at : character_at (held_runs c.self.inside.runs) c.args.code ≡ Some d =
    of_place (record { runs = held_runs c.self.inside.runs; code_bits = c.self.inside.width }) d c.args.code by_place (rw (← c.self.view_is) at h) in
    c.character_at.ensures ∙ ap (λ rs. character_at rs c.from.result) c.as_slice.ensures ∙ ap (character_at (held_runs c.self.inside.runs)) c.from.ensures ∙ at
