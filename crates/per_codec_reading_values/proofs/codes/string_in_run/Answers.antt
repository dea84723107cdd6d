use Rattle.std.proofs.Common.{◌≡◌, ◌≤◌, ◌-◌, ◌*◌, length, inr, refl, sym, subst, ◌∙◌, arith}
use Rattle.asn1_values_bits.specs.BitStr.{bits_of}
use Rattle.per_codec_reading.specs.Unread.{code_bits}
use Rattle.per_codec_reading_values.proofs.Steps.{Begun, begins, ends_without, goes_on}
use Rattle.per_codec_reading_values.proofs.codes.string_in_run.Goals as goal

pub loop-place-init : goal.loop-place-init
loop-place-init g c =
    let k = g.S.StaticPermittedAlphabet.kind in
    let a = c.args.alphabet.now in
    record {
      begun = subst (λ rest. Begun k a c.args.count 0 c.in-Ok.octets.items rest (bits_of c.args.codes)) (sym (c.new-unread.ensures.codes a.code_bits))
          (begins k a c.args.count _ (bits_of c.args.codes) c.in-Ok.ensures.items c.requires.whole);
      few = c.new-unread.ensures.few;
    }

pub next_code-code-requires-clause-enough : goal.next_code-code-requires-clause-enough
next_code-code-requires-clause-enough g c =
    let a = c.args.alphabet.now in
    let l : length (code_bits a.code_bits c.loop-place.unread) ≡ (c.args.count - c.loop-place.place) * a.code_bits = c.loop-place.invariant.begun.left in
    let e : (c.args.count - c.loop-place.place) * a.code_bits ≤ length (code_bits a.code_bits c.loop-place.unread) = omega (arith, l) in
    rw c.width-width.ensures.bits e

pub returns-in_default-character_in_run-clause-refused : goal.returns-in_default-character_in_run-clause-refused
returns-in_default-character_in_run-clause-refused g c =
    inr (ends_without g.S.StaticPermittedAlphabet.kind c.args.alphabet.now c.args.count c.loop-place.place _ _ (bits_of c.args.codes)
    c.loop-place.invariant.begun c.loop-place-test.true _ c.next_code-code.result.0
    (rw c.width-width.ensures.bits at c.next_code-code.ensures.digits) (rw c.width-width.ensures.bits at c.next_code-code.ensures.fits)
    (λ d f p. c.in_default-character_in_run.ensures.alone d (sym (c.requires.codes d) ∙ f) p) refl)

pub loop-place-preserved : goal.loop-place-preserved
loop-place-preserved g c =
    record {
      begun = goes_on g.S.StaticPermittedAlphabet.kind c.args.alphabet.now c.args.count c.loop-place.place _
          (code_bits c.args.alphabet.now.code_bits c.loop-place.unread) (bits_of c.args.codes) c.loop-place.invariant.begun c.loop-place-test.true _
          c.next_code-code.result.0 (rw c.width-width.ensures.bits at c.next_code-code.ensures.digits)
          (rw c.width-width.ensures.bits at c.next_code-code.ensures.fits) (λ d f p. c.in-Some.ensures.alone d (sym (c.requires.codes d) ∙ f) p)
          c.in-Some.character c.push.new.self.items _ c.in-Ok-push.ensures.items c.in-Some.ensures.permitted
          (c.requires.codes c.in-Some.character ∙ c.in-Some.ensures.found) (rw c.width-width.ensures.bits at c.next_code-code.ensures.rest);
      few = c.next_code-code.ensures.few;
    }
