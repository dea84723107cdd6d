use Rattle.std.proofs.Common.{rules}
use Rattle.std.proofs.Common.{refl}
use Rattle.asn1_model.specs.Schema.{any_count}
use Rattle.asn1_schema_constraints.specs.Terms.{sizes_of, alphabet_of}
use Rattle.asn1_schema_laws.specs.Records.{characters}
use Rattle.oer_codec_encoder.proofs.Stepped.{adds_sound, adds_puts, text_kept}
use Rattle.oer_codec_encoder.proofs.encoder.EncoderEncoder.encode_characters.Goals as goal

pub invariant_of-self-2 : goal.invariant_of-self-2
invariant_of-self-2 g c _ =
    adds_sound (characters g.S.StaticPermittedAlphabet.kind (sizes_of c.args.constraints.now.size)
    (alphabet_of c.args.constraints.now.permitted_alphabet) any_count (g.S.StaticPermittedAlphabet.characters c.args.value.now)) _
    c.self.inside.frames c.self.inside.output.now.items c.push_characters.new.octets.items (λ s. refl) (c.self.invariant c.in_ok-begin_record.ensures.ok) c.in_ok-push_characters.ensures.text

pub returns-clause-ok : goal.returns-clause-ok
returns-clause-ok g c = adds_puts (characters g.S.StaticPermittedAlphabet.kind (sizes_of c.args.constraints.now.size)
    (alphabet_of c.args.constraints.now.permitted_alphabet) any_count (g.S.StaticPermittedAlphabet.characters c.args.value.now)) _
    c.self.inside.frames c.self.inside.output.now.items c.push_characters.new.octets.items c.self.inside.failed c.args.self.now (λ s. refl)
    c.self.view_is c.in_ok-begin_record.ensures.ok (c.self.invariant c.in_ok-begin_record.ensures.ok) c.in_ok-push_characters.ensures.text

pub returns-clause-call : goal.returns-clause-call
returns-clause-call g c =
    record { failed = search rules; front = (returns-clause-ok g c).3; already = search rules; after = search rules }

pub returns-in_err-push_characters-clause-call : goal.returns-in_err-push_characters-clause-call
returns-in_err-push_characters-clause-call g c =
    record {
      failed = search rules;
      front = text_kept c.self.inside.frames c.self.inside.output.now.items c.push_characters.new.octets.items
          c.self.inside.failed c.args.self.now c.self.view_is (c.self.invariant c.in_ok-begin_record.ensures.ok) c.in_err-push_characters.ensures.kept;
      already = search rules;
      after = search rules;
    }
