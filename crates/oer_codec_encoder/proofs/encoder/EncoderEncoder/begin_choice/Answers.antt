use Rattle.std.proofs.Common.{rules}
use Rattle.oer_codec_encoder.proofs.Stepped.{stays_sound, puts, kept_front}
use Rattle.oer_codec_encoder.proofs.encoder.EncoderEncoder.begin_choice.Goals as goal

pub invariant_of-self-2 : goal.invariant_of-self-2
invariant_of-self-2 c _ = stays_sound _ c.self.inside.frames c.begin_choice.new.frames c.self.inside.output.now.items c.begin_choice.new.octets.items
    (c.self.invariant c.in_ok-begin_record.ensures.ok) c.in_ok-begin_choice.ensures.step

pub returns-clause-ok : goal.returns-clause-ok
returns-clause-ok c = puts _ c.self.inside.frames c.begin_choice.new.frames c.self.inside.output.now.items c.begin_choice.new.octets.items
    c.self.inside.failed c.args.self.now c.self.view_is c.in_ok-begin_record.ensures.ok (c.self.invariant c.in_ok-begin_record.ensures.ok) c.in_ok-begin_choice.ensures.step

pub returns-clause-call : goal.returns-clause-call
returns-clause-call c =
    record { failed = search rules; front = (returns-clause-ok c).3; already = search rules; after = search rules }

pub returns-in_err-begin_choice-clause-call : goal.returns-in_err-begin_choice-clause-call
returns-in_err-begin_choice-clause-call c =
    record {
      failed = search rules;
      front = kept_front c.self.inside.frames c.begin_choice.new.frames c.self.inside.output.now.items
          c.begin_choice.new.octets.items c.self.inside.failed c.args.self.now c.self.view_is (c.self.invariant c.in_ok-begin_record.ensures.ok)
          c.in_err-begin_choice.ensures.kept;
      already = search rules;
      after = search rules;
    }
