use Rattle.std.proofs.Common.{◌∷◌, take, refl, arith}
use Rattle.per_codec_encoder.specs.declared.frame.Frame.TheVariants.{Added}
use Rattle.per_codec_encoder.specs.Holding.{at, instead}
use Rattle.per_codec_encoder.proofs.Ending.{does_end_added, cannot_end_added, bit_within, root_ends}
use Rattle.per_codec_rules.specs.Variants.{is_aligned}
use Rattle.per_codec_encoder.proofs.ends.end_additions.Goals as goal

pub returns-then-additions-gt0 : goal.returns-then-additions-gt0
returns-then-additions-gt0 c = λ around.
    let ad = c.args.additions in
    let o = c.args.output.now in
    cannot_end_added (is_aligned c.args.variant) (Added ad ∷ around) around (Added ad) ad o (instead (take (at ad.end) o.field_list) o) refl refl refl c.if-additions-gt0.true

pub returns : goal.returns
returns c = λ around.
    let ad = c.args.additions in
    let x = c.in_ok-push_extension.ensures in
    does_end_added (is_aligned c.args.variant) (Added ad ∷ around) around (Added ad) ad c.args.output.now c.truncate.new.self refl refl
    c.truncate.ensures ad.slots c.push_extension.new.output refl (omega (arith, c.if-additions-gt0.false)) x.some x.none

pub truncate-requires-clause-within : goal.truncate-requires-clause-within
truncate-requires-clause-within c =
    let ad = c.args.additions in
    (root_ends (Added ad ∷ c.requires.0) c.requires.0 (Added ad) ad c.args.output.now refl refl c.requires.1).0

pub truncate-requires-clause-place : goal.truncate-requires-clause-place
truncate-requires-clause-place c =
    let ad = c.args.additions in
    (root_ends (Added ad ∷ c.requires.0) c.requires.0 (Added ad) ad c.args.output.now refl refl c.requires.1).1

pub push_extension-requires : goal.push_extension-requires
push_extension-requires c =
    let ad = c.args.additions in
    bit_within (is_aligned c.args.variant) (Added ad ∷ c.requires.0) c.requires.0 (Added ad) ad c.args.output.now c.truncate.new.self refl refl c.truncate.ensures c.requires.1
