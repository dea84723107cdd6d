use Rattle.std.proofs.Common.{◌∙◌}
use Rattle.asn1_schema_constraints.specs.Bounds.{members_of}
use Rattle.asn1_schema_constraints.specs.Terms.{size_of}
use Rattle.asn1_schema_errors.specs.declared.EncodeError.TheVariants.{SizeConstraintNotSatisfied}
use Rattle.per_codec_packing.specs.Packed.{place}
use Rattle.per_codec_encoder.proofs.Judged.{heading_there, no_heading, admitted}
use Rattle.per_codec_encoder.proofs.Bagging.{does_begin_bag, cannot_begin_bag}
use Rattle.per_codec_encoder.proofs.bags.begin_bag.Goals as goal

pub returns-then-not-admits : goal.returns-then-not-admits
returns-then-not-admits c = λ al.
    let z = size_of c.args.sizes in
    let h = members_of c.args.held in
    cannot_begin_bag al c.args.frames.now c.args.output.now z h c.args.count SizeConstraintNotSatisfied
    (no_heading al z h c.args.count (place c.args.output.now) (admitted z c.args.held c.args.count _ c.ranges.count.fits c.if-not-admits.ensures))

pub returns : goal.returns
returns c = λ al.
    let z = size_of c.args.sizes in
    let there = heading_there al z (members_of c.args.held) c.args.count (place c.args.output.now) (admitted z c.args.held c.args.count _ c.ranges.count.fits c.if-not-admits.ensures) in
    does_begin_bag al c.args.frames.now c.open.new.self c.args.output.now c.replace-outer.new.dest c.replace-outer.result c.args.sizes c.args.held
    c.args.count c.in_ok-boxed.boxed there c.replace-outer.ensures.value (c.replace-outer.ensures.after ∙ c.unplaced.ensures) c.in_ok-boxed.ensures.ok c.in_ok-open.ensures.items
