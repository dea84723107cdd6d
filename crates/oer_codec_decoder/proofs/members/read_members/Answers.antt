use Rattle.std.proofs.Common.{◌≡◌, inl, inr, arith}
use Rattle.asn1_schema_constraints.specs.Bounds.{members_of}
use Rattle.asn1_schema_laws.proofs.Joined.{raised}
use Rattle.oer_codec_reading.specs.Fronts.{freedoms}
use Rattle.oer_codec_decoder.proofs.Finding.{between, no_count, other_count}
use Rattle.oer_codec_decoder.proofs.members.read_members.Goals as goal

pub returns-in_err-count-clause-only : goal.returns-in_err-count-clause-only
returns-in_err-count-clause-only c = raised _ _ _ c.from_residual.ensures.1
    (no_count (freedoms c.args.rules) (members_of c.args.held) c.most_members-most.result c.args.cursor.now _ c.most_members-most.ensures c.most_members-most.type_inv c.in_err-count.ensures.only)

pub returns-then-count-minimum-clause-only : goal.returns-then-count-minimum-clause-only
returns-then-count-minimum-clause-only c = other_count (freedoms c.args.rules) (members_of c.args.held) c.in_ok-count.count c.args.cursor.now
    c.read_count.new.cursor _ (λ x. cc x) c.in_ok-count.ensures.ok (λ e.
    let l = between (members_of c.args.held) c.most_members-most.result c.in_ok-count.count c.most_members-most.ensures e in
    let m : c.minimum.result ≡ (members_of c.args.held).low = c.minimum.ensures in
    elim c.then-count-minimum.either [ inl i ↦ omega (arith, l.0, m, i) | inr i ↦ omega (arith, l.1, i.1) ])
