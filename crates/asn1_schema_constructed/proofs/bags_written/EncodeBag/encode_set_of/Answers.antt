use Rattle.asn1_schema_laws.specs.Forms.{set_form}
use Rattle.asn1_schema_laws.proofs.Forms.{count_values}
use Rattle.asn1_schema_laws.proofs.Joined.{raised}
use Rattle.asn1_schema_encode.proofs.Listing.{writes_list, cannot_list_here, cannot_list}
use Rattle.asn1_schema_constructed.proofs.bags_written.EncodeBag.encode_set_of.Goals as goal

pub returns-in_err-begin_bag-clause-only : goal.returns-in_err-begin_bag-clause-only
returns-in_err-begin_bag-clause-only g c =
    raised _ _ _ c.from_residual.ensures.1 (cannot_list_here set_form _ _ _ _ (rw (count_values g.T.Described.meaning c.args.items.now) c.in_err-begin_bag.ensures.only))

pub returns-in_err-encode_members-clause-only : goal.returns-in_err-encode_members-clause-only
returns-in_err-encode_members-clause-only g c = raised _ _ _ c.from_residual-in_err-encode_members.ensures.1
    (cannot_list set_form _ _ _ g.met.Self.Encoder.one_after (rw (count_values g.T.Described.meaning c.args.items.now) c.in_ok-begin_bag.ensures.ok)
    c.in_err-encode_members.ensures.only)

pub returns-clause-ok : goal.returns-clause-ok
returns-clause-ok g c = writes_list set_form _ _ _ (rw (count_values g.T.Described.meaning c.args.items.now) c.in_ok-begin_bag.ensures.ok) c.in_ok-encode_members.ensures.ok
