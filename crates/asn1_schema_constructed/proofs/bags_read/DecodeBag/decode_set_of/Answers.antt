use Rattle.asn1_schema_laws.specs.Forms.{set_form}
use Rattle.asn1_schema_laws.proofs.Joined.{raised}
use Rattle.asn1_schema_decode.proofs.Listing.{unread_list_here, unread_list, reads_list}
use Rattle.asn1_schema_constructed.proofs.bags_read.DecodeBag.decode_set_of.Goals as goal

pub returns-in_err-begin_bag-clause-only : goal.returns-in_err-begin_bag-clause-only
returns-in_err-begin_bag-clause-only g c = raised _ _ _ c.from_residual.ensures.1 (unread_list_here set_form _ _ _ _ c.in_err-begin_bag.ensures.only)

pub returns-in_err-items-clause-only : goal.returns-in_err-items-clause-only
returns-in_err-items-clause-only g c = raised _ _ _ c.from_residual-in_err-items.ensures.1
    (unread_list set_form _ _ _ g.met.Self.Decoder.one_record g.met.Self.Decoder.members_carried g.met.Self.Decoder.bag_held
    c.in_ok-begin_bag.ensures.call.level c.in_ok-begin_bag.ensures.ok c.in_err-items.ensures.only)

pub returns-clause-ok : goal.returns-clause-ok
returns-clause-ok g c = reads_list set_form _ _ _ _ _ c.in_ok-begin_bag.ensures.call.level c.in_ok-begin_bag.ensures.ok c.in_ok-items.ensures.held c.in_ok-items.ensures.ok
