use Rattle.asn1_schema_laws.specs.Forms.{sequence_form}
use Rattle.asn1_schema_laws.proofs.Joined.{raised}
use Rattle.asn1_schema_decode.proofs.Listing.{unread_list_here, unread_list, reads_list}
use Rattle.asn1_schema_decode.proofs.lists.DecodeList.decode_sequence_of.Goals as goal

pub returns-in_err-begin_list-clause-only : goal.returns-in_err-begin_list-clause-only
returns-in_err-begin_list-clause-only g c = raised _ _ _ c.from_residual.ensures.1 (unread_list_here sequence_form _ _ _ _ c.in_err-begin_list.ensures.only)

pub returns-in_err-items-clause-only : goal.returns-in_err-items-clause-only
returns-in_err-items-clause-only g c = raised _ _ _ c.from_residual-in_err-items.ensures.1
    (unread_list sequence_form _ _ _ g.met.Self.Decoder.one_record g.met.Self.Decoder.members_carried g.met.Self.Decoder.list_held
    c.in_ok-begin_list.ensures.call.level c.in_ok-begin_list.ensures.ok c.in_err-items.ensures.only)

pub returns-clause-ok : goal.returns-clause-ok
returns-clause-ok g c = reads_list sequence_form _ _ _ _ _ c.in_ok-begin_list.ensures.call.level c.in_ok-begin_list.ensures.ok c.in_ok-items.ensures.held c.in_ok-items.ensures.ok
