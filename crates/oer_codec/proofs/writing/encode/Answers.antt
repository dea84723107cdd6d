use Rattle.oer_codec.proofs.Encoding.{encoded_alone}
use Rattle.oer_codec.proofs.writing.encode.Goals as goal

pub returns-clause-ok : goal.returns-clause-ok
returns-clause-ok g c = encoded_alone g.T.Described.schema (g.T.Described.meaning c.args.value.now) c.new-octets.result.items
    c.encode_buf.new.buffer.items c.new-octets.ensures.items c.in_ok-encode_buf.ensures.ok
