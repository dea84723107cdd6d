use Rattle.std.proofs.Common.{length, ap, arith}
use Rattle.asn1_schema_order.proofs.Spans.{length_cut}
use Rattle.asn1_schema_order.proofs.encodings.Encodings.len.Goals as goal

pub returns : goal.returns
returns c = omega (arith, c.len.ensures, c.self.inside.spans.ok.0, length_cut c.self.inside.octets.items c.self.inside.spans.items, ap length c.self.view_is)
