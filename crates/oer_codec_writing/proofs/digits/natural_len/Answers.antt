use Rattle.std.proofs.Common.{arith}
use Rattle.oer_codec_writing.proofs.digits.natural_len.Goals as goal

pub returns-clause-octets : goal.returns-clause-octets
returns-clause-octets c = omega (arith, c.max.ensures, c.octet_width.ensures.width)
