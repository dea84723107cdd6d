use Rattle.std.proofs.Common.{sym}
use Rattle.asn1_table_nodes.proofs.Scalars.{octets_in_bmp}
use Rattle.asn1_table_nodes.proofs.defaults.may_hold.Goals as goal

pub returns-in-Bmp : goal.returns-in-Bmp
returns-in-Bmp c = rw c.in-Bmp.is (sym (octets_in_bmp c.args.characters.now c.type_inv.characters))
