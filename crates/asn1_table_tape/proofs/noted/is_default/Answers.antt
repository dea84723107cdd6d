use Rattle.std.proofs.Common.{◌∙◌}
use Rattle.asn1_table_nodes.specs.Values.{value_of}
use Rattle.asn1_table_tape.proofs.DefaultLaws.{default_found}
use Rattle.asn1_table_tape.proofs.noted.is_default.Goals as goal

pub returns-in-Default : goal.returns-in-Default
returns-in-Default c = λ ns s v t k l f e.
    let u = rw c.in-Default.is at t in
    let m = rw c.in-Default.is at k in
    rw c.in-Default.is (c.is_value.ensures ∙ default_found ns s v (value_of c.in-Default.default) c.args.value.now u m l f e)
