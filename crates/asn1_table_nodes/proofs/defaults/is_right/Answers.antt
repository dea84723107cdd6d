use Rattle.std.proofs.Common.{sym, ap, slice_get}
use Rattle.asn1_model.specs.Lawful.{is_of, has_typed_default}
use Rattle.asn1_table_nodes.specs.Defaults.{has_type}
use Rattle.asn1_table_nodes.specs.Meaning.{presence_of, type_at}
use Rattle.asn1_table_nodes.specs.Values.{value_of}
use Rattle.asn1_table_nodes.proofs.Composed.{type_decides}
use Rattle.asn1_table_nodes.proofs.Deciding.{decides_at, decides_by}
use Rattle.asn1_table_nodes.proofs.defaults.is_right.Goals as goal

pub returns-in-Default : goal.returns-in-Default
returns-in-Default c =
    let ns = c.args.nodes.now in
    let i = c.args.component.now.place in
    let v = value_of c.in-Default.value in
    decides_by (λ n. has_typed_default (type_at ns n i) (presence_of c.args.component.now.presence)) (λ n. is_of (type_at ns n i) v) c.is_of_type.result
    (λ n. ap (λ p. has_typed_default (type_at ns n i) (presence_of p)) c.in-Default.is)
    (decides_at (λ n. is_of (type_at ns n i) v) (has_type ns (slice_get ns i) v) c.is_of_type.result (sym c.is_of_type.ensures) (type_decides ns (slice_get ns i) v))
