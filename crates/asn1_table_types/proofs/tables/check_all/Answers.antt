use Rattle.std.proofs.Common.{◌≡◌, ℕ, true, below_more, slice_get, arith}
use Rattle.asn1_table_types.specs.Flaws.{is_sound}
use Rattle.asn1_table_nodes.specs.Defaults.{has_defaults}
use Rattle.asn1_table_nodes.specs.Meaning.{type_at}
use Rattle.asn1_table_nodes.specs.Reduced.{has_reduced_defaults}
use Rattle.asn1_table_types.proofs.NormalDefaults.{reduced_everywhere}
use Rattle.asn1_table_types.proofs.Sound.{everywhere, typed_everywhere}
use Rattle.asn1_table_types.proofs.tables.check_all.Goals as goal

pub loop-place-preserved : goal.loop-place-preserved
loop-place-preserved c = (
  below_more (λ i. is_sound (type_at c.args.nodes.now 2 i) ≡ true) c.loop-place.place c.loop-place.invariant.0 c.in_ok-check_place.ensures.sound,
  below_more (λ i. (n : ℕ) → has_defaults (type_at c.args.nodes.now n i) ≡ true) c.loop-place.place c.loop-place.invariant.1 c.in_ok-check_place.ensures.typed,
  below_more (λ i. has_reduced_defaults c.args.nodes.now (slice_get c.args.nodes.now i) ≡ true) c.loop-place.place c.loop-place.invariant.2 c.in_ok-check_place.ensures.reduced,
)

pub returns-clause-sound : goal.returns-clause-sound
returns-clause-sound c = everywhere c.args.nodes.now c.loop-place.place (omega arith) c.loop-place.invariant.0

pub returns-clause-typed : goal.returns-clause-typed
returns-clause-typed c = typed_everywhere c.args.nodes.now c.loop-place.place (omega arith) c.loop-place.invariant.1

pub returns-clause-reduced : goal.returns-clause-reduced
returns-clause-reduced c = reduced_everywhere c.args.nodes.now c.loop-place.place (omega arith) c.loop-place.invariant.2
