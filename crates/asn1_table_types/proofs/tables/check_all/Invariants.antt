use Rattle.std.proofs.Common.{◌≡◌, ℕ, ◌<◌, true, slice_get}
use Rattle.asn1_table_types.specs.Flaws.{is_sound}
use Rattle.asn1_table_nodes.specs.Defaults.{has_defaults}
use Rattle.asn1_table_nodes.specs.Meaning.{type_at}
use Rattle.asn1_table_nodes.specs.Reduced.{has_reduced_defaults}
use Rattle.asn1_table_types.proofs.tables.check_all.Given as goal

-- The types so far meet what is asked of them, and so do their defaults, which are in normal form.
abbrev pub invariant-loop-place : goal.invariant-loop-place
invariant-loop-place l =
    ((i : ℕ) → i < l.place → is_sound (type_at l.nodes 2 i) ≡ true) × ((i : ℕ) → i < l.place → (n : ℕ) → has_defaults (type_at l.nodes n i) ≡ true)
    × ((i : ℕ) → i < l.place → has_reduced_defaults l.nodes (slice_get l.nodes i) ≡ true)
