-- The types of two versions, unfolded to a number of levels.
use Rattle.std.specs.Prelude.{ℕ}
use Rattle.asn1_model.specs.Schema.{Schema}
use Rattle.asn1_model.specs.Versions.{Extends}
use Rattle.asn1_table_nodes.specs.Meaning.{type_at}
use Rattle.asn1_table_relay.specs.declared.versions.Versions.{Versions}

abbrev pub older_of : Versions → ℕ → Schema
older_of v n = type_at v.older.now.nodes.items n v.old_place

abbrev pub newer_of : Versions → ℕ → Schema
newer_of v n = type_at v.newer.now.nodes.items n v.new_place

-- One is a newer version of the other, however deep both are unfolded (X.680 52).
abbrev pub IsNewer : Versions → Type 0
IsNewer v = (n : ℕ) → Extends (older_of v n) (newer_of v n)
