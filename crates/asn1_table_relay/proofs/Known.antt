-- What is known of two versions of a type of tables.
use Rattle.std.proofs.Common.{ℕ}
use Rattle.asn1_model.specs.Lawful.{IsLawful}
use Rattle.asn1_model.specs.Tidy.{IsTidy}
use Rattle.asn1_schema_types.specs.Versions.{ExtendsFrom, Unfolds}
use Rattle.asn1_table_relay.specs.Schemas.{IsNewer, older_of, newer_of}
use Rattle.asn1_table_relay.specs.declared.versions.Versions.{Versions}
use Rattle.asn1_table_relay.proofs.Unfolded.{unfolds}

pub old_lawful : (v : Versions) (n : ℕ) → IsLawful (older_of v n)
old_lawful v n = v.older.now.lawful n v.old_place

pub new_lawful : (v : Versions) (n : ℕ) → IsLawful (newer_of v n)
new_lawful v n = v.newer.now.lawful n v.new_place

pub old_tidy : (v : Versions) (n : ℕ) → IsTidy (older_of v n)
old_tidy v n = v.older.now.tidy n v.old_place

pub new_tidy : (v : Versions) (n : ℕ) → IsTidy (newer_of v n)
new_tidy v n = v.newer.now.tidy n v.new_place

pub extends : (v : Versions) → IsNewer v → ExtendsFrom 128 (older_of v) (newer_of v)
extends v newer = record { unfolded = λ n h. newer n }

pub old_unfolds : (v : Versions) → Unfolds (older_of v)
old_unfolds v = unfolds v.older.now.nodes.items v.old_place

pub new_unfolds : (v : Versions) → Unfolds (newer_of v)
new_unfolds v = unfolds v.newer.now.nodes.items v.new_place
