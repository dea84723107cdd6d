-- What is found in an input by the packed encoding rules.
use Rattle.std.proofs.Common.{◌≡◌, ◌∙◌, sym, ap, subst, ℕ, ◌/◌, true, List, [], ◌++◌, drop}
use Rattle.asn1_model.specs.Lawful.{is_lawful}
use Rattle.asn1_model.specs.Schema.{Schema}
use Rattle.asn1_schema_decode.specs.Reads.{Reads as ReadsValue}
use Rattle.asn1_schema_laws.specs.Presents.{presents}
use Rattle.asn1_schema_laws.specs.Records.{Record}
use Rattle.asn1_table_walker.specs.Fronts.{TellsOnto}
use Rattle.asn1_table_walker.proofs.Told.{value_of}
use Rattle.asn1_table_laws.specs.Walks.{ReadsOnto}
use Rattle.per_codec.proofs.Messages.{begun, told_from}
use Rattle.per_codec.specs.Messages.{rules_of}
use Rattle.per_codec_held_laws.specs.Held.{Held, Finds}
use Rattle.per_codec_laws.specs.Takes.{Position, Front, completion}
use Rattle.per_codec_reading.specs.Fronts.{freedoms}
use Rattle.per_codec_reading.specs.declared.rules.PackedRules.{PackedRules}

pub told_onto : (r : PackedRules) (schema : ℕ → Schema) (input : List ℕ) (old new : Held) (behind : Position) (before after : List Record) → is_lawful (schema 128) ≡ true →
    old ≡ begun r input → before ≡ [] → ReadsOnto Finds schema old.levels old new before after → Front (freedoms new.rules) (completion new.place.0) new.place behind →
    TellsOnto (rules_of r) (schema 128) after input (drop (behind.0 / 8) input)
told_onto r schema input old new behind before after l e n t f =
    let at = subst (λ (h : Held). ReadsOnto Finds schema h.levels h new before after) e t in
    let m = told_from r schema at.value input old new behind e (subst (λ (h : Held). ReadsValue Finds schema h.levels at.value h new) (sym e) at.reads) f in
    record {
      value = at.value;
      is_value = value_of (schema 128) at.reads.raw at.value l at.reads.fits at.reads.means;
      tells = record { raw = m.raw; message = m.message; means = m.means };
      kept = at.kept ∙ ap (λ rs. rs ++ presents (schema 128) at.value) n;
    }
