-- What is found in an input by the octet encoding rules.
use Rattle.std.proofs.Common.{◌≡◌, ◌∙◌, sym, ap, subst, ℕ, ◌-◌, true, List, [], ◌++◌, length, drop}
use Rattle.asn1_model.specs.Lawful.{is_lawful}
use Rattle.asn1_model.specs.Schema.{Schema}
use Rattle.asn1_schema_decode.specs.Reads.{Reads as ReadsValue}
use Rattle.asn1_schema_laws.specs.Presents.{presents}
use Rattle.asn1_schema_laws.specs.Records.{Record}
use Rattle.asn1_table_walker.specs.Fronts.{TellsOnto}
use Rattle.asn1_table_walker.proofs.Told.{value_of}
use Rattle.asn1_table_laws.specs.Walks.{ReadsOnto}
use Rattle.oer_codec.proofs.Messages.{begun, told_from}
use Rattle.oer_codec.specs.Messages.{rules_of}
use Rattle.oer_codec_held_laws.specs.Held.{Held, Finds}
use Rattle.oer_codec_reading.specs.declared.rules.EncodingRules.{EncodingRules}

pub told_onto : (r : EncodingRules) (schema : ℕ → Schema) (input : List ℕ) (old new : Held) (before after : List Record) → is_lawful (schema 128) ≡ true → old ≡ begun r input → before ≡ [] →
    ReadsOnto Finds schema old.levels old new before after → TellsOnto (rules_of r) (schema 128) after input (drop (length old.octets - length new.octets) input)
told_onto r schema input old new before after l e n t =
    let at = subst (λ (h : Held). ReadsOnto Finds schema h.levels h new before after) e t in
    let m = told_from r schema at.value input old new e (subst (λ (h : Held). ReadsValue Finds schema h.levels at.value h new) (sym e) at.reads) in
    record {
      value = at.value;
      is_value = value_of (schema 128) at.reads.raw at.value l at.reads.fits at.reads.means;
      tells = record { raw = m.raw; message = m.message; means = m.means };
      kept = at.kept ∙ ap (λ rs. rs ++ presents (schema 128) at.value) n;
    }
