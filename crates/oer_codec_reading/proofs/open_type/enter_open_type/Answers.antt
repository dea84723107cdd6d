use Rattle.std.proofs.Common.{◌≡◌, ◌∙◌, sym, subst}
use Rattle.asn1_model.specs.Oer.{counted, length_form}
use Rattle.asn1_schema_laws.proofs.Joined.{raised}
use Rattle.oer_codec_reading.specs.Fronts.{freedoms, Stands}
use Rattle.oer_codec_reading.proofs.Fronts.{misses_also}
use Rattle.oer_codec_reading.proofs.LengthFronts.{no_length, few_counted, read_counted}
use Rattle.oer_codec_reading.proofs.Skipping.{all_taken}
use Rattle.oer_codec_reading.proofs.open_type.enter_open_type.Goals as goal

pub returns-in_err-length-clause-only : goal.returns-in_err-length-clause-only
returns-in_err-length-clause-only c = raised _ _ _ c.from_residual.ensures.1
    (misses_also (freedoms c.args.rules) length_form counted c.args.cursor.now c.args.cursor.now _ (no_length (freedoms c.args.rules) c.args.cursor.now) c.in_err-length.ensures.only)

pub returns-in_err-octets-clause-only : goal.returns-in_err-octets-clause-only
returns-in_err-octets-clause-only c =
    let q = c.in_err-octets.ensures.short in
    raised _ _ _ c.from_residual-in_err-octets.ensures.1 (rw q.0 (few_counted (freedoms c.args.rules) c.in_ok-length.length c.args.cursor.now c.read_length.new.cursor c.in_ok-length.ensures.ok q.1))

pub returns-clause-ok : goal.returns-clause-ok
returns-clause-ok c =
    let q = c.in_ok-octets.ensures in
    let s = read_counted (freedoms c.args.rules) c.in_ok-length.length c.in_ok-octets.octets.now c.args.cursor.now c.read_length.new.cursor
    c.take.new.self q.small c.in_ok-length.ensures.ok q.octets q.count in
    let n : c.replace.new.dest ≡ c.in_ok-octets.octets.now = c.replace.ensures.after ∙ c.new.ensures ∙ all_taken c.in_ok-octets.octets.now q.few in
    subst (λ l. Stands (freedoms c.args.rules) (counted l) c.args.cursor.now c.replace.result) (sym n)
    (subst (λ b. Stands (freedoms c.args.rules) (counted c.in_ok-octets.octets.now) c.args.cursor.now b) (sym c.replace.ensures.value) s)
