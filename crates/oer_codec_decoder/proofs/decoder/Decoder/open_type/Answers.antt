use Rattle.std.proofs.Common.{◌≡◌, None, sym, subst}
use Rattle.asn1_schema_errors.specs.declared.DecodeError.{DecodeError}
use Rattle.oer_codec_reading.specs.Fronts.{freedoms}
use Rattle.oer_codec_held_laws.specs.Held.{Held}
use Rattle.oer_codec_decoder.specs.Missing.{StillTooShort}
use Rattle.oer_codec_decoder.specs.Refusals.{NotOpened}
use Rattle.oer_codec_decoder.proofs.Adding.{not_opened}
use Rattle.oer_codec_decoder.proofs.decoder.Decoder.open_type.Goals as goal

pub returns-in-Err-clause-only : goal.returns-in-Err-clause-only
returns-in-Err-clause-only c =
    let n = not_opened (freedoms c.self.inside.rules) c.self.inside.cursor c.in-Err.error c.in-Err.ensures.only in
    subst (λ (h : Held). NotOpened (freedoms h.rules) h.octets c.lack_octets.result) c.self.view_is
    (subst (λ (e : DecodeError). NotOpened (freedoms c.self.inside.rules) c.self.inside.cursor e) (sym c.lack_octets.ensures.refused) n)

pub returns-in-Err-clause-short : goal.returns-in-Err-clause-short
returns-in-Err-clause-short c i =
    subst (λ (h : Held). (c.lack_octets.new.self.scopes ≡ h.scopes) × StillTooShort (freedoms h.rules) None h.octets c.lack_octets.new.self.short)
    c.self.view_is (
      c.lack_octets.ensures.scopes,
      subst (λ l. StillTooShort (freedoms c.self.inside.rules) None l c.lack_octets.new.self.short)
          c.remaining-octets.ensures c.lack_octets.ensures.short,
    )
