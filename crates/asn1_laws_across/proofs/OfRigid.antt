-- What a strict reader accepts of a rigid type is canonical.
use Rattle.std.proofs.Common.{◌≡◌, ℕ, Bool, true, false, List, Some}
use Rattle.asn1_model.specs.Value.{Value}
use Rattle.asn1_model.specs.Schema.{Schema}
use Rattle.asn1_model.specs.Rules.{uper_strict, aper_strict, coer, octet_bits, strict_per, strict_oer, canonical, IsEncoding}
use Rattle.asn1_model.specs.Form.{Reads}
use Rattle.asn1_model.specs.Strings.{is_octet}
use Rattle.std.specs.List.{list_all}
use Rattle.asn1_model.specs.Per
use Rattle.asn1_model.specs.Oer
use Rattle.asn1_model.proofs.Forms.{reads_written}
use Rattle.asn1_laws_across.specs.Rigid.{is_rigid}
use Rattle.asn1_laws_across.proofs.AsWritten.{IsEncodingAsWritten, ReadsAsWritten}
use Rattle.asn1_laws_across.proofs.PerRigid.{message_rigid}
use Rattle.asn1_laws_across.proofs.OerRigid.{form_rigid}
use Rattle.asn1_laws_across.proofs.Strictly.{strictly, written_as}

packed_text : (al : Bool) (s : Schema) (v : Value) (w : List ℕ) → is_rigid s ≡ true →
    Reads strict_per (Per.message al s v) 0 (octet_bits w) → ReadsAsWritten strict_per (Per.message al s v) 0 (octet_bits w)
packed_text al s v w h r = written_as strict_per (Per.message al s v) 0 (octet_bits w) (reads_written (Per.message al s v) 0 (octet_bits w) ((message_rigid al s v h).only 0 (octet_bits w) r))

octet_text : (s : Schema) (v : Value) (w : List ℕ) → is_rigid s ≡ true → Reads strict_oer (Oer.form s v) 0 w → ReadsAsWritten strict_oer (Oer.form s v) 0 w
octet_text s v w h r = written_as strict_oer (Oer.form s v) 0 w (reads_written (Oer.form s v) 0 w ((form_rigid s v h).only 0 w r))

by_uper : (s : Schema) (v : Value) (w : List ℕ) → is_rigid s ≡ true → IsEncoding uper_strict s v w → IsEncodingAsWritten uper_strict s v w
unfolding IsEncoding IsEncodingAsWritten
by_uper s v w h r = (r.0, packed_text false s v w h r.1)

by_aper : (s : Schema) (v : Value) (w : List ℕ) → is_rigid s ≡ true → IsEncoding aper_strict s v w → IsEncodingAsWritten aper_strict s v w
unfolding IsEncoding IsEncodingAsWritten
by_aper s v w h r = (r.0, packed_text true s v w h r.1)

by_coer : (s : Schema) (v : Value) (w : List ℕ) → is_rigid s ≡ true → IsEncoding coer s v w → IsEncodingAsWritten coer s v w
unfolding IsEncoding IsEncodingAsWritten
by_coer s v w h r = (r.0, octet_text s v w h r.1)

pub uper_canonical : (s : Schema) (v : Value) (w : List ℕ) → is_rigid s ≡ true → list_all is_octet w ≡ true → IsEncoding uper_strict s v w → canonical uper_strict s v ≡ Some w
uper_canonical s v w h o r = strictly uper_strict s v w o (by_uper s v w h r)

pub aper_canonical : (s : Schema) (v : Value) (w : List ℕ) → is_rigid s ≡ true → list_all is_octet w ≡ true → IsEncoding aper_strict s v w → canonical aper_strict s v ≡ Some w
aper_canonical s v w h o r = strictly aper_strict s v w o (by_aper s v w h r)

pub coer_canonical : (s : Schema) (v : Value) (w : List ℕ) → is_rigid s ≡ true → list_all is_octet w ≡ true → IsEncoding coer s v w → canonical coer s v ≡ Some w
coer_canonical s v w h o r = strictly coer s v w o (by_coer s v w h r)
