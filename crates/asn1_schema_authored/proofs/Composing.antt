-- How the records of a SEQUENCE or SET are put together, from its heading.
use Rattle.std.proofs.Common.{◌≡◌, ℕ, ◌+◌, Bool, sym, refl, subst}
use Rattle.asn1_model.specs.Value.{fields, Parts}
use Rattle.asn1_schema_errors.specs.declared.DecodeError.{DecodeError}
use Rattle.asn1_schema_errors.specs.declared.EncodeError.{EncodeError}
use Rattle.asn1_schema_laws.specs.Records.{Record}
use Rattle.asn1_schema_laws.specs.Tables.{Table}
use Rattle.asn1_schema_laws.specs.Chains.{OneAfter, OneRecord}
use Rattle.asn1_schema_encode.specs.Writes.{Refused, Writes, CannotWrite, WritesTail, CannotWriteTail}
use Rattle.asn1_schema_encode.proofs.Writing.{writes_constructed, cannot_constructed, cannot_constructed_here}
use Rattle.asn1_schema_decode.specs.Reads.{NoLevel, Reads, Unread, ReadsTail, UnreadTail}
use Rattle.asn1_schema_lacking_laws.specs.Carried.{CarriesRecords}
use Rattle.asn1_schema_decode.proofs.Reading.{reads_constructed, unread_constructed, unread_constructed_here}
use Rattle.asn1_schema_laws.specs.Forms.{Form, sequence_form, set_form, constructed_type, begins, asks}
use Rattle.asn1_schema_authored.specs.Shapes.{IsHeading, is_set, form_of}
use Rattle.asn1_schema_authored.specs.declared.composites.Heading.{Heading}

-- The form that a heading gives.
form_of_form : (k : Form) → form_of (is_set k) ≡ k
form_of_form sequence_form = refl
form_of_form set_form = refl

pub is_form : {h : Heading} {k : Form} {t : Table} → IsHeading h k t → form_of h.set ≡ k
is_form {h} {k} i = subst (λ (b : Bool). form_of b ≡ k) (sym i.form) (form_of_form k)

begun : {S : Type 0} (step : S → Record → S → Type 0) {h : Heading} {k : Form} {t : Table} → IsHeading h k t → {a b : S} →
    step a (begins (form_of h.set) h.extensible h.optional) b → step a (begins k h.extensible h.optional) b
begun step {h} i {a} {b} s = subst (λ (k : Form). step a (begins k h.extensible h.optional) b) (is_form i) s

module _ {S : Type 0} {step : S → Record → S → Type 0} (h : Heading) (t : Table) (k : Form) (i : IsHeading h k t) where
  pub writes_composite : {ps qs : Parts} {a b c : S} → step a (begins (form_of h.set) h.extensible h.optional) b →
      WritesTail step t ps qs b c → Writes step (constructed_type k t) (fields ps qs) a c
  writes_composite s w = writes_constructed step k t i.presence_bits (sym i.marker) (begun step i s) w

  pub cannot_composite_here : (ps qs : Parts) {a : S} {x : EncodeError} →
      Refused step (begins (form_of h.set) h.extensible h.optional) a x → CannotWrite step (constructed_type k t) (fields ps qs) a x
  cannot_composite_here ps qs {a} {x} r = cannot_constructed_here step k t i.presence_bits (sym i.marker) ps qs
      (subst (λ (k : Form). Refused step (begins k h.extensible h.optional) a x) (is_form i) r)

  pub cannot_composite : {ps qs : Parts} {a b : S} {x : EncodeError} → OneAfter step →
      step a (begins (form_of h.set) h.extensible h.optional) b → CannotWriteTail step t ps qs b x → CannotWrite step (constructed_type k t) (fields ps qs) a x
  cannot_composite one s w = cannot_constructed step k t i.presence_bits (sym i.marker) one (begun step i s) w

  pub reads_composite : {ps qs : Parts} {m n : ℕ} {a b c : S} → m ≡ n + 1 → step a (begins (form_of h.set) h.extensible h.optional) b →
      ReadsTail step t n ps qs b c → Reads step (constructed_type k t) m (fields ps qs) a c
  reads_composite l s r = reads_constructed k t i.presence_bits (sym i.marker) l (begun step i s) r

  pub unread_composite_here : (m : ℕ) {few : S → S → S → Type 0} {a failed : S} {x : DecodeError} →
      NoLevel step few (asks (form_of h.set) h.extensible h.optional) m a failed x → Unread step few (constructed_type k t) m a failed x
  unread_composite_here m {few} {a} {failed} {x} u = unread_constructed_here k t m i.presence_bits (sym i.marker)
      (subst (λ (k : Form). NoLevel step few (asks k h.extensible h.optional) m a failed x) (is_form i) u)

  pub unread_composite : {m n : ℕ} {few : S → S → S → Type 0} {a b failed : S} {x : DecodeError} → OneRecord step → CarriesRecords step few → m ≡ n + 1 →
      step a (begins (form_of h.set) h.extensible h.optional) b → UnreadTail step few t n b failed x → Unread step few (constructed_type k t) m a failed x
  unread_composite one carries l s u = unread_constructed one carries k t i.presence_bits (sym i.marker) l (begun step i s) u
