-- As many fields as components may be absent.
use Rattle.std.proofs.Common.{◌≡◌, ℕ, suc, cond, not, List, [], ◌∷◌, filter, length, refl, ap, ◌∙◌}
use Rattle.asn1_model.specs.Schema.{Presence, required, optional, by_default}
use Rattle.asn1_model.specs.Normal.{is_required}
use Rattle.asn1_schema_constructed.specs.declared.tables.Field.{Field}
use Rattle.asn1_schema_constructed.specs.Fields.{may_be_absent, is_optional}
use Rattle.asn1_schema_laws.specs.Tables.{Fields, no_field, field, optional_field_count}
use Rattle.asn1_schema_constructed.specs.Constructed.{presence_of, AreFieldsFrom, AreFields}

may_be : (o : Presence) → may_be_absent (presence_of o) ≡ not (is_required o)
may_be required = refl
may_be optional = refl
may_be (by_default v) = refl

one_more : (f : Field) (fs : List Field) (o : Presence) (n : ℕ) → is_optional f ≡ not (is_required o) → length (filter is_optional fs) ≡ n →
    length (filter is_optional (f ∷ fs)) ≡ cond (is_required o) n (suc n)
one_more f fs required n e h = rw e h
one_more f fs optional n e h = rw e (ap suc h)
one_more f fs (by_default v) n e h = rw e (ap suc h)

count_from : (i : ℕ) (fs : List Field) (cs : Fields) → AreFieldsFrom i fs cs → length (filter is_optional fs) ≡ optional_field_count cs
count_from i [] no_field h = refl
count_from i [] (field t o s rest) h = absurd h
count_from i (f ∷ fs) no_field h = absurd h
count_from i (f ∷ fs) (field t o s rest) h = one_more f fs o (optional_field_count rest) (ap may_be_absent h.3 ∙ may_be o) (count_from (suc i) fs rest h.4)

pub count_presence_bits : (fs : List Field) (cs : Fields) → AreFields fs cs → length (filter is_optional fs) ≡ optional_field_count cs
count_presence_bits fs cs h = count_from 0 fs cs h
