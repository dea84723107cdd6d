-- Defaults of components whose types have been extended.
use Rattle.std.proofs.Common.{◌≡◌, ◌≤◌, ℕ, zero, suc, true, false, Some, option_map, refl, sym, ◌∙◌, ap, subst, arith}
use Rattle.std.proofs.lemmas.Bool.{and_parts}
use Rattle.asn1_model.specs.Value.{Value, fields, Parts, end, absent, present, same}
use Rattle.asn1_model.specs.Schema.{required, optional, by_default, Schema}
use Rattle.asn1_model.specs.Lawful.{is_of, are_of}
use Rattle.asn1_model.specs.Versions.{carried, KeepsPresence, grow, carried_parts, all_absent}
use Rattle.asn1_laws_values.proofs.Same.{same_self}
use Rattle.asn1_laws_values.proofs.Itself.{grows, parts_grow}
use Rattle.asn1_schema_laws.specs.Tables.{Fields, no_field, field, Table, components_at, scope, sequence_type}
use Rattle.asn1_schema_laws.specs.Typed.{IsDefault}
use Rattle.asn1_schema_authored.proofs.Fields.{joined, with_additions, KeepsPresenceFrom}

-- One part for each component, all absent.
abbrev pub absents : Fields → Parts
absents no_field = end
absents (field t o s fs) = absent (absents fs)

-- Parts, followed by those of further components, all absent.
abbrev pub with_absents : Fields → Parts → Parts
with_absents gs end = absents gs
with_absents gs (absent ps) = absent (with_absents gs ps)
with_absents gs (present v ps) = present v (with_absents gs ps)

all_left_out : (n : ℕ) (gs : Fields) → are_of (components_at n gs) (absents gs) ≡ true → all_absent (components_at n gs) ≡ Some (absents gs)
unfolding components_at are_of
all_left_out n no_field e = refl
all_left_out n (field t required s gs) e = let z : false ≡ true = e in cc
all_left_out n (field t optional s gs) e = ap (option_map absent) (all_left_out n gs e)
all_left_out n (field t (by_default d) s gs) e = ap (option_map absent) (all_left_out n gs e)

additions_grow : (n : ℕ) (fs gs : Fields) (qs : Parts) → are_of (components_at n fs) qs ≡ true →
    are_of (components_at n (joined fs gs)) (with_absents gs qs) ≡ true → carried_parts true (components_at n fs) (components_at n (joined fs gs)) qs ≡ Some (with_absents gs qs)
unfolding components_at are_of carried_parts
additions_grow n no_field gs end e f = all_left_out n gs f
additions_grow n no_field gs (absent qs) e f = cc
additions_grow n no_field gs (present v qs) e f = cc
additions_grow n (field t o s fs) gs end e f = cc
additions_grow n (field t o s fs) gs (absent qs) e f = ap (option_map absent) (additions_grow n fs gs qs (and_parts _ _ e).1 (and_parts _ _ f).1)
additions_grow n (field t o s fs) gs (present v qs) e f =
    let a = grows (s n) v (and_parts _ _ e).0 in
    let b = additions_grow n fs gs qs (and_parts _ _ e).1 (and_parts _ _ f).1 in
    rw (a, b) refl

-- A default of a sequence with further additions: that of the older version, with these absent.
pub default_gains : {k : ℕ} (t : Table) (gs : Fields) {ps qs : Parts} → IsDefault (sequence_type t) (fields ps qs) →
    IsDefault (sequence_type (with_additions gs t)) (fields ps (with_absents gs qs)) →
    KeepsPresenceFrom (suc k) (sequence_type t) (sequence_type (with_additions gs t)) (by_default (fields ps qs)) (by_default (fields ps (with_absents gs qs)))
unfolding sequence_type scope is_of carried
default_gains {k} t gs {ps} {qs} a b = record { unfolded = at }
  where
    d' : Value
    d' = fields ps (with_absents gs qs)

    at : (n : ℕ) → suc k ≤ n → KeepsPresence (sequence_type t n) (sequence_type (with_additions gs t) n) (by_default (fields ps qs)) (by_default d')
    at zero h = absurd (omega arith)
    at (suc n) h =
        let s : Schema = sequence_type t (suc n) in
        let s' : Schema = sequence_type (with_additions gs t) (suc n) in
        let p = and_parts (are_of (components_at n t.root) ps) (are_of (components_at n t.additions) qs) (a.typed (suc n)) in
        let p' = and_parts (are_of (components_at n t.root) ps) (are_of (components_at n (joined t.additions gs)) (with_absents gs qs)) (b.typed (suc n)) in
        let x = parts_grow (components_at n t.root) ps p.0 in
        let y = additions_grow n t.additions gs qs p.1 p'.1 in
        let grown : grow s s' (fields ps qs) ≡ Some (fields ps (with_absents gs qs)) = rw (x, y) refl in
        (d', ap (λ v. grow s s' v) (a.is_value.normal (suc n)) ∙ grown, subst (λ v. same d' v ≡ true) (sym (b.is_value.normal (suc n))) (same_self d'))
