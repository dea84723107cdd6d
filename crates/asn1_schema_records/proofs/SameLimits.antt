-- When two value constraints are equal.
use Rattle.std.proofs.Common.{◌≡◌, ◌∙◌, refl, sym, ap, ℤ, Bool, ◌&&◌, Option, Some, None, int_eq, Decides}
use Rattle.std.specs.Option.{option_eq}
use Rattle.std.specs.Cmp.{booleans_Decides}
use Rattle.std.proofs.Math.Bool.{beq}
use Rattle.std.proofs.lemmas.Bool.Decides.{Decides-int_eq, Decides-and, Decides-like, Decides-at}
use Rattle.asn1_model.specs.Schema.{Bounds}
use Rattle.asn1_schema_records.specs.declared.items.Limits.{Limits}
use Rattle.asn1_schema_records.specs.Kept.{bounds_in}

ends_tell : (a b : Option ℤ) → Decides (option_eq int_eq a b) (a ≡ b)
ends_tell None None = (λ e. refl, λ e. refl)
ends_tell None (Some y) = (λ e. cc e, λ e. cc e)
ends_tell (Some x) None = (λ e. cc e, λ e. cc e)
ends_tell (Some x) (Some y) = Decides-like (int_eq x y) (λ e. ap (λ t. Some t) e) (λ e. cc e) (Decides-int_eq x y)

bounds_are : (l m : Limits) → l.low ≡ m.low → l.high ≡ m.high → l.extensible ≡ m.extensible → bounds_in l ≡ bounds_in m
bounds_are l m e f g =
    ap (λ (t : Option ℤ). let b : Bounds = record { range = record { low = t; high = l.high }; extensible = l.extensible } in b) e
    ∙ (ap (λ (t : Option ℤ). let b : Bounds = record { range = record { low = m.low; high = t }; extensible = l.extensible } in b) f
    ∙ ap (λ (t : Bool). let b : Bounds = record { range = record { low = m.low; high = m.high }; extensible = t } in b) g)

pub limits_tell : (l m : Limits) (b : Bounds) (t : Bool) → t
    ≡ (option_eq int_eq l.low m.low && (option_eq int_eq l.high m.high && beq l.extensible m.extensible)) → bounds_in m ≡ b → Decides t (bounds_in l ≡ b)
limits_tell l m b t e f = Decides-like t (λ p. bounds_are l m p.0 p.1.0 p.1.1 ∙ f)
    (λ p. let q : bounds_in l ≡ bounds_in m = p ∙ sym f in (ap (λ (u : Bounds). u.range.low) q, (ap (λ (u : Bounds). u.range.high) q, ap (λ (u : Bounds). u.extensible) q)))
    (Decides-at _ _ e (Decides-and _ _ (ends_tell l.low m.low) (Decides-and _ _ (ends_tell l.high m.high) (booleans_Decides l.extensible m.extensible))))
