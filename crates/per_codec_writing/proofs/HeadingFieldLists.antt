-- What precedes units, in the bits of a writer: their number, or length determinants.
use Rattle.std.proofs.Common.{◌≡◌, ℕ, ◌-◌, ◌*◌, ◌/◌, ◌<◌, ◌≤◌, leb, min, Bool, true, false, ◌&&◌, ◌∷◌, Option, Some}
use Rattle.std.proofs.Common.{None, option_map, Result, Ok, Err, IsErr, IsErrAnd, MatchResult, refl, ap, sym, subst}
use Rattle.std.proofs.Common.{◌∙◌, arith}
use Rattle.std.proofs.lemmas.Bool.{le-leb}
use Rattle.asn1_model.specs.Schema.{Counts}
use Rattle.asn1_model.specs.Numbers.{binary, missing}
use Rattle.asn1_model.specs.Form.{exactly, only_if, placed}
use Rattle.asn1_model.specs.Per
use Rattle.asn1_schema_errors.specs.declared.EncodeError.{EncodeError}
use Rattle.asn1_schema_errors.specs.declared.EncodeError.TheVariants.{ValueConstraintNotSatisfied}
use Rattle.asn1_schema_errors.specs.declared.EncodeError.TheVariants.{SizeConstraintNotSatisfied}
use Rattle.asn1_schema_errors.specs.declared.EncodeError.TheVariants.{AlphabetConstraintNotSatisfied, TooLongValue}
use Rattle.asn1_schema_errors.specs.declared.EncodeError.TheVariants.{LengthExceedsPlatformSize, CallOutOfPlace}
use Rattle.asn1_schema_errors.specs.declared.EncodeError.TheVariants.{OutOfMemory, AlreadyFailed}
use Rattle.per_codec_rules.specs.Counts.{below_long_count}
use Rattle.per_codec_packing.specs.FieldLists.{FieldList, field_list_at}
use Rattle.per_codec_packing.specs.Packed.{Packed, place, plus}
use Rattle.per_codec_packing.proofs.Adding.{added, adds_padding, none_first}
use Rattle.per_codec_writing.specs.Headings.{Heading, before_all, next_determinant, general, padding_behind, count_form, count_up_to, sized_count, heading_of, Heads, NoHeading}
use Rattle.per_codec_writing.specs.Writing.{Adds, Refuses, padding_if}
use Rattle.per_codec_writing.specs.declared.length.Due.{Due}
use Rattle.per_codec_writing.proofs.PaddingFieldLists.{adds_both, plus_nothing}
use Rattle.per_codec_writing.proofs.Fragments.{none_of_them, first_of_them}

-- ---- length determinants

pub few_heads : (al : Bool) (n : ℕ) (d : Due) (old new : Packed) → n < 16384 → d ≡ record { units = n; behind = None } →
    Adds (field_list_at (Per.short_length al n) (place old)) old new → Heads (general al n (place old)) old d new
few_heads al n d old new l e a =
    let t = added (field_list_at (Per.short_length al n) (place old)) old new a in
    record {
      field_list = t.0;
      is = ap (λ ms. next_determinant al ms n (place old)) (none_of_them n l) ∙ ap (option_map (λ w. before_all n w)) t.1 ∙ ap (λ x. Some (heading_of t.0 x)) (sym e);
      added = sym t.2;
    }

pub fragment_heads : (al : Bool) (n m : ℕ) (d : Due) (old new : Packed) → 16384 ≤ n → m ≡ min (n / 16384) 4 →
    d ≡ record { units = m * 16384; behind = Some (n - m * 16384) } →
    Adds (field_list_at (Per.at_octet al (exactly (true ∷ true ∷ binary 6 m))) (place old)) old new → Heads (general al n (place old)) old d new
fragment_heads al n m d old new l f e a =
    let x : Per.BitForm = Per.at_octet al (exactly (true ∷ true ∷ binary 6 m)) in
    let t = added (field_list_at x (place old)) old new a in
    let test : (leb 1 m && leb m 4 && leb (m * 16384) n) ≡ true =
    all_three (leb 1 m) (leb m 4) (leb (m * 16384) n) (le-leb 1 m (omega arith)) (le-leb m 4 (omega arith)) (le-leb (m * 16384) n (omega arith)) in
    let next : FieldList → Heading = λ w. record { field_list = w; due = m * 16384; determinants = Some (Per.largest_first (n - m * 16384), n - m * 16384) } in
    record {
      field_list = t.0;
      is = ap (λ ms. next_determinant al ms n (place old)) (first_of_them n m l f) ∙
          ap (λ b. option_map next (field_list_at (only_if b x) (place old))) test ∙ ap (option_map next) t.1 ∙ ap (λ y. Some (heading_of t.0 y)) (sym e);
      added = sym t.2;
    }
  where
    all_three : (a b c : Bool) → a ≡ true → b ≡ true → c ≡ true → (a && b && c) ≡ true
    all_three true true true x y z = refl
    all_three true true false x y z = cc
    all_three true false c x y z = cc
    all_three false b c x y z = cc

-- ---- a number by the bounds of the root

adds_padding_behind : (al : Bool) (x : Per.BitForm) (old mid new : Packed) → Adds (field_list_at x (place old)) old mid →
    new ≡ plus mid (padding_if al (place mid)) → Adds (field_list_at (padding_behind al x) (place old)) old new
adds_padding_behind true x old mid new a e = adds_both x (placed (λ p. Per.padding (missing p))) old mid new a (adds_padding mid new e)
adds_padding_behind false x old mid new a e = subst (λ m. Adds (field_list_at x (place old)) old m) (sym (e ∙ plus_nothing mid)) a

pub count_added : (al : Bool) (low high n : ℕ) (has_padding : Bool) (old mid new : Packed) → has_padding ≡ true →
    Adds (field_list_at (Per.constrained al (high - low) (n - low)) (place old)) old mid → new ≡ plus mid (padding_if al (place mid)) →
    Adds (field_list_at (count_form al low high has_padding n) (place old)) old new
count_added al low high n true old mid new t a e = adds_padding_behind al _ old mid new a e
count_added al low high n false old mid new t a e = cc

no_padding_behind : (b : Bool) (x : Per.BitForm) (q : Option ℕ) → field_list_at x q ≡ None → field_list_at (padding_behind b x) q ≡ None
no_padding_behind true x q e = none_first x (placed (λ p. Per.padding (missing p))) q e
no_padding_behind false x q e = e

pub count_none : (al : Bool) (low high n : ℕ) (has_padding : Bool) (q : Option ℕ) → field_list_at (Per.constrained al (high - low) (n - low)) q
    ≡ None → field_list_at (count_form al low high has_padding n) q ≡ None
count_none al low high n has_padding q e = no_padding_behind (has_padding && al) _ q e

-- if the upper bound is below 65536
narrow_count : (al : Bool) (c : Counts) (o : Option ℕ) (has_padding : Bool) (n h : ℕ) (q : Option ℕ) → below_long_count o ≡ Some h →
    sized_count al c o has_padding n q ≡ option_map (λ w. before_all n w) (field_list_at (count_form al c.low h has_padding n) q)
narrow_count al c o has_padding n h q e = ap (count_up_to al c.low has_padding n q) e

pub narrow_heads : (al : Bool) (c : Counts) (o : Option ℕ) (has_padding : Bool) (n h low : ℕ) (d : Due) (old new : Packed) →
    below_long_count o ≡ Some h → low ≡ c.low → d ≡ record { units = n; behind = None } →
    Adds (field_list_at (count_form al low h has_padding n) (place old)) old new → Heads (sized_count al c o has_padding n (place old)) old d new
narrow_heads al c o has_padding n h low d old new a l e x =
    let t = added (field_list_at (count_form al c.low h has_padding n) (place old)) old new (subst (λ j. Adds (field_list_at (count_form al j h has_padding n) (place old)) old new) l x) in
    record {
      field_list = t.0;
      is = narrow_count al c o has_padding n h (place old) a ∙ ap (option_map (λ w. before_all n w)) t.1 ∙ ap (λ y. Some (heading_of t.0 y)) (sym e);
      added = sym t.2;
    }

-- ---- why there is none

refused_so : (t : Option FieldList) (u : Option Heading) → (t ≡ None → u ≡ None) → (e : EncodeError) → Refuses t e → NoHeading u e
refused_so t u f OutOfMemory h = tt
refused_so t u f ValueConstraintNotSatisfied h = f h
refused_so t u f SizeConstraintNotSatisfied h = f h
refused_so t u f AlphabetConstraintNotSatisfied h = f h
refused_so t u f TooLongValue h = f h
refused_so t u f LengthExceedsPlatformSize h = f h
refused_so t u f CallOutOfPlace h = h
refused_so t u f AlreadyFailed h = h

pub no_field_list : (u : Option Heading) (t : Option FieldList) → (u ≡ None → t ≡ None) → (e : EncodeError) → NoHeading u e → Refuses t e
no_field_list u t f OutOfMemory h = tt
no_field_list u t f ValueConstraintNotSatisfied h = f h
no_field_list u t f SizeConstraintNotSatisfied h = f h
no_field_list u t f AlphabetConstraintNotSatisfied h = f h
no_field_list u t f TooLongValue h = f h
no_field_list u t f LengthExceedsPlatformSize h = f h
no_field_list u t f CallOutOfPlace h = h
no_field_list u t f AlreadyFailed h = h

pub narrow_none : (al : Bool) (c : Counts) (o : Option ℕ) (has_padding : Bool) (n h low : ℕ) (old : Packed) → below_long_count o ≡ Some h →
    low ≡ c.low → (e : EncodeError) → Refuses (field_list_at (count_form al low h has_padding n) (place old)) e → NoHeading (sized_count al c o has_padding n (place old)) e
narrow_none al c o has_padding n h low old a l e x = refused_so _ _ (λ q. narrow_count al c o has_padding n h (place old) a ∙
    ap (option_map (λ w. before_all n w)) q) e (subst (λ j. Refuses (field_list_at (count_form al j h has_padding n) (place old)) e) l x)

-- an error that is passed on
pub raised_on : {T E : Type 0} (P : T → Type 0) (Q : E → Type 0) (x : E) (r : Result T E) → IsErr r → IsErrAnd r (λ y. y ≡ x) → Q x → MatchResult r P Q
raised_on P Q x (Ok v) a h q = cc
raised_on P Q x (Err y) a h q = subst Q (sym h) q
