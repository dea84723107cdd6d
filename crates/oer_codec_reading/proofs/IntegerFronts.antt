-- Octets that begin with an INTEGER.
use Rattle.asn1_model.specs.Schema.{wide_range}
use Rattle.std.specs.Prelude.{max}
use Rattle.std.proofs.Common.{◌≡◌, ℕ, ◌≤◌, leb, not, ℤ, pos, negsuc, Bool, true, false, cond, ◌&&◌, ◌||◌, ◌⊎◌, inl, inr}
use Rattle.std.proofs.Common.{Option, Some, None, List, Result, Ok, Err, IfOk, OnOk, IfErr, refl, sym, ap, ◌∙◌, subst}
use Rattle.std.proofs.Common.{arith}
use Rattle.std.proofs.lemmas.Int.{ints}
use Rattle.std.proofs.lemmas.Bool.{false≢true, leb-true, le-leb, cases_lt, and_parts}
use Rattle.std.proofs.Math.Bool.{or-true}
use Rattle.asn1_model.specs.Schema.{Range, Bounds, integer}
use Rattle.asn1_model.specs.Value.{Value, number}
use Rattle.asn1_model.specs.Numbers.{octet_width, signed_octets, width, is_at_most, is_within, fits_128}
use Rattle.asn1_model.specs.Form.{Reads, only_if}
use Rattle.asn1_model.specs.Normal.{is_bounded}
use Rattle.asn1_model.specs.Oer.{Freedom, form, integer_form, fixed_octets, bounded, signed, signed_form, natural_form}
use Rattle.asn1_values_natives.specs.Octets.{plain}
use Rattle.asn1_values_natives.proofs.RangeLaws.{not_at_most}
use Rattle.asn1_values_natives.proofs.Widths.{width-bits, bits-least, signed_octets-plain}
use Rattle.asn1_schema_constraints.specs.Widths.{has_sign, fixed_width}
use Rattle.asn1_schema_constraints.proofs.WidthLaws.{form_told}
use Rattle.asn1_schema_constraints.specs.Terms.{bounds_of, held_of, admits_whole}
use Rattle.asn1_schema_constraints.proofs.Held as Held
use Rattle.asn1_schema_constraints.specs.declared.extensions.Extensible.{Extensible}
use Rattle.asn1_schema_constraints.specs.declared.parts.Value as Constraint
use Rattle.asn1_schema_errors.specs.declared.DecodeError.{DecodeError}
use Rattle.asn1_schema_errors.specs.declared.DecodeError.TheVariants.{AlreadyFailed, OutOfMemory}
use Rattle.oer_codec_reading.specs.Fronts.{Stands, FrontOf, NoneStands, NoFront}
use Rattle.oer_codec_reading.specs.Integers.{holds, number_in, sign_under, width_under}
use Rattle.oer_codec_reading.proofs.Freedoms.{and_true}
use Rattle.oer_codec_reading.proofs.Fronts.{if_stands, if_front, none_misses}
use Rattle.oer_codec_reading.proofs.LengthFronts.{octets_hold}
use Rattle.oer_codec_reading.proofs.WholeFronts.{number_one, width_at_most}
use Rattle.std.specs.Option.{option_map_or}

-- ---- numbers within bounds in the octets of their form

at_most_natural : (n m : ℕ) → is_at_most (pos n) (pos m) ≡ true → n ≤ m
at_most_natural n m e = elim (cases_lt m n) [ inl l ↦ absurd (false≢true (sym (not_at_most (pos n) (pos m) (omega (arith, ints))) ∙ e)) | inr g ↦ g ]

at_most_below : (n m : ℕ) → is_at_most (negsuc n) (negsuc m) ≡ true → m ≤ n
at_most_below n m e = elim (cases_lt n m) [ inl l ↦ absurd (false≢true (sym (not_at_most (negsuc n) (negsuc m) (omega (arith, ints))) ∙ e)) | inr g ↦ g ]

not_below : (n m : ℕ) → is_at_most (pos n) (negsuc m) ≡ true → ⊥
not_below n m e = false≢true (sym (not_at_most (pos n) (negsuc m) (omega (arith, ints))) ∙ e)

octet_width_at_most : (n m : ℕ) → n ≤ m → octet_width n ≤ octet_width m
octet_width_at_most n m h = width_at_most n (octet_width m) (let b = octets_hold m (octet_width m) (omega arith) in omega (arith, b, h))

signed_at_most : (u v : ℤ) → plain u ≤ plain v → signed_octets u ≤ signed_octets v
signed_at_most u v h =
    let b = (width-bits (plain v)).below in
    let w : width (plain u) ≤ width (plain v) = bits-least (plain u) (width (plain v)) (width (plain u)) (width-bits (plain u)) (omega arith) in
    let e = signed_octets-plain u in
    let f = signed_octets-plain v in
    omega (arith, e, f, w)

some_octets : (k j : ℕ) (a b c d : Bool) → cond a (Some 1) (cond b (Some 2) (cond c (Some 4) (cond d (Some 8) None))) ≡ Some j → (a ≡ true → k ≤ 1) →
    (b ≡ true → k ≤ 2) → (c ≡ true → k ≤ 4) → (d ≡ true → k ≤ 8) → k ≤ j
some_octets k j true b c d e f g h i = let q : 1 ≡ j = cc in subst (λ x. k ≤ x) q (f refl)
some_octets k j false true c d e f g h i = let q : 2 ≡ j = cc in subst (λ x. k ≤ x) q (g refl)
some_octets k j false false true d e f g h i = let q : 4 ≡ j = cc in subst (λ x. k ≤ x) q (h refl)
some_octets k j false false false true e f g h i = let q : 8 ≡ j = cc in subst (λ x. k ≤ x) q (i refl)
some_octets k j false false false false e f g h i = cc

fixed_hold : (k j : ℕ) → fixed_octets k ≡ Some j → k ≤ j
fixed_hold k j e = some_octets k j (leb k 1) (leb k 2) (leb k 4) (leb k 8) e (leb-true k 1) (leb-true k 2) (leb-true k 4) (leb-true k 8)

holds_by : (sign : Bool) (o : Option ℕ) (v : ℤ) → ((k : ℕ) → o ≡ Some k → holds sign (Some k) v ≡ true) → holds sign o v ≡ true
holds_by true None v h = refl
holds_by false None v h = refl
holds_by true (Some k) v h = h k refl
holds_by false (Some k) v h = h k refl

range_holds : (low high : Option ℤ) (v : ℤ) → ((option_map_or (λ x. is_at_most x v) low true) && (option_map_or (λ x. is_at_most v x) high true))
    ≡ true → holds (has_sign low) (fixed_width low high) v ≡ true
range_holds (Some (pos low)) (Some (pos high)) (pos n) h =
    let p = and_parts (is_at_most (pos low) (pos n)) (is_at_most (pos n) (pos high)) h in
    let l = octet_width_at_most n high (at_most_natural n high p.1) in
    holds_by false (fixed_octets (octet_width high)) (pos n) (λ k e. let f = fixed_hold (octet_width high) k e in le-leb (octet_width n) k (omega arith))
range_holds (Some (pos low)) (Some (pos high)) (negsuc n) h = absurd (not_below low n ((and_parts (is_at_most (pos low) (negsuc n)) (is_at_most (negsuc n) (pos high)) h).0))
range_holds (Some (pos low)) (Some (negsuc high)) v h = refl
range_holds (Some (pos low)) None v h = refl
range_holds (Some (negsuc low)) None v h = refl
range_holds None (Some high) v h = refl
range_holds None None v h = refl
range_holds (Some (negsuc low)) (Some high) v h =
    let p = and_parts (is_at_most (negsuc low) v) (is_at_most v high) h in
    holds_by true (fixed_octets (max (signed_octets (negsuc low)) (signed_octets high))) v (λ k e.
    let f = fixed_hold (max (signed_octets (negsuc low)) (signed_octets high)) k e in
    let l = most v high p.0 p.1 in
    le-leb (signed_octets v) k (omega arith))
  where
    most : (v high : ℤ) → is_at_most (negsuc low) v ≡ true → is_at_most v high ≡ true → signed_octets v ≤ max (signed_octets (negsuc low)) (signed_octets high)
    most (pos n) (pos m) a b = let l = signed_at_most (pos n) (pos m) (at_most_natural n m b) in omega arith
    most (pos n) (negsuc m) a b = absurd (not_below n m b)
    most (negsuc n) high a b = let l = signed_at_most (negsuc n) (negsuc low) (at_most_below low n a) in omega arith

-- ---- the form

module _ (free : Freedom → Bool) where
  either_front : (e : Bool) (low high : Option ℤ) (v : ℤ) (w rest : List ℕ) →
      Stands free (cond e (signed v) (only_if ((option_map_or (λ x. is_at_most x v) low true) && (option_map_or (λ x. is_at_most v x) high true)) (bounded low high v))) w rest
      → ((e || ((option_map_or (λ x. is_at_most x v) low true) && (option_map_or (λ x. is_at_most v x) high true))) ≡ true) ×
      Stands free (number_in (e || has_sign low) (cond e None (fixed_width low high)) v) w rest
  unfolding number_in
  either_front true low high v w rest h = (refl, h)
  either_front false low high v w rest h =
      let i = if_front free ((option_map_or (λ x. is_at_most x v) low true) && (option_map_or (λ x. is_at_most v x) high true)) (bounded low high v) w rest h in
      (i.0, if_stands free (holds (has_sign low) (fixed_width low high) v) _ w rest (range_holds low high v i.0) (subst (λ x. Stands free x w rest) (form_told low high v) i.1))

  either_stands : (e : Bool) (low high : Option ℤ) (v : ℤ) (w rest : List ℕ) →
      (e || ((option_map_or (λ x. is_at_most x v) low true) && (option_map_or (λ x. is_at_most v x) high true))) ≡ true →
      Stands free (number_in (e || has_sign low) (cond e None (fixed_width low high)) v) w rest
      → Stands free (cond e (signed v) (only_if ((option_map_or (λ x. is_at_most x v) low true) && (option_map_or (λ x. is_at_most v x) high true)) (bounded low high v))) w rest
  unfolding number_in
  either_stands true low high v w rest a h = h
  either_stands false low high v w rest a h =
      let i = if_front free (holds (has_sign low) (fixed_width low high) v) (cond (has_sign low) (signed_form (fixed_width low high) v) (natural_form (fixed_width low high) v)) w rest h in
      if_stands free ((option_map_or (λ x. is_at_most x v) low true) && (option_map_or (λ x. is_at_most v x) high true)) (bounded low high v) w rest a
      (subst (λ x. Stands free x w rest) (sym (form_told low high v)) i.1)

  pub integer_front : (b : Bounds) (held : Range) (u : Value) (w rest : List ℕ) → FrontOf free (integer b held) u w rest → (v : ℤ) ×
      (is_within held v ≡ true) × ((b.extensible || is_within b.range v) ≡ true) × Stands free (number_in (sign_under b) (width_under b) v) w rest
  unfolding form integer_form Reads
  integer_front b held (number v) w rest h =
      let i = if_front free (is_within held v && (not (is_bounded b) || fits_128 v)) _ w rest h in
      let e = either_front b.extensible b.range.low b.range.high v w rest i.1 in
      (v, (and_parts (is_within held v) (not (is_bounded b) || fits_128 v) i.0).0, e.0, e.1)
  integer_front b held u w rest h = absurd h.2

  pub integer_stands : (b : Bounds) (held : Range) (v : ℤ) (w rest : List ℕ) → is_within held v ≡ true → (not (is_bounded b) || fits_128 v) ≡ true →
      (b.extensible || is_within b.range v) ≡ true → Stands free (number_in (sign_under b) (width_under b) v) w rest → FrontOf free (integer b held) (number v) w rest
  unfolding form integer_form
  integer_stands b held v w rest a f e h = if_stands free (is_within held v && (not (is_bounded b) || fits_128 v)) _ w rest (and_true _ _ a f)
      (either_stands b.extensible b.range.low b.range.high v w rest e h)

  -- ---- what read_integer returns

  pub integer_read : (c : Option (Extensible Constraint.Value)) (h : Range) (v : ℤ) (w rest : List ℕ) → admits_whole c v ≡ true →
      is_within h v ≡ true → Stands free (number_in (sign_under (bounds_of c)) (width_under (bounds_of c)) v) w rest → FrontOf free (integer (bounds_of c) (held_of c h)) (number v) w rest
  integer_read None h v w rest a i s = integer_stands (bounds_of None) h v w rest i refl refl s
  integer_read (Some c) h v w rest a i s =
      let p = and_parts (is_within wide_range v) _ a in
      integer_stands (bounds_of (Some c)) (held_of (Some c) h) v w rest (Held.admitted_held (Some c) h v a i)
      (ap (λ t. not (is_bounded (bounds_of (Some c))) || t) (Held.wide_fits v p.0) ∙ or-true (not (is_bounded (bounds_of (Some c))))) p.1 s

  pub no_integer : (c : Option (Extensible Constraint.Value)) (h : Range) (sign : Bool) (width : Option ℕ) (w : List ℕ) →
      sign ≡ sign_under (bounds_of c) → width ≡ width_under (bounds_of c) → NoneStands free (number_in sign width) w → NoneStands free (form (integer (bounds_of c) (held_of c h))) w
  no_integer c h sign width w e f n u rest s =
      let i = integer_front (bounds_of c) (held_of c h) u w rest s in
      n i.0 rest (subst (λ t. Stands free (number_in t width i.0) w rest) (sym e) (subst (λ o. Stands free (number_in (sign_under (bounds_of c)) o i.0) w rest) (sym f) i.3))

  -- a number that comes first and is not of the type
  pub other_number : (b : Bounds) (held : Range) (v : ℤ) (w mid : List ℕ) → (is_within held v ≡ true → (b.extensible || is_within b.range v) ≡ true → ⊥) →
      Stands free (number_in (sign_under b) (width_under b) v) w mid → NoneStands free (form (integer b held)) w
  other_number b held v w mid n s u rest t =
      let i = integer_front b held u w rest t in
      let o = (number_one free (sign_under b) (width_under b) v i.0 w mid rest s i.3).0 in
      n (ap (is_within held) o ∙ i.1) (ap (λ x. b.extensible || is_within b.range x) o ∙ i.2)

  other_integer : (c : Option (Extensible Constraint.Value)) (h : Range) (v : ℤ) (w mid : List ℕ) →
      (is_within (held_of c h) v ≡ true → ((bounds_of c).extensible || is_within (bounds_of c).range v) ≡ true → ⊥) →
      Stands free (number_in (sign_under (bounds_of c)) (width_under (bounds_of c)) v) w mid → NoneStands free (form (integer (bounds_of c) (held_of c h))) w
  other_integer c h v w mid n s = other_number (bounds_of c) (held_of c h) v w mid n s

  pub not_admitted : (c : Option (Extensible Constraint.Value)) (h : Range) (v : ℤ) (w mid : List ℕ) → admits_whole c v ≡ false →
      Stands free (number_in (sign_under (bounds_of c)) (width_under (bounds_of c)) v) w mid → NoneStands free (form (integer (bounds_of c) (held_of c h))) w
  not_admitted c h v w mid a s = other_integer c h v w mid (λ x y. Held.not_admitted c h v a x y) s

  pub not_held : (c : Option (Extensible Constraint.Value)) (h : Range) (v : ℤ) (w mid : List ℕ) → is_within h v ≡ false →
      Stands free (number_in (sign_under (bounds_of c)) (width_under (bounds_of c)) v) w mid → NoneStands free (form (integer (bounds_of c) (held_of c h))) w
  not_held c h v w mid a s = other_integer c h v w mid (λ x y. Held.not_held c h v a x) s

  same_form : (c : Option (Extensible Constraint.Value)) (sign : Bool) (width : Option ℕ) (v : ℤ) (w rest : List ℕ) →
      sign ≡ sign_under (bounds_of c) → width ≡ width_under (bounds_of c) → Stands free (number_in sign width v) w rest →
      Stands free (number_in (sign_under (bounds_of c)) (width_under (bounds_of c)) v) w rest
  same_form c sign width v w rest e f s = subst (λ t. Stands free (number_in t (width_under (bounds_of c)) v) w rest) e (subst (λ o. Stands free (number_in sign o v) w rest) f s)

  pub value_read : {X : Type 0} (r : Result X DecodeError) (value : X → ℤ) (c : Option (Extensible Constraint.Value)) (h : Range) (sign : Bool)
      (width : Option ℕ) (v : ℤ) (w rest : List ℕ) → sign ≡ sign_under (bounds_of c) → width ≡ width_under (bounds_of c)
      → IfOk r (λ x. value x ≡ v) → OnOk r (is_within h v ≡ true) → OnOk r (admits_whole c v ≡ true) → Stands free (number_in sign width v) w rest →
      IfOk r (λ x. FrontOf free (integer (bounds_of c) (held_of c h)) (number (value x)) w rest)
  value_read (Ok x) value c h sign width v w rest e f n i a s =
      subst (λ z. FrontOf free (integer (bounds_of c) (held_of c h)) (number z) w rest) (sym n) (integer_read c h v w rest a i (same_form c sign width v w rest e f s))
  value_read (Err e) value c h sign width v w rest d f n i a s = tt

  pub value_refused : {X : Type 0} (r : Result X DecodeError) (c : Option (Extensible Constraint.Value)) (h : Range) (sign : Bool) (width : Option ℕ)
      (v : ℤ) (w rest : List ℕ) → sign ≡ sign_under (bounds_of c) → width ≡ width_under (bounds_of c)
      → IfErr r (λ e. ¬ (e ≡ AlreadyFailed)) → IfErr r (λ e. (e ≡ OutOfMemory) ⊎ ((admits_whole c v ≡ false) ⊎ (is_within h v ≡ false))) →
      Stands free (number_in sign width v) w rest → IfErr r (NoFront free (integer (bounds_of c) (held_of c h)) w)
  value_refused (Ok x) c h sign width v w rest e f q n s = tt
  value_refused (Err x) c h sign width v w rest e f q (inl m) s = subst (NoFront free (integer (bounds_of c) (held_of c h)) w) (sym m) tt
  value_refused (Err x) c h sign width v w rest e f q (inr (inl m)) s =
      none_misses free (form (integer (bounds_of c) (held_of c h))) w x q (not_admitted c h v w rest m (same_form c sign width v w rest e f s))
  value_refused (Err x) c h sign width v w rest e f q (inr (inr m)) s =
      none_misses free (form (integer (bounds_of c) (held_of c h))) w x q (not_held c h v w rest m (same_form c sign width v w rest e f s))
