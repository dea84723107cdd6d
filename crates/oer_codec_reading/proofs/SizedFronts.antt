-- Octets that begin with octets of a fixed size, or with an OCTET STRING.
use Rattle.std.proofs.Common.{◌≡◌, ℕ, ◌≤◌, ◌<◌, ◌==◌, leb, Bool, true, false, cond, not, ◌&&◌, ◌||◌, Option, Some, None, List, ◌++◌, length, refl, sym, ap, ◌∙◌, subst, arith, length-append}
use Rattle.std.proofs.lemmas.Bool.{false≢true, leb-true, eqb-true, eq-eqb, and_parts}
use Rattle.asn1_model.specs.Schema.{Size, Counts, octet_string}
use Rattle.asn1_model.specs.Value.{Value, octet_list}
use Rattle.asn1_model.specs.Numbers.{is_count_within}
use Rattle.asn1_model.specs.Form.{Reads, exactly}
use Rattle.asn1_model.specs.Strings.{is_octet}
use Rattle.std.specs.List.{list_all}
use Rattle.asn1_model.specs.Oer.{Freedom, form, is_fixed, octets_form, counted}
use Rattle.asn1_model.specs.Numbers.{admits, is_fixed_at}
use Rattle.asn1_values_natives.proofs.OctetLaws.{AreOctets}
use Rattle.oer_codec_reading.specs.Fronts.{Stands, NoneStands}
use Rattle.asn1_schema_constraints.specs.Terms.{one_size}
use Rattle.oer_codec_reading.specs.Sized.{sized}
use Rattle.oer_codec_reading.proofs.Fronts.{fronts_equal, exactly_stands, exactly_front, if_stands, if_front}
use Rattle.oer_codec_reading.proofs.LengthFronts.{each_octet, counted_front, counted_one}
use Rattle.std.specs.Option.{option_map_or}

-- ---- a fixed size

-- what has a fixed size has that length
at_one : (c : Counts) (high : Option ℕ) (n : ℕ) → is_fixed_at c high ≡ true → (leb c.low n && (option_map_or (λ x. leb n x) high true)) ≡ true → n ≡ c.low
at_one c None n e f = cc
at_one c (Some top) n e f =
    let a : top ≡ c.low = eqb-true _ _ e in
    let b = and_parts _ _ f in
    let x : c.low ≤ n = leb-true _ _ b.0 in
    let y : n ≤ top = leb-true _ _ b.1 in
    omega arith

at_size : (e : Bool) (c : Counts) (n : ℕ) → (not e && is_fixed_at c c.high) ≡ true → (e || is_count_within c n) ≡ true → n ≡ c.low
at_size true c n f g = cc
at_size false c n f g = at_one c c.high n f g

-- A length that a type of a fixed size admits is that size.
pub one_length : (z : Size) (held : Counts) (n : ℕ) → is_fixed z ≡ true → admits z held n ≡ true → n ≡ z.counts.low
one_length z held n f g = at_size z.extensible z.counts n f ((and_parts _ _ g).1)

module _ (free : Freedom → Bool) where
  octets_stand : (os w rest : List ℕ) → list_all is_octet os ≡ true → os ++ rest ≡ w → Stands free (octets_form true os) w rest
  unfolding octets_form
  octets_stand os w rest e h = if_stands free (list_all is_octet os) (exactly os) w rest e (exactly_stands free os w rest h)

  octets_front : (os w rest : List ℕ) → Stands free (octets_form true os) w rest → os ++ rest ≡ w
  unfolding octets_form
  octets_front os w rest h = exactly_front free os w rest (if_front free (list_all is_octet os) (exactly os) w rest h).1

  counted_is : (os w rest : List ℕ) → Stands free (octets_form false os) w rest → Stands free (counted os) w rest
  unfolding octets_form
  counted_is os w rest h = h

  is_counted : (os w rest : List ℕ) → Stands free (counted os) w rest → Stands free (octets_form false os) w rest
  unfolding octets_form
  is_counted os w rest h = h

  -- ---- what read_sized returns
  pub of_size : (size : Option ℕ) (n : ℕ) (os w rest : List ℕ) → size ≡ Some n → AreOctets os → length os ≡ n → os ++ rest ≡ w → Stands free (sized size os) w rest
  unfolding sized
  of_size None n os w rest z a l e = cc
  of_size (Some m) n os w rest z a l e = let i : m ≡ n = cc in if_stands free (length os == m) (octets_form true os) w rest (eq-eqb _ _ (l ∙ sym i)) (octets_stand os w rest (each_octet os a) e)

  pub behind_number : (size : Option ℕ) (os w rest : List ℕ) → size ≡ None → Stands free (counted os) w rest → Stands free (sized size os) w rest
  unfolding sized
  behind_number None os w rest z h = is_counted os w rest h
  behind_number (Some m) os w rest z h = cc

  pub too_few : (size : Option ℕ) (n : ℕ) (w : List ℕ) → size ≡ Some n → length w < n → NoneStands free (sized size) w
  unfolding sized
  too_few None n w z l os rest h = cc
  too_few (Some m) n w z l os rest h =
      let i : m ≡ n = cc in
      let f = if_front free (length os == m) (octets_form true os) w rest h in
      let e = eqb-true _ _ f.0 in
      let q = ap length (octets_front os w rest f.1) in
      let a = length-append os rest in
      absurd (omega (arith, i, e, q, a, l))

  pub no_number : (size : Option ℕ) (w : List ℕ) → size ≡ None → NoneStands free counted w → NoneStands free (sized size) w
  unfolding sized
  no_number None w z n os rest h = n os rest (counted_is os w rest h)
  no_number (Some m) w z n os rest h = cc

  -- The octets begin with at most one list of octets.
  pub sized_one : (size : Option ℕ) (a b w r s : List ℕ) → Stands free (sized size a) w r → Stands free (sized size b) w s → (a ≡ b) × (r ≡ s)
  unfolding sized
  sized_one None a b w r s x y = counted_one free a b w r s (counted_is a w r x) (counted_is b w s y)
  sized_one (Some m) a b w r s x y =
      let f = if_front free (length a == m) (octets_form true a) w r x in
      let g = if_front free (length b == m) (octets_form true b) w s y in
      fronts_equal a b r s (eqb-true _ _ f.0 ∙ sym (eqb-true _ _ g.0)) (octets_front a w r f.1 ∙ sym (octets_front b w s g.1))

  -- Octets of a type's fixed size, or after a length determinant, as the type has them.
  pub from_sized : (t : Bool) (low : ℕ) (os w rest : List ℕ) → Stands free (sized (cond t (Some low) None) os) w rest → Stands free (octets_form t os) w rest
  unfolding sized
  from_sized true low os w rest h = (if_front free (length os == low) (octets_form true os) w rest h).1
  from_sized false low os w rest h = h

  pub to_sized : (t : Bool) (low : ℕ) (os w rest : List ℕ) → (t ≡ true → length os ≡ low) → Stands free (octets_form t os) w rest → Stands free (sized (cond t (Some low) None) os) w rest
  unfolding sized
  to_sized true low os w rest e h = if_stands free (length os == low) (octets_form true os) w rest (eq-eqb _ _ (e refl)) h
  to_sized false low os w rest e h = h

  -- What comes first is octets.
  pub sized_octets : (size : Option ℕ) (os w rest : List ℕ) → Stands free (sized size os) w rest → list_all is_octet os ≡ true
  unfolding sized octets_form
  sized_octets None os w rest h = (counted_front free os w rest h).0
  sized_octets (Some m) os w rest h = (if_front free (list_all is_octet os) (exactly os) w rest (if_front free (length os == m) (octets_form true os) w rest h).1).0

  pub sized_text : (m : ℕ) (os w rest : List ℕ) → Stands free (sized (Some m) os) w rest → (length os ≡ m) × (os ++ rest ≡ w)
  unfolding sized
  sized_text m os w rest h = let f = if_front free (length os == m) (octets_form true os) w rest h in (eqb-true _ _ f.0, octets_front os w rest f.1)

  pub sized_counted : (os w rest : List ℕ) → Stands free (sized None os) w rest → Stands free (counted os) w rest
  unfolding sized
  sized_counted os w rest h = counted_is os w rest h

  -- ---- OCTET STRING
  octet_string_front : (z : Size) (held : Counts) (v : Value) (w rest : List ℕ) → Stands free (form (octet_string z held) v) w rest → (os : List ℕ) ×
      (v ≡ octet_list os) × (admits z held (length os) ≡ true) × Stands free (sized (one_size z) os) w rest
  unfolding form Reads
  octet_string_front z held (octet_list os) w rest h =
      let i = if_front free (admits z held (length os)) (octets_form (is_fixed z) os) w rest h in
      (os, refl, i.0, to_sized (is_fixed z) z.counts.low os w rest (λ e. one_length z held (length os) e i.0) i.1)
  octet_string_front z held v w rest h = absurd h.2

  pub octet_string_stands : (z : Size) (held : Counts) (size : Option ℕ) (n : ℕ) (os w rest : List ℕ) → size ≡ one_size z → n ≡ length os →
      admits z held n ≡ true → Stands free (sized size os) w rest → Stands free (form (octet_string z held) (octet_list os)) w rest
  unfolding form
  octet_string_stands z held size n os w rest e l a h =
      if_stands free (admits z held (length os)) (octets_form (is_fixed z) os) w rest (ap (admits z held) (sym l) ∙ a)
      (from_sized (is_fixed z) z.counts.low os w rest (subst (λ s. Stands free (sized s os) w rest) e h))

  pub no_sized : (z : Size) (held : Counts) (size : Option ℕ) (w : List ℕ) → size ≡ one_size z → NoneStands free (sized size) w → NoneStands free (form (octet_string z held)) w
  no_sized z held size w e n v rest h =
      let f = octet_string_front z held v w rest h in
      n f.0 rest (subst (λ s. Stands free (sized s f.0) w rest) (sym e) f.3)

  pub not_admitted : (z : Size) (held : Counts) (size : Option ℕ) (n : ℕ) (os w mid : List ℕ) → size ≡ one_size z → n ≡ length os →
      admits z held n ≡ false → Stands free (sized size os) w mid → NoneStands free (form (octet_string z held)) w
  not_admitted z held size n os w mid e l a h v rest s =
      let f = octet_string_front z held v w rest s in
      let o = sized_one size os f.0 w mid rest h (subst (λ s. Stands free (sized s f.0) w rest) (sym e) f.3) in
      false≢true (sym a ∙ ap (admits z held) (l ∙ ap length o.0) ∙ f.2)
