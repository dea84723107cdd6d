-- Prefixes of enumeration values, strings, elements and open types of the octet rules.
use Rattle.std.specs.Prelude.{ℤ, pos, negsuc}
use Rattle.std.proofs.Common.{◌≡◌, ℕ, suc, ◌+◌, ◌/◌, ◌<◌, ◌≤◌, ◌==◌, ltb, leb, not, lit<, Bool, true, false, cond, ◌&&◌}
use Rattle.std.proofs.Common.{◌||◌, List, [], ◌∷◌, ◌++◌, length, drop, map, flat_map, Option, Some, None, refl, ap, sym}
use Rattle.std.proofs.Common.{◌∙◌, append_assoc, inl, inr, ◌⊎◌, arith}
use Rattle.std.proofs.lemmas.Bool.{ltb-true, leb-true, eqb-true, and_parts, or_cases}
use Rattle.asn1_model.specs.Numbers.{admits, is_fixed_at}
use Rattle.asn1_model.specs.Schema.{Counts, Size, StringKind, numeric, printable, visible, ia5, bmp, general, graphic, teletex, utf8}
use Rattle.asn1_model.specs.Numbers.{digits, signed_octets, complement, is_count_within}
use Rattle.asn1_model.specs.Form.{both, only_if, joined, Reads}
use Rattle.asn1_model.specs.Strings.{is_octet, may_hold, characters_of, is_among}
use Rattle.std.specs.List.{list_all}
use Rattle.asn1_model.specs.Oer
use Rattle.asn1_laws_values.proofs.Numbers.{length-complement, digits_equal}
use Rattle.asn1_laws_fronts.proofs.Fronts.{Pairwise, fronts_equal, agree_exactly, agree_refused, agree_with_refused}
use Rattle.asn1_laws_fronts.proofs.Fronts.{agree_map, agree_both, agree_apart, agree_varied, agree_if, agree_if_left}
use Rattle.asn1_laws_fronts.proofs.Fronts.{agree_if_right, agree_first, agree_nothing}
use Rattle.asn1_laws_fronts.proofs.PerNumbers.{length_of_map}
use Rattle.asn1_laws_fronts.proofs.OerNumbers.{OctetsAlike, complements_same, length_alike, counted_alike, unsigned_alike}
use Rattle.asn1_laws_fronts.proofs.OerBits.{bits_alike, counted_bits_alike}
use Rattle.std.specs.Option.{option_map_or}

same_count : (k j : ℕ) → 128 + k ≡ 128 + j → k ≡ j
same_count k j e = omega arith

above_127 : (n k : ℕ) → n < 128 → n ≡ 128 + k → ⊥
above_127 n k h e = omega arith

module _ (free : Oer.Freedom → Bool) where
  -- ---- items
  long_items_alike : (v w : ℤ) (k j : ℕ) → OctetsAlike free (Oer.long_item k v) (Oer.long_item j w) (v ≡ w)
  long_items_alike v w k j = agree_if free (leb (signed_octets v) k && leb k 127) (leb (signed_octets w) j && leb j 127) _ _ (λ h i.
      let a = leb-true _ _ ((and_parts _ _ h).0) in
      let b = leb-true _ _ ((and_parts _ _ i).0) in
      agree_first free (λ e.
      let l : k ≡ j = same_count k j e in
      agree_map free (λ f. complements_same k j v w a b f) (agree_exactly free (complement k v) (complement j w) (length-complement k v ∙ l ∙ sym (length-complement j w)))))

  short_and_long : (v w : ℤ) (j : ℕ) (P : Type 0) → OctetsAlike free (Oer.short_item v) (Oer.long_item j w) P
  short_and_long (pos n) w j P = agree_if free (ltb n 128) (leb (signed_octets w) j && leb j 127) _ _ (λ h i. agree_first free (λ e. absurd (above_127 n j (ltb-true _ _ h) e)))
  short_and_long (negsuc n) w j P = agree_refused free _ _

  long_and_short : (v w : ℤ) (k : ℕ) (P : Type 0) → OctetsAlike free (Oer.long_item k v) (Oer.short_item w) P
  long_and_short v (pos m) k P = agree_if free (leb (signed_octets v) k && leb k 127) (ltb m 128) _ _ (λ h i. agree_first free (λ e. absurd (above_127 m k (ltb-true _ _ i) (sym e))))
  long_and_short v (negsuc m) k P = agree_with_refused free _ _

  short_items_alike : (v w : ℤ) → OctetsAlike free (Oer.short_item v) (Oer.short_item w) (v ≡ w)
  short_items_alike (pos n) (pos m) = agree_if free (ltb n 128) (ltb m 128) _ _ (λ h i. agree_first free (λ e. agree_map free (λ u. ap pos e) (agree_nothing free)))
  short_items_alike (pos n) (negsuc m) = agree_with_refused free _ _
  short_items_alike (negsuc n) w = agree_refused free _ _

  item_cases : (v w : ℤ) (o q : Option ℕ) → OctetsAlike free (elim o [ None ↦ Oer.short_item v | Some k ↦ Oer.long_item k v ]) (elim q [ None ↦ Oer.short_item w | Some k ↦ Oer.long_item k w ]) (v ≡ w)
  item_cases v w None None = short_items_alike v w
  item_cases v w None (Some j) = short_and_long v w j _
  item_cases v w (Some k) None = long_and_short v w k _
  item_cases v w (Some k) (Some j) = long_items_alike v w k j

  pub items_alike : (v w : ℤ) → OctetsAlike free (Oer.item_form v) (Oer.item_form w) (v ≡ w)
  unfolding Oer.item_form
  items_alike v w = agree_varied free {c = Oer.longer_item} {c' = Oer.longer_item} (λ o q. item_cases v w o q)

  -- ---- strings of bits
  no_bits : (bs cs : List Bool) → (length bs == 0) ≡ true → (length cs == 0) ≡ true → bs ≡ cs
  no_bits [] [] h i = refl
  no_bits [] (c ∷ cs) h i = let a = eqb-true (length (c ∷ cs)) 0 i in absurd (omega arith)
  no_bits (b ∷ bs) cs h i = let a = eqb-true (length (b ∷ bs)) 0 h in absurd (omega arith)

  no_length : (n : ℕ) → 0 ≡ n + 1 → ⊥
  no_length n e = omega arith

  before : (x y z : Oer.OctetForm) → OctetsAlike free x y ⊥ → OctetsAlike free x (both y z) ⊥
  unfolding Reads
  before x y z h = record { fronts = λ p a b r s u v e. absurd ((h.fronts p a v.0 r (v.1 ++ s) u v.2 (e ∙ ap (λ l. l ++ s) (sym v.4) ∙ append_assoc v.0 v.1 s)).1) }

  empty_and_counted : (cs : List Bool) → OctetsAlike free (Oer.length_form 0) (Oer.counted_bits cs) ⊥
  unfolding Oer.counted_bits
  empty_and_counted cs = before _ _ _ (agree_map free (λ e. no_length ((length cs + 7) / 8) e) (length_alike free 0 ((length cs + 7) / 8 + 1)))

  counted_and_empty : (bs : List Bool) → OctetsAlike free (Oer.counted_bits bs) (Oer.length_form 0) ⊥
  counted_and_empty bs = record { fronts = λ p a b r s u v e. absurd (((empty_and_counted bs).fronts p b a s r v u (sym e)).1) }

  abbrev maybe_empty : Bool → List Bool → Oer.OctetForm
  maybe_empty e bs = cond e (only_if (length bs == 0) (Oer.length_form 0)) (Oer.counted_bits bs)

  varying_alike : (bs cs : List Bool) (e f : Bool) → OctetsAlike free (maybe_empty e bs) (maybe_empty f cs) (bs ≡ cs)
  varying_alike bs cs true true = agree_if free (length bs == 0) (length cs == 0) _ _ (λ h i. agree_map free (λ e. no_bits bs cs h i) (length_alike free 0 0))
  varying_alike bs cs true false = agree_if_left free (length bs == 0) {x = Oer.length_form 0} {y = Oer.counted_bits cs} (λ h. agree_apart free (empty_and_counted cs))
  varying_alike bs cs false true = agree_if_right free (length cs == 0) {x = Oer.counted_bits bs} {y = Oer.length_form 0} (λ h. agree_apart free (counted_and_empty bs))
  varying_alike bs cs false false = counted_bits_alike free bs cs

  pub bit_strings_alike : (fixed : Bool) (bs cs : List Bool) → (fixed ≡ true → length bs ≡ length cs) → OctetsAlike free (Oer.bit_string_form fixed bs) (Oer.bit_string_form fixed cs) (bs ≡ cs)
  unfolding Oer.bit_string_form
  bit_strings_alike true bs cs h = bits_alike free bs cs (h refl)
  bit_strings_alike false bs cs h = agree_varied free {c = Oer.empty_bit_string} {c' = Oer.empty_bit_string} (λ e f. varying_alike bs cs e f)

  -- ---- strings of octets
  pub octets_alike : (fixed : Bool) (os ps : List ℕ) → (fixed ≡ true → length os ≡ length ps) → OctetsAlike free (Oer.octets_form fixed os) (Oer.octets_form fixed ps) (os ≡ ps)
  unfolding Oer.octets_form
  octets_alike true os ps h = agree_if free (list_all is_octet os) (list_all is_octet ps) _ _ (λ i j. agree_exactly free os ps (h refl))
  octets_alike false os ps h = counted_alike free os ps

-- a fixed size is one length
at_one : (c : Counts) (high : Option ℕ) (n m : ℕ) → is_fixed_at c high ≡ true →
    (leb c.low n && (option_map_or (λ x. leb n x) high true)) ≡ true → (leb c.low m && (option_map_or (λ x. leb m x) high true)) ≡ true → n ≡ m
at_one c None n m e f g = cc
at_one c (Some top) n m e f g =
    let a : top ≡ c.low = eqb-true _ _ e in
    let b = and_parts _ _ f in
    let d = and_parts _ _ g in
    let x : c.low ≤ n = leb-true _ _ b.0 in
    let y : n ≤ top = leb-true _ _ b.1 in
    let z : c.low ≤ m = leb-true _ _ d.0 in
    let w : m ≤ top = leb-true _ _ d.1 in
    omega arith

at_size : (e : Bool) (c : Counts) (n m : ℕ) → (not e && is_fixed_at c c.high) ≡ true → (e || is_count_within c n) ≡ true → (e || is_count_within c m) ≡ true → n ≡ m
at_size true c n m f g h = cc
at_size false c n m f g h = at_one c c.high n m f g h

pub one_length : (z : Size) (held : Counts) (n m : ℕ) → Oer.is_fixed z ≡ true → admits z held n ≡ true → admits z held m ≡ true → n ≡ m
one_length z held n m f g h = at_size z.extensible z.counts n m f ((and_parts _ _ g).1) ((and_parts _ _ h).1)

-- ---- characters as octets
two_octets : (c d : ℕ) (r s : List ℕ) → c < 65536 → d < 65536 → digits 256 2 c ++ r ≡ digits 256 2 d ++ s → (c ≡ d) × (r ≡ s)
two_octets c d r s h i e =
    let q : digits 256 2 c ≡ digits 256 2 d = fronts_equal (digits 256 2 c) (digits 256 2 d) r s refl e in
    (digits_equal 256 2 c d (lit< tt) h i q, ap (drop 2) e)

wide_equal : (cs ds : List ℕ) → list_all (is_among (characters_of bmp)) cs ≡ true → list_all (is_among (characters_of bmp)) ds
    ≡ true → flat_map (digits 256 2) cs ≡ flat_map (digits 256 2) ds → cs ≡ ds
wide_equal [] [] h i e = refl
wide_equal [] (d ∷ ds) h i e = cc
wide_equal (c ∷ cs) [] h i e = cc
wide_equal (c ∷ cs) (d ∷ ds) h i e =
    let h' = and_parts _ _ h in
    let i' = and_parts _ _ i in
    let q = two_octets c d (flat_map (digits 256 2) cs) (flat_map (digits 256 2) ds) (small c h'.0) (small d i'.0) e in
    let x = q.0 in
    let t = wide_equal cs ds h'.1 i'.1 q.1 in
    cc
  where
    small : (c : ℕ) → is_among (characters_of bmp) c ≡ true → c < 65536
    small c a = go (or_cases _ _ a)
      where
        go : ((leb 0 c && leb c 65535) ≡ true) ⊎ (false ≡ true) → c < 65536
        go (inl p) = let q : c ≤ 65535 = leb-true _ _ ((and_parts _ _ p).1) in omega arith
        go (inr p) = cc

pub characters_equal : (k : StringKind) (cs ds : List ℕ) → may_hold k cs ≡ true → may_hold k ds ≡ true → Oer.string_octets k cs ≡ Oer.string_octets k ds → cs ≡ ds
characters_equal bmp cs ds h i e = wide_equal cs ds h i e
characters_equal numeric cs ds h i e = e
characters_equal printable cs ds h i e = e
characters_equal visible cs ds h i e = e
characters_equal ia5 cs ds h i e = e
characters_equal general cs ds h i e = e
characters_equal graphic cs ds h i e = e
characters_equal teletex cs ds h i e = e
characters_equal utf8 cs ds h i e = e

wide_long : (cs ds : List ℕ) → length cs ≡ length ds → length (flat_map (digits 256 2) cs) ≡ length (flat_map (digits 256 2) ds)
wide_long [] [] h = refl
wide_long [] (d ∷ ds) h = absurd (omega arith)
wide_long (c ∷ cs) [] h = absurd (omega arith)
wide_long (c ∷ cs) (d ∷ ds) h = let i = wide_long cs ds (omega arith) in ap suc (ap suc i)

pub characters_long : (k : StringKind) (cs ds : List ℕ) → length cs ≡ length ds → length (Oer.string_octets k cs) ≡ length (Oer.string_octets k ds)
characters_long bmp cs ds h = wide_long cs ds h
characters_long numeric cs ds h = h
characters_long printable cs ds h = h
characters_long visible cs ds h = h
characters_long ia5 cs ds h = h
characters_long general cs ds h = h
characters_long graphic cs ds h = h
characters_long teletex cs ds h = h
characters_long utf8 cs ds h = h

-- ---- elements
module _ (free : Oer.Freedom → Bool) (X : Type 0) (R : X → X → Type 0) (f : X → Oer.OctetForm) (one : (x y : X) → OctetsAlike free (f x) (f y) (R x y)) where
  joined_alike : (xs ys : List X) → length xs ≡ length ys → OctetsAlike free (joined (map f xs)) (joined (map f ys)) (Pairwise R xs ys)
  joined_alike [] [] h = agree_nothing free
  joined_alike [] (y ∷ ys) h = absurd (omega arith)
  joined_alike (x ∷ xs) [] h = absurd (omega arith)
  joined_alike (x ∷ xs) (y ∷ ys) h = agree_both free (one x y) (λ e. joined_alike xs ys (omega arith))

  pub members_alike : (held : Counts) (xs ys : List X) → OctetsAlike free (Oer.members_form held (map f xs)) (Oer.members_form held (map f ys)) (Pairwise R xs ys)
  unfolding Oer.members_form
  members_alike held xs ys = agree_if free (is_count_within held (length (map f xs))) (is_count_within held (length (map f ys))) _ _
      (λ h i. agree_map free (λ q. q.1) (agree_both free (unsigned_alike free (length (map f xs)) (length (map f ys))) (λ e. joined_alike xs ys (sym (length_of_map f xs) ∙ e ∙ length_of_map f ys))))

-- ---- open types
module _ (free : Oer.Freedom → Bool) where
  pub open_alike : (x y : Oer.OctetForm) (P : Type 0) → OctetsAlike free x y P → OctetsAlike free (Oer.open_type x) (Oer.open_type y) P
  unfolding Oer.open_type Reads
  open_alike x y P h = record {
    fronts = λ p a b r s f g e.
        let m : List ℕ = f.2.0 in
        let n : List ℕ = g.2.0 in
        let q = (counted_alike free (f.0 ++ m) (g.0 ++ n)).fronts p a b r s f.2.2 g.2.2 e in
        let u = h.fronts 0 f.0 g.0 m n f.1 g.1 q.1 in
        (q.0, u.1);
  }
