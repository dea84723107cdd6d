-- The bits with which a length determinant begins.
use Rattle.std.proofs.Common.{◌≡◌, inl, inr, ◌⊎◌, ℕ, ◌+◌, ◌-◌, ◌*◌, ◌/◌, ◌%◌, ◌^◌, ◌<◌, ◌≤◌, ◌==◌, leb, ltb, ◌&&◌, ◌||◌}
use Rattle.std.proofs.Common.{Bool, true, false, IsTrue, List, [], ◌∷◌, ◌++◌, length, drop, refl, ap, sym, ◌∙◌, subst}
use Rattle.std.proofs.Common.{cond, append_assoc, length-append, arith}
use Rattle.std.proofs.lemmas.Bool.{lt-ltb, ltb-true, le-leb, leb-true, and_parts, and_from, eq-eqb, false_from_ne_true, false≢true}
use Rattle.std.proofs.lemmas.List.{append-nil}
use Rattle.asn1_model.specs.Form.{exactly, only_if}
use Rattle.asn1_model.specs.Numbers.{binary}
use Rattle.asn1_model.specs.Per
use Rattle.asn1_values_bits.proofs.Binary.{binary_join, binary_low, length-binary}
use Rattle.asn1_laws_fronts.proofs.PerNumbers.{Alike, binary_equal, at_octet_alike, bits_apart}
use Rattle.asn1_laws_fronts.proofs.Fronts.{fronts_equal, agree_if_right, agree_first, agree_varied_right}
use Rattle.per_codec_laws.specs.Takes.{Position, Front}
use Rattle.per_codec_laws.proofs.Fronts.{varied_in, varied_out, if_in, if_out}
use Rattle.per_codec_laws.proofs.Next.{same_fronts}
use Rattle.per_codec_reading.specs.declared.length.Length.{Length}
use Rattle.per_codec_reading.specs.declared.length.Length.TheVariants.{Short, Fragment}
use Rattle.per_codec_reading.specs.Fronts.{Leads, NoneStands}
use Rattle.per_codec_reading.specs.Lengths.{length_form}
use Rattle.per_codec_reading.proofs.Fronts.{or_free, free_or, leads_same, leads_join, exactly_in, exactly_out, after_padding, behind_padding, unpadded, unpadded_in}

-- ---- an octet and its first bits
bit_is : (x : ℕ) (b : Bool) → (b ≡ true → x ≡ 1) → (b ≡ false → x ≡ 0) → (x == 1) ≡ b
bit_is x true h k = eq-eqb x 1 (h refl)
bit_is x false h k = ap (λ y. y == 1) (k refl)

low_octet : (n : ℕ) → n < 128 → binary 8 n ≡ false ∷ binary 7 n
low_octet n h = ap (λ b. b ∷ binary 7 n) (bit_is (n / 128 % 2) false (λ e. cc) (λ e. omega arith))

head_octet : (m : ℕ) → m < 64 → binary 8 (192 + m) ≡ true ∷ true ∷ binary 6 m
head_octet m h =
    let x = 192 + m in
    let r : x % 64 ≡ m = omega arith in
    let a = bit_is (x / 128 % 2) true (λ e. omega arith) (λ e. cc) in
    let b = bit_is (x / 64 % 2) true (λ e. omega arith) (λ e. cc) in
    ap (λ t. t ∷ binary 7 x) a ∙ ap (λ t. true ∷ t ∷ binary 6 x) b ∙ ap (λ l. true ∷ true ∷ l) (sym (binary_low 6 x) ∙ ap (binary 6) r)

-- two octets of a length in fourteen bits
long_octets : (n : ℕ) → n < 16384 → binary 8 (128 + n / 256) ++ binary 8 (n % 256) ≡ true ∷ false ∷ binary 14 n
long_octets n h =
    let x = 32768 + n in
    let j : (128 + n / 256) * 2 ^ 8 + n % 256 ≡ x = omega arith in
    let r : x % 16384 ≡ n = omega arith in
    let a = bit_is (x / 32768 % 2) true (λ e. omega arith) (λ e. cc) in
    let b = bit_is (x / 16384 % 2) false (λ e. cc) (λ e. omega arith) in
    binary_join 8 8 (128 + n / 256) (n % 256) (omega arith) ∙ ap (binary 16) j
    ∙ ap (λ t. t ∷ binary 15 x) a ∙ ap (λ t. true ∷ t ∷ binary 14 x) b ∙ ap (λ l. true ∷ false ∷ l) (sym (binary_low 14 x) ∙ ap (binary 14) r)

-- what the first octet of a length is
abbrev pub IsFirst : ℕ → Position → Type 0
IsFirst o a = (o < 128) ⊎ (((128 ≤ o) × (o < 192) × (16 ≤ length a.1)) ⊎ ((193 ≤ o) × (o ≤ 196)))

-- the first octet of a length with which the bits begin
pub record Begun (a : Position) : Type 0 where
  pub first : ℕ
  pub small : first < 256
  pub behind : Position
  pub leads : Leads (binary 8 first) a behind
  pub kind : IsFirst first a

module _ (free : Per.Freedom → Bool) where
  abbrev short_detail : ℕ → Bool → Per.BitForm
  short_detail n long = cond long (only_if (ltb n 16384) (exactly (true ∷ false ∷ binary 14 n))) (only_if (ltb n 128) (exactly (false ∷ binary 7 n)))

  -- ---- a length that is read
  pub short_read : (n : ℕ) (a b : Position) → n < 128 → Leads (binary 8 n) a b → Front free (length_form false (Short n)) a b
  unfolding Per.short_length Per.at_octet
  short_read n a b l h =
      let s : leb 128 n ≡ false = not_at_least n l in
      varied_in free (short_detail n) false (inl (sym s)) a b (if_in free (ltb n 128) _ a b (lt-ltb n 128 l) (exactly_in free (false ∷ binary 7 n) a b (subst (λ w. Leads w a b) (low_octet n l) h)))
    where
      not_at_least : (n : ℕ) → n < 128 → leb 128 n ≡ false
      not_at_least n l = false_from_ne_true (leb 128 n) (λ e. let g = leb-true 128 n e in omega arith)

  pub long_read : (x m : ℕ) (a b c : Position) → (free Per.two_octet_length || leb 128 ((x - 128) * 256 + m)) ≡ true → 128 ≤ x → x < 192 → m < 256 →
      Leads (binary 8 x) a b → Leads (binary 8 m) b c → Front free (length_form false (Short ((x - 128) * 256 + m))) a c
  unfolding Per.short_length Per.at_octet
  long_read x m a b c t l u v h k =
      let n = (x - 128) * 256 + m in
      let s : n < 16384 = omega arith in
      let p : 128 + n / 256 ≡ x = omega arith in
      let q : n % 256 ≡ m = omega arith in
      let e : binary 8 x ++ binary 8 m ≡ true ∷ false ∷ binary 14 n = ap (λ y. binary 8 y ++ binary 8 m) (sym p) ∙ ap (λ y. binary 8 (128 + n / 256) ++ binary 8 y) (sym q) ∙ long_octets n s in
      let may : (true ≡ leb 128 n) ⊎ IsTrue (free Per.two_octet_length) = elim (or_free _ _ t) [ inl i ↦ inl (sym i) | inr i ↦ inr i ] in
      varied_in free (short_detail n) true may a c (if_in free (ltb n 16384) _ a c (lt-ltb n 16384 s)
      (exactly_in free (true ∷ false ∷ binary 14 n) a c (subst (λ w. Leads w a c) e (leads_join (binary 8 x) (binary 8 m) a b c h k))))

  pub fragment_read : (x : ℕ) (a b : Position) → 193 ≤ x → x ≤ 196 → Leads (binary 8 x) a b → Front free (length_form false (Fragment (x - 192))) a b
  unfolding Per.at_octet
  fragment_read x a b l u h =
      let m = x - 192 in
      let i : 1 ≤ m = omega arith in
      let j : m ≤ 4 = omega arith in
      let p : x ≡ 192 + m = omega arith in
      if_in free (leb 1 m && leb m 4) _ a b (and_from _ _ (le-leb 1 m i) (le-leb m 4 j))
      (exactly_in free (true ∷ true ∷ binary 6 m) a b (subst (λ w. Leads w a b) (ap (binary 8) p ∙ head_octet m (omega arith)) h))

  -- ---- no length
  -- the first octet of the bits
  first_octet : (o : ℕ) (w t : List Bool) (a b : Position) → o < 256 → binary 8 o ++ w ≡ t → Front free (exactly t) a b → (mid : Position) × Leads (binary 8 o) a mid
  first_octet o w t a b l e f =
      let h = exactly_out free t a b f in
      ((a.0 + length (binary 8 o), w ++ b.1), (sym (append_assoc (binary 8 o) w b.1) ∙ ap (λ u. u ++ b.1) e ∙ h.0, refl))

  long_enough : (t : List Bool) (a b : Position) → Front free (exactly t) a b → length t ≤ length a.1
  long_enough t a b f =
      let e = ap length (exactly_out free t a b f).0 in
      let n = length-append t b.1 in
      omega arith

  pub begun : (l : Length) (a b : Position) → Front free (length_form false l) a b → Begun a
  unfolding Per.short_length Per.at_octet
  begun (Short n) a b f =
      let v = varied_out free (short_detail n) a b f in
      short n v.0 v.2
    where
      short : (n : ℕ) (long : Bool) → Front free (short_detail n long) a b → Begun a
      short n true f =
          let i = if_out free (ltb n 16384) _ a b f in
          let s = ltb-true n 16384 i.0 in
          let q = first_octet (128 + n / 256) (binary 8 (n % 256)) _ a b (omega arith) (long_octets n s) i.1 in
          let k = long_enough (true ∷ false ∷ binary 14 n) a b i.1 in
          let l : length (binary 14 n) ≡ 14 = length-binary 14 n in
          record { first = 128 + n / 256; small = omega arith; behind = q.0; leads = q.1; kind = inr (inl (omega arith, omega arith, omega arith)) }
      short n false f =
          let i = if_out free (ltb n 128) _ a b f in
          let s = ltb-true n 128 i.0 in
          let q = first_octet n [] _ a b (omega arith) (append-nil (binary 8 n) ∙ low_octet n s) i.1 in
          record { first = n; small = omega arith; behind = q.0; leads = q.1; kind = inl s }
  begun (Fragment m) a b f =
      let i = if_out free (leb 1 m && leb m 4) _ a b f in
      let p = and_parts _ _ i.0 in
      let l = leb-true 1 m p.0 in
      let u = leb-true m 4 p.1 in
      let q = first_octet (192 + m) [] _ a b (omega arith) (append-nil (binary 8 (192 + m)) ∙ head_octet m (omega arith)) i.1 in
      record { first = 192 + m; small = omega arith; behind = q.0; leads = q.1; kind = inr (inr (omega arith, omega arith)) }

  pub no_first : (a : Position) → length a.1 < 8 → NoneStands free (length_form false) a
  no_first a h l b f =
      let g = begun l a b f in
      let e = ap length g.leads.0 in
      let n = length-append (binary 8 g.first) g.behind.1 in
      omega arith

  -- the first octet of a length is the one that was read
  pub none_begun : (x : ℕ) (a mid : Position) → x < 256 → Leads (binary 8 x) a mid → (IsFirst x a → ⊥) → NoneStands free (length_form false) a
  none_begun x a mid s h n l b f =
      let g = begun l a b f in
      let e : g.first ≡ x = binary_equal 8 g.first x g.small s (leads_same (binary 8 g.first) (binary 8 x) a g.behind mid refl g.leads h) in
      n (subst (λ o. IsFirst o a) e g.kind)

  pub no_second : (x : ℕ) (a mid : Position) → x < 256 → 128 ≤ x → x < 192 → Leads (binary 8 x) a mid → length mid.1 < 8 → NoneStands free (length_form false) a
  no_second x a mid s l u h k = none_begun x a mid s h (λ i.
      let e = ap length h.0 in
      let n = length-append (binary 8 x) mid.1 in
      elim i [ inl q ↦ omega arith | inr q ↦ elim q [ inl r ↦ (let v = r.2 in omega arith) | inr r ↦ (let v = r.0 in omega arith) ] ])

  -- two octets that the reader does not accept
  pub not_two_octets : (x m : ℕ) (a b c : Position) → (free Per.two_octet_length || leb 128 ((x - 128) * 256 + m)) ≡ false → 128 ≤ x → x < 192 →
      m < 256 → Leads (binary 8 x) a b → Leads (binary 8 m) b c → NoneStands free (length_form false) a
  unfolding Per.short_length Per.at_octet
  not_two_octets x m a b c t l u v h k (Fragment j) d f =
      let i = if_out free (leb 1 j && leb j 4) _ a d f in
      let w = leb-true j 4 (and_parts (leb 1 j) (leb j 4) i.0).1 in
      let q = first_octet (192 + j) [] _ a d (omega arith) (append-nil (binary 8 (192 + j)) ∙ head_octet j (omega arith)) i.1 in
      let e = binary_equal 8 (192 + j) x (omega arith) (omega arith) (leads_same (binary 8 (192 + j)) (binary 8 x) a q.0 b refl q.1 h) in
      absurd (omega arith)
  not_two_octets x m a b c t l u v h k (Short n) d f = let y = varied_out free (short_detail n) a d f in go y.0 y.1 y.2
    where
      go : (long : Bool) → (long ≡ leb 128 n) ⊎ IsTrue (free Per.two_octet_length) → Front free (short_detail n long) a d → ⊥
      go true y g =
          let i = if_out free (ltb n 16384) _ a d g in
          let s = ltb-true n 16384 i.0 in
          let o = leads_same (binary 8 x ++ binary 8 m) (true ∷ false ∷ binary 14 n) a c d refl (leads_join (binary 8 x) (binary 8 m) a b c h k)
          (exactly_out free (true ∷ false ∷ binary 14 n) a d i.1) in
          let p : binary 8 x ++ binary 8 m ≡ binary 8 (128 + n / 256) ++ binary 8 (n % 256) = o ∙ sym (long_octets n s) in
          let z = binary_equal 8 x (128 + n / 256) (omega arith) (omega arith) (fronts_equal (binary 8 x) (binary 8 (128 + n / 256)) (binary 8 m) (binary 8 (n % 256)) refl p) in
          let low : binary 8 m ≡ binary 8 (n % 256) = ap (drop 8) p in
          let r = binary_equal 8 m (n % 256) (omega arith) (omega arith) low in
          let e : n ≡ (x - 128) * 256 + m = omega arith in
          false≢true (sym t ∙ free_or _ _ (elim y [ inl j ↦ inl (ap (leb 128) (sym e) ∙ sym j) | inr j ↦ inr j ]))
      go false y g =
          let i = if_out free (ltb n 128) _ a d g in
          let s = ltb-true n 128 i.0 in
          let q = first_octet n [] _ a d (omega arith) (append-nil (binary 8 n) ∙ low_octet n s) i.1 in
          let e = binary_equal 8 n x (omega arith) (omega arith) (leads_same (binary 8 n) (binary 8 x) a q.0 b refl q.1 h) in
          absurd (omega arith)

  pub no_fragment : (x : ℕ) (a mid : Position) → x < 256 → 192 ≤ x → Leads (binary 8 x) a mid → (x ≡ 192) ⊎ (196 < x) → NoneStands free (length_form false) a
  no_fragment x a mid s l h w = none_begun x a mid s h (λ i. elim i [
    | inl q ↦ omega arith
    | inr q ↦ elim q [ inl r ↦ (let v = r.1 in omega arith) | inr r ↦ (let v = r.0 in let z = r.1 in elim w [ inl t ↦ omega arith | inr t ↦ omega arith ]) ]
  ])

  -- ---- after padding
  pub length_after : (al : Bool) (l : Length) (a mid b : Position) → Front free (Per.at_octet al (exactly [])) a mid → Front free (length_form false l) mid b → Front free (length_form al l) a b
  unfolding Per.short_length
  length_after al (Short n) a mid b f g = after_padding free al _ a mid b f (unpadded free _ mid b g)
  length_after al (Fragment m) a mid b f g =
      let i = if_out free (leb 1 m && leb m 4) _ mid b g in
      if_in free (leb 1 m && leb m 4) _ a b i.0 (after_padding free al _ a mid b f (unpadded free _ mid b i.1))

  pub length_behind : (al : Bool) (l : Length) (a mid b : Position) → Front free (Per.at_octet al (exactly [])) a mid → Front free (length_form al l) a b → Front free (length_form false l) mid b
  unfolding Per.short_length
  length_behind al (Short n) a mid b f g = unpadded_in free _ mid b (behind_padding free al _ a mid b f g)
  length_behind al (Fragment m) a mid b f g =
      let i = if_out free (leb 1 m && leb m 4) _ a b g in
      if_in free (leb 1 m && leb m 4) _ mid b i.0 (unpadded_in free _ mid b (behind_padding free al _ a mid b f i.1))

  pub no_length_behind : (al : Bool) (a mid : Position) → Front free (Per.at_octet al (exactly [])) a mid → NoneStands free (length_form false) mid → NoneStands free (length_form al) a
  no_length_behind al a mid f n l b g = n l b (length_behind al l a mid b f g)

  pub no_length_at_all : (al : Bool) (a : Position) → NoneStands free (Per.at_octet al) a → NoneStands free (length_form al) a
  unfolding Per.short_length
  no_length_at_all al a n (Short k) b g = n _ b g
  no_length_at_all al a n (Fragment m) b g = n _ b (if_out free (leb 1 m && leb m 4) _ a b g).1

  -- ---- a short length
  pub no_short_length : (al : Bool) (a : Position) → NoneStands free (length_form al) a → NoneStands free (Per.short_length al) a
  no_short_length al a n k b g = n (Short k) b g

  -- the head of a fragment is no short length
  head_apart : (m n : ℕ) (b : Bool) → Alike free (exactly (true ∷ true ∷ binary 6 m)) (short_detail n b) ⊥
  head_apart m n true = agree_if_right free (ltb n 16384) {x = exactly (true ∷ true ∷ binary 6 m)} {y = exactly (true ∷ false ∷ binary 14 n)} (λ h. agree_first free (λ e. bits_apart free))
  head_apart m n false = agree_if_right free (ltb n 128) {x = exactly (true ∷ true ∷ binary 6 m)} {y = exactly (false ∷ binary 7 n)} (λ h. bits_apart free)

  head_or_short : (al : Bool) (m n : ℕ) → Alike free (Per.at_octet al (exactly (true ∷ true ∷ binary 6 m))) (Per.short_length al n) ⊥
  unfolding Per.short_length
  head_or_short al m n = at_octet_alike free al (agree_varied_right free (λ b. head_apart m n b))

  pub fragment_not_short : (al : Bool) (m : ℕ) (a b : Position) → Front free (length_form al (Fragment m)) a b → NoneStands free (Per.short_length al) a
  fragment_not_short al m a b f n c g =
      let i = if_out free (leb 1 m && leb m 4) _ a b f in
      (same_fronts free (head_or_short al m n) a b c i.1 g).0
