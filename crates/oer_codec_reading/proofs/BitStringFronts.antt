-- Octets that begin with bits of any number.
use Rattle.std.proofs.Common.{◌≡◌, ℕ, ◌+◌, ◌/◌, ◌<◌, ◌==◌, Bool, true, false, cond, IsTrue, ◌⊎◌, inl, inr, Option, Some}
use Rattle.std.proofs.Common.{None, List, [], ◌∷◌, ◌++◌, length, refl, sym, ap, ◌∙◌, subst, arith, append_assoc, Result}
use Rattle.std.proofs.Common.{Ok, Err, IfErr, IfOk}
use Rattle.std.proofs.lemmas.Bool.{false≢true, eqb-true, eq-eqb}
use Rattle.asn1_model.specs.Schema.{Size, Counts, bit_string}
use Rattle.asn1_model.specs.Value.{Value, bit_list}
use Rattle.asn1_model.specs.Numbers.{missing, packed}
use Rattle.asn1_model.specs.Form.{Reads, exactly, only_if}
use Rattle.asn1_model.specs.Oer.{Freedom, Detail, form, is_fixed, OctetForm, bit_string_form, bits_form, counted_bits, empty_bit_string, length_form}
use Rattle.asn1_model.specs.Numbers.{admits}
use Rattle.asn1_schema_errors.specs.declared.DecodeError.{DecodeError}
use Rattle.oer_codec_reading.specs.declared.rules.EncodingRules.{EncodingRules}
use Rattle.oer_codec_reading.specs.Bits.{bits_in, sized_bits}
use Rattle.asn1_schema_constraints.specs.Terms.{one_size}
use Rattle.oer_codec_reading.proofs.SizedFronts.{one_length}
use Rattle.oer_codec_reading.specs.Fronts.{freedoms, is_basic, Stands, NoneStands, Misses}
use Rattle.oer_codec_reading.proofs.Freedoms.{empty_bit_string_is_basic}
use Rattle.oer_codec_reading.proofs.Fronts.{if_stands, if_front, varied_stands, varied_front, misses_also}
use Rattle.oer_codec_reading.proofs.LengthFronts.{length_one}
use Rattle.oer_codec_reading.proofs.BitFronts.{bits_long, bits_one}

-- bits have one text at each position
still_if : (free : Freedom → Bool) (t : Bool) (l w : List ℕ) (p q : ℕ) → Reads {D = Detail} free (only_if t (exactly l)) p w → Reads {D = Detail} free (only_if t (exactly l)) q w
unfolding Reads
still_if free true l w p q h = h
still_if free false l w p q h = h

still : (free : Freedom → Bool) (bs : List Bool) (w : List ℕ) (p q : ℕ) → Reads free (bits_form bs) p w → Reads free (bits_form bs) q w
unfolding Reads bits_form
still free bs w p q h = (h.0, h.1, still_if free (length h.0 == missing (length bs)) (packed (bs ++ h.0)) w p q h.2)

-- the number of octets of bits after their length determinant
abbrev octets_of : ℕ → ℕ
octets_of n = (n + 7) / 8 + 1

same_count : (n m : ℕ) → octets_of n ≡ octets_of m → missing n ≡ missing m → n ≡ m
same_count n m e f = omega arith

-- the octets begin with bits after their length determinant
record Counted (free : Freedom → Bool) (bs : List Bool) (w rest : List ℕ) : Type 0 where
  pub behind : List ℕ
  pub counts : Stands free (length_form (octets_of (length bs))) w (missing (length bs) ∷ behind)
  pub bits : Stands free (bits_form bs) behind rest

counted_front : (free : Freedom → Bool) (bs : List Bool) (w rest : List ℕ) → Stands free (counted_bits bs) w rest → Counted free bs w rest
unfolding Reads counted_bits
counted_front free bs w rest h =
    let u = h.2 in
    let v = u.3 in
    let b : u.1 ≡ missing (length bs) ∷ v.1 = sym v.4 ∙ ap (λ c. c ++ v.1) (sym v.2) in
    let t : u.0 ++ (missing (length bs) ∷ (v.1 ++ rest)) ≡ w = ap (λ c. u.0 ++ (c ++ rest)) (sym b) ∙ sym (append_assoc u.0 u.1 rest) ∙ ap (λ c. c ++ rest) u.4 ∙ h.1 in
    record { behind = v.1 ++ rest; counts = (u.0, t, u.2); bits = (v.1, refl, still free bs v.1 _ 0 v.3) }

counted_stands : (free : Freedom → Bool) (bs : List Bool) (w mid rest : List ℕ) →
    Stands free (length_form (octets_of (length bs))) w (missing (length bs) ∷ mid) → Stands free (bits_form bs) mid rest → Stands free (counted_bits bs) w rest
unfolding Reads counted_bits
counted_stands free bs w mid rest l b =
    let m = missing (length bs) in
    let t : (l.0 ++ (m ∷ b.0)) ++ rest ≡ w = append_assoc l.0 (m ∷ b.0) rest ∙ ap (λ c. l.0 ++ (m ∷ c)) b.1 ∙ l.1 in
    (l.0 ++ (m ∷ b.0), t, (l.0, m ∷ b.0, l.2, (m ∷ [], b.0, refl, still free bs b.0 0 _ b.2, refl), refl))

empty_bits : (bs : List Bool) → length bs ≡ 0 → bs ≡ []
empty_bits [] e = refl
empty_bits (b ∷ bs) e = absurd (omega arith)

module _ (r : EncodingRules) where
  abbrev maybe_empty : List Bool → Bool → OctetForm
  maybe_empty bs e = cond e (only_if (length bs == 0) (length_form 0)) (counted_bits bs)

  varying_front : (bs : List Bool) (w rest : List ℕ) → Stands (freedoms r) (bit_string_form false bs) w rest →
      ((is_basic r ≡ true) × Stands (freedoms r) (length_form 0) w rest × (bs ≡ [])) ⊎ Counted (freedoms r) bs w rest
  unfolding bit_string_form
  varying_front bs w rest h = let v = varied_front (freedoms r) empty_bit_string false (maybe_empty bs) w rest h in go v.0 v.1 v.2
    where
      go : (e : Bool) → (e ≡ false) ⊎ IsTrue (freedoms r empty_bit_string) → Stands (freedoms r) (maybe_empty bs e) w rest →
          ((is_basic r ≡ true) × Stands (freedoms r) (length_form 0) w rest × (bs ≡ [])) ⊎ Counted (freedoms r) bs w rest
      go true (inl e) s = cc
      go true (inr t) s = let i = if_front (freedoms r) (length bs == 0) (length_form 0) w rest s in inl (sym (empty_bit_string_is_basic r) ∙ t, i.1, empty_bits bs (eqb-true _ _ i.0))
      go false a s = inr (counted_front (freedoms r) bs w rest s)

  pub no_bits : (w mid : List ℕ) (n : ℕ) (bs : List Bool) → bs ≡ [] → is_basic r ≡ true → n ≡ 0 → Stands (freedoms r) (length_form n) w mid → Stands (freedoms r) (bit_string_form false bs) w mid
  unfolding bit_string_form
  no_bits w mid n bs e b z h =
      varied_stands (freedoms r) empty_bit_string false true (maybe_empty bs) w mid (inr (empty_bit_string_is_basic r ∙ b))
      (if_stands (freedoms r) (length bs == 0) (length_form 0) w mid (eq-eqb _ _ (ap length e)) (subst (λ k. Stands (freedoms r) (length_form k) w mid) z h))

  pub some_bits : (w mid rest : List ℕ) (n u : ℕ) (bs : List Bool) (k : ℕ) → Stands (freedoms r) (length_form n) w (u ∷ mid) → octets_of k ≡ n →
      missing k ≡ u → Stands (freedoms r) (bits_in k bs) mid rest → Stands (freedoms r) (bit_string_form false bs) w rest
  unfolding bit_string_form
  some_bits w mid rest n u bs k h e f s =
      let i = if_front (freedoms r) (length bs == k) (bits_form bs) mid rest s in
      let l : length bs ≡ k = eqb-true _ _ i.0 in
      let a : n ≡ octets_of (length bs) = sym e ∙ ap octets_of (sym l) in
      let b : u ≡ missing (length bs) = sym f ∙ ap missing (sym l) in
      varied_stands (freedoms r) empty_bit_string false false (maybe_empty bs) w rest (inl refl)
      (counted_stands (freedoms r) bs w mid rest (subst (λ x. Stands (freedoms r) (length_form x) w (missing (length bs) ∷ mid)) a
      (subst (λ x. Stands (freedoms r) (length_form n) w (x ∷ mid)) b h)) i.1)

  -- ---- what read_varying refuses

  pub no_count : (w : List ℕ) → NoneStands (freedoms r) length_form w → NoneStands (freedoms r) (bit_string_form false) w
  no_count w n bs rest h = elim (varying_front bs w rest h) [ inl a ↦ n 0 rest a.1 | inr c ↦ n (octets_of (length bs)) (missing (length bs) ∷ c.behind) c.counts ]

  pub empty_count : (w mid : List ℕ) (n : ℕ) → n ≡ 0 → is_basic r ≡ false → Stands (freedoms r) (length_form n) w mid → NoneStands (freedoms r) (bit_string_form false) w
  empty_count w mid n z b h bs rest s = elim (varying_front bs w rest s) [
    | inl a ↦ false≢true (sym b ∙ a.0)
    | inr c ↦ let o = (length_one (freedoms r) n (octets_of (length bs)) w mid _ h c.counts).0 in absurd (omega (arith, z, o))
  ]

  -- if the length is not zero
  counted_only : (w mid : List ℕ) (n : ℕ) → (n ≡ 0 → ⊥) → Stands (freedoms r) (length_form n) w mid →
      ((bs : List Bool) (behind rest : List ℕ) → n ≡ octets_of (length bs) → mid ≡ missing (length bs) ∷ behind →
      Stands (freedoms r) (bits_form bs) behind rest → ⊥) → NoneStands (freedoms r) (bit_string_form false) w
  counted_only w mid n z h f bs rest s = elim (varying_front bs w rest s) [
    | inl a ↦ z (length_one (freedoms r) n 0 w mid rest h a.1).0
    | inr c ↦ let o = length_one (freedoms r) n (octets_of (length bs)) w mid (missing (length bs) ∷ c.behind) h c.counts in f bs c.behind rest o.0 o.1 c.bits
  ]

  pub few_octets : (w mid : List ℕ) (n : ℕ) → (n ≡ 0 → ⊥) → length mid < n → Stands (freedoms r) (length_form n) w mid → NoneStands (freedoms r) (bit_string_form false) w
  few_octets w mid n z l h = counted_only w mid n z h (λ bs behind rest e f s. let b = bits_long r bs behind rest s in
      let g : length mid ≡ length (missing (length bs) ∷ behind) = ap length f in absurd (omega (arith, e, g, l, b)))

  pub wrong_unused : (w mid new : List ℕ) (n u : ℕ) → (n ≡ 0 → ⊥) → mid ≡ u ∷ new → ((k : ℕ) → (k + 7) / 8 + 1 ≡ n → missing k ≡ u → ⊥) →
      Stands (freedoms r) (length_form n) w mid → NoneStands (freedoms r) (bit_string_form false) w
  wrong_unused w mid new n u z e f h = counted_only w mid n z h (λ bs behind rest g i s. f (length bs) (sym g) (let x : missing (length bs) ∷ behind ≡ u ∷ new = sym i ∙ e in cc))

  pub wrong_bits : (w mid new : List ℕ) (n u k : ℕ) → (n ≡ 0 → ⊥) → mid ≡ u ∷ new → (k + 7) / 8 + 1 ≡ n → missing k ≡ u →
      Stands (freedoms r) (length_form n) w mid → NoneStands (freedoms r) (bits_in k) new → NoneStands (freedoms r) (bit_string_form false) w
  wrong_bits w mid new n u k z e f g h none = counted_only w mid n z h (λ bs behind rest i j s.
      let x : missing (length bs) ∷ behind ≡ u ∷ new = sym j ∙ e in
      let y : missing (length bs) ≡ u = cc in
      let b : behind ≡ new = cc in
      let c : length bs ≡ k = same_count (length bs) k (sym i ∙ sym f) (y ∙ sym g) in
      none bs rest (if_stands (freedoms r) (length bs == k) (bits_form bs) new rest (eq-eqb _ _ c) (subst (λ v. Stands (freedoms r) (bits_form bs) v rest) b s)))

  pub varying_read : {X : Type 0} (e : Result X DecodeError) (bits : X → List Bool) (w mid new rest : List ℕ) (n u k : ℕ) → mid ≡ u ∷ new →
      (k + 7) / 8 + 1 ≡ n → missing k ≡ u → Stands (freedoms r) (length_form n) w mid →
      IfOk e (λ x. Stands (freedoms r) (bits_in k (bits x)) new rest) → IfOk e (λ x. Stands (freedoms r) (bit_string_form false (bits x)) w rest)
  varying_read (Ok x) bits w mid new rest n u k e f g h s = some_bits w new rest n u (bits x) k (subst (λ m. Stands (freedoms r) (length_form n) w m) e h) f g s
  varying_read (Err x) bits w mid new rest n u k e f g h s = tt

  pub varying_refused : {X : Type 0} (x : Result X DecodeError) (w mid new : List ℕ) (n u k : ℕ) → (n ≡ 0 → ⊥) → mid ≡ u ∷ new → (k + 7) / 8 + 1 ≡ n →
      missing k ≡ u → Stands (freedoms r) (length_form n) w mid → IfErr x (Misses (freedoms r) (bits_in k) new) → IfErr x (Misses (freedoms r) (bit_string_form false) w)
  varying_refused (Ok x) w mid new n u k z e f g h m = tt
  varying_refused (Err x) w mid new n u k z e f g h m = misses_also (freedoms r) (bits_in k) (bit_string_form false) new w x (wrong_bits w mid new n u k z e f g h) m

  -- ---- bits of a fixed size, or after a length determinant

  varying_one : (a b : List Bool) (w x y : List ℕ) → Stands (freedoms r) (bit_string_form false a) w x → Stands (freedoms r) (bit_string_form false b) w y → (a ≡ b) × (x ≡ y)
  varying_one a b w x y s t = go (varying_front a w x s) (varying_front b w y t)
    where
      go : ((is_basic r ≡ true) × Stands (freedoms r) (length_form 0) w x × (a ≡ [])) ⊎ Counted (freedoms r) a w x →
          ((is_basic r ≡ true) × Stands (freedoms r) (length_form 0) w y × (b ≡ [])) ⊎ Counted (freedoms r) b w y → (a ≡ b) × (x ≡ y)
      go (inl p) (inl q) = (p.2 ∙ sym q.2, (length_one (freedoms r) 0 0 w x y p.1 q.1).1)
      go (inl p) (inr c) = let o = (length_one (freedoms r) 0 (octets_of (length b)) w x _ p.1 c.counts).0 in absurd (omega (arith, o))
      go (inr c) (inl q) = let o = (length_one (freedoms r) 0 (octets_of (length a)) w y _ q.1 c.counts).0 in absurd (omega (arith, o))
      go (inr c) (inr d) =
          let o = length_one (freedoms r) (octets_of (length a)) (octets_of (length b)) w (missing (length a) ∷ c.behind) (missing (length b) ∷ d.behind) c.counts d.counts in
          let f = o.1 in
          let m : missing (length a) ≡ missing (length b) = cc in
          let g : c.behind ≡ d.behind = cc in
          let l : length a ≡ length b = same_count (length a) (length b) o.0 m in
          bits_one r (length b) a b d.behind x y
          (if_stands (freedoms r) (length a == length b) (bits_form a) d.behind x (eq-eqb _ _ l) (subst (λ v. Stands (freedoms r) (bits_form a) v x) g c.bits))
          (if_stands (freedoms r) (length b == length b) (bits_form b) d.behind y (eq-eqb _ _ refl) d.bits)

  sized_one : (size : Option ℕ) (a b : List Bool) (w x y : List ℕ) → Stands (freedoms r) (sized_bits size a) w x → Stands (freedoms r) (sized_bits size b) w y → (a ≡ b) × (x ≡ y)
  unfolding sized_bits
  sized_one (Some n) a b w x y s t = bits_one r n a b w x y s t
  sized_one None a b w x y s t = varying_one a b w x y s t

  pub of_size : (size : Option ℕ) (n : ℕ) (bs : List Bool) (w rest : List ℕ) → size ≡ Some n → Stands (freedoms r) (bits_in n bs) w rest → Stands (freedoms r) (sized_bits size bs) w rest
  unfolding sized_bits
  of_size (Some m) n bs w rest e h = let i : n ≡ m = cc in subst (λ k. Stands (freedoms r) (bits_in k bs) w rest) i h
  of_size None n bs w rest e h = cc

  pub none_of_size : (size : Option ℕ) (n : ℕ) (w : List ℕ) → size ≡ Some n → NoneStands (freedoms r) (bits_in n) w → NoneStands (freedoms r) (sized_bits size) w
  unfolding sized_bits
  none_of_size (Some m) n w e h bs rest s = let i : m ≡ n = cc in h bs rest (subst (λ k. Stands (freedoms r) (bits_in k bs) w rest) i s)
  none_of_size None n w e h bs rest s = cc

  pub of_any_size : (size : Option ℕ) (bs : List Bool) (w rest : List ℕ) → size ≡ None → Stands (freedoms r) (bit_string_form false bs) w rest → Stands (freedoms r) (sized_bits size bs) w rest
  unfolding sized_bits
  of_any_size (Some m) bs w rest e h = cc
  of_any_size None bs w rest e h = h

  pub none_of_any_size : (size : Option ℕ) (w : List ℕ) → size ≡ None → NoneStands (freedoms r) (bit_string_form false) w → NoneStands (freedoms r) (sized_bits size) w
  unfolding sized_bits
  none_of_any_size (Some m) w e h bs rest s = cc
  none_of_any_size None w e h bs rest s = h bs rest s

  -- ---- BIT STRING

  from_sized : (t : Bool) (low : ℕ) (bs : List Bool) (w rest : List ℕ) → Stands (freedoms r) (sized_bits (cond t (Some low) None) bs) w rest → Stands (freedoms r) (bit_string_form t bs) w rest
  unfolding sized_bits bit_string_form
  from_sized true low bs w rest h = (if_front (freedoms r) (length bs == low) (bits_form bs) w rest h).1
  from_sized false low bs w rest h = h

  to_sized : (t : Bool) (low : ℕ) (bs : List Bool) (w rest : List ℕ) → (t ≡ true → length bs ≡ low) →
      Stands (freedoms r) (bit_string_form t bs) w rest → Stands (freedoms r) (sized_bits (cond t (Some low) None) bs) w rest
  unfolding sized_bits bit_string_form
  to_sized true low bs w rest e h = if_stands (freedoms r) (length bs == low) (bits_form bs) w rest (eq-eqb _ _ (e refl)) h
  to_sized false low bs w rest e h = h

  string_front : (z : Size) (held : Counts) (v : Value) (w rest : List ℕ) → Stands (freedoms r) (form (bit_string z held) v) w rest →
      (bs : List Bool) × (admits z held (length bs) ≡ true) × Stands (freedoms r) (sized_bits (one_size z) bs) w rest
  unfolding form Reads
  string_front z held (bit_list bs) w rest h =
      let i = if_front (freedoms r) (admits z held (length bs)) (bit_string_form (is_fixed z) bs) w rest h in
      (bs, i.0, to_sized (is_fixed z) z.counts.low bs w rest (λ e. one_length z held (length bs) e i.0) i.1)
  string_front z held v w rest h = absurd h.2

  pub string_stands : (z : Size) (held : Counts) (size : Option ℕ) (n : ℕ) (bs : List Bool) (w rest : List ℕ) → size ≡ one_size z → n ≡ length bs →
      admits z held n ≡ true → Stands (freedoms r) (sized_bits size bs) w rest → Stands (freedoms r) (form (bit_string z held) (bit_list bs)) w rest
  unfolding form
  string_stands z held size n bs w rest e l a h =
      if_stands (freedoms r) (admits z held (length bs)) (bit_string_form (is_fixed z) bs) w rest (ap (admits z held) (sym l) ∙ a)
      (from_sized (is_fixed z) z.counts.low bs w rest (subst (λ s. Stands (freedoms r) (sized_bits s bs) w rest) e h))

  pub no_string : (z : Size) (held : Counts) (size : Option ℕ) (w : List ℕ) → size ≡ one_size z → NoneStands (freedoms r) (sized_bits size) w → NoneStands (freedoms r) (form (bit_string z held)) w
  no_string z held size w e n v rest h =
      let f = string_front z held v w rest h in
      n f.0 rest (subst (λ s. Stands (freedoms r) (sized_bits s f.0) w rest) (sym e) f.2)

  pub not_admitted : (z : Size) (held : Counts) (size : Option ℕ) (n : ℕ) (bs : List Bool) (w mid : List ℕ) → size ≡ one_size z → n ≡ length bs →
      admits z held n ≡ false → Stands (freedoms r) (sized_bits size bs) w mid → NoneStands (freedoms r) (form (bit_string z held)) w
  not_admitted z held size n bs w mid e l a h v rest s =
      let f = string_front z held v w rest s in
      let o = sized_one size bs f.0 w mid rest h (subst (λ s. Stands (freedoms r) (sized_bits s f.0) w rest) (sym e) f.2) in
      false≢true (sym a ∙ ap (admits z held) (l ∙ ap length o.0) ∙ f.1)
