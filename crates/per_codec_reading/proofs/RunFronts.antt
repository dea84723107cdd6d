-- Units of one width after their length determinant: a length and as many units, and what comes after a fragment.
use Rattle.std.proofs.Common.{◌≡◌, ◌⊎◌, inl, inr, ℕ, ◌+◌, ◌*◌, ◌<◌, ◌≤◌, ◌==◌, leb, ltb, cond, ◌&&◌, Bool, true, false, List, [], ◌∷◌, ◌++◌, length, ap, sym, ◌∙◌, subst, arith, length-append}
use Rattle.std.proofs.lemmas.List.{append_cancel_left}
use Rattle.std.proofs.lemmas.Bool.{leb-true, eqb-true, eq-eqb, and_parts}
use Rattle.asn1_model.specs.Numbers.{binary}
use Rattle.asn1_model.specs.Form.{exactly, only_if}
use Rattle.asn1_model.specs.Per
use Rattle.asn1_laws_fronts.proofs.Fronts.{agree_exactly, agree_first, agree_if_right, agree_varied_right}
use Rattle.asn1_laws_fronts.proofs.PerNumbers.{Alike, at_octet_alike, binary_alike, bits_apart, short_length_alike}
use Rattle.per_codec_laws.specs.Takes.{Position, Front}
use Rattle.per_codec_laws.proofs.Fronts.{split, join, if_in, if_out, varied_in, varied_out, short_bound}
use Rattle.per_codec_laws.proofs.Next.{place_same}
use Rattle.per_codec_reading.specs.Fronts.{Leads}
use Rattle.per_codec_reading.specs.Lengths.{length_form}
use Rattle.per_codec_reading.specs.declared.length.Length.{Length}
use Rattle.per_codec_reading.specs.declared.length.Length.TheVariants.{Short, Fragment}
use Rattle.per_codec_reading.proofs.Fronts.{exactly_in, exactly_out}
use Rattle.per_codec_reading.specs.Units.{units_of, counted_units, count_of, Piece, piece_form, may_follow, length_may_follow}
use Rattle.per_codec_reading.proofs.LargestFirst.{AreKept, kept_at, kept_last, kept_more, kept_behind, fragment_refused}
use Rattle.per_codec_reading.proofs.UnitFronts.{Divided, length-units, last_in, last_out, more_in, more_out}

module _ (free : Per.Freedom → Bool) where
  -- ---- at most one prefix
  pub one : {x y : Per.BitForm} {P : Type 0} (a b c : Position) → Alike free x y P → Front free x a b → Front free y a c → P × (b ≡ c)
  one a b c h f g =
      let q = h.fronts a.0 f.text g.text b.1 c.1 f.has_form g.has_form (f.in_front ∙ sym g.in_front) in
      let l : length f.text ≡ length g.text = ap length q.0 in
      let m : a.0 + length f.text ≡ b.0 = f.moved in
      let n : a.0 + length g.text ≡ c.0 = g.moved in
      let r : f.text ++ b.1 ≡ f.text ++ c.1 = f.in_front ∙ sym g.in_front ∙ ap (λ t. t ++ c.1) (sym q.0) in
      (q.1, place_same b c (omega arith) (append_cancel_left f.text b.1 c.1 r))

  -- bits begin with at most one list of a given length
  pub leads_one : (xs ys : List Bool) (a b c : Position) → length xs ≡ length ys → Leads xs a b → Leads ys a c → (xs ≡ ys) × (b ≡ c)
  leads_one xs ys a b c e l m = one a b c (agree_exactly free xs ys e) (exactly_in free xs a b l) (exactly_in free ys a c m)

  -- ---- lengths
  abbrev head : ℕ → Per.BitForm
  head m = exactly (true ∷ true ∷ binary 6 m)

  abbrev last : Bool → ℕ → Per.BitForm
  last long n = cond long (only_if (ltb n 16384) (exactly (true ∷ false ∷ binary 14 n))) (only_if (ltb n 128) (exactly (false ∷ binary 7 n)))

  head_apart : (m n : ℕ) (b : Bool) → Alike free (head m) (last b n) ⊥
  head_apart m n true = agree_if_right free (ltb n 16384) {x = head m} {y = exactly (true ∷ false ∷ binary 14 n)} (λ h. agree_first free (λ e. bits_apart free))
  head_apart m n false = agree_if_right free (ltb n 128) {x = head m} {y = exactly (false ∷ binary 7 n)} (λ h. bits_apart free)

  head_or_last : (al : Bool) (m n : ℕ) → Alike free (Per.at_octet al (head m)) (Per.short_length al n) ⊥
  unfolding Per.short_length
  head_or_last al m n = at_octet_alike free al (agree_varied_right free (λ b. head_apart m n b))

  heads_alike : (al : Bool) (m n : ℕ) → m ≤ 4 → n ≤ 4 → Alike free (Per.at_octet al (head m)) (Per.at_octet al (head n)) (m ≡ n)
  heads_alike al m n h k = at_octet_alike free al (agree_first free (λ e. agree_first free (λ f. binary_alike free 6 m n (omega arith) (omega arith))))

  determinant_out : (al : Bool) (m : ℕ) (a b : Position) → Front free (length_form al (Fragment m)) a b → (m ≤ 4) × Front free (Per.at_octet al (head m)) a b
  determinant_out al m a b f = let i = if_out free (leb 1 m && leb m 4) _ a b f in (leb-true _ _ ((and_parts _ _ i.0).1), i.1)

  -- Bits begin with at most one length.
  pub length_one : (al : Bool) (l k : Length) (a b c : Position) → Front free (length_form al l) a b → Front free (length_form al k) a c → (l ≡ k) × (b ≡ c)
  length_one al (Short n) (Short m) a b c f g = let q = one a b c (short_length_alike free al n m) f g in (ap Short q.0, q.1)
  length_one al (Short n) (Fragment m) a b c f g = absurd ((one a c b (head_or_last al m n) (determinant_out al m a c g).1 f).0)
  length_one al (Fragment m) (Short n) a b c f g = absurd ((one a b c (head_or_last al m n) (determinant_out al m a b f).1 g).0)
  length_one al (Fragment m) (Fragment n) a b c f g =
      let i = determinant_out al m a b f in
      let j = determinant_out al n a c g in
      let q = one a b c (heads_alike al m n i.0 j.0) i.1 j.1 in
      (ap Fragment q.0, q.1)

  -- ---- pieces
  pub piece_in : (al : Bool) (w : ℕ) (l : Length) (bs : List Bool) (a mid b : Position) → Front free (length_form al l) a mid → Leads bs mid b →
      length bs ≡ count_of l * w → Front free (piece_form al w (l, bs)) a b
  piece_in al w l bs a mid b f h e = if_in free (length bs == count_of l * w) _ a b (eq-eqb _ _ e) (join free (length_form al l) (exactly bs) a mid b f (exactly_in free bs mid b h))

  pub piece_out : (al : Bool) (w : ℕ) (l : Length) (bs : List Bool) (a b : Position) → Front free (piece_form al w (l, bs)) a b →
      (length bs ≡ count_of l * w) × (mid : Position) × Front free (length_form al l) a mid × Leads bs mid b
  piece_out al w l bs a b f =
      let i = if_out free (length bs == count_of l * w) _ a b f in
      let s = split free (length_form al l) (exactly bs) a b i.1 in
      (eqb-true _ _ i.0, s.0, s.1, exactly_out free bs s.0 b s.2)

  pub piece_one : (al : Bool) (w : ℕ) (l k : Length) (xs ys : List Bool) (a b c : Position) → Front free (piece_form al w (l, xs)) a b →
      Front free (piece_form al w (k, ys)) a c → (l ≡ k) × (xs ≡ ys) × (b ≡ c)
  piece_one al w l k xs ys a b c f g =
      let p = piece_out al w l xs a b f in
      let q = piece_out al w k ys a c g in
      let o = length_one al l k a p.1 q.1 p.2 q.2 in
      let m : Leads ys p.1 c = subst (λ x. Leads ys x c) (sym o.1) q.3 in
      let e = leads_one xs ys p.1 b c (p.0 ∙ ap (λ x. count_of x * w) o.0 ∙ sym q.0) p.3 m in
      (o.0, e.0, e.1)

  pub no_length : (al : Bool) (w : ℕ) (a : Position) → ((l : Length) (b : Position) → Front free (length_form al l) a b → ⊥) → (x : Piece) (b : Position) → Front free (piece_form al w x) a b → ⊥
  no_length al w a n x b f = let p = piece_out al w x.0 x.1 a b f in n x.0 p.1 p.2

  pub too_few : (al : Bool) (w : ℕ) (l : Length) (a mid : Position) → Front free (length_form al l) a mid → length mid.1 < count_of l * w →
      (x : Piece) (b : Position) → Front free (piece_form al w x) a b → ⊥
  too_few al w l a mid h few x b f =
      let p = piece_out al w x.0 x.1 a b f in
      let o = length_one al l x.0 a mid p.1 h p.2 in
      let e : length x.1 ≡ count_of l * w = p.0 ∙ ap (λ k. count_of k * w) (sym o.0) in
      let i : x.1 ++ b.1 ≡ mid.1 = p.3.0 ∙ ap (λ m. m.1) (sym o.1) in
      let k = length-append x.1 b.1 in
      let j = ap length i in
      omega arith

  -- ---- all units
  -- how large lengths are
  multiple_bounds : (al : Bool) (m : ℕ) (a b : Position) → Front free (length_form al (Fragment m)) a b → (1 ≤ m) × (m ≤ 4)
  multiple_bounds al m a b f =
      let p = and_parts (leb 1 m) (leb m 4) (if_out free (leb 1 m && leb m 4) _ a b f).0 in
      (leb-true 1 m p.0, leb-true m 4 p.1)

  -- the units after a last length
  pub short_small : (al : Bool) (w n : ℕ) (bs : List Bool) (a b : Position) → Front free (piece_form al w (Short n, bs)) a b → n < 16384
  short_small al w n bs a b f = let p = piece_out al w (Short n) bs a b f in short_bound free al n a p.1 p.2

  -- the bits begin with n units after their length determinants, in fragments that the reader accepts
  pub record Run (al : Bool) (w n : ℕ) (bs : List Bool) (a b : Position) : Type 0 where
    pub sizes : List ℕ
    pub divided : Divided free al w sizes n bs a b
    pub kept : AreKept (free Per.other_fragments) sizes n

  pub run_last : (al : Bool) (w n : ℕ) (bs : List Bool) (a b : Position) → Front free (piece_form al w (Short n, bs)) a b → Run al w n bs a b
  run_last al w n bs a b f =
      let p = piece_out al w (Short n) bs a b f in
      record { sizes = []; divided = last_in free al w n bs a p.1 b p.0 p.2 p.3; kept = kept_last _ n (short_small al w n bs a b f) }

  pub run_more : (al : Bool) (w m n : ℕ) (xs ys : List Bool) (a mid b : Position) → may_follow (free Per.other_fragments) m n ≡ true →
      Front free (piece_form al w (Fragment m, xs)) a mid → Run al w n ys mid b → Run al w (m * 16384 + n) (xs ++ ys) a b
  run_more al w m n xs ys a mid b h f r =
      let p = piece_out al w (Fragment m) xs a mid f in
      let i = multiple_bounds al m a p.1 p.2 in
      record { sizes = m ∷ r.sizes; divided = more_in free al w m n r.sizes xs ys a p.1 mid b p.2 p.0 p.3 r.divided; kept = kept_more _ m n r.sizes i.0 i.1 h r.kept }

  -- the bits begin with a fragment and the units after it
  pub record Further (al : Bool) (w n : ℕ) (bs : List Bool) (a b : Position) : Type 0 where
    pub size : ℕ
    pub rest : ℕ
    pub first : List Bool
    pub further : List Bool
    pub mid : Position
    pub count : n ≡ size * 16384 + rest
    pub bits : bs ≡ first ++ further
    pub piece : Front free (piece_form al w (Fragment size, first)) a mid
    pub follows : may_follow (free Per.other_fragments) size rest ≡ true
    pub some : 1 ≤ size
    pub behind : Run al w rest further mid b

  pub run_cases : (al : Bool) (w n : ℕ) (bs : List Bool) (a b : Position) → Run al w n bs a b → Front free (piece_form al w (Short n, bs)) a b ⊎ Further al w n bs a b
  run_cases al w n bs a b r = go r.sizes r.divided r.kept
    where
      go : (ms : List ℕ) → Divided free al w ms n bs a b → AreKept (free Per.other_fragments) ms n → Front free (piece_form al w (Short n, bs)) a b ⊎ Further al w n bs a b
      go [] d k = let l = last_out free al w n bs a b d in inl (piece_in al w (Short n) bs a l.0 b l.1 l.2 d.size)
      go (m ∷ ms) d k =
          let x = more_out free al w m n ms bs a b d in
          let i = multiple_bounds al m a x.mid x.head in
          let j = kept_behind _ m x.rest ms i.0 i.1 (kept_at _ (m ∷ ms) n (m * 16384 + x.rest) x.count k) in
          inr (record {
            size = m;
            rest = x.rest;
            first = x.first;
            further = x.further;
            mid = x.next;
            count = x.count;
            bits = x.bits;
            piece = piece_in al w (Fragment m) x.first a x.mid x.next x.head x.leads x.size;
            follows = j.0;
            some = i.0;
            behind = record { sizes = ms; divided = x.behind; kept = j.1 };
          })

  abbrev pub NoRun : Bool → ℕ → Position → Type 0
  NoRun al w a = (n : ℕ) (bs : List Bool) (b : Position) → Run al w n bs a b → ⊥

  pub no_piece : (al : Bool) (w : ℕ) (a : Position) → ((x : Piece) (b : Position) → Front free (piece_form al w x) a b → ⊥) → NoRun al w a
  no_piece al w a h n bs b r = elim (run_cases al w n bs a b r) [ inl p ↦ h (Short n, bs) b p | inr f ↦ h (Fragment f.size, f.first) f.mid f.piece ]

  -- the bits begin with no units that may follow a fragment
  abbrev pub NoneAfter : Bool → ℕ → ℕ → Position → Type 0
  NoneAfter al w m a = (n : ℕ) (bs : List Bool) (b : Position) → may_follow (free Per.other_fragments) m n ≡ true → Run al w n bs a b → ⊥

  pub none_behind : (al : Bool) (w m : ℕ) (xs : List Bool) (a mid : Position) → Front free (piece_form al w (Fragment m, xs)) a mid → NoneAfter al w m mid → NoRun al w a
  none_behind al w m xs a mid p h n bs b r = elim (run_cases al w n bs a b r) [
    | inl q ↦ let o = piece_one al w (Fragment m) (Short n) xs bs a mid b p q in let e : Fragment m ≡ Short n = o.0 in cc
    | inr f ↦
        let o = piece_one al w (Fragment m) (Fragment f.size) xs f.first a mid f.mid p f.piece in
        let e : Fragment m ≡ Fragment f.size = o.0 in
        let s : f.size ≡ m = cc in
        h f.rest f.further b (subst (λ k. may_follow (free Per.other_fragments) k f.rest ≡ true) s f.follows) (subst (λ c. Run al w f.rest f.further c b) (sym o.2) f.behind)
  ]

  -- a fragment that may not follow
  pub none_refused : (al : Bool) (w l m : ℕ) (xs : List Bool) (a mid : Position) → Front free (piece_form al w (Fragment m, xs)) a mid →
      length_may_follow (free Per.other_fragments) l (Fragment m) ≡ false → NoneAfter al w l a
  none_refused al w l m xs a mid p h n bs b t r = elim (run_cases al w n bs a b r) [
    | inl q ↦ let o = piece_one al w (Fragment m) (Short n) xs bs a mid b p q in let e : Fragment m ≡ Short n = o.0 in cc
    | inr f ↦ let c = f.count in let s = f.some in fragment_refused _ l m n h (omega arith) t
  ]

  pub run_in : (al : Bool) (w n : ℕ) (bs : List Bool) (a b : Position) → Run al w n bs a b → Front free (counted_units al w (n, bs)) a b
  unfolding Per.counted
  run_in al w n bs a b r = if_in free (length bs == n * w) _ a b (eq-eqb _ _ r.divided.size)
      (varied_in free (λ ms. Per.fragments al ms (units_of w n bs)) r.sizes (kept_at _ r.sizes n (length (units_of w n bs)) (sym (length-units w n bs)) r.kept) a b r.divided.front)

  pub run_out : (al : Bool) (w n : ℕ) (bs : List Bool) (a b : Position) → Front free (counted_units al w (n, bs)) a b → Run al w n bs a b
  unfolding Per.counted
  run_out al w n bs a b f =
      let i = if_out free (length bs == n * w) _ a b f in
      let v = varied_out free (λ ms. Per.fragments al ms (units_of w n bs)) a b i.1 in
      record { sizes = v.0; divided = record { size = eqb-true _ _ i.0; front = v.2 }; kept = kept_at _ v.0 (length (units_of w n bs)) n (length-units w n bs) v.1 }
