-- Bits that begin with units of one width: all of them, and those of their fragments.
use Rattle.std.proofs.Common.{◌≡◌, ℕ, zero, suc, ◌+◌, ◌-◌, ◌*◌, ◌≤◌, leb, ◌&&◌, Bool, true, List, [], ◌∷◌, ◌++◌, length, take, drop, refl, ap, sym, ◌∙◌, subst, arith, length-append}
use Rattle.std.proofs.lemmas.List.{nil_from_length, take-append-drop, take-append-le, drop-append-le, length-drop, length-take-le, take_at, drop_at}
use Rattle.std.proofs.lemmas.Bool.{leb-true, le-leb, and_parts, and_from}
use Rattle.std.proofs.Math.Nat.{suc-mul, add-mul}
use Rattle.asn1_model.specs.Numbers.{binary}
use Rattle.asn1_model.specs.Form.{Reads, exactly, both, joined}
use Rattle.asn1_model.specs.Per
use Rattle.asn1_laws_fronts.proofs.PerNumbers.{length_of_map}
use Rattle.per_codec_laws.specs.Takes.{Position, Front}
use Rattle.per_codec_laws.proofs.Fronts.{split, join, if_in, if_out}
use Rattle.per_codec_reading.specs.Fronts.{Leads}
use Rattle.per_codec_reading.specs.Lengths.{length_form}
use Rattle.per_codec_reading.specs.declared.length.Length.TheVariants.{Fragment}
use Rattle.per_codec_reading.specs.Units.{pieces, units_of}

-- ---- pieces

pub length-pieces : (w n : ℕ) (bs : List Bool) → length (pieces w n bs) ≡ n
length-pieces w zero bs = refl
length-pieces w (suc n) bs = ap suc (length-pieces w n (drop w bs))

pub length-units : (w n : ℕ) (bs : List Bool) → length (units_of w n bs) ≡ n
length-units w n bs = length_of_map (λ u. exactly u) (pieces w n bs) ∙ length-pieces w n bs

none_left : (w : ℕ) (bs : List Bool) → length bs ≡ zero * w → bs ≡ []
none_left w bs l = nil_from_length bs (omega arith)

rest_long : (w n : ℕ) (bs : List Bool) → length bs ≡ suc n * w → (w ≤ length bs) × (length (drop w bs) ≡ n * w)
rest_long w n bs l = let m = suc-mul n w in let d = length-drop w bs in (omega arith, omega arith)

-- the pieces of two lists, one after the other
units-append : (w k n : ℕ) (xs ys : List Bool) → length xs ≡ k * w → units_of w (k + n) (xs ++ ys) ≡ units_of w k xs ++ units_of w n ys
units-append w zero n xs ys l = let e : xs ≡ [] = none_left w xs l in let z : zero + n ≡ n = omega arith in rw e (ap (λ k. units_of w k ys) z)
units-append w (suc k) n xs ys l =
    let r = rest_long w k xs l in
    let a : take w (xs ++ ys) ≡ take w xs = take-append-le w xs ys r.0 in
    let b : drop w (xs ++ ys) ≡ drop w xs ++ ys = drop-append-le w xs ys r.0 in
    let i = units-append w k n (drop w xs) ys r.1 in
    let s : suc k + n ≡ suc (k + n) = omega arith in
    ap (λ m. units_of w m (xs ++ ys)) s ∙ rw (a, b, i) refl

first_units : (w k n : ℕ) (xs ys : List Bool) → length xs ≡ k * w → take k (units_of w (k + n) (xs ++ ys)) ≡ units_of w k xs
first_units w k n xs ys l = ap (take k) (units-append w k n xs ys l) ∙ take_at (units_of w k xs) (units_of w n ys) k (length-units w k xs)

further_units : (w k n : ℕ) (xs ys : List Bool) → length xs ≡ k * w → drop k (units_of w (k + n) (xs ++ ys)) ≡ units_of w n ys
further_units w k n xs ys l = ap (drop k) (units-append w k n xs ys l) ∙ drop_at (units_of w k xs) (units_of w n ys) k (length-units w k xs)

-- ---- prefixes
module _ (free : Per.Freedom → Bool) where
  joined_reads : (w n : ℕ) (bs : List Bool) (p : ℕ) → length bs ≡ n * w → Reads free (joined (units_of w n bs)) p bs
  unfolding Reads
  joined_reads w zero bs p l = sym (none_left w bs l)
  joined_reads w (suc n) bs p l = let r = rest_long w n bs l in (take w bs, drop w bs, refl, joined_reads w n (drop w bs) (p + length (take w bs)) r.1, take-append-drop w bs)

  joined_text : (w n : ℕ) (bs t : List Bool) (p : ℕ) → length bs ≡ n * w → Reads free (joined (units_of w n bs)) p t → t ≡ bs
  unfolding Reads
  joined_text w zero bs t p l r = sym r ∙ sym (none_left w bs l)
  joined_text w (suc n) bs t p l r =
      let s = rest_long w n bs l in
      let i = joined_text w n (drop w bs) r.1 (p + length r.0) s.1 r.3 in
      sym r.4 ∙ ap (λ y. r.0 ++ y) i ∙ ap (λ x. x ++ drop w bs) (sym r.2) ∙ take-append-drop w bs

  pub units_in : (w n : ℕ) (bs : List Bool) (a b : Position) → length bs ≡ n * w → Leads bs a b → Front free (joined (units_of w n bs)) a b
  units_in w n bs a b l h = record { text = bs; has_form = joined_reads w n bs a.0 l; in_front = h.0; moved = h.1 }

  pub units_out : (w n : ℕ) (bs : List Bool) (a b : Position) → length bs ≡ n * w → Front free (joined (units_of w n bs)) a b → Leads bs a b
  units_out w n bs a b l f =
      let e : f.text ≡ bs = joined_text w n bs f.text a.0 l f.has_form in
      (ap (λ t. t ++ b.1) (sym e) ∙ f.in_front, ap (λ t. a.0 + length t) (sym e) ∙ f.moved)

  -- ---- fragments
  -- units in fragments, each a multiple of 16384, and the rest after a short length determinant
  pub record Divided (al : Bool) (w : ℕ) (ms : List ℕ) (n : ℕ) (bs : List Bool) (a b : Position) : Type 0 where
    pub size : length bs ≡ n * w
    pub front : Front free (Per.fragments al ms (units_of w n bs)) a b

  pub last_in : (al : Bool) (w n : ℕ) (bs : List Bool) (a mid b : Position) → length bs ≡ n * w → Front free (Per.short_length al n) a mid → Leads bs mid b → Divided al w [] n bs a b
  unfolding Per.fragments
  last_in al w n bs a mid b l f h = record {
    size = l;
    front = join free (Per.short_length al (length (units_of w n bs))) (joined (units_of w n bs)) a mid b (rw (length-units w n bs) f) (units_in w n bs mid b l h);
  }

  pub last_out : (al : Bool) (w n : ℕ) (bs : List Bool) (a b : Position) → Divided al w [] n bs a b → (mid : Position) × Front free (Per.short_length al n) a mid × Leads bs mid b
  unfolding Per.fragments
  last_out al w n bs a b d =
      let s = split free (Per.short_length al (length (units_of w n bs))) (joined (units_of w n bs)) a b d.front in
      (s.0, subst (λ k. Front free (Per.short_length al k) a s.0) (length-units w n bs) s.1, units_out w n bs s.0 b d.size s.2)

  abbrev fits : ℕ → ℕ → Bool
  fits m n = leb 1 m && leb m 4 && leb (m * 16384) n

  abbrev more : Bool → ℕ → List ℕ → List Per.BitForm → Per.BitForm
  more al m ms us = both (Per.at_octet al (exactly (true ∷ true ∷ binary 6 m))) (both (joined (take (m * 16384) us)) (Per.fragments al ms (drop (m * 16384) us)))

  pub more_in : (al : Bool) (w m n : ℕ) (ms : List ℕ) (xs ys : List Bool) (a mid next b : Position) → Front free (length_form al (Fragment m)) a mid →
      length xs ≡ m * 16384 * w → Leads xs mid next → Divided al w ms n ys next b → Divided al w (m ∷ ms) (m * 16384 + n) (xs ++ ys) a b
  unfolding Per.fragments
  more_in al w m n ms xs ys a mid next b f l h d =
      let i = if_out free (leb 1 m && leb m 4) _ a mid f in
      let k = m * 16384 in
      let us = units_of w (k + n) (xs ++ ys) in
      let z : leb k (length us) ≡ true = le-leb k (length us) (let e = length-units w (k + n) (xs ++ ys) in omega arith) in
      let c : fits m (length us) ≡ true = and_from _ _ i.0 z in
      let t : Front free (joined (take k us)) mid next = rw (first_units w k n xs ys l) (units_in w k xs mid next l h) in
      let r : Front free (Per.fragments al ms (drop k us)) next b = rw (further_units w k n xs ys l) d.front in
      record {
        size = length-append xs ys ∙ (let e = d.size in let q = add-mul k n w in omega arith);
        front = if_in free (fits m (length us)) (more al m ms us) a b c (join free _ _ a mid b i.1 (join free _ _ mid next b t r));
      }

  -- a fragment, and what follows it
  pub record Behind (al : Bool) (w m : ℕ) (ms : List ℕ) (n : ℕ) (bs : List Bool) (a b : Position) : Type 0 where
    pub rest : ℕ
    pub first : List Bool
    pub further : List Bool
    pub mid : Position
    pub next : Position
    pub count : n ≡ m * 16384 + rest
    pub bits : bs ≡ first ++ further
    pub size : length first ≡ m * 16384 * w
    pub head : Front free (length_form al (Fragment m)) a mid
    pub leads : Leads first mid next
    pub behind : Divided al w ms rest further next b

  pub more_out : (al : Bool) (w m n : ℕ) (ms : List ℕ) (bs : List Bool) (a b : Position) → Divided al w (m ∷ ms) n bs a b → Behind al w m ms n bs a b
  unfolding Per.fragments
  more_out al w m n ms bs a b d =
      let us = units_of w n bs in
      let i = if_out free (fits m (length us)) (more al m ms us) a b d.front in
      let p = and_parts (leb 1 m && leb m 4) (leb (m * 16384) (length us)) i.0 in
      let k = m * 16384 in
      let z : k ≤ n = (let e = length-units w n bs in let f = leb-true _ _ p.1 in omega arith) in
      let r = n - k in
      let c : n ≡ k + r = omega arith in
      let j = k * w in
      let q : n * w ≡ j + r * w = ap (λ x. x * w) c ∙ add-mul k r w in
      let xs = take j bs in
      let ys = drop j bs in
      let e : xs ++ ys ≡ bs = take-append-drop j bs in
      let s = d.size in
      let l : length xs ≡ j = length-take-le j bs (omega arith) in
      let m' : length ys ≡ r * w = length-drop j bs ∙ omega arith in
      let u : us ≡ units_of w (k + r) (xs ++ ys) = ap (λ x. units_of w x bs) c ∙ ap (units_of w (k + r)) (sym e) in
      let f = split free (Per.at_octet al (exactly (true ∷ true ∷ binary 6 m))) _ a b i.1 in
      let g = split free (joined (take k us)) (Per.fragments al ms (drop k us)) f.0 b f.2 in
      let t : take k us ≡ units_of w k xs = ap (take k) u ∙ first_units w k r xs ys l in
      let v : drop k us ≡ units_of w r ys = ap (drop k) u ∙ further_units w k r xs ys l in
      record {
        rest = r;
        first = xs;
        further = ys;
        mid = f.0;
        next = g.0;
        count = c;
        bits = sym e;
        size = l;
        head = if_in free (leb 1 m && leb m 4) _ a f.0 p.0 f.1;
        leads = units_out w k xs f.0 g.0 l (subst (λ x. Front free (joined x) f.0 g.0) t g.1);
        behind = record { size = m'; front = subst (λ x. Front free (Per.fragments al ms x) g.0 b) v g.2 };
      }
