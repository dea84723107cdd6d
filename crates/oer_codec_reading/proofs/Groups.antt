-- Numbers of tags, in groups of seven bits.
use Rattle.std.proofs.Common.{◌≡◌, ℕ, zero, suc, ◌+◌, ◌*◌, ◌/◌, ◌%◌, ◌^◌, ◌<◌, ◌≤◌, ltb, Bool, true, false, cond, List, [], ◌∷◌, ◌++◌, Option, Some, None, refl, ap, sym, ◌∙◌, append_assoc, arith}
use Rattle.std.proofs.lemmas.Bool.{lt-ltb, ltb-true, ltb-false}
use Rattle.asn1_model.specs.Strings.{groups_of_seven, is_octet}
use Rattle.asn1_values_identifiers.specs.Groups.{leading}
use Rattle.asn1_values_identifiers.proofs.Sevens.{leading_more, leading_one, groups_one, groups_more}
use Rattle.oer_codec_reading.specs.Tags.{is_wrong_group, number_behind}

-- ---- one octet

abbrev behind : ℕ → ℕ → List ℕ → Bool → Bool → Bool → Option (ℕ × List ℕ)
behind n o os w t u = cond w None (cond t (Some (n * 128 + o % 128, os)) (cond u (number_behind (n * 128 + o % 128) os) None))

pub stops : (n o : ℕ) (os : List ℕ) → is_wrong_group n (o % 128) ≡ false → o < 128 → number_behind n (o ∷ os) ≡ Some (n * 128 + o % 128, os)
stops n o os w l = ap (λ t. behind n o os t (ltb o 128) (is_octet o)) w ∙ ap (λ t. behind n o os false t (is_octet o)) (lt-ltb o 128 l)

not_below : (o : ℕ) → 128 ≤ o → ltb o 128 ≡ false
not_below o h = grind arith

pub goes_on : (n o : ℕ) (os : List ℕ) → is_wrong_group n (o % 128) ≡ false → 128 ≤ o → o < 256 → number_behind n (o ∷ os) ≡ number_behind (n * 128 + o % 128) os
goes_on n o os w l k = ap (λ t. behind n o os t (ltb o 128) (is_octet o)) w ∙ ap (λ t. behind n o os false t (is_octet o)) (not_below o l) ∙ ap (behind n o os false false) (lt-ltb o 256 k)

no_octet : (n o : ℕ) (os : List ℕ) → is_wrong_group n (o % 128) ≡ false → 128 ≤ o → is_octet o ≡ false → number_behind n (o ∷ os) ≡ None
no_octet n o os w l k = ap (λ t. behind n o os t (ltb o 128) (is_octet o)) w ∙ ap (λ t. behind n o os false t (is_octet o)) (not_below o l) ∙ ap (behind n o os false false) k

pub goes_wrong : (n o : ℕ) (os : List ℕ) → is_wrong_group n (o % 128) ≡ true → number_behind n (o ∷ os) ≡ None
goes_wrong n o os w = ap (λ t. behind n o os t (ltb o 128) (is_octet o)) w

right_group : (n g : ℕ) → 0 < n * 128 + g → n < 2 ^ 25 → is_wrong_group n g ≡ false
right_group n g h l = grind arith

right_parts : (n g : ℕ) → is_wrong_group n g ≡ false → (0 < n * 128 + g) × (n < 2 ^ 25)
right_parts n g e = (grind arith, grind arith)

-- ---- what is read was written

-- the octets of the groups that were read
abbrev pub begun : ℕ → List ℕ
begun zero = []
begun (suc n) = leading (suc n)

begun_is : (n : ℕ) → 0 < n → begun n ≡ leading n
begun_is zero h = absurd (omega arith)
begun_is (suc n) h = refl

begun_more : (n o : ℕ) (os : List ℕ) → 0 < n * 128 + o % 128 → 128 ≤ o → o < 256 → begun n ++ (o ∷ os) ≡ begun (n * 128 + o % 128) ++ os
begun_more zero o os p h k =
    let e : 128 + o % 128 ≡ o = omega arith in
    let f : 0 * 128 + o % 128 ≡ o % 128 = omega arith in
    let q : 0 < o % 128 = omega arith in
    sym (ap (λ m. begun m ++ os) f ∙ ap (λ (l : List ℕ). l ++ os) (begun_is (o % 128) q ∙ leading_one (o % 128) q (omega arith) ∙ ap (λ m. m ∷ []) e))
begun_more (suc m) o os p h k =
    let n = suc m in
    let q : (suc m * 128 + o % 128) / 128 ≡ suc m = omega arith in
    let r : (suc m * 128 + o % 128) % 128 + 128 ≡ o = omega arith in
    let l : leading (suc m * 128 + o % 128) ≡ leading (suc m) ++ o ∷ [] = leading_more (suc m * 128 + o % 128) p ∙
    ap (λ x. leading x ++ ((suc m * 128 + o % 128) % 128 + 128) ∷ []) q ∙ ap (λ x. leading (suc m) ++ x ∷ []) r in
    sym (ap (λ (t : List ℕ). t ++ os) (begun_is (suc m * 128 + o % 128) p ∙ l) ∙ append_assoc (leading (suc m)) (o ∷ []) os)

begun_ended : (n o : ℕ) (os : List ℕ) → o < 128 → begun n ++ (o ∷ os) ≡ groups_of_seven (n * 128 + o % 128) ++ os
begun_ended zero o os h =
    let f : 0 * 128 + o % 128 ≡ o = omega arith in
    sym (ap (λ m. groups_of_seven m ++ os) f ∙ ap (λ (l : List ℕ). l ++ os) (groups_one o h))
begun_ended (suc m) o os h =
    let q : (suc m * 128 + o % 128) / 128 ≡ suc m = omega arith in
    let r : (suc m * 128 + o % 128) % 128 ≡ o = omega arith in
    let l : groups_of_seven (suc m * 128 + o % 128) ≡ leading (suc m) ++ o ∷ [] = groups_more (suc m * 128 + o % 128) (omega arith) ∙
    ap (λ x. leading x ++ ((suc m * 128 + o % 128) % 128) ∷ []) q ∙ ap (λ x. leading (suc m) ++ x ∷ []) r in
    sym (ap (λ (t : List ℕ). t ++ os) l ∙ append_assoc (leading (suc m)) (o ∷ []) os)

-- A number that is read comes first, and fits in 32 bits.
pub record Read (n m : ℕ) (os rest : List ℕ) : Type 0 where
  pub some : 1 ≤ m
  pub fits : m < 2 ^ 32
  pub text : groups_of_seven m ++ rest ≡ begun n ++ os

pub same_read : (x y : ℕ × List ℕ) → Some x ≡ Some y → x ≡ y
same_read x y e = cc e

none_read : (y : ℕ × List ℕ) → None ≡ Some y → ⊥
none_read y e = cc e

pub number_read : (os : List ℕ) (n m : ℕ) (rest : List ℕ) → number_behind n os ≡ Some (m, rest) → Read n m os rest
number_read [] n m rest e = absurd (none_read (m, rest) e)
number_read (o ∷ os) n m rest e = go (is_wrong_group n (o % 128)) refl (ltb o 128) refl (is_octet o) refl (λ f. number_read os (n * 128 + o % 128) m rest f)
  where
    go : (w : Bool) → is_wrong_group n (o % 128) ≡ w → (t : Bool) → ltb o 128 ≡ t → (u : Bool) → is_octet o ≡ u →
        (number_behind (n * 128 + o % 128) os ≡ Some (m, rest) → Read (n * 128 + o % 128) m os rest) → Read n m (o ∷ os) rest
    go true w t l u k further = absurd (none_read (m, rest) (sym (goes_wrong n o os w) ∙ e))
    go false w true l u k further =
        let h : o < 128 = ltb-true o 128 l in
        let p = right_parts n (o % 128) w in
        let f = same_read (n * 128 + o % 128, os) (m, rest) (sym (stops n o os w h) ∙ e) in
        let i : n * 128 + o % 128 ≡ m = ap (λ (q : ℕ × List ℕ). q.0) f in
        let j : os ≡ rest = ap (λ (q : ℕ × List ℕ). q.1) f in
        let x = p.0 in
        let y = p.1 in
        record {
          some = omega (arith, x, i);
          fits = omega (arith, y, i);
          text = ap (λ k. groups_of_seven k ++ rest) (sym i) ∙
              ap (λ l. groups_of_seven (n * 128 + o % 128) ++ l) (sym j) ∙ sym (begun_ended n o os h);
        }
    go false w false l false k further = absurd (none_read (m, rest) (sym (no_octet n o os w (ltb-false o 128 l) k) ∙ e))
    go false w false l true k further =
        let h : 128 ≤ o = ltb-false o 128 l in
        let p = right_parts n (o % 128) w in
        let r = further (sym (goes_on n o os w h (ltb-true o 256 k)) ∙ e) in
        record { some = r.some; fits = r.fits; text = r.text ∙ sym (begun_more n o os p.0 h (ltb-true o 256 k)) }

-- ---- what is written is read

leading_read : (most n : ℕ) (os : List ℕ) → n ≤ most → 0 < n → n < 2 ^ 32 → number_behind 0 (leading n ++ os) ≡ number_behind n os
leading_read zero n os h p f = absurd (omega arith)
leading_read (suc most) n os h p f = go (ltb n 128) refl (λ further l k. leading_read most (n / 128) further l k (omega arith))
  where
    go : (t : Bool) → ltb n 128 ≡ t → ((further : List ℕ) → n / 128 ≤ most → 0 < n / 128 → number_behind 0 (leading (n / 128) ++ further)
        ≡ number_behind (n / 128) further) → number_behind 0 (leading n ++ os) ≡ number_behind n os
    go true e r =
        let l : n < 128 = ltb-true n 128 e in
        let m : 0 * 128 + (128 + n) % 128 ≡ n = omega arith in
        ap (λ (x : List ℕ). number_behind 0 (x ++ os)) (leading_one n p l)
        ∙ goes_on 0 (128 + n) os (right_group 0 ((128 + n) % 128) (omega arith) (omega arith)) (omega arith) (omega arith) ∙ ap (λ k. number_behind k os) m
    go false e r =
        let l : 128 ≤ n = ltb-false n 128 e in
        let o : ℕ = n % 128 + 128 in
        let m : n / 128 * 128 + (n % 128 + 128) % 128 ≡ n = omega arith in
        ap (λ (x : List ℕ). number_behind 0 (x ++ os)) (leading_more n p)
        ∙ ap (number_behind 0) (append_assoc (leading (n / 128)) ((n % 128 + 128) ∷ []) os)
        ∙ r ((n % 128 + 128) ∷ os) (omega arith) (omega arith)
        ∙ goes_on (n / 128) (n % 128 + 128) os (right_group (n / 128) ((n % 128 + 128) % 128) (omega arith) (omega arith)) (omega arith) (omega arith) ∙ ap (λ k. number_behind k os) m

pub group_read : (n : ℕ) (os : List ℕ) → 1 ≤ n → n < 2 ^ 32 → number_behind 0 (groups_of_seven n ++ os) ≡ Some (n, os)
group_read n os p f = go (ltb n 128) refl
  where
    go : (t : Bool) → ltb n 128 ≡ t → number_behind 0 (groups_of_seven n ++ os) ≡ Some (n, os)
    go true e =
        let l : n < 128 = ltb-true n 128 e in
        let m : 0 * 128 + n % 128 ≡ n = omega arith in
        ap (λ (x : List ℕ). number_behind 0 (x ++ os)) (groups_one n l)
        ∙ stops 0 n os (right_group 0 (n % 128) (omega arith) (omega arith)) l ∙ ap (λ k. Some (k, os)) m
    go false e =
        let l : 128 ≤ n = ltb-false n 128 e in
        let m : n / 128 * 128 + n % 128 % 128 ≡ n = omega arith in
        ap (λ (x : List ℕ). number_behind 0 (x ++ os)) (groups_more n l)
        ∙ ap (number_behind 0) (append_assoc (leading (n / 128)) (n % 128 ∷ []) os)
        ∙ leading_read (n / 128) (n / 128) (n % 128 ∷ os) (omega arith) (omega arith) (omega arith)
        ∙ stops (n / 128) (n % 128) os (right_group (n / 128) (n % 128 % 128) (omega arith) (omega arith)) (omega arith) ∙ ap (λ k. Some (k, os)) m
