-- One more character, from its code.
use Rattle.std.proofs.Common.{◌≡◌, ℕ, zero, suc, ◌+◌, ◌-◌, ◌*◌, ◌^◌, ◌<◌, ◌≤◌, Bool, true, List, [], ◌∷◌, ◌++◌, length}
use Rattle.std.proofs.Common.{take, drop, Option, Some, None, refl, ap, subst, sym, ◌∙◌, append_assoc, length-append}
use Rattle.std.proofs.Common.{length-drop, arith}
use Rattle.std.specs.Prelude.{flat_map, is_some, unwrap_or}
use Rattle.std.proofs.lemmas.Bool.{and_parts, and_from}
use Rattle.asn1_model.specs.Numbers.{binary, octet_bits}
use Rattle.asn1_model.specs.Schema.{StringKind}
use Rattle.std.specs.List.{list_all}
use Rattle.asn1_laws_fronts.proofs.PerNumbers.{binary_equal, length-binary}
use Rattle.asn1_values_alphabets.specs.Permitted.{permits}
use Rattle.per_codec_alphabets.specs.Codes.{Coded, code_of, has_code, text_of}
use Rattle.per_codec_reading_values.specs.CharacterCodes.{Spells, Stuck, IsFitting}

nothing_behind : (l : List Bool) → l ++ [] ≡ l
nothing_behind [] = refl
nothing_behind (b ∷ bs) = ap (λ l. b ∷ l) (nothing_behind bs)

spelled_end : (a : Coded) (cs : List ℕ) (c : ℕ) → flat_map (text_of a) (cs ++ c ∷ []) ≡ flat_map (text_of a) cs ++ text_of a c
spelled_end a [] c = nothing_behind (text_of a c)
spelled_end a (d ∷ cs) c = ap (λ l. text_of a d ++ l) (spelled_end a cs c) ∙ sym (append_assoc (text_of a d) (flat_map (text_of a) cs) (text_of a c))

each_end : (test : ℕ → Bool) (cs : List ℕ) (c : ℕ) → list_all test cs ≡ true → test c ≡ true → list_all test (cs ++ c ∷ []) ≡ true
each_end test [] c h e = and_from _ _ e refl
each_end test (d ∷ cs) c h e = let p = and_parts _ _ h in and_from _ _ p.0 (each_end test cs c p.1 e)

pub split_bits : (w : List Bool) (n : ℕ) → take n w ++ drop n w ≡ w
split_bits w zero = refl
split_bits [] (suc n) = refl
split_bits (b ∷ w) (suc n) = ap (λ l. b ∷ l) (split_bits w n)

-- The characters so far, and one more.
pub one_spelled : (k : StringKind) (a : Coded) (done now : List ℕ) (c n : ℕ) (w rest left : List Bool) → Spells k a done w → now ≡ done ++ c ∷ [] →
    permits k c ≡ true → code_of a c ≡ Some n → binary a.code_bits n ≡ take a.code_bits rest → Spells k a now (w ++ take a.code_bits rest)
one_spelled k a done now c n w rest left s e p f t =
    let b : text_of a c ≡ take a.code_bits rest = ap (λ o. binary a.code_bits (unwrap_or o 0)) f ∙ t in
    rw e (record {
      permitted = each_end (permits k) done c s.permitted p;
      coded = each_end (has_code a) done c s.coded (ap is_some f);
      spelled = spelled_end a done c ∙ ap (λ l. l ++ text_of a c) s.spelled ∙ ap (λ l. w ++ l) b;
    })

-- ---- its code determines the first of some characters
pub front : (x y : List Bool) (n : ℕ) → length x ≡ n → (take n (x ++ y) ≡ x) × (drop n (x ++ y) ≡ y)
front [] y zero e = (refl, refl)
front [] y (suc n) e = absurd (omega arith)
front (b ∷ x) y zero e = absurd (omega arith)
front (b ∷ x) y (suc n) e = let p = front x y n (omega arith) in (ap (λ l. b ∷ l) p.0, p.1)

has_some : (o : Option ℕ) → is_some o ≡ true → (m : ℕ) × (o ≡ Some m)
has_some (Some m) e = (m, refl)
has_some None e = cc

record First (k : StringKind) (a : Coded) (o : Option ℕ) (c : ℕ) (cs : List ℕ) (w : List Bool) : Type 0 where
  is : o ≡ Some c
  permitted : permits k c ≡ true
  others : Spells k a cs (drop a.code_bits w)

module _ (k : StringKind) (a : Coded) (fit : IsFitting a) (o : Option ℕ) (number : ℕ) (w : List Bool)
    (digits : binary a.code_bits number ≡ take a.code_bits w) (below : number < 2 ^ a.code_bits) (alone : (c : ℕ) → code_of a c ≡ Some number → permits k c ≡ true → o ≡ Some c) where
  first : (c : ℕ) (cs : List ℕ) → Spells k a (c ∷ cs) w → First k a o c cs w
  first c cs s =
      let p = and_parts _ _ s.permitted in
      let q = and_parts _ _ s.coded in
      let m = has_some (code_of a c) q.0 in
      let t : text_of a c ≡ binary a.code_bits m.0 = ap (λ x. binary a.code_bits (unwrap_or x 0)) m.1 in
      let f = front (text_of a c) (flat_map (text_of a) cs) a.code_bits (length-binary a.code_bits (unwrap_or (code_of a c) 0)) in
      let same : binary a.code_bits number ≡ binary a.code_bits m.0 = digits ∙ ap (take a.code_bits) (sym s.spelled) ∙ f.0 ∙ t in
      let equal : number ≡ m.0 = binary_equal a.code_bits number m.0 below (fit.fits c m.0 m.1) same in
      record {
        is = alone c (m.1 ∙ ap (λ n. Some n) (sym equal)) p.0;
        permitted = p.0;
        others = record { permitted = p.1; coded = q.1; spelled = sym f.1 ∙ ap (drop a.code_bits) s.spelled };
      }

  -- A code of no permitted character.
  pub no_character : (n : ℕ) → o ≡ None → Stuck k a (suc n) w
  no_character n e [] l s = absurd (omega arith)
  no_character n e (c ∷ cs) l s = let f = first c cs s in none_some (sym e ∙ f.is)
    where
      none_some : {x : ℕ} → None ≡ Some x → ⊥
      none_some q = cc

  -- What cannot continue cannot begin.
  pub stuck_before : (n : ℕ) → Stuck k a n (drop a.code_bits w) → Stuck k a (suc n) w
  stuck_before n h [] l s = absurd (omega arith)
  stuck_before n h (c ∷ cs) l s = let f = first c cs s in h cs (omega arith) f.others

-- What is read so far, and what is left.
pub record Begun (k : StringKind) (a : Coded) (count place : ℕ) (done : List ℕ) (rest codes : List Bool) : Type 0 where
  pub many : length done ≡ place
  pub read : List Bool
  pub spelled : Spells k a done read
  pub behind : read ++ rest ≡ codes
  pub left : length rest ≡ (count - place) * a.code_bits
  pub stuck : IsFitting a → Stuck k a (count - place) rest → Stuck k a count codes

pub begins : (k : StringKind) (a : Coded) (count : ℕ) (done : List ℕ) (codes : List Bool) → done ≡ [] → length codes ≡ count * a.code_bits → Begun k a count 0 done codes codes
begins k a count done codes e w =
    rw e (record {
      many = refl;
      read = [];
      spelled = record { permitted = refl; coded = refl; spelled = refl };
      behind = refl;
      left = w ∙ ap (λ n. n * a.code_bits) (less count);
      stuck = λ f s. subst (λ n. Stuck k a n codes) (sym (less count)) s;
    })
  where
    less : (n : ℕ) → n ≡ n - 0
    less n = omega arith

module _ (k : StringKind) (a : Coded) (count place : ℕ) (done : List ℕ) (rest codes : List Bool) (b : Begun k a count place done rest codes)
    (l : place < count) (o : Option ℕ) (number : ℕ) (digits : binary a.code_bits number ≡ take a.code_bits rest) (below : number < 2 ^ a.code_bits)
    (alone : (c : ℕ) → code_of a c ≡ Some number → permits k c ≡ true → o ≡ Some c) where
  one_left : count - place ≡ suc (count - (place + 1))
  one_left = omega arith

  pub ends_without : o ≡ None → IsFitting a → Stuck k a count codes
  ends_without e f = b.stuck f (subst (λ n. Stuck k a n rest) (sym one_left) (no_character k a f o number rest digits below alone (count - (place + 1)) e))

  pub goes_on : (d : ℕ) (now : List ℕ) (left : List Bool) → now ≡ done ++ d ∷ [] → permits k d ≡ true → code_of a d ≡ Some number →
      left ≡ drop a.code_bits rest → Begun k a count (place + 1) now left codes
  goes_on d now left e p c r =
      let m = b.many in
      rw r (record {
        many = ap length e ∙ length-append done (d ∷ []) ∙ (omega arith);
        read = b.read ++ take a.code_bits rest;
        spelled = one_spelled k a done now d number b.read rest left b.spelled e p c digits;
        behind = append_assoc b.read (take a.code_bits rest) (drop a.code_bits rest) ∙ ap (λ w. b.read ++ w) (split_bits rest a.code_bits) ∙ b.behind;
        left = length-drop a.code_bits rest ∙ ap (λ n. n - a.code_bits) (b.left ∙ ap (λ n. n * a.code_bits) one_left) ∙ fewer (count - (place + 1)) a.code_bits;
        stuck = λ f s. b.stuck f (subst (λ n. Stuck k a n rest) (sym one_left) (stuck_before k a f o number rest digits below alone (count - (place + 1)) s));
      })
    where
      fewer : (n w : ℕ) → suc n * w - w ≡ n * w
      fewer n w = omega arith

pub enough : (k : StringKind) (a : Coded) (count place : ℕ) (done : List ℕ) (rest codes : List Bool) → Begun k a count place done rest codes → place < count → a.code_bits ≤ length rest
enough k a count place done rest codes b l =
    let e : length rest ≡ suc (count - (place + 1)) * a.code_bits = b.left ∙ ap (λ n. n * a.code_bits) (omega arith) in
    at_least (length rest) (count - (place + 1)) a.code_bits e
  where
    at_least : (m n w : ℕ) → m ≡ suc n * w → w ≤ m
    at_least m n w e = omega arith

pub all_read : (k : StringKind) (a : Coded) (count place : ℕ) (done : List ℕ) (rest codes : List Bool) → Begun k a count place done rest codes →
    count ≤ place → place ≤ count → (length done ≡ count) × Spells k a done codes
all_read k a count place done rest codes b l h =
    let m = b.many in
    let z : count - place ≡ 0 = omega arith in
    let e : length rest ≡ 0 = b.left ∙ ap (λ n. n * a.code_bits) z ∙ no_bits a.code_bits in
    (omega arith, subst (Spells k a done) (sym (nothing_behind b.read) ∙ ap (λ w. b.read ++ w) (sym (empty rest e)) ∙ b.behind) b.spelled)
  where
    no_bits : (w : ℕ) → 0 * w ≡ 0
    no_bits w = omega arith

    empty : (w : List Bool) → length w ≡ 0 → w ≡ []
    empty [] e = refl
    empty (x ∷ w) e = absurd (omega arith)

-- ---- codes that are octets
pub octet_first : (os ns : List ℕ) (o : ℕ) → os ≡ o ∷ ns → (take 8 (octet_bits os) ≡ binary 8 o) × (drop 8 (octet_bits os) ≡ octet_bits ns)
octet_first os ns o e = rw e (front (binary 8 o) (octet_bits ns) 8 (length-binary 8 o))

pub octet_count : (os : List ℕ) → length (octet_bits os) ≡ length os * 8
octet_count [] = refl
octet_count (o ∷ os) = let i = octet_count os in length-append (binary 8 o) (octet_bits os) ∙ omega arith

module _ (a : Coded) (octet : a.code_bits ≡ 8) (os ns : List ℕ) (o : ℕ) (e : os ≡ o ∷ ns) where
  pub octet_digits : binary a.code_bits o ≡ take a.code_bits (octet_bits os)
  octet_digits = subst (λ w. binary w o ≡ take w (octet_bits os)) (sym octet) (sym (octet_first os ns o e).0)

  pub octet_behind : octet_bits ns ≡ drop a.code_bits (octet_bits os)
  octet_behind = subst (λ w. octet_bits ns ≡ drop w (octet_bits os)) (sym octet) (sym (octet_first os ns o e).1)

pub octet_below : (a : Coded) (o : ℕ) → a.code_bits ≡ 8 → o < 2 ^ 8 → o < 2 ^ a.code_bits
octet_below a o octet l = subst (λ w. o < 2 ^ w) (sym octet) l

pub octets_whole : (a : Coded) (os : List ℕ) → a.code_bits ≡ 8 → length (octet_bits os) ≡ length os * a.code_bits
octets_whole a os octet = subst (λ w. length (octet_bits os) ≡ length os * w) (sym octet) (octet_count os)

-- `count` codes of eight bits are `count` octets
pub octets_many : (a : Coded) (os : List ℕ) (count : ℕ) (codes : List Bool) → a.code_bits ≡ 8 → octet_bits os ≡ codes → length codes ≡ count * a.code_bits → length os ≡ count
octets_many a os count codes octet same whole =
    let l : length os * 8 ≡ count * 8 = sym (octet_count os) ∙ ap length same ∙ whole ∙ ap (λ w. count * w) octet in
    omega (arith, l)
