-- What was written reads back.
use Rattle.std.proofs.Common.{◌≡◌, ℕ, ℤ, zero, suc, ◌+◌, ◌*◌, ◌%◌, ◌^◌, ◌<◌, ◌≤◌, Bool, true, false, cond, ◌&&◌, leb}
use Rattle.std.proofs.Common.{ltb, List, [], ◌∷◌, ◌++◌, length, map, take, drop, Option, Some, None, option_map, refl}
use Rattle.std.proofs.Common.{ap, sym, ◌∙◌, append_assoc, length-append, arith, subst}
use Rattle.std.specs.List.{AllByRecursion}
use Rattle.std.specs.List.Sorted.{IsStrictlyIncreasing}
use Rattle.std.proofs.lemmas.Bool.{ltb-true, leb-true}
use Rattle.std.proofs.lemmas.List.{take_at, drop_at, drop-drop}
use Rattle.std.proofs.Math.Nat.{mod-eq_of_lt}
use Rattle.asn1_model.specs.Numbers.{binary, octet_bits, complement, signed_octets}
use Rattle.asn1_values_bits.proofs.Binary.{length-binary, length-octet_bits}
use Rattle.asn1_values_bits.proofs.Packed.{number_binary}
use Rattle.asn1_values_natives.specs.Octets.{signed_number, signed_octets_of}
use Rattle.asn1_values_natives.proofs.TwosComplement.{signed-back, octets-complement, length-complement}
use Rattle.asn1_values_alphabets.specs.Codes.{CodedCharacters, code_of}
use Rattle.asn1_values_alphabets.proofs.Coded.{same_code, narrow}
use Rattle.asn1_values_alphabets.proofs.SingleRuns.{ascends}
use Rattle.asn1_values_fields.specs.declared.fault.FieldFaultKind.{FieldFaultKind}
use Rattle.asn1_values_fields.specs.declared.fault.FieldFaultKind.TheVariants.{DoesNotFit, Short, NotShortest, NoCharacter, Memory}
use Rattle.asn1_values_fields.specs.declared.field_bits.FieldBits.{FieldBits}
use Rattle.asn1_values_fields.specs.declared.field_bits.FieldBits.TheVariants.{Bits, Number, Octets, Whole, Characters}
use Rattle.asn1_values_fields.specs.declared.field_shape.FieldValue.{FieldValue}
use Rattle.asn1_values_fields.specs.declared.field_shape.FieldValue.TheVariants as value
use Rattle.asn1_values_fields.specs.Written.{both, codes_of, digits_of, bits_of_field, bits_of_fields}
use Rattle.asn1_values_fields.specs.Read.{width_of, IsValueOf, AreValuesOf, IsUnknownCode, IsUnreadable, IsFirstUnread}
use Rattle.asn1_values_fields.specs.ReadBack.{shape_of, IsSame, AreSame, IsField, AreFields, IsValue, AreValues}
use Rattle.asn1_values_fields.proofs.Shortest.{same_octets}
use Rattle.std.specs.Int.Digits.{number_from_digits_after}

some_of : {x w : List Bool} → Some x ≡ Some w → x ≡ w
some_of e = cc

-- ---- what is joined

-- two parts that exist, and their concatenation
record Parts (o p : Option (List Bool)) (w : List Bool) : Type 0 where
  front : List Bool
  rest : List Bool
  is_front : o ≡ Some front
  is_rest : p ≡ Some rest
  joined : w ≡ front ++ rest

parts : (o p : Option (List Bool)) (w : List Bool) → both o p ≡ Some w → Parts o p w
parts None p w e = cc
parts (Some x) None w e = cc
parts (Some x) (Some y) w e = record { front = x; rest = y; is_front = refl; is_rest = refl; joined = sym (some_of e) }

front_at : (p q : List Bool) (n : ℕ) → length p ≡ n → take n (p ++ q) ≡ p
front_at p q n h = take_at p q n h

back_at : (p q : List Bool) (n : ℕ) → length p ≡ n → drop n (p ++ q) ≡ q
back_at p q n h = drop_at p q n h

same_front : (p q r s : List Bool) → length p ≡ length r → p ++ q ≡ r ++ s → p ≡ r
same_front p q r s h e = sym (front_at p q (length p) refl) ∙ ap (take (length p)) e ∙ front_at r s (length p) (sym h)

same_back : (p q r s : List Bool) → length p ≡ length r → p ++ q ≡ r ++ s → q ≡ s
same_back p q r s h e = sym (back_at p q (length p) refl) ∙ ap (drop (length p)) e ∙ back_at r s (length p) (sym h)

-- ---- numbers

digits_there : (n m : ℕ) (w : List Bool) → digits_of n m ≡ Some w → (m ≤ 128) × (n < 2 ^ m) × (binary m n ≡ w)
digits_there n m w e = go (leb m 128) (ltb n (2 ^ m)) refl refl e
  where
    go : (p q : Bool) → leb m 128 ≡ p → ltb n (2 ^ m) ≡ q → cond (p && q) (Some (binary m n)) None ≡ Some w → (m ≤ 128) × (n < 2 ^ m) × (binary m n ≡ w)
    go true true p q h = (leb-true _ _ p, ltb-true _ _ q, some_of h)
    go true false p q h = cc
    go false true p q h = cc
    go false false p q h = cc

same_number : (m x n : ℕ) → x < 2 ^ m → n < 2 ^ m → binary m x ≡ binary m n → x ≡ n
same_number m x n h l e =
    let a : number_from_digits_after 2 0 (map (λ b. cond b 1 0) (binary m x)) ≡ x = number_binary m x 0 ∙ none (x % 2 ^ m) ∙ mod-eq_of_lt h in
    let b : number_from_digits_after 2 0 (map (λ b. cond b 1 0) (binary m n)) ≡ n = number_binary m n 0 ∙ none (n % 2 ^ m) ∙ mod-eq_of_lt l in
    sym a ∙ ap (λ d. number_from_digits_after 2 0 (map (λ b. cond b 1 0) d)) e ∙ b
  where
    none : (r : ℕ) → 0 * 2 ^ m + r ≡ r
    none r = omega arith

same_whole : (z y : ℤ) → signed_octets y ≡ signed_octets z → octet_bits (complement (signed_octets z) y) ≡ octet_bits (complement (signed_octets z) z) → y ≡ z
same_whole z y h e =
    let x : complement (signed_octets z) y ≡ complement (signed_octets z) z =
    same_octets (complement (signed_octets z) y) (complement (signed_octets z) z) (octets-complement (signed_octets z) y) (octets-complement (signed_octets z) z) e in
    let k : signed_octets_of y ≡ signed_octets_of z = ap (λ c. complement c y) h ∙ x in
    sym (signed-back y) ∙ ap signed_number k ∙ signed-back z

-- ---- characters

-- the code of a character of the alphabet
code_there : (a : CodedCharacters) (c : ℕ) (front : List Bool) → option_map (λ code. binary a.code_bits code) (code_of a c) ≡ Some front → (k : ℕ) ×
    (code_of a c ≡ Some k) × (front ≡ binary a.code_bits k)
code_there a c front e = go (code_of a c) refl e
  where
    go : (o : Option ℕ) → code_of a c ≡ o → option_map (λ code. binary a.code_bits code) o ≡ Some front → (k : ℕ) × (code_of a c ≡ Some k) × (front ≡ binary a.code_bits k)
    go None p h = cc
    go (Some k) p h = (k, p, sym (some_of h))

length_codes : (a : CodedCharacters) (cs : List ℕ) (w : List Bool) → codes_of a cs ≡ Some w → length w ≡ length cs * a.code_bits
length_codes a [] w e = ap length (sym (some_of e)) ∙ (omega arith)
length_codes a (c ∷ cs) w e =
    let p = parts (option_map (λ code. binary a.code_bits code) (code_of a c)) (codes_of a cs) w e in
    let k = code_there a c p.front p.is_front in
    ap length p.joined ∙ length-append p.front p.rest ∙ (omega (arith, ap length k.2, length-binary a.code_bits k.0, length_codes a cs p.rest p.is_rest))

same_codes : (a : CodedCharacters) (cs ds : List ℕ) (w : List Bool) → IsStrictlyIncreasing a.characters → length a.characters ≤ 2 ^ a.code_bits →
    codes_of a cs ≡ Some w → codes_of a ds ≡ Some w → length ds ≡ length cs → ds ≡ cs
same_codes a [] [] w s n e f h = refl
same_codes a [] (d ∷ ds) w s n e f h = absurd (omega arith)
same_codes a (c ∷ cs) [] w s n e f h = absurd (omega arith)
same_codes a (c ∷ cs) (d ∷ ds) w s n e f h =
    let p = parts (option_map (λ code. binary a.code_bits code) (code_of a c)) (codes_of a cs) w e in
    let q = parts (option_map (λ code. binary a.code_bits code) (code_of a d)) (codes_of a ds) w f in
    let k = code_there a c p.front p.is_front in
    let l = code_there a d q.front q.is_front in
    let long : length q.front ≡ length p.front = ap length l.2 ∙ length-binary a.code_bits l.0 ∙ sym (ap length k.2 ∙ length-binary a.code_bits k.0) in
    let all : q.front ++ q.rest ≡ p.front ++ p.rest = sym q.joined ∙ p.joined in
    let codes : l.0 ≡ k.0 = same_number a.code_bits l.0 k.0 (narrow a.characters a.code_bits d l.0 (ascends a.characters s) n l.1)
    (narrow a.characters a.code_bits c k.0 (ascends a.characters s) n k.1) (sym l.2 ∙ same_front q.front q.rest p.front p.rest long all ∙ k.2) in
    let first : d ≡ c = same_code a.characters a.code_bits d c k.0 (l.1 ∙ ap Some codes) k.1 in
    let rest : ds ≡ cs = same_codes a cs ds p.rest s n p.is_rest (q.is_rest ∙ ap Some (same_back q.front q.rest p.front p.rest long all)) (omega arith) in
    ap (λ x. x ∷ ds) first ∙ ap (λ l. c ∷ l) rest

-- each code of a character that was written is known
unknown_code : (a : CodedCharacters) (cs : List ℕ) (w more : List Bool) → IsStrictlyIncreasing a.characters → length a.characters ≤ 2 ^ a.code_bits →
    codes_of a cs ≡ Some w → (place : ℕ) → place < length cs → IsUnknownCode a (take a.code_bits (drop (place * a.code_bits) (w ++ more))) → ⊥
unknown_code a [] w more s n e place h u = absurd (omega arith)
unknown_code a (c ∷ cs) w more s n e zero h u =
    let p = parts (option_map (λ code. binary a.code_bits code) (code_of a c)) (codes_of a cs) w e in
    let k = code_there a c p.front p.is_front in
    let z : zero * a.code_bits ≡ 0 = omega arith in
    let long : length p.front ≡ a.code_bits = ap length k.2 ∙ length-binary a.code_bits k.0 in
    let seen : take a.code_bits (drop (zero * a.code_bits) (w ++ more)) ≡ p.front = ap (λ i. take a.code_bits (drop i (w ++ more))) z ∙
    ap (λ l. take a.code_bits (l ++ more)) p.joined ∙ ap (take a.code_bits) (append_assoc p.front p.rest more) ∙ front_at p.front (p.rest ++ more) a.code_bits long in
    let same : u.code ≡ k.0 = same_number a.code_bits u.code k.0 u.fits (narrow a.characters a.code_bits c k.0 (ascends a.characters s) n k.1) (sym u.digits ∙ seen ∙ k.2) in
    u.unknown c (k.1 ∙ ap Some (sym same))
unknown_code a (c ∷ cs) w more s n e (suc place) h u =
    let p = parts (option_map (λ code. binary a.code_bits code) (code_of a c)) (codes_of a cs) w e in
    let k = code_there a c p.front p.is_front in
    let b : ℕ = a.code_bits in
    let long : length p.front ≡ b = ap length k.2 ∙ length-binary b k.0 in
    let m : suc place * b ≡ b + place * b = omega arith in
    let behind : drop b (w ++ more) ≡ p.rest ++ more = ap (λ l. drop b (l ++ more)) p.joined ∙ ap (drop b) (append_assoc p.front p.rest more) ∙ back_at p.front (p.rest ++ more) b long in
    let seen : take b (drop (suc place * b) (w ++ more)) ≡ take b (drop (place * b) (p.rest ++ more)) = ap (λ i. take b (drop i (w ++ more))) m ∙
    ap (take b) (sym (drop-drop (place * b) b (w ++ more)) ∙ ap (drop (place * b)) behind) in
    let P : List Bool → Type 0 = λ l. IsUnknownCode a l in
    unknown_code a cs p.rest more s n p.is_rest place (omega arith) (subst P seen u)

-- ---- one field

field_width : (f : FieldBits) (w : List Bool) → bits_of_field f ≡ Some w → length w ≡ width_of (shape_of f)
field_width (Bits b) w e = ap length (sym (some_of e))
field_width (Number n m) w e = ap length (sym (digits_there n m w e).2) ∙ length-binary m n
field_width (Octets os) w e = ap length (sym (some_of e)) ∙ length-octet_bits os.now
field_width (Whole z) w e = ap length (sym (some_of e)) ∙ length-octet_bits (complement (signed_octets z.now) z.now) ∙ ap (λ k. k * 8) (length-complement (signed_octets z.now) z.now)
field_width (Characters a cs) w e = length_codes a.now cs.now w e

taken_front : (f : FieldBits) (w more : List Bool) → bits_of_field f ≡ Some w → take (width_of (shape_of f)) (w ++ more) ≡ w
taken_front f w more e = front_at w more (width_of (shape_of f)) (field_width f w e)

long_enough : (f : FieldBits) (w more : List Bool) → bits_of_field f ≡ Some w → length (w ++ more) < width_of (shape_of f) → ⊥
long_enough f w more e h = omega (arith, field_width f w e, length-append w more)

too_wide : (n m : ℕ) (w : List Bool) → digits_of n m ≡ Some w → 128 < m → ⊥
too_wide n m w e h = omega (arith, (digits_there n m w e).0)

same_field : (f : FieldBits) (v : FieldValue) (w : List Bool) → IsField f → IsValue v → bits_of_field f ≡ Some w → IsValueOf (shape_of f) v w → IsSame f v
same_field (Bits b) (value.Bits s) w h g e r = sym r.1 ∙ sym (some_of e)
same_field (Bits b) (value.Number x k) w h g e r = absurd r
same_field (Bits b) (value.Octets v) w h g e r = absurd r
same_field (Bits b) (value.Whole y) w h g e r = absurd r
same_field (Bits b) (value.Characters ds) w h g e r = absurd r
same_field (Number n m) (value.Bits s) w h g e r = absurd r
same_field (Number n m) (value.Number x k) w h g e r = (same_number m x n r.2 (digits_there n m w e).1 (sym r.3 ∙ sym (digits_there n m w e).2), r.1)
same_field (Number n m) (value.Octets v) w h g e r = absurd r
same_field (Number n m) (value.Whole y) w h g e r = absurd r
same_field (Number n m) (value.Characters ds) w h g e r = absurd r
same_field (Octets os) (value.Bits s) w h g e r = absurd r
same_field (Octets os) (value.Number x k) w h g e r = absurd r
same_field (Octets os) (value.Octets v) w h g e r = same_octets v.items os.now g h (sym r.1 ∙ sym (some_of e))
same_field (Octets os) (value.Whole y) w h g e r = absurd r
same_field (Octets os) (value.Characters ds) w h g e r = absurd r
same_field (Whole z) (value.Bits s) w h g e r = absurd r
same_field (Whole z) (value.Number x k) w h g e r = absurd r
same_field (Whole z) (value.Octets v) w h g e r = absurd r
same_field (Whole z) (value.Whole y) w h g e r = same_whole z.now y r.0 (sym r.1 ∙ sym (some_of e))
same_field (Whole z) (value.Characters ds) w h g e r = absurd r
same_field (Characters a cs) (value.Bits s) w h g e r = absurd r
same_field (Characters a cs) (value.Number x k) w h g e r = absurd r
same_field (Characters a cs) (value.Octets v) w h g e r = absurd r
same_field (Characters a cs) (value.Whole y) w h g e r = absurd r
same_field (Characters a cs) (value.Characters ds) w h g e r = same_codes a.now cs.now ds.items w h.0 h.1 e r.1 r.0

unreadable : (f : FieldBits) (w more : List Bool) (k : FieldFaultKind) → IsField f → bits_of_field f ≡ Some w → IsUnreadable (shape_of f) (w ++ more) k → k ≡ Memory
unreadable (Bits b) w more DoesNotFit h e r = absurd r
unreadable (Bits b) w more Short h e r = absurd (long_enough (Bits b) w more e r)
unreadable (Bits b) w more NotShortest h e r = absurd r
unreadable (Bits b) w more NoCharacter h e r = absurd r
unreadable (Bits b) w more Memory h e r = refl
unreadable (Number n m) w more DoesNotFit h e r = absurd (too_wide n m w e r)
unreadable (Number n m) w more Short h e r = absurd (long_enough (Number n m) w more e r.1)
unreadable (Number n m) w more NotShortest h e r = absurd r
unreadable (Number n m) w more NoCharacter h e r = absurd r
unreadable (Number n m) w more Memory h e r = refl
unreadable (Octets os) w more DoesNotFit h e r = absurd r
unreadable (Octets os) w more Short h e r = absurd (long_enough (Octets os) w more e r)
unreadable (Octets os) w more NotShortest h e r = absurd r
unreadable (Octets os) w more NoCharacter h e r = absurd r
unreadable (Octets os) w more Memory h e r = refl
unreadable (Whole z) w more DoesNotFit h e r = absurd r
unreadable (Whole z) w more Short h e r = absurd (long_enough (Whole z) w more e r)
unreadable (Whole z) w more NotShortest h e r = absurd (r.1 z.now refl (taken_front (Whole z) w more e ∙ sym (some_of e)))
unreadable (Whole z) w more NoCharacter h e r = absurd r
unreadable (Whole z) w more Memory h e r = refl
unreadable (Characters a cs) w more DoesNotFit h e r = absurd r
unreadable (Characters a cs) w more Short h e r = absurd (long_enough (Characters a cs) w more e r)
unreadable (Characters a cs) w more NotShortest h e r = absurd r
unreadable (Characters a cs) w more NoCharacter h e r = absurd (unknown_code a.now cs.now w more h.0 h.1 e r.1.place r.1.within r.1.there)
unreadable (Characters a cs) w more Memory h e r = refl

-- ---- all fields

pub read_back : (fs : List FieldBits) (vs : List FieldValue) (w behind left : List Bool) → AreFields fs → AreValues vs → bits_of_fields fs ≡ Some w →
    AreValuesOf (map shape_of fs) vs (w ++ behind) left → AreSame fs vs × (left ≡ behind)
read_back [] [] w behind left h g e r = (tt, sym r ∙ ap (λ l. l ++ behind) (sym (some_of e)))
read_back [] (v ∷ vs) w behind left h g e r = absurd r
read_back (f ∷ fs) [] w behind left h g e r = absurd r
read_back (f ∷ fs) (v ∷ vs) w behind left h g e r =
    let p = parts (bits_of_field f) (bits_of_fields fs) w e in
    let whole : w ++ behind ≡ p.front ++ (p.rest ++ behind) = ap (λ l. l ++ behind) p.joined ∙ append_assoc p.front p.rest behind in
    let seen : take (width_of (shape_of f)) (w ++ behind) ≡ p.front = ap (take (width_of (shape_of f))) whole ∙ taken_front f p.front (p.rest ++ behind) p.is_front in
    let after : drop (width_of (shape_of f)) (w ++ behind) ≡ p.rest ++ behind = ap (drop (width_of (shape_of f))) whole ∙
    back_at p.front (p.rest ++ behind) (width_of (shape_of f)) (field_width f p.front p.is_front) in
    let P : List Bool → Type 0 = λ l. IsValueOf (shape_of f) v l in
    let Q : List Bool → Type 0 = λ l. AreValuesOf (map shape_of fs) vs l left in
    let more = read_back fs vs p.rest behind left h.1 g.1 p.is_rest (subst Q after r.2) in
    ((same_field f v p.front h.0 g.0 p.is_front (subst P seen r.1), more.0), more.1)

pub not_refused : (fs : List FieldBits) (w behind : List Bool) (i : ℕ) (k : FieldFaultKind) → AreFields fs → bits_of_fields fs ≡ Some w → IsFirstUnread (map shape_of fs) (w ++ behind) i k → k ≡ Memory
not_refused [] w behind i k h e r = absurd r
not_refused (f ∷ fs) w behind zero k h e r =
    let p = parts (bits_of_field f) (bits_of_fields fs) w e in
    let whole : w ++ behind ≡ p.front ++ (p.rest ++ behind) = ap (λ l. l ++ behind) p.joined ∙ append_assoc p.front p.rest behind in
    let P : List Bool → Type 0 = λ l. IsUnreadable (shape_of f) l k in
    unreadable f p.front (p.rest ++ behind) k h.0 p.is_front (subst P whole r)
not_refused (f ∷ fs) w behind (suc i) k h e r =
    let p = parts (bits_of_field f) (bits_of_fields fs) w e in
    let whole : w ++ behind ≡ p.front ++ (p.rest ++ behind) = ap (λ l. l ++ behind) p.joined ∙ append_assoc p.front p.rest behind in
    let after : drop (width_of (shape_of f)) (w ++ behind) ≡ p.rest ++ behind = ap (drop (width_of (shape_of f))) whole ∙
    back_at p.front (p.rest ++ behind) (width_of (shape_of f)) (field_width f p.front p.is_front) in
    let P : List Bool → Type 0 = λ l. IsFirstUnread (map shape_of fs) l i k in
    not_refused fs p.rest behind i k h.1 p.is_rest (subst P after r.1)
