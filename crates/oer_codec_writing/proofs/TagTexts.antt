-- The texts of enumeration values and of tags, and what their writers added.
use Rattle.std.proofs.Common.{◌≡◌, ℕ, ◌+◌, ◌*◌, ◌^◌, ◌<◌, ◌≤◌, ℤ, pos, negsuc, Bool, true, false, cond, ltb, leb, ◌&&◌}
use Rattle.std.proofs.Common.{List, [], ◌∷◌, ◌++◌, length, Option, Some, None, option_map, refl, ap, sym, ◌∙◌, arith}
use Rattle.std.proofs.Common.{append_assoc, ◌⊎◌, inl, inr}
use Rattle.std.proofs.lemmas.Bool.{lt-ltb, le-ltb, le-leb, lt-leb}
use lib.Signed.{mag, le_z, lt_z}
use lib.IntN.{nat_abs}
use Rattle.std.proofs.lemmas.Int.{ints}
use Rattle.asn1_model.specs.Form.{written, exactly, only_if, varied}
use Rattle.asn1_model.specs.Numbers.{signed_octets, complement}
use Rattle.asn1_model.specs.Oer
use Rattle.asn1_model.specs.Strings.{groups_of_seven}
use Rattle.asn1_schema_tags.specs.declared.tags.Tag.{Tag}
use Rattle.asn1_schema_tags.specs.Tags.{class_number, tag_of}
use Rattle.asn1_values_natives.specs.Octets.{signed_octets_of}
use Rattle.asn1_values_natives.proofs.TwosComplement.{length-complement}
use Rattle.asn1_values_natives.proofs.Widths.{signed_octets-le}

abbrev pub Added : Option (List ℕ) → List ℕ → List ℕ → Type 0
Added text old new = option_map (λ w. old ++ w) text ≡ Some new

pub is_added : (o : Option (List ℕ)) (w old new : List ℕ) → o ≡ Some w → new ≡ old ++ w → Added o old new
is_added o w old new e h = ap (option_map (λ x. old ++ x)) e ∙ ap Some (sym h)

-- ---- enumeration values

if_it_is : (t : Bool) (os : List ℕ) → t ≡ true → written {F = Oer.Freedom} {D = Oer.Detail} {A = ℕ} (only_if t (exactly os)) 0 ≡ Some os
unfolding written
if_it_is true os e = refl
if_it_is false os e = cc

in_one_octet : (t u : Bool) (k n : ℕ) → t ≡ true → u ≡ true →
    written {F = Oer.Freedom} {D = Oer.Detail} {A = ℕ} (varied Oer.longer_item (cond t None (Some k))
    (λ o. elim o [ None ↦ only_if u (exactly (n ∷ [])) | Some j ↦ Oer.long_item j (pos n) ])) 0 ≡ Some (n ∷ [])
unfolding written
in_one_octet true true k n e f = refl
in_one_octet true false k n e f = cc
in_one_octet false u k n e f = cc

short_text : (n : ℕ) → n < 128 → written (Oer.item_form (pos n)) 0 ≡ Some (n ∷ [])
unfolding Oer.item_form
short_text n h = in_one_octet (ltb n 128) (ltb n 128) (signed_octets (pos n)) n (lt-ltb _ _ h) (lt-ltb _ _ h)

not_below : (n : ℕ) → le_z (pos 0) (negsuc n) ≡ true → ⊥
not_below n h = cc

below_128 : (n : ℕ) → lt_z (pos n) (pos 128) ≡ true → n < 128
below_128 n h = omega (arith, ints, h)

from_128 : (n : ℕ) → lt_z (pos n) (pos 128) ≡ false → 128 ≤ n
from_128 n h = omega (arith, ints, h)

pub short_item : (v x : ℤ) (old new : List ℕ) → x ≡ v → le_z (pos 0) x ≡ true → lt_z x (pos 128) ≡ true → new ≡ old ++ nat_abs x ∷ [] → Added (written (Oer.item_form v) 0) old new
short_item (pos n) x old new e l h a = is_added _ (n ∷ []) old new (short_text n (below_128 n (ap (λ z. lt_z z (pos 128)) (sym e) ∙ h))) (a ∙ ap (λ z. old ++ nat_abs z ∷ []) e)
short_item (negsuc n) x old new e l h a = absurd (not_below n (ap (le_z (pos 0)) (sym e) ∙ l))

abbrev pub long_octets : ℤ → List ℕ
long_octets v = (128 + signed_octets v) ∷ signed_octets_of v

all_of : (a b : Bool) → a ≡ true → b ≡ true → (a && b) ≡ true
all_of true true x y = refl
all_of false b x y = x
all_of true false x y = y

in_some_octets : (k : ℕ) (v : ℤ) → k ≡ signed_octets v → k ≤ 127 → written (Oer.long_item k v) 0 ≡ Some ((128 + k) ∷ complement k v)
in_some_octets k v e h = if_it_is (leb (signed_octets v) k && leb k 127) ((128 + k) ∷ complement k v) (all_of _ _ (le-leb _ _ (omega (arith, e))) (le-leb _ _ h))

not_in_one : (t : Bool) (k n : ℕ) → t ≡ false → written {F = Oer.Freedom} {D = Oer.Detail} {A = ℕ}
    (varied Oer.longer_item (cond t None (Some k)) (λ o. elim o [ None ↦ Oer.short_item (pos n) | Some j ↦ Oer.long_item j (pos n) ])) 0 ≡ written (Oer.long_item k (pos n)) 0
unfolding written
not_in_one false k n e = refl
not_in_one true k n e = cc

negative : (n : ℕ) → written (Oer.item_form (negsuc n)) 0 ≡ written (Oer.long_item (signed_octets (negsuc n)) (negsuc n)) 0
unfolding written Oer.item_form
negative n = refl

positive : (n : ℕ) → 128 ≤ n → written (Oer.item_form (pos n)) 0 ≡ written (Oer.long_item (signed_octets (pos n)) (pos n)) 0
unfolding Oer.item_form
positive n h = not_in_one (ltb n 128) (signed_octets (pos n)) n (le-ltb _ _ h)

long_text : (v : ℤ) → signed_octets v ≤ 127 → ((n : ℕ) → v ≡ pos n → 128 ≤ n) → written (Oer.item_form v) 0 ≡ Some (long_octets v)
long_text (pos n) k h = positive n (h n refl) ∙ in_some_octets (signed_octets (pos n)) (pos n) refl k
long_text (negsuc n) k h = negative n ∙ in_some_octets (signed_octets (negsuc n)) (negsuc n) refl k

-- a number of 64 bits has at most eight octets
pub few_octets : (v : ℤ) → mag v < 2 ^ 63 → signed_octets v ≤ 8
few_octets (pos n) h = signed_octets-le (pos n) 7 (omega arith)
few_octets (negsuc n) h = signed_octets-le (negsuc n) 7 (omega arith)

pub length_octets : (v : ℤ) → length (signed_octets_of v) ≡ signed_octets v
length_octets v = length-complement (signed_octets v) v

pub number_octets : (v x : ℤ) (digits : List ℕ) → x ≡ v → digits ≡ signed_octets_of x → digits ≡ signed_octets_of v
number_octets v x digits e d = d ∙ ap signed_octets_of e

pub few_digits : (v x : ℤ) (n : ℕ) (digits : List ℕ) → mag v < 2 ^ 63 → x ≡ v → digits ≡ signed_octets_of x → n ≡ length digits → n ≤ 8
few_digits v x n digits f e d h = omega (arith, h, ap length (number_octets v x digits e d), length_octets v, few_octets v f)

-- a number outside 0 to 127
pub is_long : (v x : ℤ) → x ≡ v → (le_z (pos 0) x ≡ false) ⊎ (lt_z x (pos 128) ≡ false) → (n : ℕ) → v ≡ pos n → 128 ≤ n
is_long v x e (inl h) n d = let a : le_z (pos 0) (pos n) ≡ false = ap (le_z (pos 0)) (sym (e ∙ d)) ∙ h in absurd (not_from_0 a)
  where
    not_from_0 : le_z (pos 0) (pos n) ≡ false → ⊥
    not_from_0 h = omega (arith, ints, h)
is_long v x e (inr h) n d = from_128 n (ap (λ z. lt_z z (pos 128)) (sym (e ∙ d)) ∙ h)

pub long_item : (v : ℤ) (n : ℕ) (digits old mid new : List ℕ) → mag v < 2 ^ 63 → ((n : ℕ) → v ≡ pos n → 128 ≤ n) → digits ≡ signed_octets_of v →
    n ≡ length digits → mid ≡ old ++ (128 + n) ∷ [] → new ≡ mid ++ digits → Added (written (Oer.item_form v) 0) old new
long_item v n digits old mid new f h d e a b =
    let count : n ≡ signed_octets v = e ∙ ap length d ∙ length_octets v in
    is_added _ (long_octets v) old new (long_text v (omega (arith, few_octets v f)) h)
    (b ∙ ap (λ l. l ++ digits) a ∙ append_assoc old ((128 + n) ∷ []) digits ∙ ap (λ l. old ++ ((128 + n) ∷ l)) d ∙ ap (λ k. old ++ ((128 + k) ∷ signed_octets_of v)) count)

-- ---- tags

the_short : (l u : Bool) (x : Oer.OctetForm) (os : List ℕ) → l ≡ false → u ≡ true → written (varied Oer.long_tag l (λ long. cond long x (only_if u (exactly os)))) 0 ≡ Some os
unfolding written
the_short false true x os e f = refl
the_short false false x os e f = cc
the_short true u x os e f = cc

the_long : (l u : Bool) (x : Oer.OctetForm) (os : List ℕ) → l ≡ true → u ≡ true → written (varied Oer.long_tag l (λ long. cond long (only_if u (exactly os)) x)) 0 ≡ Some os
unfolding written
the_long true true x os e f = refl
the_long true false x os e f = cc
the_long false u x os e f = cc

short_tag_text : (t : Tag) → t.value < 63 → written (Oer.tag_form (tag_of t)) 0 ≡ Some ((class_number t.class * 64 + t.value) ∷ [])
unfolding Oer.tag_form
short_tag_text t h = the_short (leb 63 t.value) (ltb t.value 63) _ _ (lt-leb _ _ h) (lt-ltb _ _ h)

pub short_tag : (t : Tag) (c : ℕ) (old new : List ℕ) → c ≡ class_number t.class * 64 → t.value < 63 → new ≡ old ++ (c + t.value) ∷ [] → Added (written (Oer.tag_form (tag_of t)) 0) old new
short_tag t c old new e h a = is_added _ _ old new (short_tag_text t h) (a ∙ ap (λ k. old ++ (k + t.value) ∷ []) e)

long_tag_text : (t : Tag) → 63 ≤ t.value → written (Oer.tag_form (tag_of t)) 0 ≡ Some ((class_number t.class * 64 + 63) ∷ groups_of_seven t.value)
unfolding Oer.tag_form
long_tag_text t h = the_long (leb 63 t.value) (leb 1 t.value) _ _ (le-leb _ _ h) (le-leb _ _ (omega arith))

pub long_tag : (t : Tag) (c : ℕ) (old mid new : List ℕ) → c ≡ class_number t.class * 64 → 63 ≤ t.value → mid ≡ old ++ (c + 63) ∷ [] →
    new ≡ mid ++ groups_of_seven t.value → Added (written (Oer.tag_form (tag_of t)) 0) old new
long_tag t c old mid new e h a b =
    is_added _ _ old new (long_tag_text t h)
    (b ∙ ap (λ l. l ++ groups_of_seven t.value) a ∙ append_assoc old ((c + 63) ∷ []) (groups_of_seven t.value) ∙ ap (λ k. old ++ ((k + 63) ∷ groups_of_seven t.value)) e)
