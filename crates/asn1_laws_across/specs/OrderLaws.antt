-- Laws of the order of the elements of a SET OF.
use Rattle.std.specs.Prelude.{◌≡◌, ◌≢◌, ℕ, ltb, Bool, true, false, List, ◌∷◌, ◌++◌, Option, Some, None, All}
use Rattle.std.specs.Prelude.{IsPermutation}
use Rattle.asn1_model.specs.Value.{Value, same}
use Rattle.asn1_model.specs.Schema.{Schema}
use Rattle.asn1_model.specs.Lawful.{IsLawful}
use Rattle.asn1_model.specs.Form.{stands_before, ascending, written}
use Rattle.asn1_model.specs.Per.{bit_less, BitForm, complete}
use Rattle.asn1_model.specs.Per
use Rattle.asn1_model.specs.Oer.{OctetForm}
use Rattle.asn1_model.specs.Oer
use Rattle.asn1_model.specs.Rules.{Rules, canonical}

-- irreflexive, transitive, and of two different elements one is less than the other
abbrev pub IsTotalOrder : {A : Type 0} → (A → A → Bool) → Type 0
IsTotalOrder {A} before =
    ((x : A) → before x x ≡ false) × ((x y z : A) → before x y ≡ true → before y z ≡ true → before x z ≡ true)
    × ((x y : A) → before x y ≡ false → before y x ≡ false → x ≡ y)

-- The order of the elements of a SET OF is a total order on their encodings, in octets and in bits.
abbrev pub EncodingsAreOrdered : Type 0
EncodingsAreOrdered =
    IsTotalOrder {A = List ℕ} (stands_before ltb) × IsTotalOrder {A = List Bool} (stands_before bit_less)

-- Equal values have the same canonical encoding, in whatever order the elements of their SET OF are given.
abbrev pub SameIsWrittenAlike : Type 0
SameIsWrittenAlike =
    (r : Rules) (s : Schema) (v w : Value) → IsLawful s → same v w ≡ true → canonical r s v ≡ canonical r s w

-- of two neighbours the second's key is not less than the first's
abbrev pub Ascends : {K X : Type 0} → (X → Option K) → (K → K → Bool) → List X → Type 0
Ascends {K} {X} key before ys =
    (front behind : List X) (x y : X) (k l : K) → front ++ x ∷ y ∷ behind ≡ ys → key x ≡ Some k → key y ≡ Some l
    → before l k ≡ false

-- The elements in ascending order are those that were given, each of which has a key, and they ascend. Such an order
-- exists if each has a key.
abbrev pub PutsInOrder : {K X : Type 0} → (X → Option K) → (K → K → Bool) → Type 0
PutsInOrder {K} {X} key before =
    (xs : List X) → ((ys : List X) → ascending key before xs ≡ Some ys → IsPermutation xs ys
    × All (λ y. key y ≢ None) ys × Ascends key before ys)
    × (All (λ x. key x ≢ None) xs → (ys : List X) × (ascending key before xs ≡ Some ys))

-- The elements of a SET OF are put in ascending order of their encodings, in octets and in bits.
abbrev pub MembersAscend : Type 0
MembersAscend =
    PutsInOrder (λ (x : OctetForm). written x 0) (stands_before ltb)
    × PutsInOrder (λ (x : BitForm). written (complete x) 0) (stands_before bit_less)

-- The encoding of a SET OF consists of the encodings of all its elements in ascending order.
abbrev pub BagsAreWrittenInOrder : Type 0
BagsAreWrittenInOrder =
    ((xs : List OctetForm) (f : List OctetForm → OctetForm) (p : ℕ) (w : List ℕ)
    → written (Oer.in_any_order xs f) p ≡ Some w → (ys : List OctetForm) × IsPermutation xs ys
    × Ascends (λ (x : OctetForm). written x 0) (stands_before ltb) ys × (written (f ys) p ≡ Some w))
    × ((xs : List BitForm) (f : List BitForm → BitForm) (p : ℕ) (w : List Bool)
    → written (Per.in_any_order xs f) p ≡ Some w → (ys : List BitForm) × IsPermutation xs ys
    × Ascends (λ (x : BitForm). written (complete x) 0) (stands_before bit_less) ys × (written (f ys) p ≡ Some w))
