-- Fields read one after the other.
use Rattle.std.proofs.Common.{◌≡◌, ℕ, zero, suc, ◌+◌, ◌≤◌, Bool, List, [], ◌∷◌, ◌++◌, length, take, drop, refl, ap, sym, ◌∙◌, append_assoc, append-nil, arith, subst}
use Rattle.asn1_values_fields.specs.declared.fault.FieldFaultKind.{FieldFaultKind}
use Rattle.asn1_values_fields.specs.declared.fault.FieldFaultKind.TheVariants.{Memory}
use Rattle.asn1_values_fields.specs.declared.field_shape.FieldShape.{FieldShape}
use Rattle.asn1_values_fields.specs.declared.field_shape.FieldShape.TheVariants as shape
use Rattle.asn1_values_fields.specs.declared.field_shape.FieldValue.{FieldValue}
use Rattle.asn1_values_fields.specs.Read.{width_of, IsValueOf, IsUnreadable, AreValuesOf, IsFirstUnread}

-- memory can run out at any shape
pub memory_wanted : (s : FieldShape) (bits : List Bool) → IsUnreadable s bits Memory
memory_wanted (shape.Bits n) bits = tt
memory_wanted (shape.Number n) bits = tt
memory_wanted (shape.Octets n) bits = tt
memory_wanted (shape.Whole n) bits = tt
memory_wanted (shape.Characters a n) bits = tt

-- the first error from an index on, with the bits that are left there
abbrev pub Stuck : List FieldShape → List Bool → ℕ → List Bool → Type 0
Stuck ss all i bits = (n : ℕ) (k : FieldFaultKind) → IsFirstUnread (drop i ss) bits n k → IsFirstUnread ss all (i + n) k

abbrev pub Done : List FieldShape → List Bool → ℕ → List Bool → List FieldValue → Type 0
Done ss all i bits values = (vs : List FieldValue) (rest : List Bool) → AreValuesOf (drop i ss) vs bits rest → AreValuesOf ss (values ++ vs) all rest

pub unread_here : (ss : List FieldShape) (all bits : List Bool) (i : ℕ) (s : FieldShape) (rest : List FieldShape) (k : FieldFaultKind) →
    drop i ss ≡ s ∷ rest → Stuck ss all i bits → IsUnreadable s bits k → IsFirstUnread ss all i k
unread_here ss all bits i s rest k e stuck w =
    let P : ℕ → Type 0 = λ n. IsFirstUnread ss all n k in
    let Q : List FieldShape → Type 0 = λ l. IsFirstUnread l bits 0 k in
    let m : i + 0 ≡ i = omega arith in
    subst P m (stuck 0 k (subst Q (sym e) w))

pub unread_later : (ss : List FieldShape) (all bits new : List Bool) (i : ℕ) (s : FieldShape) (rest : List FieldShape) (v : FieldValue) →
    drop i ss ≡ s ∷ rest → Stuck ss all i bits → IsValueOf s v (take (width_of s) bits) → new ≡ drop (width_of s) bits →
    (n : ℕ) (k : FieldFaultKind) → IsFirstUnread rest new n k → IsFirstUnread ss all (i + 1 + n) k
unread_later ss all bits new i s rest v e stuck h f n k w =
    let P : ℕ → Type 0 = λ m. IsFirstUnread ss all m k in
    let Q : List FieldShape → Type 0 = λ l. IsFirstUnread l bits (suc n) k in
    let R : List Bool → Type 0 = λ b. IsFirstUnread rest b n k in
    let m : i + suc n ≡ i + 1 + n = omega arith in
    subst P m (stuck (suc n) k (subst Q (sym e) ((v, h), subst R f w)))

pub read_later : (ss : List FieldShape) (all bits new : List Bool) (i : ℕ) (s : FieldShape) (rest : List FieldShape) (v : FieldValue)
    (values items : List FieldValue) → drop i ss ≡ s ∷ rest → Done ss all i bits values → IsValueOf s v (take (width_of s) bits) →
    width_of s ≤ length bits → new ≡ drop (width_of s) bits → items ≡ values ++ v ∷ [] → (vs : List FieldValue) (left : List Bool) →
    AreValuesOf rest vs new left → AreValuesOf ss (items ++ vs) all left
read_later ss all bits new i s rest v values items e done h l f g vs left w =
    let P : List FieldValue → Type 0 = λ m. AreValuesOf ss m all left in
    let Q : List FieldShape → Type 0 = λ m. AreValuesOf m (v ∷ vs) bits left in
    let R : List Bool → Type 0 = λ b. AreValuesOf rest vs b left in
    let m : values ++ (v ∷ vs) ≡ items ++ vs = sym (append_assoc values (v ∷ []) vs) ∙ ap (λ x. x ++ vs) (sym g) in
    subst P m (done (v ∷ vs) left (subst Q (sym e) (l, h, subst R f w)))

drop_all : (ss : List FieldShape) (i : ℕ) → length ss ≤ i → drop i ss ≡ []
drop_all [] zero h = refl
drop_all [] (suc i) h = refl
drop_all (s ∷ ss) zero h = absurd (omega arith)
drop_all (s ∷ ss) (suc i) h = drop_all ss i (omega arith)

pub read_whole_list : (ss : List FieldShape) (all bits : List Bool) (i : ℕ) (values : List FieldValue) → length ss ≤ i → Done ss all i bits values → AreValuesOf ss values all bits
read_whole_list ss all bits i values h done =
    let P : List FieldValue → Type 0 = λ m. AreValuesOf ss m all bits in
    let Q : List FieldShape → Type 0 = λ m. AreValuesOf m [] bits bits in
    subst P (append-nil values) (done [] bits (subst Q (sym (drop_all ss i h)) refl))
