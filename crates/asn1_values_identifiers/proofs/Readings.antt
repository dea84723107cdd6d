-- What is written reads back, and what is read was written.
use Rattle.std.proofs.Common.{◌≡◌, ℕ, zero, suc, ◌+◌, ◌-◌, ◌*◌, ◌/◌, ◌%◌, ◌^◌, ◌<◌, ◌≤◌, ◌==◌, ltb, min, Bool, true}
use Rattle.std.proofs.Common.{false, List, [], ◌∷◌, ◌++◌, flat_map, Option, Some, None, Result, Ok, Err, length, refl}
use Rattle.std.proofs.Common.{ap, sym, ◌∙◌, arith, append_assoc, append-nil}
use Rattle.std.proofs.lemmas.Bool.{and_parts}
use Rattle.asn1_model.specs.Strings.{groups_of_seven, is_octet}
use Rattle.std.specs.List.{list_all}
use Rattle.asn1_values_identifiers.specs.declared.fault.IdentifierError.{IdentifierError}
use Rattle.asn1_values_identifiers.specs.declared.fault.IdentifierError.TheVariants.{Padded, ArcTooLarge}
use Rattle.asn1_values_identifiers.specs.Groups.{leading}
use Rattle.asn1_values_identifiers.specs.Identifiers.{subidentifiers, in_front, ended, begun_number, is_padding, joined}
use Rattle.asn1_values_identifiers.proofs.Sevens.{leading_more, leading_one, groups_one, groups_more}

pub below_true : (a b : ℕ) → a < b → ltb a b ≡ true
below_true a b h = grind arith

pub below_false : (a b : ℕ) → b ≤ a → ltb a b ≡ false
below_false a b h = grind arith

pub below : (a b : ℕ) → ltb a b ≡ true → a < b
below a b h = grind arith

pub not_below : (a b : ℕ) → ltb a b ≡ false → b ≤ a
not_below a b h = grind arith

differ : (a b : ℕ) → (a == b) ≡ false → ¬ (a ≡ b)
differ a b h e = grind arith

above_128 : (o : ℕ) → 128 ≤ o → ¬ (o ≡ 128) → 0 < 0 * 128 + (o - 128)
above_128 o h d = omega arith

-- what follows an octet of a subidentifier
abbrev behind : ℕ → ℕ → ℕ → List ℕ → Bool → Result (List ℕ) IdentifierError
behind limit n o os t = elim t [ true ↦ ended limit (n * 128 + o) (subidentifiers (2 ^ 32) None os) | false ↦ subidentifiers limit (Some (n * 128 + (o - 128))) os ]

abbrev pub judged : ℕ → Result (List ℕ) IdentifierError → Bool → Result (List ℕ) IdentifierError
judged n further t = elim t [ true ↦ in_front n further | false ↦ Err ArcTooLarge ]

pub too_large : (limit n : ℕ) (further : Result (List ℕ) IdentifierError) → limit ≤ n → ended limit n further ≡ Err ArcTooLarge
too_large limit n further h = ap (judged n further) (below_false n limit h)

pub small_enough : (limit n : ℕ) (further : Result (List ℕ) IdentifierError) → n < limit → ended limit n further ≡ in_front n further
small_enough limit n further h = ap (judged n further) (below_true n limit h)

-- one number past the limit is as good as another
pub capped : (limit n : ℕ) (os : List ℕ) → limit ≤ n → subidentifiers limit (Some n) os ≡ subidentifiers limit (Some limit) os
capped limit n [] h = refl
capped limit n (o ∷ os) h =
    elim (ltb o 128) as (λ t. behind limit n o os t ≡ behind limit limit o os t) [
      | true ↦ too_large limit (n * 128 + o) _ (omega arith) ∙ sym (too_large limit (limit * 128 + o) _ (omega arith))
      | false ↦ capped limit (n * 128 + (o - 128)) os (omega arith) ∙ sym (capped limit (limit * 128 + (o - 128)) os (omega arith))
    ]

pub goes_on : (limit n o : ℕ) (os : List ℕ) → 128 ≤ o → subidentifiers limit (Some n) (o ∷ os) ≡ subidentifiers limit (Some (n * 128 + (o - 128))) os
goes_on limit n o os h = ap (behind limit n o os) (below_false o 128 h)

pub goes_on_capped : (limit n o : ℕ) (os : List ℕ) → 128 ≤ o → subidentifiers limit (Some n) (o ∷ os) ≡ subidentifiers limit (Some (min (n * 128 + (o - 128)) limit)) os
goes_on_capped limit n o os h = goes_on limit n o os h ∙ go (ltb (n * 128 + (o - 128)) limit) refl
  where
    go : (t : Bool) → ltb (n * 128 + (o - 128)) limit ≡ t → subidentifiers limit (Some (n * 128 + (o - 128))) os ≡ subidentifiers limit (Some (min (n * 128 + (o - 128)) limit)) os
    go true e = let m : n * 128 + (o - 128) ≡ min (n * 128 + (o - 128)) limit = grind arith in ap (λ k. subidentifiers limit (Some k) os) m
    go false e =
        let le : limit ≤ n * 128 + (o - 128) = grind arith in
        let m : limit ≡ min (n * 128 + (o - 128)) limit = omega arith in
        capped limit (n * 128 + (o - 128)) os le ∙ ap (λ k. subidentifiers limit (Some k) os) m

pub stops : (limit n o : ℕ) (os : List ℕ) → o < 128 → subidentifiers limit (Some n) (o ∷ os) ≡ ended limit (n * 128 + o) (subidentifiers (2 ^ 32) None os)
stops limit n o os h = ap (behind limit n o os) (below_true o 128 h)

abbrev unless_padded : ℕ → ℕ → List ℕ → Bool → Result (List ℕ) IdentifierError
unless_padded limit o os t = elim t [ true ↦ Err Padded | false ↦ behind limit 0 o os (ltb o 128) ]

different : (a b : ℕ) → ¬ (a ≡ b) → (a == b) ≡ false
different a b h = grind arith

-- a subidentifier may begin with any octet except 0x80
pub begins : (limit o : ℕ) (os : List ℕ) → ¬ (o ≡ 128) → subidentifiers limit None (o ∷ os) ≡ subidentifiers limit (Some 0) (o ∷ os)
begins limit o os h = ap (unless_padded limit o os) (different o 128 h)

pub padded : (limit : ℕ) (os : List ℕ) → subidentifiers limit None (128 ∷ os) ≡ Err Padded
padded limit os = refl

-- ---- what is written reads back

-- the octets of a number above 0 leave it unfinished
abbrev IsRead : ℕ → ℕ → List ℕ → Type 0
IsRead limit n os = subidentifiers limit None (leading n ++ os) ≡ subidentifiers limit (Some n) os

pub leading_read : (most limit n : ℕ) (os : List ℕ) → n ≤ most → 0 < n → IsRead limit n os
leading_read zero limit n os h p = absurd (omega arith)
leading_read (suc most) limit n os h p = go (ltb n 128) refl (λ further l k. leading_read most limit (n / 128) further l k)
  where
    go : (t : Bool) → ltb n 128 ≡ t → ((further : List ℕ) → n / 128 ≤ most → 0 < n / 128 → IsRead limit (n / 128) further) → IsRead limit n os
    go true e r =
        let lt : n < 128 = grind arith in
        let d : ¬ (128 + n ≡ 128) = λ q. omega arith in
        let m : 0 * 128 + (128 + n - 128) ≡ n = omega arith in
        ap (λ (l : List ℕ). subidentifiers limit None (l ++ os)) (leading_one n p lt)
        ∙ begins limit (128 + n) os d ∙ goes_on limit 0 (128 + n) os (omega arith) ∙ ap (λ k. subidentifiers limit (Some k) os) m
    go false e r =
        let ge : 128 ≤ n = grind arith in
        let m : n / 128 * 128 + (n % 128 + 128 - 128) ≡ n = omega arith in
        ap (λ (l : List ℕ). subidentifiers limit None (l ++ os)) (leading_more n p)
        ∙ ap (subidentifiers limit None) (append_assoc (leading (n / 128)) ((n % 128 + 128) ∷ []) os)
        ∙ r ((n % 128 + 128) ∷ os) (omega arith) (omega arith)
        ∙ goes_on limit (n / 128) (n % 128 + 128) os (omega arith) ∙ ap (λ k. subidentifiers limit (Some k) os) m

-- a subidentifier reads back
pub group_read : (limit n : ℕ) (os : List ℕ) → n < limit → subidentifiers limit None (groups_of_seven n ++ os) ≡ in_front n (subidentifiers (2 ^ 32) None os)
group_read limit n os h = go (ltb n 128) refl
  where
    go : (t : Bool) → ltb n 128 ≡ t → subidentifiers limit None (groups_of_seven n ++ os) ≡ in_front n (subidentifiers (2 ^ 32) None os)
    go true e =
        let lt : n < 128 = grind arith in
        let d : ¬ (n ≡ 128) = λ q. omega arith in
        let m : 0 * 128 + n ≡ n = omega arith in
        ap (λ (l : List ℕ). subidentifiers limit None (l ++ os)) (groups_one n lt)
        ∙ begins limit n os d ∙ stops limit 0 n os lt ∙ ap (λ k. ended limit k (subidentifiers (2 ^ 32) None os)) m
        ∙ small_enough limit n (subidentifiers (2 ^ 32) None os) h
    go false e =
        let ge : 128 ≤ n = grind arith in
        let m : n / 128 * 128 + n % 128 ≡ n = omega arith in
        ap (λ (l : List ℕ). subidentifiers limit None (l ++ os)) (groups_more n ge)
        ∙ ap (subidentifiers limit None) (append_assoc (leading (n / 128)) (n % 128 ∷ []) os)
        ∙ leading_read (n / 128) limit (n / 128) (n % 128 ∷ os) (omega arith) (omega arith)
        ∙ stops limit (n / 128) (n % 128) os (omega arith) ∙ ap (λ k. ended limit k (subidentifiers (2 ^ 32) None os)) m
        ∙ small_enough limit n (subidentifiers (2 ^ 32) None os) h

pub groups_read : (ns : List ℕ) → list_all (λ n. ltb n (2 ^ 32)) ns ≡ true → subidentifiers (2 ^ 32) None (flat_map groups_of_seven ns) ≡ Ok ns
groups_read [] h = refl
groups_read (n ∷ ns) h =
    let p = and_parts _ _ h in
    let lt : n < 2 ^ 32 = below n (2 ^ 32) p.0 in
    group_read (2 ^ 32) n (flat_map groups_of_seven ns) lt ∙ ap (in_front n) (groups_read ns p.1)

-- ---- what is read was written

-- the octets of an unfinished subidentifier
abbrev pub begun_octets : Option ℕ → List ℕ
begun_octets None = []
begun_octets (Some n) = leading n

-- a subidentifier is begun by a number above 0 or not at all
abbrev pub IsBegun : Option ℕ → Type 0
IsBegun None = Unit {0}
IsBegun (Some n) = 0 < n

abbrev pub Wrote : Option ℕ → List ℕ → Result (List ℕ) IdentifierError → Type 0
Wrote begun os (Ok ns) = begun_octets begun ++ os ≡ flat_map groups_of_seven ns
Wrote begun os (Err e) = Unit {0}

joined_leading : (n o : ℕ) → 0 < n → 128 ≤ o → o < 256 → leading n ++ o ∷ [] ≡ leading (n * 128 + (o - 128))
joined_leading n o p h k =
    let q : (n * 128 + (o - 128)) / 128 ≡ n = omega arith in
    let r : (n * 128 + (o - 128)) % 128 + 128 ≡ o = omega arith in
    sym (leading_more (n * 128 + (o - 128)) (omega arith) ∙ ap (λ m. leading m ++ ((n * 128 + (o - 128)) % 128 + 128) ∷ []) q ∙ ap (λ m. leading n ++ m ∷ []) r)

joined_group : (n o : ℕ) → 0 < n → o < 128 → leading n ++ o ∷ [] ≡ groups_of_seven (n * 128 + o)
joined_group n o p h =
    let q : (n * 128 + o) / 128 ≡ n = omega arith in
    let r : (n * 128 + o) % 128 ≡ o = omega arith in
    sym (groups_more (n * 128 + o) (omega arith) ∙ ap (λ m. leading m ++ ((n * 128 + o) % 128) ∷ []) q ∙ ap (λ m. leading n ++ m ∷ []) r)

-- the octets so far and one more with bit 8 set are those of the larger number
begun_more : (begun : Option ℕ) (o : ℕ) (os : List ℕ) → IsBegun begun → is_padding begun o ≡ false → 128 ≤ o → o < 256 →
    begun_octets begun ++ (o ∷ os) ≡ leading (begun_number begun * 128 + (o - 128)) ++ os
begun_more None o os b p h k =
    let d : ¬ (o ≡ 128) = λ q. differ o 128 p q in
    let pos : 0 < 0 * 128 + (o - 128) = above_128 o h d in
    let e : 128 + (0 * 128 + (o - 128)) ≡ o = omega arith in
    sym (ap (λ (l : List ℕ). l ++ os) (leading_one (0 * 128 + (o - 128)) pos (omega arith) ∙ ap (λ m. m ∷ []) e))
begun_more (Some n) o os b p h k = sym (append_assoc (leading n) (o ∷ []) os) ∙ ap (λ (l : List ℕ). l ++ os) (joined_leading n o b h k)

begun_ended : (begun : Option ℕ) (o : ℕ) (os : List ℕ) → IsBegun begun → o < 128 → begun_octets begun ++ (o ∷ os) ≡ groups_of_seven (begun_number begun * 128 + o) ++ os
begun_ended None o os b h =
    let e : 0 * 128 + o ≡ o = omega arith in
    sym (ap (λ (l : List ℕ). l ++ os) (groups_one (0 * 128 + o) (omega arith) ∙ ap (λ m. m ∷ []) e))
begun_ended (Some n) o os b h = sym (append_assoc (leading n) (o ∷ []) os) ∙ ap (λ (l : List ℕ). l ++ os) (joined_group n o b h)

begun_after : (begun : Option ℕ) (o : ℕ) → IsBegun begun → is_padding begun o ≡ false → 128 ≤ o → 0 < begun_number begun * 128 + (o - 128)
begun_after None o b p h = let d : ¬ (o ≡ 128) = λ q. differ o 128 p q in above_128 o h d
begun_after (Some n) o b p h = omega arith

wrote_ended : (limit n : ℕ) (begun : Option ℕ) (os rest : List ℕ) (further : Result (List ℕ) IdentifierError) →
    begun_octets begun ++ os ≡ groups_of_seven n ++ rest → Wrote None rest further → Wrote begun os (ended limit n further)
wrote_ended limit n begun os rest further e w = go (ltb n limit) further w
  where
    go : (t : Bool) (r : Result (List ℕ) IdentifierError) → Wrote None rest r → Wrote begun os (judged n r t)
    go true (Ok ns) v = e ∙ ap (λ (l : List ℕ). groups_of_seven n ++ l) v
    go true (Err f) v = tt
    go false r v = tt

wrote_more : (begun more : Option ℕ) (os rest : List ℕ) (r : Result (List ℕ) IdentifierError) → begun_octets begun ++ os ≡ begun_octets more ++ rest → Wrote more rest r → Wrote begun os r
wrote_more begun more os rest (Ok ns) e w = e ∙ w
wrote_more begun more os rest (Err f) e w = tt

abbrev pub after_octet : ℕ → Option ℕ → ℕ → List ℕ → Bool → Bool → Result (List ℕ) IdentifierError
after_octet limit begun o os t u =
    elim t [
      | true ↦ Err Padded
      | false ↦
          elim u [ true ↦ ended limit (begun_number begun * 128 + o) (subidentifiers (2 ^ 32) None os) | false ↦ subidentifiers limit (Some (begun_number begun * 128 + (o - 128))) os ]
    ]

-- the numbers read from octets, when written, give these octets
pub wrote : (limit : ℕ) (begun : Option ℕ) (os : List ℕ) → IsBegun begun → list_all is_octet os ≡ true → Wrote begun os (subidentifiers limit begun os)
wrote limit None [] b h = refl
wrote limit (Some n) [] b h = tt
wrote limit begun (o ∷ os) b h = go (is_padding begun o) refl (ltb o 128) refl (wrote (2 ^ 32) None os tt ((and_parts _ _ h).1)) (λ n p. wrote limit (Some n) os p ((and_parts _ _ h).1))
  where
    go : (t : Bool) → is_padding begun o ≡ t → (u : Bool) → ltb o 128 ≡ u → Wrote None os (subidentifiers (2 ^ 32) None os) →
        ((n : ℕ) → 0 < n → Wrote (Some n) os (subidentifiers limit (Some n) os)) → Wrote begun (o ∷ os) (after_octet limit begun o os t u)
    go true p u e w r = tt
    go false p true e w r = wrote_ended limit (begun_number begun * 128 + o) begun (o ∷ os) os _ (begun_ended begun o os b (below o 128 e)) w
    go false p false e w r =
        let ge : 128 ≤ o = not_below o 128 e in
        let lt : o < 256 = below o 256 ((and_parts _ _ h).0) in
        wrote_more begun (Some (begun_number begun * 128 + (o - 128))) (o ∷ os) os _ (begun_more begun o os b p ge lt) (r (begun_number begun * 128 + (o - 128)) (begun_after begun o b p ge))

-- ---- whole identifiers

pub joined_front : (xs : List ℕ) (n : ℕ) (r : Result (List ℕ) IdentifierError) → joined xs (in_front n r) ≡ joined (xs ++ n ∷ []) r
joined_front xs n (Ok ns) = ap Ok (sym (append_assoc xs (n ∷ []) ns))
joined_front xs n (Err e) = refl

pub joined_wrong : (xs ys : List ℕ) (r s : Result (List ℕ) IdentifierError) (e : IdentifierError) → joined xs r ≡ joined ys s → s ≡ Err e → r ≡ Err e
joined_wrong xs ys (Ok ns) s e h k = let f : joined ys s ≡ Err e = ap (joined ys) k in cc
joined_wrong xs ys (Err f) s e h k = h ∙ ap (joined ys) k

pub joined_nothing : (xs rest : List ℕ) → length rest ≡ 0 → joined xs (subidentifiers (2 ^ 32) None rest) ≡ Ok xs
joined_nothing xs [] h = ap Ok (append-nil xs)
joined_nothing xs (o ∷ os) h = absurd (omega arith)
