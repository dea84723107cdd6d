-- Fields written one after the other.
use Rattle.std.proofs.Common.{◌≡◌, ℕ, suc, ◌+◌, Bool, List, [], ◌∷◌, ◌++◌, Option, Some, None, IsSome, drop, take, ◌*◌}
use Rattle.std.proofs.Common.{◌≤◌, length, refl, ap, sym, ◌∙◌, append_assoc, append-nil, arith, subst, rules, true}
use Rattle.std.proofs.Common.{false, option_map}
use Rattle.asn1_model.specs.Numbers.{binary}
use Rattle.asn1_values_alphabets.specs.Codes.{CodedCharacters, code_of}
use Rattle.asn1_values_fields.specs.declared.field_bits.FieldBits.{FieldBits}
use Rattle.asn1_values_fields.specs.declared.fault.FieldFaultKind.{FieldFaultKind}
use Rattle.std.proofs.lemmas.Grind.{common_steps}
use Rattle.std.proofs.lemmas.List.{length-take, take-take}
use Rattle.asn1_values_bits.proofs.Reading.{take_two}
use Rattle.asn1_values_fields.specs.Read.{HasCode}
use Rattle.asn1_values_fields.specs.Written.{both, codes_of, appended, bits_of_field, bits_of_fields, IsFirstUnwritten, IsUnwritable}

-- a first part, and then the rest
pub appended_both : (before w : List Bool) (o : Option (List Bool)) → appended before (both (Some w) o) ≡ appended (before ++ w) o
appended_both before w None = refl
appended_both before w (Some r) = ap Some (sym (append_assoc before w r))

pub appended_none : (before now : List Bool) (o : Option (List Bool)) → appended now None ≡ appended before o → o ≡ None
appended_none before now None e = refl
appended_none before now (Some r) e = cc

pub appended_nothing : (before : List Bool) → appended before (Some []) ≡ Some before
appended_nothing before = ap Some (append-nil before)

pub code_next : (a : CodedCharacters) (c k : ℕ) (cs : List ℕ) (before : List Bool) → code_of a c ≡ Some k →
    appended before (codes_of a (c ∷ cs)) ≡ appended (before ++ binary a.code_bits k) (codes_of a cs)
code_next a c k cs before e =
    ap (λ (o : Option ℕ). appended before (both (elim o as (λ _. Option (List Bool)) [ None ↦ None | Some x ↦ Some (binary a.code_bits x) ])
    (codes_of a cs))) e ∙ appended_both before (binary a.code_bits k) (codes_of a cs)

pub code_missing : (a : CodedCharacters) (c : ℕ) (cs : List ℕ) → code_of a c ≡ None → codes_of a (c ∷ cs) ≡ None
code_missing a c cs e = ap (λ (o : Option ℕ). both (elim o as (λ _. Option (List Bool)) [ None ↦ None | Some x ↦ Some (binary a.code_bits x) ]) (codes_of a cs)) e

pub is_there : (before after : List Bool) (o : Option (List Bool)) → appended before o ≡ Some after → IsSome o
is_there before after None e = cc
is_there before after (Some w) e = there w
  where
    there : (w : List Bool) → IsSome (Some w)
    there w = search rules

-- one field more
pub field_next : (f : FieldBits) (fs : List FieldBits) (before after : List Bool) → appended before (bits_of_field f) ≡ Some after →
    appended before (both (bits_of_field f) (bits_of_fields fs)) ≡ appended after (bits_of_fields fs)
field_next f fs before after e = go (bits_of_field f) e
  where
    go : (o : Option (List Bool)) → appended before o ≡ Some after → appended before (both o (bits_of_fields fs)) ≡ appended after (bits_of_fields fs)
    go None h = cc
    go (Some w) h = let g : before ++ w ≡ after = cc in appended_both before w (bits_of_fields fs) ∙ ap (λ (l : List Bool). appended l (bits_of_fields fs)) g

-- the first field that is not written, found at an index
abbrev pub Stuck : List FieldBits → ℕ → Type 0
Stuck fs i = (n : ℕ) (k : FieldFaultKind) → IsFirstUnwritten (drop i fs) n k → IsFirstUnwritten fs (i + n) k

pub unwritten_here : (fs : List FieldBits) (i : ℕ) (f : FieldBits) (rest : List FieldBits) (k : FieldFaultKind) → drop i fs ≡ f ∷ rest → Stuck fs i →
    IsUnwritable (bits_of_field f) k → IsFirstUnwritten fs i k
unwritten_here fs i f rest k e s w =
    let P : ℕ → Type 0 = λ n. IsFirstUnwritten fs n k in
    let Q : List FieldBits → Type 0 = λ l. IsFirstUnwritten l 0 k in
    let m : i + 0 ≡ i = omega arith in
    subst P m (s 0 k (subst Q (sym e) w))

pub unwritten_later : (fs : List FieldBits) (i : ℕ) (f : FieldBits) (rest : List FieldBits) → drop i fs ≡ f ∷ rest → Stuck fs i →
    IsSome (bits_of_field f) → (n : ℕ) (k : FieldFaultKind) → IsFirstUnwritten rest n k → IsFirstUnwritten fs (i + 1 + n) k
unwritten_later fs i f rest e s b n k w =
    let P : ℕ → Type 0 = λ m. IsFirstUnwritten fs m k in
    let Q : List FieldBits → Type 0 = λ l. IsFirstUnwritten l (suc n) k in
    let m : i + suc n ≡ i + 1 + n = omega arith in
    subst P m (s (suc n) k (subst Q (sym e) (b, w)))

-- leading bits stay the leading bits of a longer list
pub kept_on : (a b c : List Bool) → take (length a) b ≡ a → take (length b) c ≡ b → take (length a) c ≡ a
kept_on a b c e f =
    let l : length a ≤ length b = omega (arith, length-take (length a) b, ap length e) in
    sym (take-take (length a) (length b) c l) ∙ ap (take (length a)) f ∙ e

-- ---- characters that are read

pub codes_push : (a : CodedCharacters) (cs : List ℕ) (c k : ℕ) (w : List Bool) → codes_of a cs ≡ Some w → code_of a c ≡ Some k → codes_of a (cs ++ c ∷ []) ≡ Some (w ++ binary a.code_bits k)
codes_push a [] c k w e h = let f : [] ≡ w = cc in code_alone a c k h ∙ ap (λ (l : List Bool). Some (l ++ binary a.code_bits k)) f
  where
    code_alone : (a : CodedCharacters) (c k : ℕ) → code_of a c ≡ Some k → codes_of a (c ∷ []) ≡ Some (binary a.code_bits k)
    code_alone a c k h = ap (λ (o : Option ℕ). both (elim o as (λ _. Option (List Bool)) [ None ↦ None | Some x ↦ Some (binary a.code_bits x) ])
        (Some [])) h ∙ ap Some (append-nil (binary a.code_bits k))
codes_push a (d ∷ cs) c k w e h = go (option_map (λ code. binary a.code_bits code) (code_of a d)) (codes_of a cs) (λ v f. codes_push a cs c k v f h) e
  where
    go : (o p : Option (List Bool)) → ((v : List Bool) → p ≡ Some v → codes_of a (cs ++ c ∷ []) ≡ Some (v ++ binary a.code_bits k)) →
        both o p ≡ Some w → both o (codes_of a (cs ++ c ∷ [])) ≡ Some (w ++ binary a.code_bits k)
    go None p r e = cc
    go (Some x) None r e = cc
    go (Some x) (Some v) r e =
        let f : x ++ v ≡ w = cc in
        ap (λ (q : Option (List Bool)). both (Some x) q) (r v refl) ∙ ap Some (sym (append_assoc x v (binary a.code_bits k))) ∙ ap (λ (l : List Bool). Some (l ++ binary a.code_bits k)) f

-- one character more
pub characters_next : (a : CodedCharacters) (cs : List ℕ) (c i : ℕ) (all rest : List Bool) → rest ≡ drop (i * a.code_bits) all →
    HasCode a c (take a.code_bits rest) → codes_of a cs ≡ Some (take (i * a.code_bits) all) → codes_of a (cs ++ c ∷ []) ≡ Some (take ((i + 1) * a.code_bits) all)
characters_next a cs c i all rest r h e =
    let w = a.code_bits in
    let m : i * w + w ≡ (i + 1) * w = omega arith in
    let d : binary w h.code ≡ take w (drop (i * w) all) = sym h.digits ∙ ap (take w) r in
    codes_push a cs c h.code (take (i * w) all) e h.is_code
    ∙ ap (λ (l : List Bool). Some (take (i * w) all ++ l)) d
    ∙ ap Some (sym (take_two (i * w) w all)) ∙ ap (λ k. Some (take k all)) m

pub rest_next : (i w : ℕ) (all rest new : List Bool) → rest ≡ drop (i * w) all → new ≡ drop w rest → new ≡ drop ((i + 1) * w) all
rest_next i w all rest new r n =
    let m : i * w + w ≡ (i + 1) * w = omega arith in
    n ∙ ap (drop w) r ∙ twice (i * w) w all ∙ ap (λ k. drop k all) m
  where
    twice : (a b : ℕ) (l : List Bool) → drop b (drop a l) ≡ drop (a + b) l
    twice a b l = grind (arith, common_steps)
