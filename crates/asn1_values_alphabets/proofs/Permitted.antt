-- Lists of permitted characters.
use Rattle.std.proofs.Common.{◌≡◌, ℕ, ◌<◌, Bool, true, false, not, cond, ◌&&◌, List, [], ◌∷◌, ◌++◌, ◌+◌, ◌∙◌, length, get_or, drop, Some, None, refl, sym, ap}
use Rattle.std.specs.Prelude.{find}
use Rattle.std.specs.List.{list_all}
use Rattle.std.specs.Prelude.{option_map, All, Result, Ok, Err, MatchResult, IsOk}
use Rattle.std.specs.Str.{IsAscii}
use Rattle.std.proofs.lemmas.Str.Ascii.{IsAscii-from_all}
use Rattle.std.proofs.lemmas.List.{at_drop_more}
use Rattle.std.proofs.lemmas.List.Elements.{All-nil, All-cons}
use Rattle.asn1_model.specs.Schema.{StringKind}
use Rattle.asn1_values_alphabets.specs.declared.error.InvalidRestrictedString.{InvalidRestrictedString}
use Rattle.asn1_values_alphabets.specs.declared.error.PermittedAlphabetError.{PermittedAlphabetError}
use Rattle.asn1_values_alphabets.specs.declared.error.PermittedAlphabetError.TheVariants.{Other, InvalidData, IndexNotFound, CharacterNotFound, InvalidRestrictedString as OutsideAlphabet, Memory}
use Rattle.asn1_values_alphabets.specs.Permitted.{permits, permits_all, first_refused, IsRefusalOf, IsOutside}

-- a character at the end
pub list_all-push : (p : ℕ → Bool) (cs : List ℕ) (c : ℕ) → list_all p cs ≡ true → p c ≡ true → list_all p (cs ++ c ∷ []) ≡ true
list_all-push p [] c h k = rw k refl
list_all-push p (x ∷ cs) c h k = by_test (p x) h (λ i. list_all-push p cs c i k)
  where
    by_test : (t : Bool) → t && list_all p cs ≡ true → (list_all p cs ≡ true → list_all p (cs ++ c ∷ []) ≡ true) → t && list_all p (cs ++ c ∷ []) ≡ true
    by_test true i r = r i
    by_test false i r = cc

-- no character is rejected exactly if all are permitted
pub list_all-find : (p : ℕ → Bool) (cs : List ℕ) → find (λ c. not (p c)) cs ≡ None → list_all p cs ≡ true
list_all-find p [] h = refl
list_all-find p (x ∷ cs) h = by_test (p x) h (λ i. list_all-find p cs i)
  where
    by_test : (t : Bool) → cond (not t) (Some x) (find (λ c. not (p c)) cs) ≡ None → (find (λ c. not (p c)) cs ≡ None → list_all p cs ≡ true) → t && list_all p cs ≡ true
    by_test true i r = r i
    by_test false i r = cc

pub find-list_all : (p : ℕ → Bool) (cs : List ℕ) → list_all p cs ≡ true → find (λ c. not (p c)) cs ≡ None
find-list_all p [] h = refl
find-list_all p (x ∷ cs) h = by_test (p x) h (λ i. find-list_all p cs i)
  where
    by_test : (t : Bool) → t && list_all p cs ≡ true → (list_all p cs ≡ true → find (λ c. not (p c)) cs ≡ None) → cond (not t) (Some x) (find (λ c. not (p c)) cs) ≡ None
    by_test true i r = r i
    by_test false i r = cc

-- the first rejected character after permitted ones
pub find-append : (p : ℕ → Bool) (cs ds : List ℕ) → list_all p cs ≡ true → find (λ c. not (p c)) (cs ++ ds) ≡ find (λ c. not (p c)) ds
find-append p [] ds h = refl
find-append p (x ∷ cs) ds h = by_test (p x) h (λ i. find-append p cs ds i)
  where
    by_test : (t : Bool) → t && list_all p cs ≡ true → (list_all p cs ≡ true → find (λ c. not (p c)) (cs ++ ds) ≡ find (λ c. not (p c)) ds) →
        cond (not t) (Some x) (find (λ c. not (p c)) (cs ++ ds)) ≡ find (λ c. not (p c)) ds
    by_test true i r = r i
    by_test false i r = cc

-- the error for a character is that for all if it is the first rejected one
pub refused_by_first : (k : StringKind) (refused : ℕ → InvalidRestrictedString) (c : ℕ) (cs all : List ℕ) (e : PermittedAlphabetError) →
    first_refused k (c ∷ cs) ≡ first_refused k all → permits_all k all ≡ true → IsRefusalOf k refused (c ∷ []) e → IsRefusalOf k refused all e
refused_by_first k refused c cs all Other h p r = r
refused_by_first k refused c cs all InvalidData h p r = r
refused_by_first k refused c cs all (IndexNotFound i) h p r = r
refused_by_first k refused c cs all (CharacterNotFound i) h p r = r
refused_by_first k refused c cs all (Memory m) h p r = p
refused_by_first k refused c cs all (OutsideAlphabet o) h p r = rw (← h) (by_test (permits k c) r)
  where
    by_test : (t : Bool) → option_map refused (cond (not t) (Some c) None) ≡ Some o → option_map refused (cond (not t) (Some c) (first_refused k cs)) ≡ Some o
    by_test true i = cc
    by_test false i = i

-- a permitted character is skipped
pub first_refused-permitted : (k : StringKind) (c : ℕ) (cs : List ℕ) → permits k c ≡ true → first_refused k (c ∷ cs) ≡ first_refused k cs
first_refused-permitted k c cs h = rw h refl

-- the next character
pub turn_of_text : (k : StringKind) (all : List ℕ) (n c : ℕ) → n < length all → c ≡ get_or all n c → first_refused k (drop n all) ≡ first_refused k (c ∷ drop (n + 1) all)
turn_of_text k all n c h e = at_drop_more (first_refused k) all n c h ∙ ap (λ x. first_refused k (x ∷ drop (n + 1) all)) (sym e)

-- permitted characters below 128 are an ASCII text
pub IsAscii-permitted : (p : ℕ → Bool) (cs : List ℕ) → ((c : ℕ) → p c ≡ true → c < 128) → list_all p cs ≡ true → IsAscii cs
IsAscii-permitted p cs a h = IsAscii-from_all cs (below p cs a h)
  where
    below : (p : ℕ → Bool) (cs : List ℕ) → ((c : ℕ) → p c ≡ true → c < 128) → list_all p cs ≡ true → All (λ b. b < 128) cs
    below p [] a h = All-nil (λ b. b < 128)
    below p (x ∷ cs) a h = by_test (p x) refl h (λ i. below p cs a i)
      where
        by_test : (t : Bool) → p x ≡ t → t && list_all p cs ≡ true → (list_all p cs ≡ true → All (λ b. b < 128) cs) → All (λ b. b < 128) (x ∷ cs)
        by_test true e i r = All-cons (λ b. b < 128) x cs (a x e) (r i)
        by_test false e i r = cc

-- a result whose error is impossible
pub ok_unless : {T E : Type 0} (r : Result T E) (P : T → Type 0) (Q : E → Type 0) → MatchResult r P Q → ((e : E) → Q e → ⊥) → IsOk r
ok_unless (Ok x) P Q h never = refl
ok_unless (Err e) P Q h never = absurd (never e h)

-- an error for a character is an error for all
pub refused_outside : (k : StringKind) (refused : ℕ → InvalidRestrictedString) (cs : List ℕ) (e : PermittedAlphabetError) → IsOutside k refused cs e → IsRefusalOf k refused cs e
refused_outside k refused cs Other r = r
refused_outside k refused cs InvalidData r = r
refused_outside k refused cs (IndexNotFound i) r = r
refused_outside k refused cs (CharacterNotFound i) r = r
refused_outside k refused cs (Memory m) r = absurd r
refused_outside k refused cs (OutsideAlphabet o) r = r
