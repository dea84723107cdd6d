-- How a requested record is taken, and why none is.
use Rattle.std.specs.Str.{is_utf8, chars}
use Rattle.std.specs.Char.{encode_utf8}
use Rattle.asn1_model.specs.Schema.{any_number}
use Rattle.asn1_model.specs.Schema.{any_alphabet}
use Rattle.std.proofs.Common.{◌≡◌, ℕ, ℤ, true, false, ◌||◌, List, [], ◌∷◌, Option, sym, ◌∙◌, subst, ap}
use Rattle.asn1_model.specs.Schema.{Range, Bounds, Counts, Size, Alphabet, StringKind, utf8, visible, any_count}
use Rattle.asn1_model.specs.Numbers.{is_within}
use Rattle.asn1_model.specs.Strings.{may_hold}
use Rattle.asn1_schema_constraints.specs.Terms.{bounds_of, held_of}
use Rattle.asn1_schema_constraints.specs.declared.extensions.Extensible.{Extensible}
use Rattle.asn1_schema_constraints.specs.declared.parts.Value.{Value}
use Rattle.asn1_schema_decode.specs.Reads.{NoRecord}
use Rattle.asn1_schema_lacking_laws.specs.Carried.{AtOnce}
use Rattle.asn1_schema_decode.proofs.AtOnce.{none_at_once}
use Rattle.asn1_schema_errors.specs.declared.DecodeError.{DecodeError}
use Rattle.asn1_schema_errors.specs.declared.DecodeError.TheVariants.{IntegerOverflow, ValueConstraintNotSatisfied, PermittedAlphabet, OutOfMemory}
use Rattle.asn1_schema_laws.specs.Records.{Record, Question, question, whole, characters, asks_whole, asks_characters}
use Rattle.asn1_schema_records.proofs.Putting.{kind_kept}
use Rattle.asn1_schema_records.specs.Kept.{kept_kind}
use Rattle.asn1_schema_constraints.proofs.Held.{not_held, not_admitted}
use Rattle.asn1_schema_records.specs.Taken.{Left, Takes, Leaves, Levels, IsKept, IsUntaken, IsUnspelled, MayHold}
use Rattle.asn1_values_alphabets.specs.Permitted.{permits_all}

-- another record is taken
pub other : {q : Question} {a b failed : Left} {k : Record} {x : DecodeError} → Leaves a k b → ((r : Record) → question r ≡ q → IsKept k r → ⊥) → NoRecord Takes AtOnce q a failed x
other {q} {a} {b} {failed} {k} h apart = none_at_once Takes (λ w r c e t.
    let f : k ∷ b.records ≡ t.front ∷ c.records = sym h.taken ∙ t.taken in
    let g : k ≡ t.front = cc f in
    apart r e (subst (λ (y : Record). IsKept y r) (sym g) t.is_kept))

-- the requested one is taken
pub leaves : {a b : Left} {k : Record} (r : Record) → Leaves a k b → IsKept k r → Levels (question r) a b → Takes a r b
leaves {a} {b} {k} r h e l = record { ready = h.ready; front = k; taken = h.taken; is_kept = e; levels = l; most = h.most; ready_still = h.ready_still; rules = h.rules }

-- ---- kinds of character strings
may_be_held : (t : StringKind) → ((cs : List ℕ) → may_hold t cs ≡ permits_all t cs) → (cs : List ℕ) → permits_all t cs ≡ true → MayHold t cs
may_be_held utf8 law cs w = tt
may_be_held t law cs w = law cs ∙ w

held_permits : (t : StringKind) → ((cs : List ℕ) → may_hold t cs ≡ permits_all t cs) → (cs : List ℕ) → MayHold t cs → permits_all t cs ≡ true
unfolding is_utf8 chars encode_utf8
held_permits utf8 law cs w = let e : false ≡ true = law (195 ∷ []) in cc
held_permits t law cs w = sym (law cs) ∙ w

module _ {a b : Left} {k : Record} where
  -- ---- records of which not all is kept
  pub takes_whole : {z z' : Bounds} {h : Range} {v v' : ℤ} → Leaves a k b → k ≡ whole z any_number v → z ≡ z' → v' ≡ v → is_within h v ≡ true →
      (z'.extensible || is_within z'.range v) ≡ true → Takes a (whole z' h v') b
  takes_whole {z} {z'} {h} {v} {v'} l e f g w i =
      let t : Takes a (whole z' h v) b = leaves (whole z' h v) l (e ∙ ap (λ (y : Bounds). whole y any_number v) f, w, i) l.levels in
      subst (λ (y : ℤ). Takes a (whole z' h y) b) (sym g) t

  other_whole : {z z' : Bounds} {h : Range} {v : ℤ} {y : DecodeError} {failed : Left} → Leaves a k b → k ≡ whole z any_number v →
      (z ≡ z' → is_within h v ≡ true → (z'.extensible || is_within z'.range v) ≡ true → ⊥) → NoRecord Takes AtOnce (asks_whole z' h) a failed y
  other_whole {z} {z'} {h} {v} l f apart = other l go where
    go : (r : Record) → question r ≡ asks_whole z' h → IsKept k r → ⊥
    go (whole u i w) q e =
        let x : u ≡ z' = cc q in
        let g : i ≡ h = cc q in
        let j : whole u any_number w ≡ whole z any_number v = sym e.0 ∙ f in
        let m : u ≡ z = cc j in
        let n : w ≡ v = cc j in
        apart (sym m ∙ x) (subst (λ (t : ℤ). is_within h t ≡ true) n (subst (λ (t : Range). is_within t w ≡ true) g e.1))
        (subst (λ (t : ℤ). (z'.extensible || is_within z'.range t) ≡ true) n (subst (λ (t : Bounds). (t.extensible || is_within t.range w) ≡ true) x e.2))
    go r q e = cc q

  pub takes_characters : {t : StringKind} → ((cs : List ℕ) → may_hold t cs ≡ permits_all t cs) →
      {z z' : Size} {l : Alphabet} {h : Counts} {cs ds : List ℕ} → Leaves a k b → k ≡ characters visible z any_alphabet any_count cs → z ≡ z' →
      permits_all t cs ≡ true → ds ≡ cs → Takes a (characters t z' l h ds) b
  takes_characters {t} law {z} {z'} {l} {h} {cs} {ds} m e f w g =
      let u : Takes a (characters t z' l h cs) b = leaves (characters t z' l h cs) m (
        e ∙ (ap (λ (y : Size). characters visible y any_alphabet any_count cs) f ∙
            ap (λ (s : StringKind). characters s z' any_alphabet any_count cs) (sym (kind_kept t law))),
        may_be_held t law cs w,
      ) m.levels in
      subst (λ (y : List ℕ). Takes a (characters t z' l h y) b) (sym g) u

  pub no_characters : {t : StringKind} → ((cs : List ℕ) → may_hold t cs ≡ permits_all t cs) →
      {z : Size} {l : Alphabet} {h : Counts} {y : DecodeError} {failed : Left} → Leaves a k b →
      ((u : Size) (cs : List ℕ) → k ≡ characters visible u any_alphabet any_count cs → ⊥) → NoRecord Takes AtOnce (asks_characters t z l h) a failed y
  no_characters {t} law {z} {l} {h} m apart = other m go where
    go : (r : Record) → question r ≡ asks_characters t z l h → IsKept k r → ⊥
    go (characters s u i j cs) q e = let x : s ≡ t = cc q in apart u cs (e.0 ∙ ap (λ (v : StringKind). characters v u any_alphabet any_count cs) (ap kept_kind x ∙ kind_kept t law))
    go r q e = cc q

  other_characters : {t : StringKind} → ((cs : List ℕ) → may_hold t cs ≡ permits_all t cs) →
      {z z' : Size} {l : Alphabet} {h : Counts} {cs : List ℕ} {y : DecodeError} {failed : Left} → Leaves a k b →
      k ≡ characters visible z any_alphabet any_count cs → (z ≡ z' → permits_all t cs ≡ true → ⊥) → NoRecord Takes AtOnce (asks_characters t z' l h) a failed y
  other_characters {t} law {z} {z'} {l} {h} {cs} m f apart = other m go where
    go : (r : Record) → question r ≡ asks_characters t z' l h → IsKept k r → ⊥
    go (characters s u i j ds) q e =
        let x : u ≡ z' = cc q in
        let v : s ≡ t = cc q in
        let g : characters (kept_kind s) u any_alphabet any_count ds ≡ characters visible z any_alphabet any_count cs = sym e.0 ∙ f in
        let n : u ≡ z = cc g in
        let o : ds ≡ cs = cc g in
        apart (sym n ∙ x) (subst (λ (d : List ℕ). permits_all t d ≡ true) o (held_permits t law ds (subst (λ (d : StringKind). MayHold d ds) v e.1)))
    go r q e = cc q

  -- ---- why no value of the program's type is made
  pub no_number : (c : Option (Extensible Value)) (h : Range) {z : Bounds} {v : ℤ} {x y : DecodeError} {failed : Left} → Leaves a k b →
      k ≡ whole z any_number v → y ≡ x → IsUntaken c h v x → NoRecord Takes AtOnce (asks_whole (bounds_of c) (held_of c h)) a failed y
  no_number c h {z} {v} {x} {y} {failed} l f e u = go x e u where
    go : (x : DecodeError) → y ≡ x → IsUntaken c h v x → NoRecord Takes AtOnce (asks_whole (bounds_of c) (held_of c h)) a failed y
    go ValueConstraintNotSatisfied e u = other_whole l f (λ g w i. not_admitted c h v u w i)
    go IntegerOverflow e u = other_whole l f (λ g w i. not_held c h v u.1 w)
    go OutOfMemory e u = none_at_once Takes (λ w. absurd (w e))
    go x e u = absurd u

  pub no_string : {t : StringKind} → ((cs : List ℕ) → may_hold t cs ≡ permits_all t cs) →
      {z z' : Size} {l : Alphabet} {h : Counts} {cs : List ℕ} {x y : DecodeError} {failed : Left} → Leaves a k b →
      k ≡ characters visible z any_alphabet any_count cs → y ≡ x → IsUnspelled t cs x → NoRecord Takes AtOnce (asks_characters t z' l h) a failed y
  no_string {t} law {z} {z'} {l} {h} {cs} {x} {y} {failed} m f e u = go x e u where
    go : (x : DecodeError) → y ≡ x → IsUnspelled t cs x → NoRecord Takes AtOnce (asks_characters t z' l h) a failed y
    go PermittedAlphabet e u = other_characters law m f (λ g w. let i : false ≡ true = sym u ∙ w in cc)
    go OutOfMemory e u = none_at_once Takes (λ w. absurd (w e))
    go x e u = absurd u

  pub other_sizes : {t : StringKind} → ((cs : List ℕ) → may_hold t cs ≡ permits_all t cs) →
      {z z' : Size} {l : Alphabet} {h : Counts} {cs : List ℕ} {y : DecodeError} {failed : Left} → Leaves a k b →
      k ≡ characters visible z any_alphabet any_count cs → (z ≡ z' → ⊥) → NoRecord Takes AtOnce (asks_characters t z' l h) a failed y
  other_sizes law m f apart = other_characters law m f (λ g w. apart g)
