-- Why a decoder finds no string and no open type, also with as many bits more as are missing.
use Rattle.std.proofs.Common.{◌≡◌, inl, inr, ◌≤◌, ℕ, Bool, true, false, cond, List, [], ◌∷◌, ◌++◌, length, refl, sym, ◌∙◌, ap, subst, append-nil, arith}
use Rattle.std.proofs.lemmas.Bool.{cases_lt}
use Rattle.asn1_model.specs.Per
use Rattle.asn1_model.specs.Schema.{Schema, Tag}
use Rattle.asn1_schema_decode.specs.Reads.{NoRecord, NoLevel}
use Rattle.asn1_schema_lacking_laws.specs.Carried.{AtOnce}
use Rattle.asn1_schema_errors.specs.declared.DecodeError.{DecodeError}
use Rattle.asn1_schema_errors.specs.declared.DecodeError.TheVariants.{OutOfMemory}
use Rattle.asn1_schema_laws.specs.Records.{Record, Question, question, asks_addition, asks_choice}
use Rattle.asn1_schema_tags.specs.declared.chosen.Chosen.{Chosen}
use Rattle.per_codec_laws.specs.Takes.{Position, Scope, State, Front, Opens, Takes}
use Rattle.per_codec_laws.proofs.Next.{place_same}
use Rattle.per_codec_longer_laws.specs.More.{is_within, place_with, scopes_with}
use Rattle.per_codec_longer_laws.specs.Few.{due}
use Rattle.per_codec_longer_laws.proofs.Behind.{front_more}
use Rattle.per_codec_reading.specs.Fronts.{freedoms, is_aligned, Misses, NoneStands}
use Rattle.per_codec_reading.specs.Units.{counted_units}
use Rattle.per_codec_reading.proofs.Fronts.{misses_also}
use Rattle.per_codec_reading.proofs.OctetFronts.{no_octets}
use Rattle.per_codec_reading_values.specs.Indices.{index_form}
use Rattle.per_codec_held_laws.specs.Held.{Held, Finds}
use Rattle.per_codec_held_laws.specs.Few.{held_with, told, TooFewHeld}
use Rattle.per_codec_decoder.specs.Held.{NoOpening}
use Rattle.per_codec_decoder.specs.Missing.{IsFew, StillTooShort}
use Rattle.per_codec_decoder.specs.Scopes.{NextBitmapBit}
use Rattle.per_codec_decoder.proofs.Finding.{OfType, none_found}
use Rattle.per_codec_decoder.proofs.Opening.{no_addition_opens, no_chosen_type}

no_bits : (e : List Bool) → length e ≤ 0 → e ≡ []
no_bits [] h = refl
no_bits (x ∷ e) h = absurd (omega arith)

few_told : (old failed c : Held) → due failed.scopes ≡ due old.scopes → TooFewHeld old failed c → (e : List Bool) × (c ≡ held_with e old) × IsFew (told failed.failed) e
few_told old failed c d f = elim f.2 [
  | inr z ↦ (f.0, f.1, inl z)
  | inl i ↦
      let h = i.1 in
      elim (cases_lt 0 (told failed.failed)) [ inl j ↦ (f.0, f.1, inr (j, omega arith)) | inr j ↦ (f.0, f.1, inl (no_bits f.0 (omega arith))) ]
]

-- none is found with a few bits more if none is found at once with any such bits
still_lacking : {q : Question} {x : DecodeError} (old failed : Held) → due failed.scopes ≡ due old.scopes →
    (¬ (x ≡ OutOfMemory) → (e : List Bool) → IsFew (told failed.failed) e → NoRecord Finds AtOnce q (held_with e old) failed x) → NoRecord Finds TooFewHeld q old failed x
still_lacking old failed d h = record { none = λ m c f r new k p. let z = few_told old failed c d f in (h m z.0 z.2).none m c z.1 r new k p }

still_lacking_in : {q : Question} {x : DecodeError} (old failed : Held) → due failed.scopes ≡ due old.scopes →
    (¬ (x ≡ OutOfMemory) → (e : List Bool) → IsFew (told failed.failed) e → NoLevel Finds AtOnce q old.levels (held_with e old) failed x) → NoLevel Finds TooFewHeld q old.levels old failed x
still_lacking_in old failed d h = record { none = λ m c f l r new k p. let z = few_told old failed c d f in (h m z.0 z.2).none m c z.1 l r new k p }

-- bits that do not begin with something do not with such bits appended
none_more : {X : Type 0} (free : Per.Freedom → Bool) (f : X → Per.BitForm) (k : List Scope) (a : Position) (n : ℕ) (e : List Bool) →
    NoneStands free f a → StillTooShort free f a n → IsFew n e → NoneStands free f (place_with e k a)
none_more {X} free f k a n e none s w = by_case (is_within k)
  where
    here : (p : Position) → p ≡ a → NoneStands free f p
    here p i = subst (λ (q : Position). NoneStands free f q) (sym i) none

    by_case : (b : Bool) → NoneStands free f (a.0, cond b a.1 (a.1 ++ e))
    by_case true = here (a.0, a.1) (place_same (a.0, a.1) a refl refl)
    by_case false = elim w [
      | inl z ↦ here (a.0, a.1 ++ e) (place_same (a.0, a.1 ++ e) a refl (ap (λ l. a.1 ++ l) z ∙ append-nil a.1))
      | inr j ↦ s e j.0 j.1
    ]

pub none_lacking : {q : Question} {x : DecodeError} (old now failed : Held) (s : Schema) (e : DecodeError) → now ≡ old → x ≡ e →
    failed.scopes ≡ now.scopes → Misses (freedoms now.rules) (Per.form (is_aligned now.rules) s) now.place e →
    StillTooShort (freedoms now.rules) (Per.form (is_aligned now.rules) s) now.place (told failed.failed) →
    ((al : Bool) (free : Per.Freedom → Bool) (a b : State) (r : Record) → question r ≡ q → Takes al free a r b → OfType al free a b s) → NoRecord Finds TooFewHeld q old failed x
none_lacking {q} {x} old now failed s e same faults kept m short asked =
    let here : NoRecord Finds TooFewHeld q now failed x = still_lacking now failed (ap (λ l. due l) kept) (λ i more w.
    let misses = misses_also (freedoms now.rules) (Per.form (is_aligned now.rules) s) (Per.form (is_aligned now.rules) s) now.place
    (place_with more now.scopes now.place) e (λ none. none_more (freedoms now.rules) (Per.form (is_aligned now.rules) s) now.scopes now.place (told failed.failed) more none short w) m in
    none_found (held_with more now) (held_with more now) q s e x refl faults misses asked) in
    subst (λ (h : Held). NoRecord Finds TooFewHeld q h failed x) same here

-- ---- open types
-- an open type that is not there is not there with such bits appended
opening_more : (now : Held) (failed : Held) (k : List Scope) (e : DecodeError) → ¬ (e ≡ OutOfMemory) →
    ((l : List Scope) (b : State) → Opens (is_aligned now.rules) (freedoms now.rules) now.place l b → ⊥) →
    StillTooShort (freedoms now.rules) (counted_units (is_aligned now.rules) 8) now.place (told failed.failed) → (more : List Bool) →
    IsFew (told failed.failed) more → (l : List Scope) (b : State) → Opens (is_aligned now.rules) (freedoms now.rules) (place_with more k now.place) l b → ⊥
opening_more now failed k e i none short more w l b o =
    none_more (freedoms now.rules) (Per.counted_octets (is_aligned now.rules)) k now.place (told failed.failed) more
    (λ os rest f. none [] ((0, _), _) (os, rest, f, refl))
    (λ h j m. no_octets (freedoms now.rules) (is_aligned now.rules) (now.place.0, now.place.1 ++ h) (short h j m))
    w o.0 o.1 o.2

flags_more : (e : List Bool) (v : Bool) (s k : List Scope) → NextBitmapBit v s k → NextBitmapBit v (scopes_with e s) (scopes_with e k)
flags_more e v s k f = (f.0, f.1, scopes_with e f.2, ap (λ l. scopes_with e l) f.3, ap (λ l. scopes_with e l) f.4)

flags_due : (v : Bool) (s k : List Scope) → NextBitmapBit v s k → due k ≡ due s
flags_due v s k f = ap (λ l. due l) f.4 ∙ sym (ap (λ l. due l) f.3)

-- what is left in scopes after what was read
abbrev placed_in : Held → Position → List Scope → Held
placed_in now p k = record { place = p; scopes = k; levels = now.levels; most = now.most; failed = now.failed; rules = now.rules; stands = now.stands }

pub addition_lacking : {x : DecodeError} (old now failed : Held) (v : Bool) (k : List Scope) (e : DecodeError) → now ≡ old → x ≡ e → v ≡ true →
    NextBitmapBit v now.scopes k → NoOpening (placed_in now now.place k) e →
    (¬ (e ≡ OutOfMemory) → (failed.scopes ≡ k) × StillTooShort (freedoms now.rules) (counted_units (is_aligned now.rules) 8) now.place
    (told failed.failed)) → NoRecord Finds TooFewHeld asks_addition old failed x
addition_lacking {x} old now failed v k e same faults there flags none short =
    let here : NoRecord Finds TooFewHeld asks_addition now failed x = record {
      none = λ m c f r new q p.
          let i : ¬ (e ≡ OutOfMemory) = λ y. m (faults ∙ y) in
          let s = short i in
          let d : due failed.scopes ≡ due now.scopes = ap (λ l. due l) s.0 ∙ flags_due v now.scopes k flags in
          let t : NoRecord Finds TooFewHeld asks_addition now failed x = still_lacking now failed d (λ j more w.
          let opening : NoOpening (placed_in (held_with more now) (place_with more now.scopes now.place) (scopes_with more k)) e = λ u l b o.
          opening_more now failed now.scopes e i (λ a z y. none i a z y) s.1 more w l b o in
          no_addition_opens (held_with more now) (held_with more now) (placed_in (held_with more now) (place_with more now.scopes now.place)
          (scopes_with more k)) v (scopes_with more k) e x refl faults there (flags_more more v now.scopes k flags) refl opening) in
          t.none m c f r new q p;
    } in
    subst (λ (h : Held). NoRecord Finds TooFewHeld asks_addition h failed x) same here

pub choice_lacking : {x : DecodeError} (now mid failed : Held) (xs : List Tag) (e : Bool) (ys : List Tag) (n m : ℕ) (c : Chosen)
    (here there : Position) → n ≡ length xs → m ≡ length ys → here ≡ now.place → c.added ≡ true →
    Front (freedoms now.rules) (index_form (is_aligned now.rules) n e m c) here there → mid ≡ placed_in now there now.scopes → NoOpening mid x →
    (¬ (x ≡ OutOfMemory) → (failed.scopes ≡ mid.scopes) × StillTooShort (freedoms mid.rules) (counted_units (is_aligned mid.rules) 8) mid.place
    (told failed.failed)) → NoLevel Finds TooFewHeld (asks_choice xs e ys) now.levels now failed x
choice_lacking {x} now mid failed xs e ys n m c here there p q h t fr z none short =
    let own : Held = placed_in now there now.scopes in
    let w : NoOpening own x = subst (λ (g : Held). NoOpening g x) z none in
    let shorter : ¬ (x ≡ OutOfMemory) → (failed.scopes ≡ now.scopes) ×
    StillTooShort (freedoms now.rules) (counted_units (is_aligned now.rules) 8) there (told failed.failed) =
    subst (λ (g : Held). ¬ (x ≡ OutOfMemory) → (failed.scopes ≡ g.scopes) × StillTooShort (freedoms g.rules) (counted_units (is_aligned g.rules) 8) g.place (told failed.failed)) z short in
    let a : Front (freedoms now.rules) (index_form (is_aligned now.rules) n e m c) now.place there =
    subst (λ (y : Position). Front (freedoms now.rules) (index_form (is_aligned now.rules) n e m c) y there) h fr in
    record {
      none = λ i d f l r new k g.
          let s = shorter i in
          let b : NoLevel Finds TooFewHeld (asks_choice xs e ys) now.levels now failed x = still_lacking_in now failed (ap (λ l. due l) s.0) (λ j more v.
          let fronts = front_more (freedoms now.rules) more (index_form (is_aligned now.rules) n e m c) now.scopes now.place there a in
          let opening : NoOpening (placed_in (held_with more now) (place_with more now.scopes there) (scopes_with more now.scopes)) x = λ u y o b.
          opening_more own failed now.scopes x i (λ y b o. w i y b o) s.1 more v y o b in
          no_chosen_type (held_with more now) (held_with more now) (placed_in (held_with more now) (place_with more now.scopes there)
          (scopes_with more now.scopes)) xs e ys n m c (place_with more now.scopes now.place) (place_with more now.scopes there) x refl p q refl t fronts refl opening) in
          b.none i d f l r new k g;
    }
