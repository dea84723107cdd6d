-- Why a decoder finds no string, also with as many octets more as are missing.
use Rattle.std.proofs.Common.{◌≡◌, inl, inr, ◌≤◌, ◌<◌, ℕ, Bool, true, false, cond, List, [], ◌∷◌, ◌++◌, length, Option, Some, None, refl, sym, ◌∙◌, ap, subst, length-append, append-nil, arith}
use Rattle.std.proofs.lemmas.Bool.{cases_lt}
use Rattle.asn1_model.specs.Oer
use Rattle.asn1_model.specs.Schema.{Schema, Tag}
use Rattle.asn1_schema_decode.specs.Reads.{NoRecord, NoLevel}
use Rattle.asn1_schema_errors.specs.declared.DecodeError.{DecodeError}
use Rattle.asn1_schema_errors.specs.declared.DecodeError.TheVariants.{OutOfMemory}
use Rattle.asn1_schema_laws.specs.Records.{Record, Question, question, asks_addition, asks_additions, asks_choice}
use Rattle.oer_codec_laws.specs.Takes.{Scope, components, added, open_type, State, Front, AdditionsBegin, NextAddition, Chooses, Takes}
use Rattle.oer_codec_longer_laws.specs.More.{is_within, octets_with, scopes_with, with_more, octets_behind, outermost}
use Rattle.oer_codec_longer_laws.specs.Few.{due}
use Rattle.oer_codec_longer_laws.proofs.Behind.{outside}
use Rattle.oer_codec_longer_laws.proofs.Steps.{takes_back}
use Rattle.oer_codec_reading.specs.declared.rules.EncodingRules.{EncodingRules}
use Rattle.oer_codec_reading.specs.Fronts.{freedoms, NoneStands}
use Rattle.oer_codec_held_laws.specs.Held.{Held, state_of, Finds}
use Rattle.oer_codec_held_laws.specs.Few.{held_with, Fewer, TooFewHeld}
use Rattle.oer_codec_held_laws.proofs.Carried.{nothing_more}
use Rattle.oer_codec_decoder.specs.Missing.{TooShort, StillTooShort, StillNoChoice, bitmap_size}
use Rattle.oer_codec_decoder.specs.Refusals.{NotOpened, NoChoice}
use Rattle.oer_codec_decoder.specs.Scopes.{NextPresent}
use Rattle.oer_codec_decoder.proofs.Records.{asked_addition, asked_additions, asked_choice}
use Rattle.oer_codec_decoder.proofs.Refused.{NoneIn}
use Rattle.oer_codec_decoder.proofs.Finding.{OfType, stands}
use Rattle.oer_codec_decoder.proofs.ShortStrings.{none_counted, no_bitmap_yet}

-- within an open type, octets that come later follow all that is held
within_more : (e : List ℕ) (k : List Scope) (os : List ℕ) → is_within k ≡ true → length e ≤ length (octets_behind os (scopes_with e k))
within_more e [] os h = cc
within_more e (open_type rest ∷ k) os h = at (λ i. within_more e k (octets_with e k rest) i) (is_within k) refl
  where
    at : (is_within k ≡ true → length e ≤ length (octets_behind (octets_with e k rest) (scopes_with e k))) → (b : Bool) → is_within k ≡ b →
        length e ≤ length (octets_behind (octets_with e k rest) (scopes_with e k))
    at again true i = again i
    at again false i =
        let p : octets_behind (octets_with e k rest) (scopes_with e k) ≡ octets_with e k rest = outside e k (octets_with e k rest) i in
        let q : octets_with e k rest ≡ rest ++ e = ap (λ b. cond b rest (rest ++ e)) i in
        let l = ap (λ (l : List ℕ). length l) (p ∙ q) in
        let m = length-append rest e in
        omega arith
within_more e (s ∷ k) os h = within_more e k os h

no_octet : (e : List ℕ) → length e ≤ 0 → e ≡ []
no_octet [] h = refl
no_octet (x ∷ e) h = absurd (omega arith)

-- a record that takes no octets after the end of an open type, and is absent if there are too few octets
module _ {q : Question} {x : DecodeError} (old failed : Held) (size : Option ℕ)
    (same : failed.scopes ≡ old.scopes)
    (short : StillTooShort (freedoms old.rules) size old.octets (failed.short))
    (none : (e os : List ℕ) (b : State) (r : Record) → question r ≡ q → Takes (freedoms old.rules) (os, scopes_with e old.scopes) r b → TooShort (freedoms old.rules) size os → ⊥)
    (apart : (a b : State) (r : Record) → question r ≡ q → Takes (freedoms old.rules) a r b → (os : List ℕ) → octets_behind os b.1 ≡ octets_behind os a.1)
    (n : NoneIn q old x) where
  nothing : (e : List ℕ) (c : Held) → c ≡ held_with e old → e ≡ [] → ¬ (x ≡ OutOfMemory) → (r : Record) (new : Held) → question r ≡ q → Finds c r new → ⊥
  nothing e c f z m r new k p = n.none m r new k (subst (λ (h : Held). Finds h r new) (f ∙ ap (λ l. held_with l old) z ∙ sym (nothing_more old)) p)

  something : (e : List ℕ) → 0 < failed.short → length e ≤ failed.short → ¬ (x ≡ OutOfMemory) → (r : Record) (new : Held) → question r ≡ q → Finds (held_with e old) r new → ⊥
  something e i l m r new k p = by_case (is_within old.scopes) refl
    where
      by_case : (b : Bool) → is_within old.scopes ≡ b → ⊥
      by_case false w =
          let v : octets_with e old.scopes old.octets ≡ old.octets ++ e = ap (λ b. cond b old.octets (old.octets ++ e)) w in
          none e (octets_with e old.scopes old.octets) (state_of new) r k p.taken (subst (λ os. TooShort (freedoms old.rules) size os) (sym v) (short e i l))
      by_case true w =
          let j : length e ≤ length (octets_behind new.octets (scopes_with e old.scopes)) = within_more e old.scopes new.octets w in
          let o : octets_behind new.octets (scopes_with e old.scopes) ≡ outermost (state_of new) = sym (apart (with_more e (state_of old)) (state_of new) r k p.taken new.octets) in
          let u = ap (λ (y : List ℕ). length y) o in
          let z = takes_back (freedoms old.rules) e (state_of old) r (state_of new) p.taken (omega arith) in
          let y : Held = record { octets = z.0.0; scopes = z.0.1; levels = new.levels; most = new.most; failed = new.failed; short = new.short; rules = new.rules } in
          n.none m r y k (record { ready = p.ready; taken = z.2; levels = p.levels; most = p.most; ready_still = p.ready_still; short = p.short; rules = p.rules })

  pub still_lacking : NoRecord Finds TooFewHeld q old failed x
  still_lacking = record {
    none = λ m c f r new k p. elim f.2 [
      | inr z ↦ nothing f.0 c f.1 z m r new k p
      | inl i ↦
          let d : due failed.scopes ≡ due old.scopes = ap (λ l. due l) same in
          let h = i.1 in
          elim (cases_lt 0 (failed.short)) [
            | inl j ↦ something f.0 j (omega arith) m r new k (subst (λ (h : Held). Finds h r new) f.1 p)
            | inr j ↦ nothing f.0 c f.1 (no_octet f.0 (omega arith)) m r new k p
          ]
    ];
  }

-- the encoding of a value of a type, at the position of the decoder
pub still_short : {q : Question} {failed : Held} {x : DecodeError} (old now : Held) (s : Schema) (size : Option ℕ) (os : List ℕ) → now ≡ old →
    os ≡ now.octets → failed.scopes ≡ now.scopes → StillTooShort (freedoms now.rules) size os (failed.short) →
    ((rules : EncodingRules) (w : List ℕ) → TooShort (freedoms rules) size w → NoneStands (freedoms rules) (Oer.form s) w) →
    ((free : Oer.Freedom → Bool) (a b : State) (r : Record) → question r ≡ q → Takes free a r b → OfType free a b s) → NoneIn q old x → NoRecord Finds TooFewHeld q old failed x
still_short {failed = failed} old now s size os e f g short none asked n =
    still_lacking old failed size (g ∙ ap (λ (h : Held). h.scopes) e)
    (subst (λ (h : Held). StillTooShort (freedoms h.rules) size h.octets (failed.short)) e (subst (λ l. StillTooShort (freedoms now.rules) size l (failed.short)) f short))
    (λ e w b r k t few. let u = asked (freedoms old.rules) (w, scopes_with e old.scopes) b r k t in none old.rules w few u.0 b.0 (stands u.1.0))
    (λ a b r k t w. let u = asked (freedoms old.rules) a b r k t in ap (λ l. octets_behind w l) u.1.1)
    n

-- ---- presence bitmaps
bits_apart : (free : Oer.Freedom → Bool) (n : ℕ) (os : List ℕ) (k : List Scope) (b : State) → AdditionsBegin free n os k b → (w : List ℕ) → octets_behind w b.1 ≡ octets_behind w k
bits_apart free n os (components (Some false) [] ∷ k) b t w = ap (λ (c : State). octets_behind w c.1) t
bits_apart free n os (components (Some true) [] ∷ k) b t w = ap (λ l. octets_behind w l) t.3
bits_apart free n os k b t w = absurd t

pub bitmap_short : {failed : Held} {x : DecodeError} (old now : Held) (n : ℕ) (set : Bool) (k : List Scope) (size : Option ℕ) (os : List ℕ) →
    now ≡ old → os ≡ now.octets → now.scopes ≡ components (Some set) [] ∷ k → size ≡ bitmap_size set → failed.scopes ≡ now.scopes →
    StillTooShort (freedoms now.rules) size os (failed.short) → NoneIn (asks_additions n) old x → NoRecord Finds TooFewHeld (asks_additions n) old failed x
bitmap_short {failed = failed} old now n set k size os e f s z g short none =
    let is : old.scopes ≡ components (Some set) [] ∷ k = sym (ap (λ (h : Held). h.scopes) e) ∙ s in
    still_lacking old failed size (g ∙ ap (λ (h : Held). h.scopes) e)
    (subst (λ (h : Held). StillTooShort (freedoms h.rules) size h.octets (failed.short)) e (subst (λ l. StillTooShort (freedoms now.rules) size l (failed.short)) f short))
    (λ e w b r q t few.
    let u = asked_additions (freedoms old.rules) n (w, scopes_with e old.scopes) b r q t in
    no_bitmap_yet old.rules n set w (scopes_with e k) b (subst (λ l. AdditionsBegin (freedoms old.rules) n w l b) (ap (λ l. scopes_with e l) is) u)
    (subst (λ o. TooShort (freedoms old.rules) o w) z few))
    (λ a b r q t w. bits_apart (freedoms old.rules) n a.0 a.1 b (asked_additions (freedoms old.rules) n a b r q t) w)
    none

-- ---- open types
same_due : (v : Bool) (k after : List Scope) → NextPresent v k after → due after ≡ due k
same_due v (added (m ∷ ms) us ∷ k) after n = ap (λ l. due l) n.1
same_due v (s ∷ k) after n = absurd n
same_due v [] after n = absurd n

opened : (free : Oer.Freedom → Bool) (v w : Bool) (os e : List ℕ) (k after : List Scope) (b : State) → v ≡ true → NextPresent v k after →
    NextAddition free w os (scopes_with e k) b → (rest : List ℕ) × Front free (Oer.counted b.0) os rest
opened free v w os e (added (true ∷ ms) us ∷ k) after b t n a = (a.1.0, a.1.1)
opened free v w os e (added (false ∷ ms) us ∷ k) after b t n a = let f : true ≡ false = sym t ∙ n.0 in cc f
opened free v w os e [] after b t n a = absurd n
opened free v w os e (s ∷ k) after b t n a = absurd n

module _ {x : DecodeError} (old failed : Held) (v : Bool) (after : List Scope) (e : DecodeError) (faults : x ≡ e) (there : v ≡ true)
    (next : NextPresent v old.scopes after)
    (closed : NotOpened (freedoms old.rules) old.octets e)
    (kept : ¬ (e ≡ OutOfMemory) → (failed.scopes ≡ after) × StillTooShort (freedoms old.rules) None old.octets (failed.short)) where
  none_here : ¬ (e ≡ OutOfMemory) → (os text rest : List ℕ) → os ≡ old.octets → Front (freedoms old.rules) (Oer.counted text) os rest → ⊥
  none_here i os text rest q f = closed.none i [] (text, open_type rest ∷ []) (rest, subst (λ l. Front (freedoms old.rules) (Oer.counted text) l rest) q f, refl)

  none_behind : ¬ (e ≡ OutOfMemory) → (more text rest : List ℕ) → Fewer (due old.scopes) old failed more → Front (freedoms old.rules) (Oer.counted text) (old.octets ++ more) rest → ⊥
  none_behind i more text rest (inr z) f = none_here i (old.octets ++ more) text rest (ap (λ l. old.octets ++ l) z ∙ append-nil old.octets) f
  none_behind i more text rest (inl j) f =
      let k = kept i in
      let d : due failed.scopes ≡ due old.scopes = ap (λ l. due l) k.0 ∙ same_due v old.scopes after next in
      let h = j.1 in
      elim (cases_lt 0 (failed.short)) [
        | inl l ↦ none_counted (freedoms old.rules) (old.octets ++ more) (k.1 more l (omega arith)) text rest (stands f)
        | inr l ↦ none_here i (old.octets ++ more) text rest (ap (λ l. old.octets ++ l) (no_octet more (omega arith)) ∙ append-nil old.octets) f
      ]

  none_at : ¬ (e ≡ OutOfMemory) → (more text rest : List ℕ) → Fewer (due old.scopes) old failed more → (b : Bool) → is_within old.scopes ≡ b →
      Front (freedoms old.rules) (Oer.counted text) (octets_with more old.scopes old.octets) rest → ⊥
  none_at i more text rest f true w g = none_here i (octets_with more old.scopes old.octets) text rest (ap (λ b. cond b old.octets (old.octets ++ more)) w) g
  none_at i more text rest f false w g = none_behind i more text rest f (subst (λ l. Front (freedoms old.rules) (Oer.counted text) l rest) (ap (λ b. cond b old.octets (old.octets ++ more)) w) g)

  pub addition_lacking : NoRecord Finds TooFewHeld asks_addition old failed x
  addition_lacking = record {
    none = λ i c f r new k p.
        let y : Finds (held_with f.0 old) r new = subst (λ (h : Held). Finds h r new) f.1 p in
        let w = asked_addition (freedoms old.rules) (state_of (held_with f.0 old)) (state_of new) r k y.taken in
        let z = opened (freedoms old.rules) v w.0 (octets_with f.0 old.scopes old.octets) f.0 old.scopes after (state_of new) there next w.1 in
        none_at (λ y. i (faults ∙ y)) f.0 new.octets z.0 f.2 (is_within old.scopes) refl z.1;
  }

-- the state in which the decoder failed
pub addition_short : {x : DecodeError} (old now failed : Held) (v : Bool) (after : List Scope) (e : DecodeError) → now ≡ old → x ≡ e → v ≡ true →
    NextPresent v now.scopes after → NotOpened (freedoms now.rules) now.octets e →
    (¬ (e ≡ OutOfMemory) → (failed.scopes ≡ after) × StillTooShort (freedoms now.rules) None now.octets (failed.short)) → NoRecord Finds TooFewHeld asks_addition old failed x
addition_short old now failed v after e same faults there next closed kept =
    addition_lacking old failed v after e faults there (subst (λ (h : Held). NextPresent v h.scopes after) same next)
    (subst (λ (h : Held). NotOpened (freedoms h.rules) h.octets e) same closed) (λ i. let k = kept i in
    (k.0, subst (λ (h : Held). StillTooShort (freedoms h.rules) None h.octets (failed.short)) same k.1))

-- ---- choices
module _ {x : DecodeError} (old failed : Held) (roots : List Tag) (e : Bool) (others : List Tag) (f : DecodeError)
    (faults : x ≡ f)
    (same : failed.scopes ≡ old.scopes)
    (closed : NoChoice (freedoms old.rules) roots e others old.octets f)
    (short : StillNoChoice (freedoms old.rules) roots e others old.octets (failed.short)) where
  none_chosen : ¬ (f ≡ OutOfMemory) → (os : List ℕ) → os ≡ old.octets → (plus : Bool) (i : ℕ) (k : List Scope) (b : State) → Chooses (freedoms old.rules) roots e others plus i (os, k) b → ⊥
  none_chosen m os q plus i k b c = closed.none m plus i k b (subst (λ l. Chooses (freedoms old.rules) roots e others plus i (l, k) b) q c)

  none_chosen_behind : ¬ (f ≡ OutOfMemory) → (more : List ℕ) → Fewer (due old.scopes) old failed more →
      (plus : Bool) (i : ℕ) (k : List Scope) (b : State) → Chooses (freedoms old.rules) roots e others plus i (old.octets ++ more, k) b → ⊥
  none_chosen_behind m more (inr z) plus i k b c = none_chosen m (old.octets ++ more) (ap (λ l. old.octets ++ l) z ∙ append-nil old.octets) plus i k b c
  none_chosen_behind m more (inl j) plus i k b c =
      let d : due failed.scopes ≡ due old.scopes = ap (λ l. due l) same in
      let h = j.1 in
      elim (cases_lt 0 (failed.short)) [
        | inl l ↦ short more l (omega arith) plus i k b c
        | inr l ↦ none_chosen m (old.octets ++ more) (ap (λ l. old.octets ++ l) (no_octet more (omega arith)) ∙ append-nil old.octets) plus i k b c
      ]

  none_chosen_at : ¬ (f ≡ OutOfMemory) → (more : List ℕ) → Fewer (due old.scopes) old failed more → (w : Bool) → is_within old.scopes ≡ w →
      (plus : Bool) (i : ℕ) (k : List Scope) (b : State) → Chooses (freedoms old.rules) roots e others plus i (octets_with more old.scopes old.octets, k) b → ⊥
  none_chosen_at m more g true w plus i k b c = none_chosen m (octets_with more old.scopes old.octets) (ap (λ b. cond b old.octets (old.octets ++ more)) w) plus i k b c
  none_chosen_at m more g false w plus i k b c = none_chosen_behind m more g plus i k b
      (subst (λ l. Chooses (freedoms old.rules) roots e others plus i (l, k) b) (ap (λ b. cond b old.octets (old.octets ++ more)) w) c)

  pub choice_lacking : NoLevel Finds TooFewHeld (asks_choice roots e others) old.levels old failed x
  choice_lacking = record {
    none = λ i c g l r new k p.
        let y : Finds (held_with g.0 old) r new = subst (λ (h : Held). Finds h r new) g.1 p in
        let w = asked_choice (freedoms old.rules) (with_more g.0 (state_of old)) (state_of new) roots e others r k y.taken in
        none_chosen_at (λ y. i (faults ∙ y)) g.0 g.2 (is_within old.scopes) refl w.0 w.1 (scopes_with g.0 old.scopes) (state_of new) w.2;
  }

-- the state in which the decoder failed
pub choice_short : {x : DecodeError} (old now failed : Held) (roots : List Tag) (e : Bool) (others : List Tag) (f : DecodeError) (os : List ℕ) →
    now ≡ old → os ≡ now.octets → x ≡ f → failed.scopes ≡ now.scopes → NoChoice (freedoms now.rules) roots e others now.octets f →
    StillNoChoice (freedoms now.rules) roots e others os (failed.short) → NoLevel Finds TooFewHeld (asks_choice roots e others) old.levels old failed x
choice_short old now failed roots e others f os same stood faults kept closed short =
    choice_lacking old failed roots e others f faults (kept ∙ ap (λ (h : Held). h.scopes) same)
    (subst (λ (h : Held). NoChoice (freedoms h.rules) roots e others h.octets f) same closed)
    (subst (λ (h : Held). StillNoChoice (freedoms h.rules) roots e others h.octets (failed.short)) same
    (subst (λ l. StillNoChoice (freedoms now.rules) roots e others l (failed.short)) stood short))
