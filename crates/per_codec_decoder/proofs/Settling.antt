-- How a decoder continues after what a reader found, and fails as it did.
use Rattle.std.proofs.Common.{◌≡◌, ℕ, zero, suc, ◌+◌, Bool, true, inl, inr, List, [], ◌∷◌, ◌++◌, Option, Some, None, Result, Ok, Err, IfOk, IfErr, refl, sym, ◌∙◌, ap, subst, arith}
use Rattle.std.specs.Prelude.{OnOk, OnErr, is_some}
use Rattle.asn1_schema_laws.specs.Levels.{level}
use Rattle.asn1_model.specs.Schema.{Counts, Size, Alphabet, StringKind, Schema, character_string}
use Rattle.asn1_model.specs.Per
use Rattle.asn1_schema_decode.specs.Reads.{NoRecord}
use Rattle.asn1_schema_errors.specs.declared.DecodeError.{DecodeError}
use Rattle.asn1_schema_laws.specs.Records.{Record, Question, question, further, asks_characters}
use Rattle.per_codec_laws.specs.Sizes.{told_highest}
use Rattle.per_codec_laws.specs.Takes.{Position, Scope, members, State, Tally, Front, Found, NextDeterminant, Counted, NextMember, MemberDue, completion, Takes}
use Rattle.per_codec_reading.specs.Fronts.{freedoms, is_aligned, Leads, Misses}
use Rattle.per_codec_reading.specs.Runs.{Storage}
use Rattle.per_codec_reading.proofs.Fronts.{leads_join}
use Rattle.per_codec_reading_values.specs.Stretches.{Stretched}
use Rattle.per_codec_reading.specs.declared.rules.PackedRules.{PackedRules}
use Rattle.per_codec_held_laws.specs.Held.{Held, state_of, kept, Finds}
use Rattle.per_codec_decoder.specs.Held.{OnlyMoves, Moves, EntersMembers, EntersComponents}
use Rattle.per_codec_held_laws.specs.Held.{HasFailed, IsReady}
use Rattle.per_codec_decoder.specs.Preamble.{HasPreamble}
use Rattle.per_codec_decoder.specs.Members.{HasMembers}
use Rattle.per_codec_held_laws.specs.Few.{TooFewHeld, OwesNoMore}
use Rattle.per_codec_decoder.proofs.Finding.{OfType, asked_characters, none_found}
use Rattle.per_codec_decoder.proofs.Refused.{still_none}

-- whether the decoder has failed, by its parts
pub now_ready : (old now : Held) → now ≡ old → IsReady now → IsReady old
now_ready old now same ready = ap (λ (h : Held). is_some h.failed) (sym same) ∙ ready

pub not_ready : (old now : Held) → now ≡ old → HasFailed now → IsReady old → ⊥
not_ready old now same failed ready = let e : IsReady now = ap (λ (h : Held). is_some h.failed) same ∙ ready in cc

-- a record is found
pub steps : (old now new : Held) (p : Position) (k : List Scope) (l : ℕ) (r : Record) (m : List Storage) → now ≡ old → IsReady old →
    Takes (is_aligned now.rules) (freedoms now.rules) (state_of now) r (p, k) → level now.most r now.levels ≡ Some l → m ≡ kept now r p k →
    new ≡ record { place = p; scopes = k; levels = l; most = now.most; failed = now.failed; rules = now.rules; stands = m } → Finds old r new
steps old now new p k l r m same ready t v u f =
    let here : Finds now r new = record {
      ready = ap (λ (h : Held). is_some h.failed) same ∙ ready;
      taken = subst (λ (h : Held). Takes (is_aligned now.rules) (freedoms now.rules) (state_of now) r (state_of h)) (sym f) t;
      levels = v ∙ ap (λ (h : Held). Some h.levels) (sym f);
      most = ap (λ (h : Held). h.most) f;
      ready_still = ap (λ (h : Held). is_some h.failed) f ∙ ap (λ (h : Held). is_some h.failed) same ∙ ready;
      rules = ap (λ (h : Held). h.rules) f;
      stands = ap (λ (h : Held). h.stands) f ∙ u ∙ ap (λ (h : Held). kept now r h.place h.scopes) (sym f);
    } in
    subst (λ (h : Held). Finds h r new) same here

front_at : (free : Per.Freedom → Bool) (x : Per.BitForm) (a b c : Position) → a ≡ c → Front free x a b → Front free x c b
front_at free x a b c e f = subst (λ (p : Position). Front free x p b) e f

-- where a reader continues from a position
pub moves_there : (now new : Held) (free : Per.Freedom → Bool) (x : Per.BitForm) (here there : Position) (n : ℕ) → here ≡ now.place → n ≡ there.0 →
    Front free x here there → Moves now n new → new ≡ record { place = there; scopes = now.scopes; levels = now.levels; most = now.most; failed = now.failed; rules = now.rules; stands = now.stands }
moves_there now new free x here there n e p f m = let g = front_at free x here there now.place e f in m g.text there (sym p) (g.in_front, g.moved)

-- what a reader found is returned
pub found : {T : Type 0} (answer result : Result T DecodeError) (rec : T → Record) (form : T → Per.BitForm) (old now new : Held)
    (here there : Position) (n : ℕ) → now ≡ old → IsReady old → here ≡ now.place → n ≡ there.0 → result ≡ answer →
    IfOk answer (λ x. Front (freedoms now.rules) (form x) here there) → OnOk result (Moves now n new) →
    ((x : T) (a b : State) → Found (freedoms now.rules) (form x) a b → Takes (is_aligned now.rules) (freedoms now.rules) a (rec x) b) →
    ((x : T) (most l : ℕ) → level most (rec x) l ≡ Some l) → ((x : T) (h : Held) (p : Position) (k : List Scope) → h.stands ≡ kept h (rec x) p k) → IfOk result (λ x. Finds old (rec x) new)
found (Ok x) (Err e) rec form old now new here there n same ready h p r f m t v u = tt
found (Err x) (Err e) rec form old now new here there n same ready h p r f m t v u = tt
found (Err x) (Ok y) rec form old now new here there n same ready h p r f m t v u = cc
found (Ok x) (Ok y) rec form old now new here there n same ready h p r f m t v u =
    let e : y ≡ x = cc in
    let g : Front (freedoms now.rules) (form y) here there = subst (λ z. Front (freedoms now.rules) (form z) here there) (sym e) f in
    let i = front_at (freedoms now.rules) (form y) here there now.place h g in
    steps old now new there now.scopes now.levels (rec y) now.stands same ready (t y (state_of now) (there, now.scopes) (i, refl))
    (v y now.most now.levels) (u y now there now.scopes) (moves_there now new (freedoms now.rules) (form y) here there n h p g m)

-- what is read by its form is within its bounds
pub also : {T : Type 0} (answer result : Result T DecodeError) (P Q : T → Type 0) → result ≡ answer → IfOk answer P → ((x : T) → P x → Q x) → IfOk result Q
also (Ok x) (Err e) P Q r p h = tt
also (Err x) (Err e) P Q r p h = tt
also (Err x) (Ok y) P Q r p h = cc
also (Ok x) (Ok y) P Q r p h = let e : y ≡ x = cc in h y (subst P (sym e) p)

-- why a reader found nothing is why no record is found
pub unfound : {T : Type 0} (failed : Held) (answer result : Result T DecodeError) (q : Question) (s : Schema) (old now : Held) (here : Position) →
    now ≡ old → here ≡ now.place → result ≡ answer → OnErr result (OwesNoMore old failed) →
    IfErr answer (Misses (freedoms now.rules) (Per.form (is_aligned now.rules) s) here) →
    ((al : Bool) (free : Per.Freedom → Bool) (a b : State) (r : Record) → question r ≡ q → Takes al free a r b → OfType al free a b s) → IfErr result (NoRecord Finds TooFewHeld q old failed)
unfound failed answer (Ok x) q s old now here same h r stay m asked = tt
unfound failed (Ok x) (Err e) q s old now here same h r stay m asked = cc
unfound failed (Err x) (Err e) q s old now here same h r stay m asked =
    let k : e ≡ x = cc in
    still_none stay (none_found old now q s x e same k (subst (λ (p : Position). Misses (freedoms now.rules) (Per.form (is_aligned now.rules) s) p x) h m) asked)

-- the same for any reason
pub unless : {T : Type 0} (answer result : Result T DecodeError) (P Q : DecodeError → Type 0) → result ≡ answer → IfErr answer P → ((e : DecodeError) → P e → Q e) → IfErr result Q
unless answer (Ok x) P Q r p h = tt
unless (Ok x) (Err e) P Q r p h = cc
unless (Err x) (Err e) P Q r p h = let k : e ≡ x = cc in h e (subst P (sym k) p)

-- ---- elements
abbrev pub Led : Position → Position → Type 0
Led a b = (w : List Bool) × Leads w a b

stay : (a : Position) → Led a a
stay a = ([], (refl, omega arith))

module _ (free : Per.Freedom → Bool) (al : Bool) where
  led : (x : Per.BitForm) (a b : Position) → Front free x a b → Led a b
  led x a b f = (f.text, (f.in_front, f.moved))

  determinant_led : (t : Tally) (a b : Position) (due : ℕ) (hs : Option Tally) → NextDeterminant al free t a b due hs → Led a b
  determinant_led t a b due hs (inl x) = led _ a b x.3
  determinant_led t a b due hs (inr x) = led _ a b x.1

  due_led : (v : Bool) (n : ℕ) (hs : Option Tally) (a : Position) (k : List Scope) (b : State) → MemberDue v n hs a k b → b.0 ≡ a
  due_led v (suc n) hs a k b m = ap (λ (s : State). s.0) m.1
  due_led v zero None a k b m = ap (λ (s : State). s.0) m.1
  due_led v zero (Some t) a k b m = absurd m

  pub member_led : (v : Bool) (a : Position) (s : List Scope) (b : State) → NextMember al free v a s b → Led a b.0
  member_led v a (members zero (Some t) ∷ k) b g = let e = due_led v g.0 g.1 g.2 k b g.4 in subst (λ (p : Position). Led a p) (sym e) (determinant_led t a g.2 g.0 g.1 g.3)
  member_led v a (members zero None ∷ k) b g = let e = due_led v zero None a k b g in subst (λ (p : Position). Led a p) (sym e) (stay a)
  member_led v a (members (suc n) hs ∷ k) b g = let e = due_led v (suc n) hs a k b g in subst (λ (p : Position). Led a p) (sym e) (stay a)
  member_led v a s b g = absurd g

  counted_led : (z : Size) (h : Counts) (out : Bool) (told : Option ℕ) (a : Position) (k : List Scope) (b : State) → Counted al free z h out told a k b → Led a b.0
  counted_led z h out None a k b g = determinant_led _ a b.0 g.0 g.1 g.2
  counted_led z h out (Some high) a k b g = led _ a b.0 g.2

  pub members_led : (z : Size) (h : Counts) (due : ℕ) (hs : Option Tally) (a b : Position) → HasMembers al free z h due hs a b → Led a b
  members_led z h due hs a b g =
      let i = led _ a g.1 g.2 in
      let j = counted_led z h g.0 (told_highest g.0 z.counts.high) g.1 [] (b, members due hs ∷ []) (g.3 []) in
      (i.0 ++ j.0, leads_join i.0 j.0 a g.1 b i.1 j.1)

-- where such a reader continues
pub moves_led : (now new : Held) (here there : Position) (n : ℕ) → here ≡ now.place → n ≡ there.0 → Led here there → Moves now n new →
    new ≡ record { place = there; scopes = now.scopes; levels = now.levels; most = now.most; failed = now.failed; rules = now.rules; stands = now.stands }
moves_led now new here there n e p f m = let g = subst (λ (q : Position). Led q there) e f in m g.0 there (sym p) g.1

-- where a stretch of bits continues
pub moves_to : (a m : Stretched) (k : List Scope) (levels most : ℕ) (failed : Option ℕ) (rules : PackedRules) (behind : List Storage) (n : ℕ) →
    ((w : List Bool) (b : Position) → b.0 ≡ n → Leads w a.place b → m.place ≡ b) → m.storage ≡ a.storage →
    Moves (record { place = a.place; scopes = k; levels = levels; most = most; failed = failed; rules = rules; stands = a.storage ∷ behind }) n
    (record { place = m.place; scopes = k; levels = levels; most = most; failed = failed; rules = rules; stands = m.storage ∷ behind })
moves_to a m k levels most failed rules behind n there stored w b e l =
    ap (λ (p : Position). let h : Held = record { place = p; scopes = k; levels = levels; most = most; failed = failed; rules = rules; stands = m.storage ∷ behind } in h) (there w b e l)
    ∙ ap (λ (s : Storage). let h : Held = record { place = b; scopes = k; levels = levels; most = most; failed = failed; rules = rules; stands = s ∷ behind } in h) stored

-- another element, or the end
pub found_member : (answer result : Result Bool DecodeError) (old now mid new : Held) (here there : Position) (n : ℕ) (k : List Scope)
    (l : List Storage) → now ≡ old → IsReady old → here ≡ now.place → n ≡ there.0 → result ≡ answer →
    mid ≡ record { place = now.place; scopes = k; levels = now.levels; most = now.most; failed = now.failed; rules = now.rules; stands = l } →
    OnOk answer (l ≡ now.stands) → IfOk answer (λ v. NextMember (is_aligned now.rules) (freedoms now.rules) v here now.scopes (there, k)) →
    OnOk result (Moves mid n new) → IfOk result (λ v. Finds old (further v) new)
found_member (Ok x) (Err e) old now mid new here there n k l same ready h p r z b g m = tt
found_member (Err x) (Err e) old now mid new here there n k l same ready h p r z b g m = tt
found_member (Err x) (Ok y) old now mid new here there n k l same ready h p r z b g m = cc
found_member (Ok x) (Ok y) old now mid new here there n k l same ready h p r z b g m =
    let e : y ≡ x = cc in
    let f : NextMember (is_aligned now.rules) (freedoms now.rules) y here now.scopes (there, k) =
    subst (λ v. NextMember (is_aligned now.rules) (freedoms now.rules) v here now.scopes (there, k)) (sym e) g in
    let i : NextMember (is_aligned now.rules) (freedoms now.rules) y now.place now.scopes (there, k) =
    subst (λ (q : Position). NextMember (is_aligned now.rules) (freedoms now.rules) y q now.scopes (there, k)) h f in
    let w = member_led (freedoms now.rules) (is_aligned now.rules) y here now.scopes (there, k) f in
    let j = moves_led mid new here there n (h ∙ sym (ap (λ (q : Held). q.place) z)) p w m in
    steps old now new there k now.levels (further y) now.stands same ready i refl refl
    (j ∙ ap (λ (q : Held). let t : Held = record {
      place = there;
      scopes = q.scopes;
      levels = q.levels;
      most = q.most;
      failed = q.failed;
      rules =
          q.rules;
      stands = q.stands;
    } in t) z ∙
    ap (λ (x : List Storage). let t : Held = record { place = there; scopes = k; levels = now.levels; most = now.most; failed = now.failed; rules = now.rules; stands = x } in t) b)

-- an element that is due takes no bits
pub due_member : (old now new : Held) (k : List Scope) (l : List Storage) → now ≡ old → IsReady old → l ≡ now.stands →
    ((al : Bool) (free : Per.Freedom → Bool) (p : Position) → NextMember al free true p now.scopes (p, k)) →
    new ≡ record { place = now.place; scopes = k; levels = now.levels; most = now.most; failed = now.failed; rules = now.rules; stands = l } → Finds old (further true) new
due_member old now new k l same ready b t f = steps old now new now.place k now.levels (further true) l same ready (t (is_aligned now.rules) (freedoms now.rules) now.place) refl b f

-- ---- characters
pub uncharacters : {T : Type 0} (failed : Held) (answer result : Result T DecodeError) (c : StringKind) (z : Size) (l : Alphabet) (h : Counts)
    (old now : Held) (here : Position) → now ≡ old → here ≡ now.place → result ≡ answer → OnErr result (OwesNoMore old failed) →
    IfErr answer (Misses (freedoms now.rules) (Per.form (is_aligned now.rules) (character_string c z l h)) here) → IfErr result (NoRecord Finds TooFewHeld (asks_characters c z l h) old failed)
uncharacters failed answer result c z l h old now here same p r stay m =
    unfound failed answer result (asks_characters c z l h) (character_string c z l h) old now here same p r stay m (λ al free a b i k t. asked_characters al free a b c z l h i k t)

-- ---- the end of a message
pub finished : (answer result : Result (Unit {0}) DecodeError) (old now new : Held) (here there : Position) (n : ℕ) → now ≡ old → IsReady old →
    here ≡ now.place → n ≡ there.0 → result ≡ answer → OnOk answer (Front (freedoms now.rules) (completion here.0) here there) →
    OnOk result (Moves now n new) → OnOk result (IsReady old × Front (freedoms old.rules) (completion old.place.0) old.place new.place)
finished answer (Err e) old now new here there n same ready h p r f m = tt
finished (Err x) (Ok y) old now new here there n same ready h p r f m = cc
finished (Ok x) (Ok y) old now new here there n same ready h p r f m =
    let g : Front (freedoms now.rules) (completion here.0) here there = f in
    let i : Front (freedoms now.rules) (completion now.place.0) now.place there = subst (λ (q : Position). Front (freedoms now.rules) (completion q.0) q there) h g in
    let j : new ≡ record {
      place = there;
      scopes = now.scopes;
      levels = now.levels;
      most = now.most;
      failed = now.failed;
      rules = now.rules;
      stands =
          now.stands;
    } = m g.text there (sym p) (subst (λ (q : Position). Leads g.text q there) h (g.in_front, g.moved)) in
    let k : Front (freedoms now.rules) (completion now.place.0) now.place new.place =
    subst (λ (q : Position). Front (freedoms now.rules) (completion now.place.0) now.place q) (sym (ap (λ (w : Held). w.place) j)) i in
    (ready, subst (λ (w : Held). Front (freedoms w.rules) (completion w.place.0) w.place new.place) same k)

-- and nothing changes except the position
pub finished_there : (answer result : Result (Unit {0}) DecodeError) (old now new : Held) (here there : Position) (n : ℕ) → now ≡ old →
    here ≡ now.place → n ≡ there.0 → result ≡ answer → OnOk answer (Front (freedoms now.rules) (completion here.0) here there) → OnOk result (Moves now n new) → OnOk result (OnlyMoves old new)
finished_there answer (Err e) old now new here there n same h p r f m = tt
finished_there (Err x) (Ok y) old now new here there n same h p r f m = cc
finished_there (Ok x) (Ok y) old now new here there n same h p r f m =
    let g : Front (freedoms now.rules) (completion here.0) here there = f in
    let j : new ≡ record {
      place = there;
      scopes = now.scopes;
      levels = now.levels;
      most = now.most;
      failed = now.failed;
      rules = now.rules;
      stands =
          now.stands;
    } = m g.text there (sym p) (subst (λ (q : Position). Leads g.text q there) h (g.in_front, g.moved)) in
    let l : new.place ≡ there = ap (λ (w : Held). w.place) j in
    let k : OnlyMoves now new = j ∙
    ap (λ (q : Position). let w : Held = record {
      place = q;
      scopes = now.scopes;
      levels = now.levels;
      most = now.most;
      failed =
          now.failed;
      rules = now.rules;
      stands = now.stands;
    } in w) (sym l) in
    subst (λ (w : Held). OnlyMoves w new) same k

pub unfinished_at : (old now : Held) (here : Position) → now ≡ old → here ≡ now.place →
    ((b : Position) → Front (freedoms now.rules) (completion here.0) here b → ⊥) → IsReady old → (b : Position) → Front (freedoms old.rules) (completion old.place.0) old.place b → ⊥
unfinished_at old now here same p none ready b f =
    let g : Front (freedoms now.rules) (completion now.place.0) now.place b = subst (λ (w : Held). Front (freedoms w.rules) (completion w.place.0) w.place b) (sym same) f in
    none b (subst (λ (q : Position). Front (freedoms now.rules) (completion q.0) q b) (sym p) g)

-- ---- SEQUENCE OF, SET OF, SEQUENCE, SET and groups
pub members_enter : {A : Type 0} (result : Result A DecodeError) (old now new : Held) (z : Size) (h : Counts) (due : ℕ) (hs : Option Tally)
    (there : Position) → now ≡ old → IsReady old → HasMembers (is_aligned now.rules) (freedoms now.rules) z h due hs now.place there →
    OnOk result (now.levels ≡ new.levels + 1) →
    OnOk result (new ≡ record {
      place = there;
      scopes = members due hs ∷ now.scopes;
      levels = new.levels;
      most = now.most;
      failed =
          now.failed;
      rules = now.rules;
      stands = now.stands;
    }) → OnOk result (EntersMembers old z h new)
members_enter (Err e) old now new z h due hs there same ready m l f = tt
members_enter (Ok x) old now new z h due hs there same ready m l f = enters_members old now new z h due hs there same ready m l f
  where
    enters_members : (old now new : Held) (z : Size) (h : Counts) (due : ℕ) (hs : Option Tally) (there : Position) → now ≡ old → IsReady old →
        HasMembers (is_aligned now.rules) (freedoms now.rules) z h due hs now.place there → now.levels ≡ new.levels + 1 →
        new ≡ record {
          place = there;
          scopes = members due hs ∷ now.scopes;
          levels = new.levels;
          most = now.most;
          failed = now.failed;
          rules =
              now.rules;
          stands = now.stands;
        } → EntersMembers old z h new
    enters_members old now new z h due hs there same ready m l f =
        let p : new.place ≡ there = ap (λ (w : Held). w.place) f in
        let g : new ≡ record {
          place = new.place;
          scopes = members due hs ∷ now.scopes;
          levels = new.levels;
          most = now.most;
          failed =
              now.failed;
          rules = now.rules;
          stands = now.stands;
        } = f ∙ ap (λ (q : Position). let w : Held =
        record { place = q; scopes = members due hs ∷ now.scopes; levels = new.levels; most = now.most; failed = now.failed; rules = now.rules; stands = now.stands } in w) (sym p) in
        let i : HasMembers (is_aligned now.rules) (freedoms now.rules) z h due hs now.place new.place =
        subst (λ (q : Position). HasMembers (is_aligned now.rules) (freedoms now.rules) z h due hs now.place q) (sym p) m in
        let e : EntersMembers now z h new = (due, hs, (ap (λ (w : Held). is_some w.failed) same ∙ ready, omega (arith, l), g), i) in
        subst (λ (w : Held). EntersMembers w z h new) same e

pub components_enter : {A : Type 0} (result : Result A DecodeError) (old now new : Held) (e : Bool) (n : ℕ) (s : Scope) (there : Position)
    (m : List Storage) → now ≡ old → IsReady old → m ≡ now.stands → HasPreamble (freedoms now.rules) e n s now.place there →
    OnOk result (now.levels ≡ new.levels + 1) →
    OnOk result (new ≡ record {
      place = there;
      scopes = s ∷ now.scopes;
      levels = new.levels;
      most = now.most;
      failed = now.failed;
      rules =
          now.rules;
      stands = m;
    }) → OnOk result (EntersComponents old e n new)
components_enter (Err x) old now new e n s there b same ready h m l f = tt
components_enter (Ok x) old now new e n s there b same ready h m l f =
    let p : new.place ≡ there = ap (λ (w : Held). w.place) f in
    let g : new ≡ record {
      place = new.place;
      scopes = s ∷ now.scopes;
      levels = new.levels;
      most = now.most;
      failed = now.failed;
      rules =
          now.rules;
      stands = now.stands;
    } = f ∙
    ap (λ (q : Position). let w : Held = record {
      place = q;
      scopes = s ∷ now.scopes;
      levels = new.levels;
      most = now.most;
      failed =
          now.failed;
      rules = now.rules;
      stands = b;
    } in w) (sym p) ∙ ap (λ (x : List Storage). let w : Held =
    record { place = new.place; scopes = s ∷ now.scopes; levels = new.levels; most = now.most; failed = now.failed; rules = now.rules; stands = x } in w) h in
    let i : HasPreamble (freedoms now.rules) e n s now.place new.place = subst (λ (q : Position). HasPreamble (freedoms now.rules) e n s now.place q) (sym p) m in
    let u : EntersComponents now e n new = (s, (ap (λ (w : Held). is_some w.failed) same ∙ ready, omega (arith, l), g), i) in
    subst (λ (w : Held). EntersComponents w e n new) same u

-- what is known of a result
pub ok_of : {T : Type 0} (P : T → Type 0) (answer : Result T DecodeError) (x : T) → Ok x ≡ answer → IfOk answer P → P x
ok_of P (Ok y) x e p = let k : x ≡ y = cc in subst P (sym k) p
ok_of P (Err y) x e p = cc

ok_so : {A : Type 0} {P Q : Type 0} (r : Result A DecodeError) → OnOk r P → (P → Q) → OnOk r Q
ok_so (Ok x) p f = f p
ok_so (Err e) p f = tt

pub members_settle : {A : Type 0} (result : Result A DecodeError) (old now settled new : Held) (z : Size) (h : Counts) (due : ℕ) (hs : Option Tally)
    (here there : Position) (n : ℕ) → now ≡ old → IsReady old → here ≡ now.place → n ≡ there.0 →
    HasMembers (is_aligned now.rules) (freedoms now.rules) z h due hs here there → Moves now n settled →
    OnOk result (settled.levels ≡ new.levels + 1) →
    OnOk result (new ≡ record {
      place = settled.place;
      scopes = members due hs ∷ settled.scopes;
      levels = new.levels;
      most = settled.most;
      failed =
          settled.failed;
      rules = settled.rules;
      stands = settled.stands;
    }) → OnOk result (EntersMembers old z h new)
members_settle result old now settled new z h due hs here there n same ready p q m v l f =
    let w = members_led (freedoms now.rules) (is_aligned now.rules) z h due hs here there m in
    let s = moves_led now settled here there n p q w v in
    let i : HasMembers (is_aligned now.rules) (freedoms now.rules) z h due hs now.place there =
    subst (λ (x : Position). HasMembers (is_aligned now.rules) (freedoms now.rules) z h due hs x there) p m in
    members_enter result old now new z h due hs there same ready i (ok_so result l (λ e. ap (λ (x : Held). x.levels) (sym s) ∙ e))
    (ok_so result f (λ e. e ∙
    ap (λ (x : Held). let y : Held = record {
      place = x.place;
      scopes = members due hs ∷ x.scopes;
      levels = new.levels;
      most = x.most;
      failed =
          x.failed;
      rules = x.rules;
      stands = x.stands;
    } in y) s))

-- where the decoder continues after a result
pub settled_at : (now new : Held) (free : Per.Freedom → Bool) (x : Per.BitForm) (here there : Position) (n : ℕ) → here ≡ now.place → n ≡ there.0 →
    Front free x here there → Moves now n new → new ≡ record { place = there; scopes = now.scopes; levels = now.levels; most = now.most; failed = now.failed; rules = now.rules; stands = now.stands }
settled_at now new free x here there n p q f m = moves_there now new free x here there n p q f m

pub err_of : {T : Type 0} (P : DecodeError → Type 0) (answer : Result T DecodeError) (x : DecodeError) → Err x ≡ answer → IfErr answer P → P x
err_of P (Err y) x e p = let k : x ≡ y = cc in subst P (sym k) p
err_of P (Ok y) x e p = cc

-- why none is found, under size constraints with the same meaning
pub none_as : {failed : Held} (old : Held) (q : Size → Question) (z y : Size) (x : DecodeError) → z ≡ y → NoRecord Finds TooFewHeld (q z) old failed x → NoRecord Finds TooFewHeld (q y) old failed x
none_as {failed} old q z y x e n = subst (λ s. NoRecord Finds TooFewHeld (q s) old failed x) e n
