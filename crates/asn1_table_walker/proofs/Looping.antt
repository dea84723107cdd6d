-- One turn of the loop, and its start and end.
use Rattle.std.proofs.Common.{◌≡◌, ◌∙◌, refl, sym, ap, subst, ℕ, suc, ◌+◌, List, [], ◌∷◌, ◌++◌, length, reverse, Option, Some, None, Result, Ok, Err, IfErr, arith}
use Rattle.std.proofs.lemmas.List.{reverse-append}
use Rattle.asn1_model.specs.Schema.{Schema}
use Rattle.asn1_model.specs.Normal.{normal}
use Rattle.asn1_schema_errors.specs.declared.DecodeError.{DecodeError}
use Rattle.asn1_schema_laws.specs.Records.{Record}
use Rattle.asn1_schema_decode.specs.Reads.{Unread}
use Rattle.asn1_table_laws.specs.Walks.{ReadsOnto, Told, NoValue, Pending, Ends, Stuck, Opens, Passes, Awaits, Goes, GoesOn, StuckFrom}
use Rattle.asn1_table_laws.proofs.Turning.{with_rest, begins, finished, goes_left, goes_again, goes_value, stuck_turn, stuck_value}
use Rattle.asn1_table_nodes.specs.Meaning.{type_at}
use Rattle.asn1_table_nodes.specs.declared.nodes.TypeNode.{TypeNode}
use Rattle.asn1_table_walker.specs.declared.frames.Frame.{Frame}
use Rattle.asn1_table_walker.specs.Frames.{pending_of, pending_in, pendings, levels_in, with_frame}

pub reversed : {A : Type 0} (xs ys : List A) (x : A) → ys ≡ xs ++ x ∷ [] → reverse ys ≡ x ∷ reverse xs
reversed xs ys x e = ap reverse e ∙ reverse-append xs (x ∷ [])

pub none_left : {A : Type 0} (xs : List A) → length xs ≡ 0 → xs ≡ []
none_left [] e = refl
none_left (x ∷ xs) e = absurd (let z : suc (length xs) ≡ 0 = e in omega (arith, z))

-- what is so by every table
pub refused_there : {A : Type 0} (P : List TypeNode → DecodeError → Type 0) (r : Result A DecodeError) (ns : List TypeNode) → IfErr r (λ x. (ns : List TypeNode) → P ns x) → IfErr r (λ x. P ns x)
refused_there P (Ok v) ns h = h
refused_there P (Err x) ns h = h ns

-- a frame more, or none
framed : (ns : List TypeNode) (o : Option Frame) (fs : List Frame) (m n : ℕ) → m ≡ n + levels_in o → with_rest (pending_in ns n o) (pendings ns m fs) ≡ pendings ns n (with_frame o fs)
framed ns None fs m n h = ap (λ k. pendings ns k fs) (let e : m ≡ n = omega (arith, h) in e)
framed ns (Some f) fs m n h = ap (λ k. pending_of ns n f ∷ pendings ns k fs) h

-- what is not next where a value is read
pub unread_of : {S : Type 0} {step : S → Record → S → Type 0} {few : S → S → S → Type 0} (schema : ℕ → Schema) (m : ℕ) {a failed : S} {x : DecodeError} →
    NoValue step few (schema m) a failed x → Unread step few schema m a failed x
unread_of schema m u = record { none = u.none }

pub onto_of : {S : Type 0} {step : S → Record → S → Type 0} (schema : ℕ → Schema) (m : ℕ) {a b : S} {K K1 : List Record} → Told step (schema m) a b K K1 → ReadsOnto step schema m a b K K1
onto_of schema m t = record {
  value = normal (schema m) t.raw;
  reads = record { raw = t.raw; fits = t.fits; means = refl; chain = t.chain };
  kept = t.kept;
}

-- a walk begins
pub walk_begins : {S : Type 0} (step : S → Record → S → Type 0) (few within : S → S → S → Type 0) (ns : List TypeNode) (s : Schema) (o : Option Frame) (n : ℕ) (start b : S) (k K : List Record)
    (fs : List Frame) → fs ≡ [] → Opens step few within s (pending_in ns n o) start b k K → Goes step few within s start k (pendings ns n (with_frame o (reverse fs))) b K
walk_begins step few within ns s o n start b k K fs e h =
    let g : with_rest (pending_in ns n o) [] ≡ pendings ns n (with_frame o (reverse fs)) =
    framed ns o [] (n + levels_in o) n refl ∙ ap (λ fs. pendings ns n (with_frame o (reverse fs))) (sym e) in
    subst (λ ps. Goes step few within s start k ps b K) g (begins step few within s (pending_in ns n o) start b k K h)

-- nothing is left
pub walk_ends : {S : Type 0} (step : S → Record → S → Type 0) (few within : S → S → S → Type 0) (ns : List TypeNode) (s : Schema) (n : ℕ) (start b : S) (k K : List Record) (fs : List Frame) →
    fs ≡ [] → Goes step few within s start k (pendings ns n fs) b K → Told step s start b k K
walk_ends step few within ns s n start b k K fs e g = finished step few within s start b k K (subst (λ fs. Goes step few within s start k (pendings ns n fs) b K) e g)

-- a turn is refused
pub walk_refused : {S : Type 0} (step : S → Record → S → Type 0) (few within : S → S → S → Type 0) (ns : List TypeNode) (s : Schema) (n : ℕ) (start now failed : S) (k kept : List Record)
    (x : DecodeError) (fs gs : List Frame) → gs ≡ fs → Goes step few within s start k (pendings ns n gs) now kept →
    StuckFrom step few within (pendings ns n fs) now failed kept x → NoValue step few s start failed x
walk_refused step few within ns s n start now failed k kept x fs gs e g u =
    u.none s start k (subst (λ hs. Goes step few within s start k (pendings ns n hs) now kept) e g)

-- a turn has gone on
pub walk_goes_on : {S : Type 0} (step : S → Record → S → Type 0) (few within : S → S → S → Type 0) (ns : List TypeNode) (s : Schema) (n m : ℕ) (start now new : S) (k kept more : List Record)
    (fs gs hs : List Frame) → gs ≡ fs → Goes step few within s start k (pendings ns n gs) now kept →
    GoesOn step few within (pendings ns n fs) (pendings ns m hs) now new kept more → Goes step few within s start k (pendings ns m hs) new more
walk_goes_on step few within ns s n m start now new k kept more fs gs hs e g h =
    h.goes s start k (subst (λ fs. Goes step few within s start k (pendings ns n fs) now kept) e g)

module _ {S : Type 0} {step : S → Record → S → Type 0} {few within : S → S → S → Type 0} (ns : List TypeNode) (n : ℕ) (f : Frame) (fs : List Frame) where
  pub ended_on : (m : ℕ) {a b : S} {K K1 : List Record} → m ≡ n + 1 → Ends step (pending_of ns n f) a b K K1 → GoesOn step few within (pendings ns n (f ∷ fs)) (pendings ns m fs) a b K K1
  ended_on m {a} {b} {K} {K1} l h = subst (λ k. GoesOn step few within (pendings ns n (f ∷ fs)) (pendings ns k fs) a b K K1) (sym l) (goes_left h)

  pub again_on : (m : ℕ) (g : Frame) {a b : S} {K K1 : List Record} → m ≡ n → Passes step few within (pending_of ns n f) (pending_of ns n g) a b K K1 →
      GoesOn step few within (pendings ns n (f ∷ fs)) (pendings ns m (g ∷ fs)) a b K K1
  again_on m g {a} {b} {K} {K1} l h = subst (λ k. GoesOn step few within (pendings ns n (f ∷ fs)) (pendings ns k (g ∷ fs)) a b K K1) (sym l) (goes_again h)

  pub value_on : (m k place : ℕ) (g : Frame) (o : Option Frame) {a b c : S} {K K1 K2 : List Record} → m ≡ n → m ≡ k + levels_in o →
      Awaits step few within (pending_of ns n f) (pending_of ns n g) (type_at ns n place) a b K K1 → Opens step few within (type_at ns m place) (pending_in ns k o) b c K1 K2 →
      GoesOn step few within (pendings ns n (f ∷ fs)) (pendings ns k (with_frame o (g ∷ fs))) a c K K2
  value_on m k place g o {a} {b} {c} {K} {K1} {K2} l j h i =
      let e = framed ns o (g ∷ fs) n k (sym l ∙ j) in
      let i' = subst (λ (m : ℕ). Opens step few within (type_at ns m place) (pending_in ns k o) b c K1 K2) l i in
      subst (λ ps. GoesOn step few within (pendings ns n (f ∷ fs)) ps a c K K2) e (goes_value (pending_in ns k o) h i')

  pub entered_on : (m k place : ℕ) (g : Frame) (o : Option Frame) (h : Frame) (hs : List Frame) {a b c : S} {K K1 K2 : List Record} → h ∷ hs ≡ with_frame o (g ∷ fs) → m ≡ n → m ≡ k + levels_in o →
      Awaits step few within (pending_of ns n f) (pending_of ns n g) (type_at ns n place) a b K K1 → Opens step few within (type_at ns m place) (pending_in ns k o) b c K1 K2 →
      GoesOn step few within (pendings ns n (f ∷ fs)) (pendings ns k (h ∷ hs)) a c K K2
  entered_on m k place g o h hs {a} {b} {c} {K} {K1} {K2} e l j p i =
      subst (λ gs. GoesOn step few within (pendings ns n (f ∷ fs)) (pendings ns k gs) a c K K2) (sym e) (value_on m k place g o l j p i)

  pub frame_refused : {a failed : S} {x : DecodeError} {K : List Record} → Stuck step few within (pending_of ns n f) K a failed x → StuckFrom step few within (pendings ns n (f ∷ fs)) a failed K x
  frame_refused u = stuck_turn u

  pub value_refused : (m place : ℕ) {q : Pending} {a b failed : S} {x : DecodeError} {K K1 : List Record} → m ≡ n → Awaits step few within (pending_of ns n f) q (type_at ns n place) a b K K1 →
      NoValue step few (type_at ns m place) b failed x → StuckFrom step few within (pendings ns n (f ∷ fs)) a failed K x
  value_refused m place {q} {a} {b} {failed} {x} {K} {K1} l h u = stuck_value h (subst (λ (m : ℕ). NoValue step few (type_at ns m place) b failed x) l u)
