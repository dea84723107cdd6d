-- The answer of a hop to what is written before it.
use Rattle.std.proofs.Common.{◌≡◌, ◌≢◌, ◌⊎◌, inl, inr, ℕ, ◌≤◌, ◌<◌, Bool, true, false, List, [], ◌++◌, Option, Some, None, option_map, option_and_then, refl, ap, sym, ◌∙◌, subst, arith}
use Rattle.std.proofs.lemmas.Bool.{cases_lt}
use Rattle.asn1_model.specs.Value.{Value, same, depth}
use Rattle.asn1_model.specs.Schema.{Schema}
use Rattle.asn1_model.specs.Lawful.{IsLawful}
use Rattle.asn1_model.specs.Normal.{normal}
use Rattle.asn1_model.specs.Tidy.{is_normal}
use Rattle.asn1_model.specs.Rules.{Rules, uper, aper, uper_strict, aper_strict, oer, coer, canonical, encoding, of_moderate_length, IsEncoding}
use Rattle.asn1_model.specs.Lawful.{is_of}
use Rattle.asn1_model.specs.Versions.{Extends, drop, grow, IsClash, carried}
use Rattle.asn1_laws_values.proofs.Messages.{canonical_is_read, some_parts}
use Rattle.asn1_laws_values.proofs.Normals.{normal_again, normal_normal, tells_normal, not_normal}
use Rattle.asn1_laws_values.proofs.IsNormal.{stays_normal}
use Rattle.asn1_laws_values.proofs.Normal.{normal_depth, normal_stays}
use Rattle.asn1_laws_values.proofs.Same.{same_self}
use Rattle.asn1_laws_fronts.proofs.Every.{one_front}
use Rattle.asn1_laws_values.proofs.PerRead.{message_of}
use Rattle.asn1_laws_values.proofs.OerRead.{octets_are_of}
use Rattle.asn1_laws_values.proofs.Typed.{normal_is_of}
use Rattle.asn1_laws_versions.proofs.Back.{dropped_back}
use Rattle.asn1_laws_versions.proofs.Levels.{same_depth, grown_depth}
use Rattle.asn1_laws_versions.specs.ExactLaws.{is_strict, MayBeRead}
use Rattle.asn1_laws_versions.proofs.Exactly.{older_refuses, newer_refuses, older_reads_exactly, newer_reads_exactly}
use Rattle.asn1_laws_versions.specs.Answers.{IsMessage, Answer, not_an_encoding, no_target, IsAnswer}
use Rattle.asn1_laws_versions.specs.Routes.{Version, older, newer, Hop, schema_of, HopAnswers, Passed, no_hop}
use Rattle.asn1_laws_versions.specs.Routes.{newer_alone, an_older, Stage, at_first, and_one, Cause, unknown, too_deep}
use Rattle.asn1_laws_versions.specs.Routes.{clash, missing, unwritable, answer_to, value_written, Holds, HasNoCause}
use Rattle.asn1_laws_versions.specs.Routes.{HasCause, StandsWritten, IsSeen}
use Rattle.asn1_laws_versions.specs.RouteLaws.{HandsOn}
use Rattle.asn1_laws_versions.proofs.Answers.{whole}
use Rattle.asn1_laws_versions.proofs.Growing.{normal_growth}
use Rattle.asn1_laws_versions.proofs.Dropping.{lessened_depth}

-- what a reader accepts is a value of the type
pub read_is_of : (r : Rules) (s : Schema) (v : Value) (w : List ℕ) → IsEncoding r s v w → is_of s v ≡ true
unfolding IsEncoding
read_is_of uper s v w e = message_of _ false s v _ e.1
read_is_of aper s v w e = message_of _ true s v _ e.1
read_is_of uper_strict s v w e = message_of _ false s v _ e.1
read_is_of aper_strict s v w e = message_of _ true s v _ e.1
read_is_of oer s v w e = octets_are_of _ s v w e.1
read_is_of coer s v w e = octets_are_of _ s v w e.1

-- the normal form is written as the value is
pub normal_written : (r : Rules) (s : Schema) (v : Value) → canonical r s (normal s v) ≡ canonical r s v
unfolding canonical
normal_written r s v = ap (λ x. option_and_then of_moderate_length (encoding r s x)) (normal_again s v)

-- no prefix is a message, whatever follows
abbrev pub Unread : Rules → Schema → List ℕ → Type 0
Unread r s w = (front behind further : List ℕ) (x : Value) → IsMessage r s x front → front ++ behind ≡ w ++ further → ⊥

unread_answer : (r t : Rules) (s : Schema) (w : List ℕ) → Unread r s w → IsAnswer r t s w not_an_encoding
unread_answer r t s w u = λ front behind x e m. u front behind [] x m (e ∙ sym (whole w))

-- a hop that refuses does so in one of two ways
pub either_answer : (c : Cause) → (answer_to c ≡ not_an_encoding) ⊎ (answer_to c ≡ no_target)
either_answer unknown = inl refl
either_answer too_deep = inl refl
either_answer clash = inl refl
either_answer missing = inl refl
either_answer unwritable = inr refl

-- ---- what is read in the type in which it was written
pub own_message : (r : Rules) (s : Schema) (v : Value) (w : List ℕ) → canonical r s v ≡ Some w → depth (normal s v) ≤ 128 → IsMessage r s (normal s v) w
own_message r s v w e d = (canonical_is_read r s v w e, d)

pub own_too_deep : (r t : Rules) (s : Schema) (v : Value) (w : List ℕ) → IsLawful s → canonical r s v ≡ Some w → 128 < depth (normal s v) → IsAnswer r t s w not_an_encoding
own_too_deep r t s v w l e d = λ front behind x q m.
    let f = (one_front r s x (normal s v) front w behind [] l m.0 (canonical_is_read r s v w e) (q ∙ sym (whole w))).1 in
    let n = same_depth x (normal s v) f in
    let k = m.1 in
    omega arith

module _ (old new : Schema) (lo : IsLawful old) (ln : IsLawful new) (ext : Extends old new) where
  -- ---- what the older version reads of what the newer one wrote
  unknown_unread : (r : Rules) (v : Value) (w : List ℕ) → drop old new v ≡ None → canonical r new v ≡ Some w → Unread r old w
  unknown_unread r v w d e = λ front behind further x m q. older_refuses r old new v x w front behind further lo ln ext d e m.0 q

  -- what is read is what is left
  left_of : (r : Rules) (v x u : Value) (w front behind further : List ℕ) → canonical r new v ≡ Some w → drop old new v ≡ Some u →
      IsMessage r old x front → front ++ behind ≡ w ++ further → (same x u ≡ true) × MayBeRead r old x
  left_of r v x u w front behind further e d m q =
      let t = ((older_reads_exactly r old new v x w lo ln ext e).1 front behind further m.0 q).1 in
      (subst (λ u. same x u ≡ true) (some_parts (sym t.1 ∙ d)) t.2, t.3)

  clash_unread : (r : Rules) (v : Value) (w : List ℕ) → is_strict r ≡ true → IsClash old new v → canonical r new v ≡ Some w → Unread r old w
  clash_unread r v w s c e = λ front behind further x m q.
      let f = left_of r v x c.0 w front behind further e c.1 m q in
      let n = stays_normal old x c.0 f.0 (tells_normal old x (f.1 s)) in
      c.2 (normal_stays old c.0 n)

  deep_unread : (r : Rules) (v u : Value) (w : List ℕ) → drop old new v ≡ Some u → 128 < depth u → canonical r new v ≡ Some w → Unread r old w
  deep_unread r v u w d k e = λ front behind further x m q.
      let f = left_of r v x u w front behind further e d m q in
      let n = same_depth x u f.0 in
      let i = m.1 in
      omega arith

  -- where a cause for refusal holds at reading, at a first hop of the older version
  pub cause_unread : (r t : Rules) (v : Value) (w : List ℕ) → canonical r new v ≡ Some w → HasCause old new (at_first r) (record { version = older; to = t }) v not_an_encoding → Unread r old w
  cause_unread r t v w e c = by_cause c.0 c.1 c.2
    where
      by_cause : (c : Cause) → Holds old new (at_first r) (record { version = older; to = t }) v c → answer_to c ≡ not_an_encoding → Unread r old w
      by_cause unknown k a = unknown_unread r v w k.1 e
      by_cause too_deep k a = deep_unread r v k.1.0 w k.1.1 k.1.2 e
      by_cause clash k a = clash_unread r v w k.1 k.2 e
      by_cause missing k a = let f : older ≡ newer = k.0.0 in cc
      by_cause unwritable k a = cc

  pub left_message : (r : Rules) (v u : Value) (w : List ℕ) → drop old new v ≡ Some u → MayBeRead r old u → depth u ≤ 128 → canonical r new v ≡ Some w → IsMessage r old u w
  left_message r v u w d n k e = ((older_reads_exactly r old new v u w lo ln ext e).0 (u, d, same_self u, n), k)

  -- ---- what is read after an older hop

  -- what the older version wrote, the newer one reads as the growth
  pub missing_refused : (r t : Rules) (u : Value) (w : List ℕ) → is_of old u ≡ true → grow old new u ≡ None → canonical r old u ≡ Some w → IsAnswer r t new w not_an_encoding
  missing_refused r t u w o g e = λ front behind x q m.
      let n : grow old new (normal old u) ≡ None = normal_growth old new u ext o ∙ ap (option_map (λ v. normal new v)) g in
      newer_refuses r old new u x w front behind [] lo ln ext n e m.0 (q ∙ sym (whole w))

  grown_normal : (u g : Value) → is_of old u ≡ true → grow old new u ≡ Some g → grow old new (normal old u) ≡ Some (normal new g)
  grown_normal u g o e = normal_growth old new u ext o ∙ ap (option_map (λ v. normal new v)) e

  grown_shallow : (u g : Value) → grow old new u ≡ Some g → depth u ≤ 128 → depth (normal new g) ≤ 128
  grown_shallow u g e k =
      let a = normal_depth new g in
      let b = grown_depth old new u g e in
      omega arith

  pub grown_message : (r : Rules) (u g : Value) (w : List ℕ) → is_of old u ≡ true → depth u ≤ 128 → grow old new u ≡ Some g → canonical r old u ≡ Some w → IsMessage r new (normal new g) w
  grown_message r u g w o k e c =
      ((newer_reads_exactly r old new u (normal new g) w lo ln ext c).0 (normal new g, grown_normal u g o e, same_self (normal new g)), grown_shallow u g e k)

  -- what the newer version wrote of the growth, the older one reads as what it was
  back_message : (r : Rules) (u g : Value) (w : List ℕ) → is_of old u ≡ true → depth u ≤ 128 → grow old new u ≡ Some g → canonical r new g ≡ Some w → IsMessage r old (normal old u) w
  back_message r u g w o k e c =
      let n = normal_normal old u in
      let b = dropped_back old new (normal old u) (normal new g) ext (normal_is_of old u lo o) n (grown_normal u g o e) in
      let d : drop old new g ≡ Some (normal old u) = ap (carried false old new) (sym (normal_again new g)) ∙ b in
      let i = normal_depth old u in
      left_message r g (normal old u) w d (λ s. normal_again old u) (omega arith) c

  -- either way
  pub older_again : (r : Rules) (u : Value) (w : List ℕ) → is_of old u ≡ true → depth u ≤ 128 → IsSeen old new r u w → IsMessage r old (normal old u) w
  older_again r u w o k (inl c) = let i = normal_depth old u in own_message r old u w c (omega arith)
  older_again r u w o k (inr c) = back_message r u c.0 w o k c.1 c.2

  pub newer_again : (r : Rules) (u g : Value) (w : List ℕ) → is_of old u ≡ true → depth u ≤ 128 → grow old new u ≡ Some g → IsSeen old new r u w → IsMessage r new (normal new g) w
  newer_again r u g w o k e (inl c) = grown_message r u g w o k e c
  newer_again r u g w o k e (inr c) =
      let f : c.0 ≡ g = some_parts (sym c.1 ∙ e) in
      own_message r new g w (subst (λ g. canonical r new g ≡ Some w) f c.2) (grown_shallow u g e k)

  -- ---- each hop

  -- a hop passes on what it writes, or refuses for a cause
  abbrev pub Step : Stage → Hop → Value → List ℕ → Type 0
  Step p h v w = (HasNoCause old new p h v × HandsOn old new p h v w) ⊎ ((a : Answer) × HasCause old new p h v a × HopAnswers old new p.from h w a)

  abbrev IsRead : Stage → Hop → Value → Type 0
  IsRead p h v = (d : Cause) → answer_to d ≡ not_an_encoding → Holds old new p h v d → ⊥

  refuses : (p : Stage) (h : Hop) (v : Value) (w : List ℕ) (c : Cause) → answer_to c ≡ not_an_encoding → Holds old new p h v c → HopAnswers old new p.from h w not_an_encoding → Step p h v w
  refuses p h v w c e k n = inr (not_an_encoding, (c, k, e, λ f. cc), n)

  -- where it reads a value, its target decides
  writes : (p : Stage) (h : Hop) (v x y : Value) (w : List ℕ) → IsRead p h v → value_written old new p.passed h.version v ≡ Some y → IsMessage p.from (schema_of old new h.version) x w
      → ((t : Rules) → canonical t (schema_of old new h.version) x ≡ canonical t (schema_of old new h.version) y)
      → ((t : List ℕ) → canonical h.to (schema_of old new h.version) y ≡ Some t → StandsWritten old new (and_one p.passed h.version) h.to v t)
      → Step p h v w
  writes p h v x y w reads value m alike next = by_target (canonical h.to (schema_of old new h.version) y) refl
    where
      no_cause : (t : List ℕ) → canonical h.to (schema_of old new h.version) y ≡ Some t → HasNoCause old new p h v
      no_cause t e unknown = reads unknown refl
      no_cause t e too_deep = reads too_deep refl
      no_cause t e clash = reads clash refl
      no_cause t e missing = reads missing refl
      no_cause t e unwritable = λ k.
          let f : k.0 ≡ y = some_parts (sym k.1 ∙ value) in
          let n : None ≡ Some t = sym k.2 ∙ ap (canonical h.to (schema_of old new h.version)) f ∙ e in
          cc

      by_target : (o : Option (List ℕ)) → canonical h.to (schema_of old new h.version) y ≡ o → Step p h v w
      by_target (Some t) e = inl (no_cause t e, (t, (x, m, alike h.to ∙ e), (y, value, e), next t e))
      by_target None e = inr (no_target, (unwritable, (y, value, e), refl, λ f. reads), (x, m, alike h.to ∙ e))

  -- a hop of the newer version, with none of the older one before it
  own : (p : Passed) (from to : Rules) (v : Value) (w : List ℕ) → value_written old new p newer v ≡ Some v → and_one p newer
      ≡ newer_alone → p ≢ an_older → canonical from new v ≡ Some w → depth (normal new v) ≤ 128 → Step (record { passed = p; from = from }) (record { version = newer; to = to }) v w
  own p from to v w value next first e d =
      writes _ _ v (normal new v) v w reads value (own_message from new v w e d) (λ t. normal_written t new v) (λ t f. subst (λ q. StandsWritten old new q to v t) (sym next) (f, d))
    where
      reads : IsRead (record { passed = p; from = from }) (record { version = newer; to = to }) v
      reads unknown a k = let f : newer ≡ older = k.0.0 in cc
      reads too_deep a k = let i : 128 < depth (normal new v) = k.1 in absurd (omega arith)
      reads clash a k = let f : newer ≡ older = k.0.0 in cc
      reads missing a k = first k.0.1
      reads unwritable a k = cc

  -- the first hop of the older version
  module _ (p : Passed) (from to : Rules) (v : Value) (w : List ℕ) (next : and_one p older ≡ an_older) (first : p ≢ an_older) (e : canonical from new v ≡ Some w) where
    abbrev Here : Type 0
    Here = Step (record { passed = p; from = from }) (record { version = older; to = to }) v w

    left : (u : Value) → drop old new v ≡ Some u → depth u ≤ 128 → MayBeRead from old u → Here
    left u f d n = writes _ _ v u u w reads f message (λ t. refl) (λ t g. subst (λ q. StandsWritten old new q to v t) (sym next) (u, f, read_is_of from old u w message.0, d, inl g))
      where
        message : IsMessage from old u w
        message = left_message from v u w f n d e

        reads : IsRead (record { passed = p; from = from }) (record { version = older; to = to }) v
        reads unknown a k = let g : None ≡ Some u = sym k.1 ∙ f in cc
        reads too_deep a k =
            let g : k.1.0 ≡ u = some_parts (sym k.1.1 ∙ f) in
            let i : 128 < depth u = subst (λ u. 128 < depth u) g k.1.2 in
            absurd (omega arith)
        reads clash a k =
            let g : k.2.0 ≡ u = some_parts (sym k.2.1 ∙ f) in
            let i : ¬ (normal old u ≡ u) = subst (λ u. ¬ (normal old u ≡ u)) g k.2.2 in
            absurd (i (n k.1))
        reads missing a k = let g : older ≡ newer = k.0.0 in cc
        reads unwritable a k = cc

    by_clash : (u : Value) → drop old new v ≡ Some u → depth u ≤ 128 → (s n : Bool) → is_strict from ≡ s → is_normal old u ≡ n → Here
    by_clash u f d true false g i = refuses _ _ v w clash refl ((refl, first), g, (u, f, not_normal old u i)) (unread_answer from to old w (clash_unread from v w g (u, f, not_normal old u i) e))
    by_clash u f d true true g i = left u f d (λ t. normal_stays old u i)
    by_clash u f d false n g i = left u f d (λ t. let j : false ≡ true = sym g ∙ t in cc)

    by_depth : ((u : Value) → drop old new v ≡ Some u → 128 < depth u → p ≡ no_hop) → (u : Value) → drop old new v ≡ Some u → (128 < depth u) ⊎ (depth u ≤ 128) → Here
    by_depth at u f (inl d) = refuses _ _ v w too_deep refl (at u f d, (u, f, d)) (unread_answer from to old w (deep_unread from v u w f d e))
    by_depth at u f (inr d) = by_clash u f d (is_strict from) (is_normal old u) refl refl

    by_drop : ((u : Value) → drop old new v ≡ Some u → 128 < depth u → p ≡ no_hop) → (o : Option Value) → drop old new v ≡ o → Here
    by_drop at None f = refuses _ _ v w unknown refl ((refl, first), f) (unread_answer from to old w (unknown_unread from v w f e))
    by_drop at (Some u) f = by_depth at u f (cases_lt 128 (depth u))

  -- a hop after one of the older version
  module _ (from to : Rules) (v u : Value) (w : List ℕ) (d : drop old new v ≡ Some u) (o : is_of old u ≡ true) (k : depth u ≤ 128) (seen : IsSeen old new from u w) where
    again : Step (record { passed = an_older; from = from }) (record { version = older; to = to }) v w
    again = writes _ _ v (normal old u) u w reads d (older_again from u w o k seen) (λ t. normal_written t old u) (λ t g. (u, d, o, k, inl g))
      where
        reads : IsRead (record { passed = an_older; from = from }) (record { version = older; to = to }) v
        reads unknown a i = i.0.1 refl
        reads too_deep a i = let f : an_older ≡ no_hop = i.0 in cc
        reads clash a i = i.0.1 refl
        reads missing a i = let f : older ≡ newer = i.0.0 in cc
        reads unwritable a i = cc

    seen_alone : grow old new u ≡ None → canonical from old u ≡ Some w
    seen_alone e = alone seen
      where
        alone : IsSeen old new from u w → canonical from old u ≡ Some w
        alone (inl c) = c
        alone (inr c) = let f : None ≡ Some c.0 = sym e ∙ c.1 in cc

    by_growth : (x : Option Value) → grow old new u ≡ x → Step (record { passed = an_older; from = from }) (record { version = newer; to = to }) v w
    by_growth None e = refuses _ _ v w missing refl ((refl, refl), (u, d, e)) (missing_refused from to u w o e (seen_alone e))
    by_growth (Some g) e = writes _ _ v (normal new g) g w reads value (newer_again from u g w o k e seen) (λ t. normal_written t new g) (λ t f. (u, d, o, k, inr (g, e, f)))
      where
        value : value_written old new an_older newer v ≡ Some g
        value = ap (option_and_then (grow old new)) d ∙ e

        reads : IsRead (record { passed = an_older; from = from }) (record { version = newer; to = to }) v
        reads unknown a i = let f : newer ≡ older = i.0.0 in cc
        reads too_deep a i = let f : an_older ≡ no_hop = i.0 in cc
        reads clash a i = let f : newer ≡ older = i.0.0 in cc
        reads missing a i =
            let f : i.1.0 ≡ u = some_parts (sym i.1.1 ∙ d) in
            let n : None ≡ Some g = sym i.1.2 ∙ ap (grow old new) f ∙ e in
            cc
        reads unwritable a i = cc

  by_levels : (from to : Rules) (v : Value) (w : List ℕ) → canonical from new v ≡ Some w →
      (128 < depth (normal new v)) ⊎ (depth (normal new v) ≤ 128) → Step (record { passed = no_hop; from = from }) (record { version = newer; to = to }) v w
  by_levels from to v w e (inl d) = refuses _ _ v w too_deep refl (refl, d) (own_too_deep from to new v w ln e d)
  by_levels from to v w e (inr d) = own no_hop from to v w refl refl (λ f. cc) e d

  steps : (p : Passed) (from : Rules) (n : Version) (to : Rules) (v : Value) (w : List ℕ) → StandsWritten old new p from v w →
      Step (record { passed = p; from = from }) (record { version = n; to = to }) v w
  steps no_hop from newer to v w e = by_levels from to v w e (cases_lt 128 (depth (normal new v)))
  steps no_hop from older to v w e = by_drop no_hop from to v w refl (λ f. cc) e (λ u f d. refl) (drop old new v) refl
  steps newer_alone from newer to v w e = own newer_alone from to v w refl refl (λ f. cc) e.0 e.1
  steps newer_alone from older to v w e = by_drop newer_alone from to v w refl (λ f. cc) e.0 (λ u f d. shallow u f d) (drop old new v) refl
    where
      shallow : (u : Value) → drop old new v ≡ Some u → 128 < depth u → newer_alone ≡ no_hop
      shallow u f d =
          let i = lessened_depth old new (normal new v) u f in
          let j = e.1 in
          absurd (omega arith)
  steps an_older from older to v w e = again from to v e.0 w e.1 e.2 e.3 e.4
  steps an_older from newer to v w e = by_growth from to v e.0 w e.1 e.2 e.3 e.4 (grow old new e.0) refl

  pub step : (p : Stage) (h : Hop) (v : Value) (w : List ℕ) → StandsWritten old new p.passed p.from v w → Step p h v w
  step p h v w e = steps p.passed p.from h.version h.to v w e

  -- the answer of a hop where a cause holds is unique
  pub one_cause : (p : Stage) (h : Hop) (v : Value) (a b : Answer) → HasCause old new p h v a → HasCause old new p h v b → a ≡ b
  one_cause p h v a b x y = by_answers (answer_to x.0) (answer_to y.0) (either_answer x.0) (either_answer y.0) refl refl
    where
      by_answers : (m n : Answer) → (m ≡ not_an_encoding) ⊎ (m ≡ no_target) → (n ≡ not_an_encoding) ⊎ (n ≡ no_target) → answer_to x.0 ≡ m → answer_to y.0 ≡ n → a ≡ b
      by_answers m n (inl e) (inl f) i j = sym x.2 ∙ i ∙ e ∙ sym f ∙ sym j ∙ y.2
      by_answers m n (inr e) (inr f) i j = sym x.2 ∙ i ∙ e ∙ sym f ∙ sym j ∙ y.2
      by_answers m n (inl e) (inr f) i j = absurd (y.3 (sym y.2 ∙ j ∙ f) x.0 (i ∙ e) x.1)
      by_answers m n (inr e) (inl f) i j = absurd (x.3 (sym x.2 ∙ i ∙ e) y.0 (j ∙ f) y.1)

  pub none_or_one : (p : Stage) (h : Hop) (v : Value) (a : Answer) → HasNoCause old new p h v → HasCause old new p h v a → ⊥
  none_or_one p h v a n c = n c.0 c.1

  pub hands_on : (p : Stage) (h : Hop) (v : Value) (w : List ℕ) → StandsWritten old new p.passed p.from v w → HasNoCause old new p h v → HandsOn old new p h v w
  hands_on p h v w e n = free (step p h v w e)
    where
      free : Step p h v w → HandsOn old new p h v w
      free (inl s) = s.1
      free (inr s) = absurd (none_or_one p h v s.0 n s.1)

  pub answers_by_cause : (p : Stage) (h : Hop) (v : Value) (w : List ℕ) (a : Answer) → StandsWritten old new p.passed p.from v w → HasCause old new p h v a → HopAnswers old new p.from h w a
  answers_by_cause p h v w a e c = by_cause (step p h v w e)
    where
      by_cause : Step p h v w → HopAnswers old new p.from h w a
      by_cause (inl s) = absurd (none_or_one p h v a s.0 c)
      by_cause (inr s) = subst (λ a. HopAnswers old new p.from h w a) (one_cause p h v s.0 a s.1 c) s.2
