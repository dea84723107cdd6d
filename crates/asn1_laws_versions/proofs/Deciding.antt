-- Whether causes for refusal hold at hops, decided by computation.
use Rattle.std.proofs.Common.{◌≡◌, ◌≢◌, ◌⊎◌, inl, inr, ℕ, zero, suc, ◌<◌, ltb, Bool, true, false, List, [], ◌∷◌, Option, Some, None, refl, sym, ◌∙◌, subst, arith}
use Rattle.std.proofs.lemmas.Bool.{ltb-true, ltb-false}
use Rattle.asn1_model.specs.Value.{Value, depth}
use Rattle.asn1_model.specs.Schema.{Schema}
use Rattle.asn1_model.specs.Normal.{normal}
use Rattle.asn1_model.specs.Tidy.{is_normal}
use Rattle.asn1_model.specs.Rules.{canonical}
use Rattle.asn1_model.specs.Versions.{drop, grow}
use Rattle.asn1_laws_values.proofs.Messages.{some_parts}
use Rattle.asn1_laws_values.proofs.Normal.{normal_stays}
use Rattle.asn1_laws_values.proofs.Normals.{not_normal}
use Rattle.asn1_laws_versions.specs.ExactLaws.{is_strict}
use Rattle.asn1_laws_versions.specs.Answers.{Answer, not_an_encoding, no_target}
use Rattle.asn1_laws_versions.specs.Routes.{Version, older, newer, Hop, schema_of, Passed, no_hop, newer_alone}
use Rattle.asn1_laws_versions.specs.Routes.{an_older, Stage, behind, Cause, unknown, too_deep, clash, missing}
use Rattle.asn1_laws_versions.specs.Routes.{unwritable, answer_to, value_written, NestsTooDeep, Holds, HasNoCause}
use Rattle.asn1_laws_versions.specs.Routes.{HasCause, GoesThrough, FailsAt}

-- it holds, or it does not
abbrev pub Decided : Type 0 → Type 0
Decided A = A ⊎ ¬ A

-- constructors are distinct
pub apart : {A : Type 0} → false ≡ true → A
apart e = cc

pub options_apart : {X : Type 0} (x : X) → Some x ≡ None → ⊥
options_apart x e = cc

pub versions_apart : older ≡ newer → ⊥
versions_apart e = cc

pub start_apart : no_hop ≡ an_older → ⊥
start_apart e = cc

pub newer_apart : newer_alone ≡ an_older → ⊥
newer_apart e = cc

pub none_apart : newer_alone ≡ no_hop → ⊥
none_apart e = cc

pub answers_apart : {A : Type 0} → not_an_encoding ≡ no_target → A
answers_apart e = cc

abbrev both : {A B : Type 0} → Decided A → Decided B → Decided (A × B)
both (inl a) (inl b) = inl (a, b)
both (inl a) (inr n) = inr (λ p. n p.1)
both (inr n) b = inr (λ p. n p.0)

abbrev is_true : (b : Bool) → Decided (b ≡ true)
is_true true = inl refl
is_true false = inr (λ e. apart e)

abbrev abnormal : (s : Schema) (v : Value) (b : Bool) → is_normal s v ≡ b → Decided (¬ (normal s v ≡ v))
abnormal s v false e = inl (not_normal s v e)
abnormal s v true e = inr (λ n. n (normal_stays s v e))

abbrev lower_by : (a b : ℕ) (t : Bool) → ltb a b ≡ t → Decided (a < b)
lower_by a b true e = inl (ltb-true a b e)
lower_by a b false e = inr (λ l. let k = ltb-false a b e in omega arith)

abbrev lower : (a b : ℕ) → Decided (a < b)
lower a b = lower_by a b (ltb a b) refl

abbrev none : {X : Type 0} (o : Option X) → Decided (o ≡ None)
none None = inl refl
none (Some x) = inr (λ e. options_apart x e)

abbrev three : {A B C : Type 0} → Decided A → Decided B → Decided C → Decided (A × B × C)
three (inl a) (inl b) (inl c) = inl (a, b, c)
three (inl a) (inl b) (inr n) = inr (λ k. n k.2)
three (inl a) (inr n) c = inr (λ k. n k.1)
three (inr n) b c = inr (λ k. n k.0)

-- a fact about the contents of an option
abbrev with : {X : Type 0} (P : X → Type 0) (o : Option X) (x : X) → o ≡ Some x → Decided (P x) → Decided ((x : X) × (o ≡ Some x) × P x)
with P o x e (inl p) = inl (x, e, p)
with P o x e (inr n) = inr (λ k. n (subst P (some_parts (sym k.1 ∙ e)) k.2))

abbrev some_by : {X : Type 0} (P : X → Type 0) (o p : Option X) → o ≡ p → ((x : X) → Decided (P x)) → Decided ((x : X) × (o ≡ Some x) × P x)
some_by P o None e d = inr (λ k. options_apart k.0 (sym k.1 ∙ e))
some_by P o (Some x) e d = with P o x e (d x)

abbrev some : {X : Type 0} (P : X → Type 0) (o : Option X) → ((x : X) → Decided (P x)) → Decided ((x : X) × (o ≡ Some x) × P x)
some P o d = some_by P o o refl d

abbrev is_no_hop : (p : Passed) → Decided (p ≡ no_hop)
is_no_hop no_hop = inl refl
is_no_hop newer_alone = inr (λ e. none_apart e)
is_no_hop an_older = inr (λ e. start_apart (sym e))

abbrev is_an_older : (p : Passed) → Decided (p ≡ an_older)
is_an_older an_older = inl refl
is_an_older newer_alone = inr (λ e. newer_apart e)
is_an_older no_hop = inr (λ e. start_apart e)

abbrev is_not_older : (p : Passed) → Decided (p ≢ an_older)
is_not_older an_older = inr (λ n. n refl)
is_not_older newer_alone = inl (λ e. newer_apart e)
is_not_older no_hop = inl (λ e. start_apart e)

abbrev is_older : (n : Version) → Decided (n ≡ older)
is_older older = inl refl
is_older newer = inr (λ e. versions_apart (sym e))

abbrev is_newer : (n : Version) → Decided (n ≡ newer)
is_newer newer = inl refl
is_newer older = inr (λ e. versions_apart e)

module _ (old new : Schema) where
  abbrev deep : (n : Version) (v : Value) → Decided (NestsTooDeep old new n v)
  deep older v = some (λ u. 128 < depth u) (drop old new v) (λ u. lower 128 (depth u))
  deep newer v = lower 128 (depth (normal new v))

  abbrev holds : (p : Stage) (h : Hop) (v : Value) (c : Cause) → Decided (Holds old new p h v c)
  holds p h v unknown = both (both (is_older h.version) (is_not_older p.passed)) (none (drop old new v))
  holds p h v too_deep = both (is_no_hop p.passed) (deep h.version v)
  holds p h v clash = three (both (is_older h.version) (is_not_older p.passed)) (is_true (is_strict p.from))
      (some (λ u. ¬ (normal old u ≡ u)) (drop old new v) (λ u. abnormal old u (is_normal old u) refl))
  holds p h v missing = both (both (is_newer h.version) (is_an_older p.passed)) (some (λ u. grow old new u ≡ None) (drop old new v) (λ u. none (grow old new u)))
  holds p h v unwritable = some (λ x. canonical h.to (schema_of old new h.version) x ≡ None) (value_written old new p.passed h.version v) (λ x. none (canonical h.to (schema_of old new h.version) x))

  abbrev Verdict : Stage → Hop → Value → Type 0
  Verdict p h v = HasNoCause old new p h v ⊎ ((a : Answer) × HasCause old new p h v a)

  module _ (p : Stage) (h : Hop) (v : Value) where
    abbrev H : Cause → Type 0
    H c = Holds old new p h v c

    pub unheld : ¬ H unknown → ¬ H too_deep → ¬ H clash → ¬ H missing → (d : Cause) → answer_to d ≡ not_an_encoding → H d → ⊥
    unheld a b c d unknown e k = a k
    unheld a b c d too_deep e k = b k
    unheld a b c d clash e k = c k
    unheld a b c d missing e k = d k
    unheld a b c d unwritable e k = cc

    pub none_of : ¬ H unknown → ¬ H too_deep → ¬ H clash → ¬ H missing → ¬ H unwritable → HasNoCause old new p h v
    none_of a b c d e unknown k = a k
    none_of a b c d e too_deep k = b k
    none_of a b c d e clash k = c k
    none_of a b c d e missing k = d k
    none_of a b c d e unwritable k = e k

    abbrev by_target : ¬ H unknown → ¬ H too_deep → ¬ H clash → ¬ H missing → Decided (H unwritable) → Verdict p h v
    by_target a b c d (inl k) = inr (no_target, (unwritable, k, refl, λ f. unheld a b c d))
    by_target a b c d (inr k) = inl (none_of a b c d k)

    abbrev by_missing : ¬ H unknown → ¬ H too_deep → ¬ H clash → Decided (H missing) → Verdict p h v
    by_missing a b c (inl k) = inr (not_an_encoding, (missing, k, refl, λ f. answers_apart f))
    by_missing a b c (inr k) = by_target a b c k (holds p h v unwritable)

    abbrev by_clash : ¬ H unknown → ¬ H too_deep → Decided (H clash) → Verdict p h v
    by_clash a b (inl k) = inr (not_an_encoding, (clash, k, refl, λ f. answers_apart f))
    by_clash a b (inr k) = by_missing a b k (holds p h v missing)

    abbrev by_levels : ¬ H unknown → Decided (H too_deep) → Verdict p h v
    by_levels a (inl k) = inr (not_an_encoding, (too_deep, k, refl, λ f. answers_apart f))
    by_levels a (inr k) = by_clash a k (holds p h v clash)

    abbrev by_unknown : Decided (H unknown) → Verdict p h v
    by_unknown (inl k) = inr (not_an_encoding, (unknown, k, refl, λ f. answers_apart f))
    by_unknown (inr k) = by_levels k (holds p h v too_deep)

    abbrev pub verdict : Verdict p h v
    verdict = by_unknown (holds p h v unknown)

  -- ---- routes
  abbrev pub Outcome : Stage → List Hop → Value → Type 0
  Outcome p hops v = GoesThrough old new p hops v ⊎ ((i : ℕ) × (a : Answer) × FailsAt old new p hops v i a)

  abbrev and_then : (p : Stage) (h : Hop) (hops : List Hop) (v : Value) → Verdict p h v → Outcome (behind p h) hops v → Outcome p (h ∷ hops) v
  and_then p h hops v (inl n) (inl g) = inl (n, g)
  and_then p h hops v (inl n) (inr f) = inr (suc f.0, f.1, (n, f.2))
  and_then p h hops v (inr c) o = inr (zero, c.0, c.1)

  abbrev pub outcome : (p : Stage) (hops : List Hop) (v : Value) → Outcome p hops v
  outcome p [] v = inl tt
  outcome p (h ∷ hops) v = and_then p h hops v (verdict p h v) (outcome (behind p h) hops v)

  abbrev pub failure : (p : Stage) (hops : List Hop) (v : Value) → Outcome p hops v → Option (ℕ × Answer)
  failure p hops v (inl g) = None
  failure p hops v (inr f) = Some (f.0, f.1)

  pub goes : (p : Stage) (hops : List Hop) (v : Value) → failure p hops v (outcome p hops v) ≡ None → GoesThrough old new p hops v
  goes p hops v e = by (outcome p hops v) e
    where
      by : (o : Outcome p hops v) → failure p hops v o ≡ None → GoesThrough old new p hops v
      by (inl g) e = g
      by (inr f) e = cc

  pub fails : (p : Stage) (hops : List Hop) (v : Value) (i : ℕ) (a : Answer) → failure p hops v (outcome p hops v) ≡ Some (i, a) → FailsAt old new p hops v i a
  fails p hops v i a e = by (outcome p hops v) e
    where
      by : (o : Outcome p hops v) → failure p hops v o ≡ Some (i, a) → FailsAt old new p hops v i a
      by (inl g) e = cc
      by (inr f) e =
          let x : ℕ × Answer = (f.0, f.1) in
          let y : ℕ × Answer = (i, a) in
          let q : x ≡ y = some_parts e in
          subst (λ (r : ℕ × Answer). FailsAt old new p hops v r.0 r.1) q f.2
