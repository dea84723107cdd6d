-- A decoder finds at most one record, and its next state is unique.
use Rattle.std.proofs.Common.{◌≡◌, ℕ, List, true, false, Option, Some, None, refl, sym, ◌∙◌, ap}
use Rattle.std.specs.Prelude.{is_some}
use Rattle.asn1_model.specs.Schema.{Size, Counts}
use Rattle.asn1_model.specs.Numbers.{is_count_within}
use Rattle.asn1_schema_laws.specs.Records.{Record, question, told, list_begins, bag_begins}
use Rattle.asn1_schema_reading_laws.proofs.Levels.{same_level}
use Rattle.per_codec_laws.specs.Takes.{Position, State, Scope}
use Rattle.per_codec_laws.proofs.Next.{one_taken}
use Rattle.per_codec_reading.specs.Fronts.{freedoms, is_aligned}
use Rattle.per_codec_reading.specs.Runs.{Storage}
use Rattle.per_codec_reading.specs.declared.rules.PackedRules.{PackedRules}
use Rattle.per_codec_held_laws.specs.Held.{Held, state_of, kind_of, kept, Finds, HasFailed}

pub not_some : (o : Option ℕ) → is_some o ≡ false → o ≡ None
not_some None e = refl
not_some (Some n) e = cc

held_is : {b c : Held} → state_of b ≡ state_of c → b.levels ≡ c.levels → b.most ≡ c.most → b.failed ≡ c.failed
    → b.rules ≡ c.rules → b.stands ≡ c.stands → b ≡ c
held_is {b} {c} v w x y z u =
    ap (λ (t : State). let h : Held = record {
      place = t.0;
      scopes = t.1;
      levels = b.levels;
      most = b.most;
      failed = b.failed;
      rules = b.rules;
      stands = b.stands;
    } in h) v
    ∙ (ap (λ (t : ℕ). let h : Held = record {
      place = c.place;
      scopes = c.scopes;
      levels = t;
      most = b.most;
      failed = b.failed;
      rules = b.rules;
      stands = b.stands;
    } in h) w
    ∙ (ap (λ (t : ℕ). let h : Held = record {
      place = c.place;
      scopes = c.scopes;
      levels = c.levels;
      most = t;
      failed = b.failed;
      rules = b.rules;
      stands = b.stands;
    } in h) x
    ∙ (ap (λ (t : Option ℕ). let h : Held = record {
      place = c.place;
      scopes = c.scopes;
      levels = c.levels;
      most = c.most;
      failed = t;
      rules = b.rules;
      stands = b.stands;
    } in h) y
    ∙ ap (λ (t : PackedRules). let h : Held = record {
      place = c.place;
      scopes = c.scopes;
      levels = c.levels;
      most = c.most;
      failed = c.failed;
      rules = t;
      stands = b.stands;
    } in h) z
    ∙ ap (λ (t : List Storage). let h : Held = record {
      place = c.place;
      scopes = c.scopes;
      levels = c.levels;
      most = c.most;
      failed = c.failed;
      rules = c.rules;
      stands = t;
    } in h) u)))

kept_told : (a : Held) (r : Record) (p : Position) (k : List Scope) → kept a (told r) p k ≡ kept a r p k
kept_told a (list_begins z h n) p k = refl
kept_told a (bag_begins z h n) p k = refl
kept_told a r p k = refl

same_kept : (a : Held) (r s : Record) (b c : State) → told r ≡ told s → b ≡ c → kept a r b.0 b.1 ≡ kept a s c.0 c.1
same_kept a r s b c e h =
    sym (kept_told a r b.0 b.1) ∙ ap (λ t. kept a t b.0 b.1) e ∙ kept_told a s b.0 b.1 ∙ ap
    (λ (t : State). kept a s t.0 t.1) h

pub finds_one : (a : Held) (r s : Record) (b c : Held) → question r ≡ question s → Finds a r b → Finds a s c
    → (told r ≡ told s) × (b ≡ c)
finds_one a r s b c k p q =
    let t = one_taken (is_aligned a.rules) (freedoms a.rules) (state_of a) r s (state_of b)
    (state_of c) k p.taken q.taken in
    let e : Some b.levels ≡ Some c.levels = sym p.levels ∙ same_level a.most r s a.levels k ∙ q.levels in
    let l : b.levels ≡ c.levels = cc e in (
      t.0,
      held_is t.1 l (p.most ∙ sym q.most) (not_some b.failed p.ready_still ∙ sym (not_some c.failed q.ready_still)) (p.rules ∙ sym q.rules)
          (p.stands ∙ same_kept a r s (state_of b) (state_of c) t.0 t.1 ∙ sym q.stands),
    )

pub finds_held : (a : Held) (z : Size) (h : Counts) (n : ℕ) (b : Held) → Finds a (list_begins z h n) b
    → is_count_within h n ≡ true
finds_held a z h n b p = let t = p.taken in t.0

pub finds_bag_held : (a : Held) (z : Size) (h : Counts) (n : ℕ) (b : Held) → Finds a (bag_begins z h n) b
    → is_count_within h n ≡ true
finds_bag_held a z h n b p = let t = p.taken in t.0

pub finds_none : (a : Held) (r : Record) (b : Held) → HasFailed a → Finds a r b → ⊥
finds_none a r b h p = let e : true ≡ false = sym h ∙ p.ready in cc

pub finds_same : (a : Held) (r : Record) (b : Held) → Finds a r b → kind_of b.rules ≡ kind_of a.rules
finds_same a r b p = ap kind_of p.rules

pub finds_on : (a : Held) (r : Record) (b : Held) → Finds a r b → HasFailed b → ⊥
finds_on a r b p h = let e : true ≡ false = sym h ∙ p.ready_still in cc
