-- What a decoder finds is what the bits hold and the levels allow; if both do, it is found.
use Rattle.std.proofs.Common.{◌≡◌, ℕ, List, [], ◌∷◌, Option, None, refl, ap, sym, ◌∙◌, subst}
use Rattle.std.specs.Prelude.{is_some}
use Rattle.asn1_schema_laws.specs.Records.{Record}
use Rattle.asn1_schema_laws.specs.Chains.{Chain}
use Rattle.asn1_schema_laws.specs.Levels.{Level}
use Rattle.per_codec_reading.specs.Fronts.{freedoms, is_aligned}
use Rattle.per_codec_reading.specs.Runs.{Storage}
use Rattle.per_codec_laws.specs.Takes.{State, Takes}
use Rattle.per_codec_held_laws.specs.Held.{Held, Finds, IsReady, kept, state_of}
use Rattle.per_codec_held_laws.proofs.Finds.{not_some}

pub bits_taken : (rs : List Record) (a b : Held) → Chain Finds rs a b → Chain (Takes (is_aligned a.rules) (freedoms a.rules)) rs (state_of a) (state_of b)
bits_taken [] a b c = ap state_of c
bits_taken (r ∷ rs) a b c =
    let p = c.1 in
    (state_of c.0, p.taken, subst (λ x. Chain (Takes (is_aligned x) (freedoms x)) rs (state_of c.0) (state_of b)) p.rules (bits_taken rs c.0 b c.2))

pub levels_taken : (rs : List Record) (a b : Held) → Chain Finds rs a b → Chain (Level a.most) rs a.levels b.levels
levels_taken [] a b c = ap (λ (h : Held). h.levels) c
levels_taken (r ∷ rs) a b c =
    let p = c.1 in
    (c.0.levels, p.levels, subst (λ x. Chain (Level x) rs c.0.levels b.levels) p.most (levels_taken rs c.0 b c.2))

-- a decoder in this state, with this number of levels left and its bits stored so
abbrev pub held_at : Held → State → ℕ → List Storage → Held
held_at a s l m = record { place = s.0; scopes = s.1; levels = l; most = a.most; failed = None; rules = a.rules; stands = m }

nothing_taken : (a : Held) (s : State) (l : ℕ) → IsReady a → s ≡ state_of a → l ≡ a.levels → held_at a s l a.stands ≡ a
nothing_taken a s l h e f =
    ap (λ (t : State). held_at a t l a.stands) e
    ∙ (ap (λ (t : ℕ). held_at a (state_of a) t a.stands) f
    ∙ ap (λ (t : Option ℕ). let x : Held = record {
      place = a.place;
      scopes = a.scopes;
      levels = a.levels;
      most = a.most;
      failed = t;
      rules =
          a.rules;
      stands = a.stands;
    } in x) (sym (not_some a.failed h)))

pub both_found : (rs : List Record) (a : Held) (s : State) (l : ℕ) → IsReady a →
    Chain (Takes (is_aligned a.rules) (freedoms a.rules)) rs (state_of a) s → Chain (Level a.most) rs a.levels l → (m : List Storage) × Chain Finds rs a (held_at a s l m)
both_found [] a s l h c d = (a.stands, nothing_taken a s l h c d)
both_found (r ∷ rs) a s l h c d =
    let next : Held = held_at a c.0 d.0 (kept a r c.0.0 c.0.1) in
    let p : Finds a r next = record { ready = h; taken = c.1; levels = d.1; most = refl; ready_still = refl; rules = refl; stands = refl } in
    let q = both_found rs next s l refl c.2 d.2 in
    (q.0, (next, p, q.1))

-- a decoder that has found records has not failed
pub ready_still : (rs : List Record) (a b : Held) → IsReady a → Chain Finds rs a b → IsReady b
ready_still [] a b h c = ap (λ (x : Held). is_some x.failed) c ∙ h
ready_still (r ∷ rs) a b h c = let p = c.1 in ready_still rs c.0 b p.ready_still c.2

-- and has the same rules
pub rules_still : (rs : List Record) (a b : Held) → Chain Finds rs a b → b.rules ≡ a.rules
rules_still [] a b c = ap (λ (x : Held). x.rules) c
rules_still (r ∷ rs) a b c = let p = c.1 in rules_still rs c.0 b c.2 ∙ p.rules
