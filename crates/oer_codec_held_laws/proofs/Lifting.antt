-- What a decoder finds is what the octets hold and the levels allow; if both do, it is found.
use Rattle.std.proofs.Common.{◌≡◌, ℕ, List, [], ◌∷◌, Bool, false, refl, ap, sym, ◌∙◌, subst}
use Rattle.asn1_schema_laws.specs.Records.{Record}
use Rattle.asn1_schema_laws.specs.Chains.{Chain}
use Rattle.asn1_schema_laws.specs.Levels.{Level}
use Rattle.oer_codec_reading.specs.Fronts.{freedoms}
use Rattle.oer_codec_laws.specs.Takes.{State, Takes}
use Rattle.oer_codec_held_laws.specs.Held.{Held, Finds, IsReady, state_of}

pub octets_taken : (rs : List Record) (a b : Held) → Chain Finds rs a b → Chain (Takes (freedoms a.rules)) rs (state_of a) (state_of b)
octets_taken [] a b c = ap state_of c
octets_taken (r ∷ rs) a b c =
    let p = c.1 in
    (state_of c.0, p.taken, subst (λ x. Chain (Takes (freedoms x)) rs (state_of c.0) (state_of b)) p.rules (octets_taken rs c.0 b c.2))

pub levels_taken : (rs : List Record) (a b : Held) → Chain Finds rs a b → Chain (Level a.most) rs a.levels b.levels
levels_taken [] a b c = ap (λ (h : Held). h.levels) c
levels_taken (r ∷ rs) a b c =
    let p = c.1 in
    (c.0.levels, p.levels, subst (λ x. Chain (Level x) rs c.0.levels b.levels) p.most (levels_taken rs c.0 b c.2))

-- a decoder in this state, with this number of levels left
abbrev pub held_at : Held → State → ℕ → Held
held_at a s l = record { octets = s.0; scopes = s.1; levels = l; most = a.most; failed = false; short = a.short; rules = a.rules }

nothing_taken : (a : Held) (s : State) (l : ℕ) → IsReady a → s ≡ state_of a → l ≡ a.levels → held_at a s l ≡ a
nothing_taken a s l h e f =
    ap (λ (t : State). held_at a t l) e
    ∙ (ap (λ (t : ℕ). held_at a (state_of a) t) f
    ∙ ap (λ (t : Bool). let x : Held = record { octets = a.octets; scopes = a.scopes; levels = a.levels; most = a.most; failed = t; short = a.short; rules = a.rules } in x) (sym h))

pub both_found : (rs : List Record) (a : Held) (s : State) (l : ℕ) → IsReady a → Chain (Takes (freedoms a.rules)) rs (state_of a) s →
    Chain (Level a.most) rs a.levels l → Chain Finds rs a (held_at a s l)
both_found [] a s l h c d = nothing_taken a s l h c d
both_found (r ∷ rs) a s l h c d =
    let next : Held = held_at a c.0 d.0 in
    let p : Finds a r next = record { ready = h; taken = c.1; levels = d.1; most = refl; ready_still = refl; short = refl; rules = refl } in
    (next, p, both_found rs next s l refl c.2 d.2)
