-- A decoder finds at most one record, and its next state is unique.
use Rattle.std.proofs.Common.{◌≡◌, ℕ, Bool, true, false, Some, sym, ◌∙◌, ap}
use Rattle.asn1_model.specs.Schema.{Size, Counts}
use Rattle.asn1_model.specs.Numbers.{is_count_within}
use Rattle.asn1_schema_laws.specs.Records.{Record, question, told, list_begins, bag_begins}
use Rattle.asn1_schema_reading_laws.proofs.Levels.{same_level}
use Rattle.oer_codec_laws.specs.Takes.{State}
use Rattle.oer_codec_laws.proofs.Next.{one_taken}
use Rattle.oer_codec_reading.specs.Fronts.{freedoms}
use Rattle.oer_codec_reading.specs.declared.rules.EncodingRules.{EncodingRules}
use Rattle.oer_codec_held_laws.specs.Held.{Held, state_of, kind_of, Finds, HasFailed}

held_is : {b c : Held} → state_of b ≡ state_of c → b.levels ≡ c.levels → b.most ≡ c.most → b.failed ≡ c.failed → b.short ≡ c.short
    → b.rules ≡ c.rules → b ≡ c
held_is {b} {c} v w x y u z =
    ap (λ (t : State). let h : Held = record { octets = t.0; scopes = t.1; levels = b.levels; most = b.most; failed = b.failed; short = b.short; rules = b.rules } in h) v
    ∙ ap (λ (t : ℕ). let h : Held = record { octets = c.octets; scopes = c.scopes; levels = t; most = b.most; failed = b.failed; short = b.short; rules = b.rules } in h) w
    ∙ ap (λ (t : ℕ). let h : Held = record { octets = c.octets; scopes = c.scopes; levels = c.levels; most = t; failed = b.failed; short = b.short; rules = b.rules } in h) x
    ∙ ap (λ (t : Bool). let h : Held = record { octets = c.octets; scopes = c.scopes; levels = c.levels; most = c.most; failed = t; short = b.short; rules = b.rules } in h) y
    ∙ ap (λ (t : ℕ). let h : Held = record { octets = c.octets; scopes = c.scopes; levels = c.levels; most = c.most; failed = c.failed; short = t; rules = b.rules } in h) u
    ∙ ap (λ (t : EncodingRules). let h : Held = record { octets = c.octets; scopes = c.scopes; levels = c.levels; most = c.most; failed = c.failed; short = c.short; rules = t } in h) z

pub finds_one : (a : Held) (r s : Record) (b c : Held) → question r ≡ question s → Finds a r b → Finds a s c
    → (told r ≡ told s) × (b ≡ c)
finds_one a r s b c k p q =
    let t = one_taken (freedoms a.rules) (state_of a) r s (state_of b) (state_of c) k p.taken q.taken in
    let e : Some b.levels ≡ Some c.levels = sym p.levels ∙ same_level a.most r s a.levels k ∙ q.levels in
    let l : b.levels ≡ c.levels = cc e in
    (t.0, held_is t.1 l (p.most ∙ sym q.most) (p.ready_still ∙ sym q.ready_still) (p.short ∙ sym q.short) (p.rules ∙ sym q.rules))

pub finds_held : (a : Held) (z : Size) (h : Counts) (n : ℕ) (b : Held) → Finds a (list_begins z h n) b
    → is_count_within h n ≡ true
finds_held a z h n b p = let t = p.taken in t.1

pub finds_bag_held : (a : Held) (z : Size) (h : Counts) (n : ℕ) (b : Held) → Finds a (bag_begins z h n) b
    → is_count_within h n ≡ true
finds_bag_held a z h n b p = let t = p.taken in t.1

pub finds_none : (a : Held) (r : Record) (b : Held) → HasFailed a → Finds a r b → ⊥
finds_none a r b h p = let e : true ≡ false = sym h ∙ p.ready in cc

pub finds_on : (a : Held) (r : Record) (b : Held) → Finds a r b → HasFailed b → ⊥
finds_on a r b p h = let e : true ≡ false = sym h ∙ p.ready_still in cc

pub finds_same : (a : Held) (r : Record) (b : Held) → Finds a r b → kind_of b.rules ≡ kind_of a.rules
finds_same a r b p = ap kind_of p.rules
