-- Laws of the steps of an encoder: one state at most follows a record, none after an error, and the variant stays.
use Rattle.std.proofs.Common.{◌≡◌, Bool, true, false, Some, sym, ◌∙◌, ap}
use Rattle.asn1_schema_laws.specs.Records.{Record}
use Rattle.per_codec_encoder.specs.Steps.{State}
use Rattle.per_codec_encoder.specs.Stepping.{Written, Puts, rules_of}

same_written : (b c : Written) → b.state ≡ c.state → b.aligned ≡ c.aligned → b.failed ≡ c.failed → b ≡ c
same_written b c x y z =
    ap (λ (s : State). let w : Written = record { state = s; aligned = b.aligned; failed = b.failed } in w) x
    ∙ ap (λ (a : Bool). let w : Written = record { state = c.state; aligned = a; failed = b.failed } in w) y
    ∙ ap (λ (f : Bool). let w : Written = record { state = c.state; aligned = c.aligned; failed = f } in w) z

pub puts_one : (a : Written) (r : Record) (b c : Written) → Puts a r b → Puts a r c → b ≡ c
puts_one a r b c p q =
    let e : Some b.state ≡ Some c.state = sym p.3 ∙ q.3 in
    let s : b.state ≡ c.state = cc e in
    same_written b c s (p.2 ∙ sym q.2) (p.1 ∙ sym q.1)

pub puts_none : (a : Written) (r : Record) (b : Written) → a.failed ≡ true → Puts a r b → ⊥
puts_none a r b h p = let e : true ≡ false = sym h ∙ p.0 in cc

pub puts_on : (a : Written) (r : Record) (b : Written) → Puts a r b → b.failed ≡ true → ⊥
puts_on a r b p h = let e : true ≡ false = sym h ∙ p.1 in cc

pub puts_same : (a : Written) (r : Record) (b : Written) → Puts a r b → rules_of b.aligned ≡ rules_of a.aligned
puts_same a r b p = ap rules_of p.2
