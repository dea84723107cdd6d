-- The laws of the encoder.
use Rattle.std.proofs.Common.{◌≡◌, ℕ, Bool, true, false, List, Some, refl, sym, ◌∙◌, ap}
use Rattle.asn1_schema_errors.specs.declared.CodecKind.TheVariants.{Coer}
use Rattle.asn1_schema_laws.specs.Records.{Record}
use Rattle.oer_codec_encoder.specs.Steps.{State}
use Rattle.oer_codec_encoder.specs.Stepping.{Written, Puts}

same_written : (b c : Written) → b.state ≡ c.state → b.failed ≡ c.failed → b.front ≡ c.front → b ≡ c
same_written b c x y z =
    ap (λ (s : State). let w : Written = record { state = s; failed = b.failed; front = b.front } in w) x
    ∙ ap (λ (f : Bool). let w : Written = record { state = c.state; failed = f; front = b.front } in w) y
    ∙ ap (λ (l : List ℕ). let w : Written = record { state = c.state; failed = c.failed; front = l } in w) z

pub puts_one : (a : Written) (r : Record) (b c : Written) → Puts a r b → Puts a r c → b ≡ c
puts_one a r b c p q =
    let e : Some b.state ≡ Some c.state = sym p.2 ∙ q.2 in
    let s : b.state ≡ c.state = cc e in
    same_written b c s (p.1 ∙ sym q.1) (p.3 ∙ sym q.3)

pub puts_none : (a : Written) (r : Record) (b : Written) → a.failed ≡ true → Puts a r b → ⊥
puts_none a r b h p = let e : true ≡ false = sym h ∙ p.0 in cc

pub puts_on : (a : Written) (r : Record) (b : Written) → Puts a r b → b.failed ≡ true → ⊥
puts_on a r b p h = let e : true ≡ false = sym h ∙ p.1 in cc

pub puts_same : (a : Written) (r : Record) (b : Written) → Puts a r b → Coer ≡ Coer
puts_same a r b p = refl
