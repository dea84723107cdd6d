-- The laws of the encoder that keeps records.
use Rattle.std.proofs.Common.{◌≡◌, true, false, sym, ◌∙◌, ap}
use Rattle.asn1_schema_laws.specs.Records.{Record}
use Rattle.asn1_schema_records.specs.Kept.{Written, Puts}

pub puts_one : (a : Written) (r : Record) (b c : Written) → Puts a r b → Puts a r c → b ≡ c
puts_one a r b c p q = p.1 ∙ sym q.1

pub puts_none : (a : Written) (r : Record) (b : Written) → a.failed ≡ true → Puts a r b → ⊥
puts_none a r b h p = let e : true ≡ false = sym h ∙ p.0 in cc

pub puts_same : (a : Written) (r : Record) (b : Written) → Puts a r b → b.rules ≡ a.rules
puts_same a r b p = ap (λ (w : Written). w.rules) p.1

pub puts_on : (a : Written) (r : Record) (b : Written) → Puts a r b → b.failed ≡ true → ⊥
puts_on a r b p f = let e : true ≡ false = sym f ∙ ap (λ (w : Written). w.failed) p.1 in cc
