-- The last of the bits that were taken.
use Rattle.std.proofs.Common.{Bool, List, ◌++◌, refl, sym, subst}
use Rattle.asn1_model.specs.Per
use Rattle.asn1_values_bits.specs.BitStr.{bits_of}
use Rattle.per_codec_laws.specs.Takes.{Position, Front}
use Rattle.per_codec_reading.specs.Fronts.{Leads}
use Rattle.per_codec_reading.proofs.Fronts.{leads_join}
use Rattle.std.proofs.lemmas.List.{append_assoc}
use Rattle.per_codec_reading.specs.Runs.{EndsWith, EndsWithLent, StandsIn, StandsBefore}
use Rattle.per_codec_reading.specs.declared.runs.RunBits.{RunBits}
use Rattle.per_codec_reading.specs.declared.runs.RunBits.TheVariants.{Lent, Joined}

module _ (free : Per.Freedom → Bool) where
  -- bits after a form
  pub last_behind : (x : Per.BitForm) (bs : List Bool) (a m b : Position) → Front free x a m → Leads bs m b → EndsWith bs a b
  last_behind x bs a m b f l = (f.text, leads_join f.text bs a m b (f.in_front, f.moved) l)

  -- the last bits after a form, and what is before them
  pub ends_behind : (x : Per.BitForm) (bs : List Bool) (a m b : Position) → Front free x a m → EndsWith bs m b → EndsWith bs a b
  ends_behind x bs a m b f e = (f.text ++ e.0, subst (λ t. Leads t a b) (sym (append_assoc f.text e.0 bs)) (leads_join f.text (e.0 ++ bs) a m b (f.in_front, f.moved) e.1))

  pub lent_behind : (x : Per.BitForm) (bits : RunBits) (a m b : Position) → Front free x a m → EndsWithLent bits m b → EndsWithLent bits a b
  lent_behind x (Lent bits) a m b f e = ends_behind x (bits_of bits) a m b f e
  lent_behind x (Joined bits) a m b f e = tt

-- borrowed units before a position of the input
pub stands_before : (bits : RunBits) (all : List Bool) (a b : Position) → StandsIn all a → EndsWithLent bits a b → StandsBefore bits all b.0
stands_before (Joined bits) all a b s e = tt
stands_before (Lent bits) all a b s e = (b, refl, (s.0 ++ e.0, subst (λ t. Leads t (0, all) b) (sym (append_assoc s.0 e.0 (bits_of bits))) (leads_join s.0 (e.0 ++ bits_of bits) (0, all) a b s.1 e.1)))
