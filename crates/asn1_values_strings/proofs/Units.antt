-- Numbers of sixteen bits as characters.
use Rattle.std.proofs.Common.{◌≡◌, ℕ, suc, ◌<◌, true, List, [], ◌∷◌, get_or, refl, arith, Fits, w8, w16}
use Rattle.asn1_model.specs.Schema.{bmp}
use Rattle.asn1_values_alphabets.specs.Permitted.{permits, permits_all}
use Rattle.std.proofs.lemmas.Bool.Decides.{nat_tests}

-- numbers of sixteen bits are characters of a BMPString
pub units_permitted : (cs : List ℕ) → ((k : ℕ) → Fits w16 (get_or cs k 0)) → permits_all bmp cs ≡ true
units_permitted [] h = refl
units_permitted (c ∷ cs) h = rw (among c (h 0)) (units_permitted cs (λ k. h (suc k)))
  where
    among : (c : ℕ) → Fits w16 c → permits bmp c ≡ true
    among c f = let l : c < 65536 = f.fits in grind (arith, nat_tests)

-- so are octets
pub octets_permitted : (cs : List ℕ) → ((k : ℕ) → Fits w8 (get_or cs k 0)) → permits_all bmp cs ≡ true
octets_permitted [] h = refl
octets_permitted (c ∷ cs) h = rw (among c (h 0)) (octets_permitted cs (λ k. h (suc k)))
  where
    among : (c : ℕ) → Fits w8 c → permits bmp c ≡ true
    among c f = let l : c < 256 = f.fits in grind (arith, nat_tests)
