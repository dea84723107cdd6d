-- Positions in a range of bits.
use Rattle.std.specs.Prelude.{min}
use Rattle.std.proofs.Common.{subst, ◌≡◌, ℕ, ◌+◌, ◌≤◌, Bool, inl, inr, List, length, take, drop, refl, ap, sym, ◌∙◌, length-append, arith}
use Rattle.std.proofs.lemmas.Bool.{cases_lt}
use Rattle.std.proofs.lemmas.List.{length-drop, length-take-le, drop_at, drop-drop, take_all, take-append-drop}
use Rattle.asn1_model.specs.Per
use Rattle.per_codec_laws.specs.Takes.{Position, Front}
use Rattle.per_codec_laws.proofs.Next.{place_same}
use Rattle.per_codec_reading.specs.Fronts.{Leads}
use Rattle.per_codec_reading.specs.Runs.{StandsIn}

-- after bits that come first
pub behind : (w bs : List Bool) (n : ℕ) (b : Position) → Leads w (n, drop n bs) b → (n + length w, drop (n + length w) bs) ≡ b
behind w bs n b h =
    let e : drop (length w) (drop n bs) ≡ b.1 = ap (drop (length w)) (sym h.0) ∙ drop_at w b.1 (length w) refl in
    place_same (n + length w, drop (n + length w) bs) b h.1 (sym (drop-drop (length w) n bs) ∙ e)

pub within : (w bs : List Bool) (n : ℕ) (b : Position) → n ≤ length bs → Leads w (n, drop n bs) b → b.0 ≤ length bs
within w bs n b l h =
    let e = sym (length-append w b.1) ∙ ap length h.0 ∙ length-drop n bs in
    let k = h.1 in
    omega (arith, e, k, l)

-- the position that a reader reached
pub moved : (w bs : List Bool) (n p q : ℕ) (b : Position) → n ≤ length bs → b.0 ≡ p → (p ≤ length bs → q ≡ p) → Leads w (n, drop n bs) b → (q, drop q bs) ≡ b
moved w bs n p q b l e m h =
    let i = within w bs n b l h in
    let j : q ≡ p = m (omega (arith, e, i)) in
    let k : q ≡ n + length w = j ∙ sym e ∙ sym h.1 in
    ap (λ (x : ℕ). let y : Position = (x, drop x bs) in y) k ∙ behind w bs n b h

-- the position after a number of the bits
pub stands : (bs : List Bool) (n : ℕ) → n ≤ length bs → StandsIn bs (n, drop n bs)
stands bs n l = let e = length-take-le n bs l in (take n bs, (take-append-drop n bs, omega (arith, e)))

-- the first elements, at most `n` and at most all of them
pub take_at_most : (m n : ℕ) (xs : List ℕ) → m ≡ min (length xs) n → take m xs ≡ take n xs
take_at_most m n xs e = elim (cases_lt n (length xs)) [
  | inl l ↦ let s : m ≡ n = omega arith in ap (λ k. take k xs) s
  | inr g ↦ take_all m xs (omega arith) ∙ sym (take_all n xs g)
]

-- a position within the number of bits is within the bits
pub within_count : (bs : List Bool) (n m : ℕ) → (n ≤ m) × (m ≡ length bs) → n ≤ length bs
within_count bs n m h = subst (λ k. n ≤ k) h.1 h.0

module _ (free : Per.Freedom → Bool) where
  pub leads_of : (x : Per.BitForm) (a b : Position) (f : Front free x a b) → Leads f.text a b
  leads_of x a b f = (f.in_front, f.moved)
