-- Encodings in shared octets, one after the other: further octets change none of them.
use Rattle.std.proofs.Common.{◌≡◌, ℕ, zero, suc, ◌-◌, ◌<◌, ◌≤◌, List, [], ◌∷◌, ◌++◌, length, get_or, take, drop, refl, ap, sym, subst, ◌∙◌, arith, length-append}
use Rattle.std.specs.List.{slice_range}
use Rattle.std.proofs.lemmas.List.{take_all, take-append-le, drop-append-le, drop_at, length-drop}
use Rattle.asn1_schema_order.specs.declared.encodings.Span.{Span}
use Rattle.asn1_schema_order.specs.Spans.{cut, AreWithin}

-- ---- one of them

pub length_cut : (o : List ℕ) (ss : List Span) → length (cut o ss) ≡ length ss
length_cut o [] = refl
length_cut o (s ∷ ss) = ap suc (length_cut o ss)

pub has_span : (o : List ℕ) (ss : List Span) (ws : List (List ℕ)) (i : ℕ) → cut o ss ≡ ws → i < length ws → i < length ss
has_span o ss ws i e h = omega (arith, length_cut o ss, ap length e, h)

pub within_at : (n : ℕ) (ss : List Span) (i : ℕ) (d s : Span) → AreWithin n ss → i < length ss → s ≡ get_or ss i d → (s.from ≤ s.to) × (s.to ≤ n)
within_at n [] i d s w h e = absurd (omega (arith, h))
within_at n (t ∷ ts) zero d s w h e = subst (λ (u : Span). (u.from ≤ u.to) × (u.to ≤ n)) (sym e) (w.0, w.1)
within_at n (t ∷ ts) (suc i) d s w h e = within_at n ts i d s w.2 (omega (arith, h)) e

pub cut_at : (o : List ℕ) (ss : List Span) (i : ℕ) (d s : Span) (x : List ℕ) → i < length ss → s ≡ get_or ss i d → slice_range o s.from s.to ≡ get_or (cut o ss) i x
cut_at o [] i d s x h e = absurd (omega (arith, h))
cut_at o (t ∷ ts) zero d s x h e = ap (λ (u : Span). slice_range o u.from u.to) e
cut_at o (t ∷ ts) (suc i) d s x h e = cut_at o ts i d s x (omega (arith, h)) e

-- ---- further octets

part_more : (o x : List ℕ) (a b : ℕ) → a ≤ b → b ≤ length o → slice_range (o ++ x) a b ≡ slice_range o a b
part_more o x a b h k =
    ap (take (b - a)) (drop-append-le a o x (omega (arith, h, k))) ∙ take-append-le (b - a) (drop a o) x (omega (arith, h, k, length-drop a o))

cut_more : (o x : List ℕ) (ss : List Span) → AreWithin (length o) ss → cut (o ++ x) ss ≡ cut o ss
cut_more o x [] w = refl
cut_more o x (s ∷ ss) w = ap (λ l. l ∷ cut (o ++ x) ss) (part_more o x s.from s.to w.0 w.1) ∙ ap (λ l. slice_range o s.from s.to ∷ l) (cut_more o x ss w.2)

within_more : (n m : ℕ) (ss : List Span) → n ≤ m → AreWithin n ss → AreWithin m ss
within_more n m [] h w = tt
within_more n m (s ∷ ss) h w = (w.0, (let k = w.1 in omega (arith, h, k)), within_more n m ss h w.2)

pub within_kept : (o x p : List ℕ) (ss ts : List Span) → AreWithin (length o) ss → p ≡ o ++ x → ts ≡ ss → AreWithin (length p) ts
within_kept o x p ss ts w e f =
    subst (λ l. AreWithin (length p) l) (sym f) (within_more (length o) (length p) ss (omega (arith, ap length e, length-append o x)) w)

pub cut_kept : (o x p : List ℕ) (ss ts : List Span) → AreWithin (length o) ss → p ≡ o ++ x → ts ≡ ss → cut p ts ≡ cut o ss
cut_kept o x p ss ts w e f = ap (λ l. cut l ts) e ∙ ap (cut (o ++ x)) f ∙ cut_more o x ss w

-- ---- one more

within_one : (n : ℕ) (ss : List Span) (s : Span) → AreWithin n ss → s.from ≤ s.to → s.to ≤ n → AreWithin n (ss ++ s ∷ [])
within_one n [] s w h k = (h, k, tt)
within_one n (t ∷ ts) s w h k = (w.0, w.1, within_one n ts s w.2 h k)

cut_one : (o : List ℕ) (ss : List Span) (s : Span) → cut o (ss ++ s ∷ []) ≡ cut o ss ++ slice_range o s.from s.to ∷ []
cut_one o [] s = refl
cut_one o (t ∷ ts) s = ap (λ l. slice_range o t.from t.to ∷ l) (cut_one o ts s)

last_part : (o x : List ℕ) → slice_range (o ++ x) (length o) (length (o ++ x)) ≡ x
last_part o x = ap (take (length (o ++ x) - length o)) (drop_at o x (length o) refl) ∙ take_all (length (o ++ x) - length o) x (omega (arith, length-append o x))

pub within_added : (o x p : List ℕ) (ss ts : List Span) (s : Span) → AreWithin (length o) ss → p ≡ o ++ x → ts ≡ ss ++ s ∷ [] → s.from ≡ length o → s.to ≡ length p → AreWithin (length p) ts
within_added o x p ss ts s w e f a b =
    subst (λ l. AreWithin (length p) l) (sym f) (within_one (length p) ss s (within_kept o x p ss ss w e refl) (omega (arith, a, b, ap length e, length-append o x)) (omega (arith, b)))

pub cut_added : (o x p : List ℕ) (ss ts : List Span) (s : Span) → AreWithin (length o) ss → p ≡ o ++ x → ts ≡ ss ++ s ∷ [] → s.from ≡ length o → s.to ≡ length p → cut p ts ≡ cut o ss ++ x ∷ []
cut_added o x p ss ts s w e f a b =
    ap (cut p) f ∙ cut_one p ss s ∙ ap (λ l. l ++ slice_range p s.from s.to ∷ []) (cut_kept o x p ss ss w e refl) ∙ ap (λ l. cut o ss ++ l ∷ []) part
  where
    part : slice_range p s.from s.to ≡ x
    part = ap (λ n. slice_range p n s.to) a ∙ ap (slice_range p (length o)) b ∙ ap (λ l. slice_range l (length o) (length l)) e ∙ last_part o x
