-- Complete encodings: the padding of one does not hide where its value ends; and octets as bits.
use Rattle.std.proofs.Common.{◌≡◌, ℕ, ◌*◌, Bool, List, [], ◌∷◌, ◌++◌, length, refl, ap, sym, ◌∙◌, subst, append_assoc, length-append, arith}
use Rattle.std.proofs.lemmas.List.{append-nil}
use Rattle.asn1_model.specs.Numbers.{binary}
use Rattle.asn1_model.specs.Form.{Reads}
use Rattle.asn1_model.specs.Rules.{octet_bits}
use Rattle.asn1_model.specs.Per
use Rattle.asn1_laws_fronts.proofs.Fronts.{fronts_equal, agree_exactly, agree_map, agree_both}
use Rattle.asn1_laws_fronts.proofs.PerNumbers.{Alike, padding_alike}

module _ (free : Per.Freedom → Bool) where
  -- what follows the bits of the value, if it has any
  padded_front : (c : Bool) (w : List Bool) (p : ℕ) (a : List Bool) → Reads free (Per.padded (c ∷ w)) p a → (more : List Bool) × ((c ∷ w) ++ more ≡ a)
  unfolding Per.padded Reads
  padded_front c w p a r = (r.1, ap (λ l. l ++ r.1) r.2 ∙ r.4)

  padded_same : (w : List Bool) → Alike free (Per.padded w) (Per.padded w) (Unit {0})
  unfolding Per.padded
  padded_same [] = agree_map free (λ e. tt) (agree_exactly free _ _ refl)
  padded_same (c ∷ w) = agree_map free (λ e. tt) (agree_both free (agree_exactly free (c ∷ w) (c ∷ w) refl) (λ e. padding_alike free (Per.missing (length (c ∷ w)))))

  -- two padded encodings of forms that agree are of one value
  padded_values : (x y : Per.BitForm) (P : Type 0) (v w : List Bool) (p : ℕ) (a b r s : List Bool) → Alike free x y P →
      Reads free x 0 v → Reads free y 0 w → Reads free (Per.padded v) p a → Reads free (Per.padded w) p b → a ++ r ≡ b ++ s → (v ≡ w) × P
  padded_values x y P [] [] p a b r s h f g i j e = h.fronts 0 [] [] [] [] f g refl
  padded_values x y P [] (d ∷ w) p a b r s h f g i j e = h.fronts 0 [] (d ∷ w) (d ∷ w) [] f g (sym (append-nil (d ∷ w)))
  padded_values x y P (c ∷ v) [] p a b r s h f g i j e = h.fronts 0 (c ∷ v) [] [] (c ∷ v) f g (append-nil (c ∷ v))
  padded_values x y P (c ∷ v) (d ∷ w) p a b r s h f g i j e =
      let m = padded_front c v p a i in
      let n = padded_front d w p b j in
      h.fronts 0 (c ∷ v) (d ∷ w) (m.0 ++ r) (n.0 ++ s) f g (sym (append_assoc (c ∷ v) m.0 r) ∙ ap (λ l. l ++ r) m.1 ∙ e ∙ ap (λ l. l ++ s) (sym n.1) ∙ append_assoc (d ∷ w) n.0 s)

  pub complete_alike : (x y : Per.BitForm) (P : Type 0) → Alike free x y P → Alike free (Per.complete x) (Per.complete y) P
  unfolding Per.complete Reads
  complete_alike x y P h = record {
    fronts = λ p a b r s f g e.
        let q = padded_values x y P f.0 g.0 p a b r s h f.1 g.1 f.2 g.2 e in
        let k : Reads free (Per.padded g.0) p a = subst (λ l. Reads free (Per.padded l) p a) q.0 f.2 in
        (((padded_same g.0).fronts p a b r s k g.2 e).0, q.1);
  }

-- ---- octets
bits_joined : (a x : List ℕ) → octet_bits (a ++ x) ≡ octet_bits a ++ octet_bits x
bits_joined [] x = refl
bits_joined (o ∷ a) x = ap (λ l. binary 8 o ++ l) (bits_joined a x) ∙ sym (append_assoc (binary 8 o) (octet_bits a) (octet_bits x))

pub bits_length : (a : List ℕ) → length (octet_bits a) ≡ 8 * length a
bits_length [] = refl
bits_length (o ∷ a) = let i = bits_length a in length-append (binary 8 o) (octet_bits a) ∙ omega arith

-- prefixes of octets, from what is known of prefixes of their bits
pub octet_fronts : (free : Per.Freedom → Bool) (x y : Per.BitForm) (P : Type 0) (a b r s : List ℕ) → Alike free x y P →
    Reads free x 0 (octet_bits a) → Reads free y 0 (octet_bits b) → a ++ r ≡ b ++ s → (a ≡ b) × P
octet_fronts free x y P a b r s h f g e =
    let q = h.fronts 0 (octet_bits a) (octet_bits b) (octet_bits r) (octet_bits s) f g (sym (bits_joined a r) ∙ ap octet_bits e ∙ bits_joined b s) in
    let l : length a ≡ length b = let m = bits_length a in let n = bits_length b in let k = ap length q.0 in omega arith in
    (fronts_equal a b r s l e, q.1)
