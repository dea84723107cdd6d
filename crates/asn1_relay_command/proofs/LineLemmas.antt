-- What a writer holds after some texts.
use Rattle.std.proofs.Common.{◌≡◌, ◌∙◌, ℕ, ◌+◌, ◌<◌, zero, suc, List, [], ◌∷◌, ◌++◌, length, take, drop, slice_index_or}
use Rattle.std.proofs.Common.{Option, Some, None, codes, refl, sym, ap, ap₂, subst, append_assoc, add-one, arith}
use Rattle.std.specs.Borrow.{Bor}
use Rattle.std.specs.Io.KnownBytes.{Appends}
use Rattle.std.proofs.KnownBytes.{Appends-trans}
use Rattle.std.proofs.lemmas.List.{append-nil}
use Rattle.asn1_relay_core.specs.Ends.{BeginsToAppend}
use Rattle.std.specs.Prelude.{decimal}
use Rattle.asn1_relay_command.specs.Lines.{behind_place, joined, line_of, place_of, text_of}
use Rattle.asn1_relay_command.specs.declared.fault.Fault.{Fault}
use Rattle.asn1_relay_command.specs.declared.fault.Place.{Place}
use Rattle.asn1_relay_command.specs.declared.fault.Place.TheVariants as place

abbrev Texts : Type 0
Texts = List (Bor (List ℕ))

-- one more text
joined_more : (ps : Texts) (n : ℕ) (d : Bor (List ℕ)) → n < length ps → joined (take (suc n) ps) ≡ joined (take n ps) ++ (slice_index_or ps n d).now
joined_more [] n d h = absurd (omega (arith, h))
joined_more (p ∷ ps) zero d h = append-nil p.now
joined_more (p ∷ ps) (suc n) d h = ap (λ l. p.now ++ l) (joined_more ps n d (omega (arith, h))) ∙ sym (append_assoc p.now (joined (take n ps)) (slice_index_or ps n d).now)

joined_split : (ps : Texts) (n : ℕ) → joined ps ≡ joined (take n ps) ++ joined (drop n ps)
joined_split [] zero = refl
joined_split [] (suc n) = refl
joined_split (p ∷ ps) zero = refl
joined_split (p ∷ ps) (suc n) = ap (λ l. p.now ++ l) (joined_split ps n) ∙ sym (append_assoc p.now (joined (take n ps)) (joined (drop n ps)))

module _ (a b c : Option (List ℕ)) (ps : Texts) (n : ℕ) (d : Bor (List ℕ)) (text : List ℕ) (within : n < length ps)
    (is : text ≡ (slice_index_or ps n d).now) (before : Appends a b (joined (take n ps))) where
  further : joined (take (n + 1) ps) ≡ joined (take n ps) ++ text
  further = ap (λ k. joined (take k ps)) (add-one n) ∙ joined_more ps n d within ∙ ap (λ l. joined (take n ps) ++ l) (sym is)

  pub one_more_text : Appends b c text → Appends a c (joined (take (n + 1) ps))
  one_more_text h = subst (Appends a c) (sym further) (Appends-trans a b c (joined (take n ps)) text before h)

  pub begins_at_text : BeginsToAppend b c text → BeginsToAppend a c (joined ps)
  begins_at_text h =
      let first = joined (take n ps) in
      let rest = joined (drop (n + 1) ps) in
      let seam : (first ++ h.0) ++ (h.1 ++ rest) ≡ first ++ (text ++ rest) = append_assoc first h.0 (h.1 ++ rest) ∙ ap (λ l. first ++ l) (sym (append_assoc h.0 h.1 rest) ∙ ap (λ l. l ++ rest) h.2) in
      let whole : first ++ (text ++ rest) ≡ joined ps = sym (append_assoc first text rest) ∙ (ap (λ l. l ++ rest) (sym further) ∙ sym (joined_split ps (n + 1))) in
      (first ++ h.0, h.1 ++ rest, seam ∙ whole, Appends-trans a b c first h.0 before h.3)

-- ---- the line of an error

begun : Option Place → List ℕ → List ℕ
begun p text = codes "asn1_relay: " ++ behind_place p (text ++ (10 ∷ []))

begun_at : List ℕ → List ℕ → List ℕ → List ℕ
begun_at part digits text = codes "asn1_relay: " ++ (part ++ (digits ++ (codes ": " ++ (text ++ (10 ∷ [])))))

module _ (f : Fault) (n : ℕ) (digits text : List ℕ) (d : digits ≡ decimal n) (t : text ≡ text_of f) where
  pub line_at_message : (p : Place) → p ≡ place.Message n → Some p ≡ place_of f → codes "asn1_relay: " ++ (codes "message " ++ (digits ++ (codes ": " ++ (text ++ (10 ∷ []))))) ≡ line_of f
  unfolding begun begun_at
  line_at_message p is m = ap (λ l. begun_at (codes "message ") l text) d ∙ ap₂ begun (subst (λ x. Some x ≡ place_of f) is m) t

  pub line_at_hop : (p : Place) → p ≡ place.Hop n → Some p ≡ place_of f → codes "asn1_relay: " ++ (codes "hop " ++ (digits ++ (codes ": " ++ (text ++ (10 ∷ []))))) ≡ line_of f
  unfolding begun begun_at
  line_at_hop p is m = ap (λ l. begun_at (codes "hop ") l text) d ∙ ap₂ begun (subst (λ x. Some x ≡ place_of f) is m) t

pub line_without : (f : Fault) (text : List ℕ) → None ≡ place_of f → text ≡ text_of f → codes "asn1_relay: " ++ (text ++ (10 ∷ [])) ≡ line_of f
unfolding begun
line_without f text m t = ap₂ begun m t
