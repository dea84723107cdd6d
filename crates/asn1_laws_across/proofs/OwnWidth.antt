-- Bitmaps of the type's width are read as the canonical one is written.
use Rattle.std.proofs.Common.{◌≡◌, ℕ, ◌+◌, Bool, true, false, cond, IsTrue, List, [], ◌∷◌, length, Option, Some, None, refl, ap, sym, ◌∙◌, subst, inr, arith}
use Rattle.std.proofs.lemmas.Bool.{lt-ltb}
use Rattle.std.proofs.Math.Seq.{drop-length}
use Rattle.std.proofs.lemmas.List.{append-nil, take_all}
use Rattle.asn1_model.specs.Form.{Form, varied, written, only_if, given, Bitmap, is_any_present, covered_by, own_bitmap}
use Rattle.asn1_model.specs.Per
use Rattle.asn1_model.specs.Oer
use Rattle.asn1_laws_fronts.proofs.Fronts.{Agree}
use Rattle.asn1_laws_fronts.proofs.PerNumbers.{counted_octets_alike}
use Rattle.asn1_laws_fronts.proofs.OerNumbers.{counted_alike}
use Rattle.asn1_laws_fronts.proofs.Additions as adding
use Rattle.asn1_laws_across.proofs.AsWritten.{ReadsAsWritten}
use Rattle.asn1_laws_across.proofs.Strictly.{as_written}

abbrev own : {X : Type 0} → List (Option X) → Bitmap
own xs = record { covered = length xs; further = [] }

-- ---- what a bitmap of the type's width describes
covers_own : {X : Type 0} (unknown : List ℕ → X) (xs : List (Option X)) → covered_by unknown (own xs) xs ≡ Some xs
covers_own unknown xs =
    let n = drop-length xs in
    let t = take_all (length xs) xs (omega arith) in
    let l = lt-ltb (length xs) (length xs + 1) (omega arith) in
    let a = append-nil xs in
    rw (n, l, t, a) refl

module _ (F : Type 0) (D : F → Type 0) (A : Type 0) (free : F → Bool) (unknown : List ℕ → Form F D A)
    (unknown_alike : (os ps : List ℕ) → Agree {F = F} {D = D} {A = A} free (unknown os) (unknown ps) (os ≡ ps)) where
  -- the additions that it describes are the type's
  told_own : (xs all : List (Option (Form F D A))) → adding.Tells F D A free unknown unknown_alike xs all → length all ≡ length xs → all ≡ xs
  told_own [] [] t l = refl
  told_own [] (y ∷ all) t l = absurd (omega arith)
  told_own (x ∷ xs) [] t l = absurd (omega arith)
  told_own (x ∷ xs) (y ∷ all) t l = let e = t.0 in let r = told_own xs all t.1 (omega arith) in rw (e, r) refl

  pub covers_its_own : (b : Bitmap) (xs all : List (Option (Form F D A))) → covered_by unknown b xs ≡ Some all → length all ≡ length xs → covered_by unknown b xs ≡ covered_by unknown (own xs) xs
  covers_its_own b xs all c l =
      let e = told_own xs all (adding.covered_tells F D A free unknown unknown_alike b xs all c) l in
      c ∙ ap Some e ∙ sym (covers_own unknown xs)

-- ---- the packed rules
abbrev unset : Per.BitForm → Per.BitForm
unset x = varied Per.empty_bitmap false (λ e. only_if e x)

module _ (free : Per.Freedom → Bool) (al : Bool) (ms : List Bool) (root : Per.BitForm) (xs : List (Option Per.BitForm)) where
  same_bitmapped : (all : List (Option Per.BitForm)) (b : Bitmap) → covered_by (λ os. Per.counted_octets al os) b xs ≡ Some all →
      length all ≡ length xs → Per.bitmapped al ms root xs (Some b) ≡ Per.bitmapped al ms root xs (Some (own xs))
  unfolding Per.bitmapped
  same_bitmapped all b c l =
      let q = covers_its_own Per.Freedom Per.Detail Bool free (λ os. Per.counted_octets al os) (λ os ps. counted_octets_alike free al os ps) b xs all c l in
      rw q refl

  -- a bitmap without a bit is not written
  none_written : (p : ℕ) (w : List Bool) → is_any_present xs ≡ false → written (Per.bitmapped al ms root xs (Some (own xs))) p ≡ Some w → ⊥
  unfolding Per.bitmapped written
  none_written p w n e =
      let q = ap (λ (o : Option (List (Option Per.BitForm))). written
      (given o (λ all. cond (is_any_present all) (Per.with_additions al ms root all) (unset (Per.with_additions al ms root all)))) p) (covers_own (λ os. Per.counted_octets al os) xs) in
      let m = ap (λ (t : Bool). written (cond t (Per.with_additions al ms root xs) (unset (Per.with_additions al ms root xs))) p) n in
      let z : None ≡ Some w = sym m ∙ sym q ∙ e in
      cc

  pub packed_bitmaps : (all : List (Option Per.BitForm)) (b : Bitmap) (p : ℕ) (w : List Bool) → IsTrue (free Per.other_bitmap) →
      covered_by (λ os. Per.counted_octets al os) b xs ≡ Some all → length all ≡ length xs →
      ReadsAsWritten free (Per.bitmapped al ms root xs (Some b)) p w → ReadsAsWritten free (Per.sequence_form al true ms root xs) p w
  unfolding Per.sequence_form ReadsAsWritten written
  packed_bitmaps all b p w h c l r = (Some b, inr (h, alike (is_any_present xs) refl), r)
    where
      alike : (t : Bool) → is_any_present xs ≡ t → written (Per.bitmapped al ms root xs (Some b)) p ≡ written (Per.bitmapped al ms root xs (own_bitmap xs)) p
      alike true e = ap (λ x. written x p) (same_bitmapped all b c l) ∙ ap (λ o. written (Per.bitmapped al ms root xs o) p) (sym (ap (λ (t : Bool). cond t (Some (own xs)) None) e))
      alike false e = absurd (none_written p w e (subst (λ x. written x p ≡ Some w) (same_bitmapped all b c l) (as_written free (Per.bitmapped al ms root xs (Some b)) p w r)))

-- ---- the octet rules
abbrev unset_octets : Oer.OctetForm → Oer.OctetForm
unset_octets x = varied Oer.empty_bitmap false (λ e. only_if e x)

module _ (free : Oer.Freedom → Bool) (ms : List Bool) (root : Oer.OctetForm) (xs : List (Option Oer.OctetForm)) where
  same_octets : (all : List (Option Oer.OctetForm)) (b : Bitmap) → covered_by Oer.counted b xs ≡ Some all → length all ≡ length xs →
      Oer.bitmapped ms root xs (Some b) ≡ Oer.bitmapped ms root xs (Some (own xs))
  unfolding Oer.bitmapped
  same_octets all b c l =
      let q = covers_its_own Oer.Freedom Oer.Detail ℕ free Oer.counted (λ os ps. counted_alike free os ps) b xs all c l in
      rw q refl

  no_octets : (p : ℕ) (w : List ℕ) → is_any_present xs ≡ false → written (Oer.bitmapped ms root xs (Some (own xs))) p ≡ Some w → ⊥
  unfolding Oer.bitmapped written
  no_octets p w n e =
      let q = ap (λ (o : Option (List (Option Oer.OctetForm))). written
      (given o (λ all. cond (is_any_present all) (Oer.with_additions ms root all) (unset_octets (Oer.with_additions ms root all)))) p) (covers_own Oer.counted xs) in
      let m = ap (λ (t : Bool). written (cond t (Oer.with_additions ms root xs) (unset_octets (Oer.with_additions ms root xs))) p) n in
      let z : None ≡ Some w = sym m ∙ sym q ∙ e in
      cc

  pub octet_bitmaps : (all : List (Option Oer.OctetForm)) (b : Bitmap) (p : ℕ) (w : List ℕ) → IsTrue (free Oer.other_bitmap) →
      covered_by Oer.counted b xs ≡ Some all → length all ≡ length xs → ReadsAsWritten free (Oer.bitmapped ms root xs (Some b)) p w → ReadsAsWritten free (Oer.sequence_form true ms root xs) p w
  unfolding Oer.sequence_form ReadsAsWritten written
  octet_bitmaps all b p w h c l r = (Some b, inr (h, alike (is_any_present xs) refl), r)
    where
      alike : (t : Bool) → is_any_present xs ≡ t → written (Oer.bitmapped ms root xs (Some b)) p ≡ written (Oer.bitmapped ms root xs (own_bitmap xs)) p
      alike true e = ap (λ x. written x p) (same_octets all b c l) ∙ ap (λ o. written (Oer.bitmapped ms root xs o) p) (sym (ap (λ (t : Bool). cond t (Some (own xs)) None) e))
      alike false e = absurd (no_octets p w e (subst (λ x. written x p ≡ Some w) (same_octets all b c l) (as_written free (Oer.bitmapped ms root xs (Some b)) p w r)))
