-- What is stored shows the field-list.
use Rattle.std.proofs.Common.{◌≡◌, ℕ, ◌+◌, ◌-◌, ◌%◌, ◌≤◌, Bool, true, false, cond, List, [], ◌∷◌, ◌++◌, length, take}
use Rattle.std.proofs.Common.{replicate, set, get_or, Some, None, refl, ap, sym, subst, ◌∙◌, append-nil, length-append}
use Rattle.std.proofs.Common.{length-set, arith}
use Rattle.asn1_model.specs.Numbers.{binary, missing, octet_bits}
use Rattle.per_codec_packing.specs.FieldLists.{FieldList, padding, as_field_list, plain}
use Rattle.per_codec_packing.proofs.Formed.{plain_field_list, length-field_list}
use Rattle.per_codec_packing.specs.Packed.{Packed, place, plus, padding_at, solid, with_bit}
use Rattle.per_codec_packing.specs.Spread.{spread, shown, Ascend, ArePaddings}
use Rattle.per_codec_packing.proofs.Spread.{up_to, one_place, all_taken, spread-bits, spread-padding, spread-set, solid-spread}

pub one_octet : (os : List ℕ) (d : ℕ) → length os ≡ 1 → binary 8 (get_or os 0 d) ≡ octet_bits os
one_octet [] d h = absurd (omega arith)
one_octet (o ∷ []) d h = sym (append-nil (binary 8 o))
one_octet (o ∷ p ∷ os) d h = absurd (omega arith)

-- bits after others are all added as one number with as many digits
pub as_number : (bits w new : List Bool) (count n : ℕ) → length w ≤ count → binary count n ≡ take count w → new ≡ bits ++ binary count n → new ≡ bits ++ w
as_number bits w new count n h e f = f ∙ ap (λ l. bits ++ l) (e ∙ all_taken count w h)

module _ (bits : List Bool) (paddings : List ℕ) (placed : Bool) (h : ArePaddings bits paddings placed) where
  in_order : Ascend 0 paddings (0 + length bits)
  in_order = up_to 0 (length bits) (0 + length bits) paddings (omega arith) h.ascend

  pub with_bits : (w new : List Bool) → new ≡ bits ++ w → ArePaddings new paddings placed
  with_bits w new e = record {
    ascend = let n = length-append bits w in up_to 0 (length bits) (length new) paddings (omega (arith, ap length e)) h.ascend;
    known = h.known;
  }

  pub with_padding : (new : List ℕ) → placed ≡ false → new ≡ paddings ++ length bits ∷ [] → ArePaddings bits new placed
  with_padding new p e = record {
    ascend = subst (λ l. Ascend 0 l (length bits)) (sym e) (one_place 0 (length bits) paddings h.ascend);
    known = λ q. absurd (cc);
  }

  pub with_set : (i : ℕ) (b : Bool) (new : List Bool) → new ≡ set bits i b → ArePaddings new paddings placed
  with_set i b new e = record {
    ascend = let n = length-set bits i b in up_to 0 (length bits) (length new) paddings (omega (arith, ap length e)) h.ascend;
    known = h.known;
  }

  module _ (v : Packed) (is : shown bits paddings placed ≡ v) where
    pub bits_alone : solid v.field_list ≡ bits
    bits_alone = ap (λ (p : Packed). solid p.field_list) (sym is) ∙ solid-spread 0 bits paddings

    pub is_placed : v.placed ≡ placed
    is_placed = ap (λ (p : Packed). p.placed) (sym is)

    -- there is no field-list exactly if there are neither bits nor padding
    pub nothing_there : bits ≡ [] → paddings ≡ [] → v.field_list ≡ []
    nothing_there e f = ap (λ (p : Packed). p.field_list) (sym is) ∙ ap (λ l. spread 0 l paddings) e ∙ ap (λ l. spread 0 [] l) f

    pub no_bits : v.field_list ≡ [] → bits ≡ []
    no_bits e = sym bits_alone ∙ ap solid e

    pub no_paddings : v.field_list ≡ [] → paddings ≡ []
    no_paddings e = without paddings (ap (λ (p : Packed). p.field_list) is ∙ e)
      where
        behind_padding : (s t : FieldList) → s ++ padding ∷ t ≡ [] → ⊥
        behind_padding [] t e = cc
        behind_padding (a ∷ s) t e = cc

        without : (fs : List ℕ) → spread 0 bits fs ≡ [] → fs ≡ []
        without [] e = refl
        without (f ∷ fs) e = absurd (behind_padding _ _ e)

    -- at a known position there are only bits
    pub field_list_is : placed ≡ true → v.field_list ≡ as_field_list bits
    field_list_is e = ap (λ (p : Packed). p.field_list) (sym is) ∙ ap (λ l. spread 0 bits l) (h.known e)

    pub plain_is : v.placed ≡ true → plain v.field_list ≡ Some bits
    plain_is e = ap (λ t. plain t) (field_list_is (sym is_placed ∙ e)) ∙ plain_field_list bits

    pub place_is : placed ≡ true → place v ≡ Some (length bits)
    place_is e = ap (λ b. cond b (Some (length v.field_list)) None) (is_placed ∙ e) ∙ ap (λ t. Some (length t)) (field_list_is e) ∙ ap Some (length-field_list bits)

    place_open : placed ≡ false → place v ≡ None
    place_open e = ap (λ b. cond b (Some (length v.field_list)) None) (is_placed ∙ e)

    pub bits_added : (w new : List Bool) → new ≡ bits ++ w → shown new paddings placed ≡ plus v (as_field_list w)
    bits_added w new e =
        ap (λ b. shown b paddings placed) e
        ∙ ap (λ t. let p : Packed = record { field_list = t; placed = placed } in p) (spread-bits 0 bits w paddings in_order)
        ∙ ap (λ p. plus p (as_field_list w)) is

    pub grown : (len : ℕ) (b : Bool) (new : List Bool) → length (solid v.field_list) ≤ len → new ≡ take len bits ++ replicate (len - length bits) b →
        new ≡ bits ++ replicate (len - length (solid v.field_list)) b
    grown len b new l e =
        let within : length bits ≤ len = subst (λ k. length k ≤ len) bits_alone l in
        e ∙ ap (λ k. k ++ replicate (len - length bits) b) (all_taken len bits within) ∙ ap (λ k. bits ++ replicate (len - length k) b) (sym bits_alone)

    pub padding_added : (new : List Bool) → placed ≡ true → new ≡ bits ++ replicate (missing (length bits)) false → shown new paddings placed ≡ plus v (padding_at (place v))
    padding_added new p e = bits_added (replicate (missing (length bits)) false) new e ∙ ap (λ q. plus v (padding_at q)) (sym (place_is p))

    -- after whole octets there is no padding
    pub at_octet : placed ≡ true → length bits % 8 ≡ 0 → v ≡ plus v (padding_at (place v))
    at_octet p e =
        sym (ap (λ t. let q : Packed = record { field_list = t; placed = v.placed } in q) (append-nil v.field_list))
        ∙ ap (λ r. plus v (as_field_list (replicate ((8 - r) % 8) false))) (sym e)
        ∙ ap (λ q. plus v (padding_at q)) (sym (place_is p))

    pub left_open : (new : List ℕ) → placed ≡ false → new ≡ paddings ++ length bits ∷ [] → shown bits new placed ≡ plus v (padding_at (place v))
    left_open new p e =
        ap (λ l. shown bits l placed) e
        ∙ ap (λ t. let q : Packed = record { field_list = t; placed = placed } in q) (spread-padding 0 (length bits) bits paddings (omega arith) h.ascend)
        ∙ ap (λ p. plus p (padding ∷ [])) is
        ∙ ap (λ q. plus v (padding_at q)) (sym (place_open p))

    pub changed : (i : ℕ) (b : Bool) (new : List Bool) → new ≡ set bits i b → shown new paddings placed ≡ record { field_list = with_bit i b v.field_list; placed = v.placed }
    changed i b new e =
        ap (λ l. shown l paddings placed) e
        ∙ ap (λ t. let p : Packed = record { field_list = t; placed = placed } in p) (spread-set 0 bits paddings i b in_order)
        ∙ ap (λ (p : Packed). let q : Packed = record { field_list = with_bit i b p.field_list; placed = p.placed } in q) is
