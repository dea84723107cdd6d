-- Field-lists of whole octets by themselves (X.691 11.1).
use Rattle.std.proofs.Common.{◌≡◌, ℕ, ◌+◌, ◌-◌, ◌%◌, ◌<◌, ◌≤◌, Bool, false, List, [], ◌∷◌, ◌++◌, length, take, drop}
use Rattle.std.proofs.Common.{get_or, replicate, Option, Some, None, IsSome, IfSome, ◌↔◌, Bor, refl, ap, subst, sym}
use Rattle.std.proofs.Common.{◌∙◌, append-nil, arith}
use Rattle.std.proofs.lemmas.List.{length-take-le, take-append-drop, drop_more}
use Rattle.asn1_model.specs.Form.{placed, written}
use Rattle.asn1_model.specs.Numbers.{missing, octet_bits}
use Rattle.asn1_model.specs.Per
use Rattle.asn1_values_bits.specs.Octets.{padded}
use Rattle.per_codec_packing.specs.FieldLists.{FieldList, padding, as_field_list, field_list_at, as_form}
use Rattle.per_codec_packing.specs.Packed.{padding_at}
use Rattle.per_codec_packing.specs.Spread.{spread, Ascend}
use Rattle.per_codec_packing.specs.WholeOctets.{AreWhole}
use Rattle.per_codec_packing.proofs.Adding.{both_field_list, padding_field_list}
use Rattle.per_codec_packing.proofs.Bits.{solid-bits}
use Rattle.per_codec_packing.proofs.Complete.{bits_at_start, of_some}
use Rattle.per_codec_packing.proofs.Formed.{as_field_list-append, known, length-field_list}
use Rattle.per_codec_packing.proofs.Forms.{as_form-append, form_of_bits}
use Rattle.per_codec_packing.proofs.Spread.{behind, none_left, reaches, up_to}

-- whole octets need no padding
none_missing : (n : ℕ) → n % 8 ≡ 0 → missing n ≡ 0
none_missing n e = omega (arith, e)

behind_padding : (f : ℕ) (t w : FieldList) → f % 8 ≡ 0 → field_list_at (as_form t) (Some f) ≡ Some w → field_list_at (as_form (padding ∷ t)) (Some f) ≡ Some w
behind_padding f t w e h =
    let none : padding_at (Some f) ≡ [] = ap (λ n. as_field_list (replicate n false)) (none_missing f e) in
    let stays : f + 0 ≡ f = omega arith in
    both_field_list (placed (λ p. Per.padding (missing p))) (as_form t) (Some f) [] w (padding_field_list (Some f) ∙ ap Some none) (ap (λ k. field_list_at (as_form t) (Some k)) stays ∙ h)

-- padding after whole octets adds no bit
pub whole_field_list : (from : ℕ) (bits : List Bool) (fs : List ℕ) → AreWhole fs → Ascend from fs (from + length bits) →
    field_list_at (as_form (spread from bits fs)) (Some from) ≡ Some (as_field_list bits)
whole_field_list from bits [] w a = sym (form_of_bits bits (Some from))
whole_field_list from bits (f ∷ fs) w a =
    let n = f - from in
    let front = as_field_list (take n bits) in
    let rest = spread f (drop n bits) fs in
    let size : from + length front ≡ f = omega (arith, length-field_list (take n bits), length-take-le n bits (reaches from f bits fs a), a.0) in
    let after = behind_padding f rest (as_field_list (drop n bits)) w.0 (whole_field_list f (drop n bits) fs w.1 (behind from f bits fs a)) in
    as_form-append front (padding ∷ rest) (Some from)
    ∙ both_field_list (as_form front) (as_form (padding ∷ rest)) (Some from) front (as_field_list (drop n bits))
    (sym (form_of_bits (take n bits) (Some from))) (ap (λ k. field_list_at (as_form (padding ∷ rest)) (Some k)) size ∙ after)
    ∙ ap Some (as_field_list-append (take n bits) (drop n bits) ∙ ap as_field_list (take-append-drop n bits))

pub whole_complete : (bits : List Bool) (fs os : List ℕ) → AreWhole fs → Ascend 0 fs (length bits) → (bits ≡ [] → ⊥) → length bits % 8 ≡ 0 →
    octet_bits os ≡ bits → written (Per.complete (as_form (spread 0 bits fs))) 0 ≡ Some (octet_bits os)
whole_complete bits fs os w a n e b =
    let t = spread 0 bits fs in
    let ascend : Ascend 0 fs (0 + length bits) = up_to 0 (length bits) (0 + length bits) fs (omega arith) a in
    let is : written (as_form t) 0 ≡ Some bits = bits_at_start (written (as_form t) 0) (as_field_list bits)
    (sym (known (as_form t) 0) ∙ whole_field_list 0 bits fs w ascend) ∙ ap Some (solid-bits bits) in
    let whole : padded bits ≡ bits = ap (λ k. bits ++ replicate k false) (none_missing (length bits) e) ∙ append-nil bits in
    of_some (as_form t) bits os is n (b ∙ sym whole)

-- also if they begin at an octet boundary
pub where_aligned : (bits : List Bool) (fs : List ℕ) (offset : ℕ) (r : Option (Bor (List ℕ))) → AreWhole fs → Ascend 0 fs (length bits) →
    (bits ≡ [] → ⊥) → IsSome r ↔ ((offset ≡ 0) × (length bits % 8 ≡ 0)) → IfSome r (λ octets. octet_bits octets.now ≡ bits) →
    IfSome r (λ octets. written (Per.complete (as_form (spread 0 bits fs))) 0 ≡ Some (octet_bits octets.now))
where_aligned bits fs offset None w a n e b = tt
where_aligned bits fs offset (Some octets) w a n e b = whole_complete bits fs octets.now w a n (e.0 refl).1 b

-- ---- one padding after another

module _ (paddings : List ℕ) (i : ℕ) where
  pub one_whole : i < length paddings → get_or paddings i 0 % 8 ≡ 0 → AreWhole (drop (i + 1) paddings) → AreWhole (drop i paddings)
  one_whole h e w = subst (λ l. AreWhole l) (sym (drop_more paddings i 0 h)) (e, w)

  pub all_whole : length paddings ≤ i → AreWhole (drop i paddings)
  all_whole h = subst (λ l. AreWhole l) (sym (none_left i paddings h)) tt
