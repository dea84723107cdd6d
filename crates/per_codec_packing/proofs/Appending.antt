-- A field-list is added piece by piece.
use Rattle.std.proofs.Common.{◌≡◌, ℕ, ◌+◌, ◌-◌, ◌<◌, ◌≤◌, Bool, List, ◌∷◌, length, take, drop, get_or, ap, subst, sym, ◌∙◌, arith}
use Rattle.std.proofs.lemmas.List.{drop-drop, drop-take, drop_more}
use Rattle.per_codec_packing.specs.FieldLists.{padding, as_field_list, field_list_at, as_form}
use Rattle.per_codec_packing.specs.Packed.{Packed, Adds, place, plus, padding_at}
use Rattle.per_codec_packing.specs.Spread.{spread, Ascend}
use Rattle.per_codec_packing.proofs.Adding.{adds_form_bits, adds_forms, adds_form_padding}
use Rattle.per_codec_packing.proofs.Spread.{goes_up, none_left}

-- the field-list of the bits from one on follows what was there
abbrev pub Comes : List Bool → List ℕ → ℕ → Packed → Packed → Type 0
Comes bits paddings from old new = Adds (field_list_at (as_form (spread from (drop from bits) paddings)) (place old)) old new

-- what is left to do after some positions
pub record IsAdded (bits : List Bool) (paddings : List ℕ) (from done : ℕ) (old now : Packed) : Type 0 where
  pub ascend : Ascend from (drop done paddings) (length bits)
  pub rest : (new : Packed) → Comes bits (drop done paddings) from now new → Comes bits paddings 0 old new

module _ (bits : List Bool) (from f : ℕ) (fs : List ℕ) (a : Ascend from (f ∷ fs) (length bits)) where
  pub next_within : f ≤ length bits
  next_within = goes_up f (length bits) fs a.1

  -- the bits up to the next position, padding there, and what follows
  piece : (w : List Bool) (old mid padded new : Packed) → w ≡ drop from (take f bits) → mid ≡ plus old (as_field_list w) →
      padded ≡ plus mid (padding_at (place mid)) → Comes bits fs f padded new → Comes bits (f ∷ fs) from old new
  piece w old mid padded new e g h k =
      let reach : f ≡ from + (f - from) = omega (arith, a.0) in
      let part : w ≡ take (f - from) (drop from bits) = e ∙ ap (λ n. drop from (take n bits)) reach ∙ drop-take from (f - from) bits in
      let left : drop (f - from) (drop from bits) ≡ drop f bits = drop-drop (f - from) from bits ∙ ap (λ n. drop n bits) (sym reach) in
      adds_forms (as_field_list (take (f - from) (drop from bits))) (padding ∷ spread f (drop (f - from) (drop from bits)) fs) old mid new
      (adds_form_bits (take (f - from) (drop from bits)) old mid (g ∙ ap (λ l. plus old (as_field_list l)) part))
      (adds_form_padding (spread f (drop (f - from) (drop from bits)) fs) mid padded new h (subst (λ l. Adds (field_list_at (as_form (spread f l fs)) (place padded)) padded new) (sym left) k))

module _ (bits : List Bool) (paddings : List ℕ) (from done : ℕ) (old now : Packed) (i : IsAdded bits paddings from done old now) where
  module _ (f : ℕ) (h : done < length paddings) (e : f ≡ get_or paddings done 0) where
    split : drop done paddings ≡ f ∷ drop (done + 1) paddings
    split = drop_more paddings done 0 h ∙ ap (λ g. g ∷ drop (done + 1) paddings) (sym e)

    ascending : Ascend from (f ∷ drop (done + 1) paddings) (length bits)
    ascending = subst (λ l. Ascend from l (length bits)) split i.ascend

    pub not_before : from ≤ f
    not_before = ascending.0

    pub not_past : f ≤ length bits
    not_past = next_within bits from f (drop (done + 1) paddings) ascending

    pub one_piece : (w : List Bool) (mid padded : Packed) → w ≡ drop from (take f bits) → mid ≡ plus now (as_field_list w) →
        padded ≡ plus mid (padding_at (place mid)) → IsAdded bits paddings f (done + 1) old padded
    one_piece w mid padded d g k = record {
      ascend = ascending.1;
      rest = λ new c. i.rest new (subst (λ l. Comes bits l from now new) (sym split) (piece bits from f (drop (done + 1) paddings) ascending w now mid padded new d g k c));
    }

  pub last_within : from ≤ length bits
  last_within = goes_up from (length bits) (drop done paddings) i.ascend

  pub last_piece : (w : List Bool) (new : Packed) → length paddings ≤ done → w ≡ drop from bits → new ≡ plus now (as_field_list w) → Comes bits paddings 0 old new
  last_piece w new h d g = i.rest new (subst (λ l. Comes bits l from now new) (sym (none_left done paddings h)) (adds_form_bits (drop from bits) now new (g ∙ ap (λ l. plus now (as_field_list l)) d)))
