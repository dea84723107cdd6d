-- The field-lists of additions.
use Rattle.std.proofs.Common.{◌≡◌, ℕ, ◌+◌, ◌-◌, ◌*◌, ◌^◌, ◌<◌, ◌≤◌, leb, Bool, true, false, not, ◌&&◌, List, [], ◌∷◌}
use Rattle.std.proofs.Common.{◌++◌, length, map, take, slice_range, Option, Some, None, refl, ap, subst, sym, ◌∙◌}
use Rattle.std.proofs.Common.{arith}
use Rattle.std.proofs.lemmas.Bool.{le-leb, leb-true}
use Rattle.std.proofs.lemmas.List.{append-nil, take_all, map-append}
use Rattle.asn1_model.specs.Form.{exactly, joined, present_ones}
use Rattle.std.specs.Prelude.{is_some}
use Rattle.asn1_model.specs.Numbers.{binary}
use Rattle.asn1_model.specs.Per
use Rattle.asn1_values_bits.proofs.Binary.{binary_join}
use Rattle.per_codec_packing.specs.FieldLists.{as_field_list, field_list_at}
use Rattle.per_codec_packing.proofs.Adding.{plus_both}
use Rattle.per_codec_packing.proofs.Formed.{as_field_list-append}
use Rattle.per_codec_writing.specs.Writing.{Packed, Adds, place, plus}
use Rattle.per_codec_writing.proofs.PaddingFieldLists.{adds_field_list, adds_same, adds_both, if_true, cond_true, cond_false, plus_nothing}
use Rattle.per_codec_writing.proofs.UnitFieldLists.{bits_added, range-map}
use Rattle.per_codec_additions.specs.Additions.{as_open_types}
use Rattle.per_codec_additions.specs.Slots.{is_there}
use Rattle.per_codec_additions.specs.declared.slots.Slot.{Slot}

-- ---- after a normally small length

few : (n : ℕ) → 1 ≤ n → n ≤ 64 → Per.is_from_1_to_64 n ≡ true
few n a b = ap (λ t. t && leb n 64) (le-leb 1 n a) ∙ le-leb n 64 b

six_bits : (n : ℕ) → n < 64 → binary 7 n ≡ false ∷ binary 6 n
six_bits n h = let e : 0 * 2 ^ 6 + n ≡ n = omega arith in sym (binary_join 1 6 0 n h ∙ ap (λ k. binary 7 k) e)

pub adds_few : (al : Bool) (us : List Per.BitForm) (n : ℕ) (old mid new : Packed) → n ≡ length us → 1 ≤ n → n ≤ 64 →
    mid ≡ plus old (as_field_list (binary 7 (n - 1))) → Adds (field_list_at (joined (slice_range us 0 n)) (place mid)) mid new → Adds (field_list_at (Per.normally_few al us) (place old)) old new
unfolding Per.normally_few field_list_at
adds_few al us n old mid new e a b x y =
    let t : Per.is_from_1_to_64 (length us) ≡ true = ap Per.is_from_1_to_64 (sym e) ∙ few n a b in
    let six : binary 7 (n - 1) ≡ false ∷ binary 6 (length us - 1) = six_bits (n - 1) (omega (arith, a, b)) ∙ ap (λ k. false ∷ binary 6 (k - 1)) e in
    let same : n - 0 ≡ n = omega arith in
    let all : slice_range us 0 n ≡ us = ap (λ k. take k us) same ∙ take_all n us (omega (arith, e)) in
    adds_same _ _ old new
    (cond_false (not (Per.is_from_1_to_64 (length us))) _ _ (place old) (ap not t) ∙ if_true (Per.is_from_1_to_64 (length us)) _ (place old) t)
    (adds_both (exactly (false ∷ binary 6 (length us - 1))) (joined us) old mid new
    (adds_field_list _ (as_field_list (false ∷ binary 6 (length us - 1))) old mid refl (x ∙ ap (λ l. plus old (as_field_list l)) six))
    (subst (λ l. Adds (field_list_at (joined l) (place mid)) mid new) all y))

many : (n : ℕ) → (1 ≤ n → 64 < n) → Per.is_from_1_to_64 n ≡ false
many n h = go (leb 1 n) (leb n 64) refl refl
  where
    go : (a b : Bool) → leb 1 n ≡ a → leb n 64 ≡ b → (a && b) ≡ false
    go false b x y = refl
    go true false x y = refl
    go true true x y = absurd (omega (arith, h, leb-true 1 n x, leb-true n 64 y))

pub adds_many : (al : Bool) (us : List Per.BitForm) (n : ℕ) (old mid new : Packed) → n ≡ length us → (1 ≤ n → 64 < n) →
    mid ≡ plus old (as_field_list (true ∷ [])) → Adds (field_list_at (Per.counted al us) (place mid)) mid new → Adds (field_list_at (Per.normally_few al us) (place old)) old new
unfolding Per.normally_few field_list_at
adds_many al us n old mid new e h x y =
    let t : Per.is_from_1_to_64 (length us) ≡ false = ap Per.is_from_1_to_64 (sym e) ∙ many n h in
    adds_same _ _ old new
    (cond_true (not (Per.is_from_1_to_64 (length us))) _ _ (place old) (ap not t))
    (adds_both (exactly (true ∷ [])) (Per.counted al us) old mid new (adds_field_list _ (as_field_list (true ∷ [])) old mid refl x) y)

-- ---- additions

flags_of : (al : Bool) (slots : List (Option (List Bool))) → map Per.flag (as_open_types al slots) ≡ Per.bit_units (map is_some slots)
flags_of al [] = refl
flags_of al (None ∷ slots) = ap (λ us. exactly (false ∷ []) ∷ us) (flags_of al slots)
flags_of al (Some w ∷ slots) = ap (λ us. exactly (true ∷ []) ∷ us) (flags_of al slots)

-- the bits of those that are present, in sequence
abbrev pub Present : Bool → List (Option (List Bool)) → Packed → Packed → Type 0
Present al slots old new = Adds (field_list_at (joined (present_ones (as_open_types al slots))) (place old)) old new

pub present_none : (al : Bool) (old : Packed) → Present al [] old old
unfolding field_list_at
present_none al old = adds_field_list _ [] old old refl (ap (λ t. let q : Packed = record { field_list = t; placed = old.placed } in q) (sym (append-nil old.field_list)))

pub present_on : (al : Bool) (o : Option (List Bool)) (slots : List (Option (List Bool))) (w : List Bool) (old mid new : Packed) → o ≡ Some w →
    Adds (field_list_at (Per.open_type al (exactly w)) (place old)) old mid → Present al slots mid new → Present al (o ∷ slots) old new
present_on al None slots w old mid new e a b = cc
present_on al (Some v) slots w old mid new e a b =
    let same : w ≡ v = cc e in
    adds_both (Per.open_type al (exactly v)) (joined (present_ones (as_open_types al slots))) old mid new
    (subst (λ l. Adds (field_list_at (Per.open_type al (exactly l)) (place old)) old mid) same a) b

pub present_past : (al : Bool) (o : Option (List Bool)) (slots : List (Option (List Bool))) (old new : Packed) → o ≡ None → Present al slots old new → Present al (o ∷ slots) old new
present_past al None slots old new e b = b
present_past al (Some v) slots old new e b = cc

pub adds_additions : (al : Bool) (slots : List (Option (List Bool))) (bitmap : List Bool) (old mid new : Packed) → bitmap ≡ map is_some slots →
    Adds (field_list_at (Per.normally_few al (Per.bit_units bitmap)) (place old)) old mid → Present al slots mid new →
    Adds (field_list_at (Per.additions al (as_open_types al slots)) (place old)) old new
unfolding Per.additions
adds_additions al slots bitmap old mid new e a b =
    adds_both (Per.normally_few al (map Per.flag (as_open_types al slots))) (joined (present_ones (as_open_types al slots))) old mid new
    (adds_same _ _ old mid (ap (λ us. field_list_at (Per.normally_few al us) (place old)) (flags_of al slots) ∙
    ap (λ l. field_list_at (Per.normally_few al (Per.bit_units l)) (place old)) (sym e)) a) b

-- ---- presence bits

pub presence_added : (slots : List Slot) (i j : ℕ) (old new : Packed) → new ≡ plus old (as_field_list (map is_there (slice_range slots i j))) →
    Adds (field_list_at (joined (slice_range (Per.bit_units (map is_there slots)) i j)) (place old)) old new
presence_added slots i j old new e = bits_added (map is_there slots) i j old new (e ∙ ap (λ l. plus old (as_field_list l)) (sym (range-map is_there slots i j)))

pub presence_moved : (rest front behind : List Slot) (bs : List Bool) (mid new all : Packed) → front ++ behind ≡ rest →
    plus mid (as_field_list (map is_there rest)) ≡ all → bs ≡ map is_there front → new ≡ plus mid (as_field_list bs) → plus new (as_field_list (map is_there behind)) ≡ all
presence_moved rest front behind bs mid new all j h e n =
    let left : List Bool = map is_there behind in
    let both : bs ++ left ≡ map is_there rest = ap (λ l. l ++ left) e ∙ sym (map-append is_there front behind) ∙ ap (map is_there) j in
    ap (λ p. plus p (as_field_list left)) n ∙ plus_both mid (as_field_list bs) (as_field_list left) ∙ ap (plus mid) (as_field_list-append bs left ∙ ap as_field_list both) ∙ h

pub no_presence : (rest : List Slot) (new all : Packed) → length rest ≤ 0 → plus new (as_field_list (map is_there rest)) ≡ all → new ≡ all
no_presence [] new all h e = sym (plus_nothing new) ∙ e
no_presence (o ∷ os) new all h e = absurd (omega arith)
