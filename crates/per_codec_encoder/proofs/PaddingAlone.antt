-- In the forms of PER only padding depends on the position, so a field-list at an unknown position determines the
-- field-list at each.
use Rattle.std.proofs.Common.{◌≡◌, ℕ, ℤ, zero, suc, ◌-◌, ◌==◌, leb, ltb, Bool, true, false, cond, not, ◌&&◌, ◌||◌, List}
use Rattle.std.proofs.Common.{[], ◌∷◌, ◌++◌, length, map, flat_map, take, drop, Option, Some, None, option_map}
use Rattle.std.proofs.Common.{option_and_then, refl, ap, sym, ◌∙◌}
use Rattle.std.proofs.lemmas.List.{append-nil}
use Rattle.asn1_model.specs.Value.{Value, truth, nothing, number, item, bit_list, octet_list, text, arcs, members, bag, fields, chosen, Values, no_more, member, each, Parts, end, absent, present}
use Rattle.asn1_model.specs.Schema.{Range, Bounds, Counts, Size, StringKind, Alphabet, Presence, Schema, boolean, null}
use Rattle.asn1_model.specs.Schema.{integer, enumerated, bit_string, octet_string, character_string, object_identifier}
use Rattle.asn1_model.specs.Schema.{sequence_of, set_of, sequence, set, group, choice, Components, no_component}
use Rattle.asn1_model.specs.Schema.{component, Alternatives, no_alternative, alternative}
use Rattle.asn1_model.specs.Normal.{is_at_default, is_group_left_out}
use Rattle.asn1_model.specs.Normal.{is_required, presence_bits}
use Rattle.asn1_model.specs.Strings.{Run, permitted, may_hold, is_of_octets, is_octet}
use Rattle.std.specs.List.{list_all}
use Rattle.asn1_model.specs.Numbers.{digits, binary, width, octet_width, least_octets, above, is_count_within}
use Rattle.asn1_model.specs.Form.{exactly, refused, both, placed, varied, within, only_if, given, joined, is_any_present, present_ones, put_in_place, with_keys, ascending, written}
use Rattle.asn1_model.specs.Per
use Rattle.per_codec_packing.specs.FieldLists.{FieldList, plain, on, field_list_at, as_form}
use Rattle.per_codec_packing.proofs.Formed.{chain_same, none_behind, in_turn, bits_of}
use Rattle.per_codec_packing.proofs.Forms.{as_form-append, form_of_bits}
use Rattle.per_codec_encoder.proofs.StepAdditions.{by_presence, own}

-- a form whose field-list at an unknown position determines it at each
pub record PaddingAlone (x : Per.BitForm) : Type 0 where
  pub at : (q : Option ℕ) → field_list_at x q ≡ option_and_then (λ t. field_list_at (as_form t) q) (field_list_at x None)

padding_exactly : (l : List Bool) → PaddingAlone (exactly l)
unfolding field_list_at
padding_exactly l = record { at = λ q. form_of_bits l q }

padding_refused : PaddingAlone refused
unfolding field_list_at
padding_refused = record { at = λ q. refl }

padding_both : {x y : Per.BitForm} → PaddingAlone x → PaddingAlone y → PaddingAlone (both x y)
unfolding field_list_at
padding_both {x} {y} h k = record {
  at = λ q. ap (option_and_then (λ a. option_map (λ b. a ++ b) (field_list_at y (on q a)))) (h.at q) ∙
      first q (field_list_at x None) (field_list_at y None) (λ p. k.at p);
}
  where
    first : (q : Option ℕ) (o u : Option FieldList) → ((p : Option ℕ) → field_list_at y p ≡ option_and_then (λ t. field_list_at (as_form t) p) u) →
        option_and_then (λ a. option_map (λ b. a ++ b) (field_list_at y (on q a))) (option_and_then (λ t. field_list_at (as_form t) q) o)
        ≡ option_and_then (λ t. field_list_at (as_form t) q) (option_and_then (λ a. option_map (λ b. a ++ b) u) o)
    first q None u h = refl
    first q (Some a) None h = chain_same (field_list_at (as_form a) q) (λ c. option_map (λ b. c ++ b) (field_list_at y (on q c))) (λ c. None)
        (λ c. ap (option_map (λ b. c ++ b)) (h (on q c))) ∙ none_behind (field_list_at (as_form a) q)
    first q (Some a) (Some b) h = chain_same (field_list_at (as_form a) q) (λ c. option_map (λ b. c ++ b) (field_list_at y (on q c)))
        (λ c. option_map (λ d. c ++ d) (field_list_at (as_form b) (on q c))) (λ c. ap (option_map (λ b. c ++ b)) (h (on q c))) ∙ sym (as_form-append a b q)

padding_itself : PaddingAlone (placed (λ p. Per.padding (Per.missing p)))
unfolding field_list_at
padding_itself = record { at = go }
  where
    put : (o : Option FieldList) → o ≡ option_and_then (λ a. option_map (λ b. a ++ b) (Some [])) o
    put None = refl
    put (Some w) = ap Some (sym (append-nil w))

    go : (q : Option ℕ) → field_list_at (placed (λ p. Per.padding (Per.missing p))) q ≡ option_and_then (λ t. field_list_at (as_form t) q)
        (field_list_at (placed (λ p. Per.padding (Per.missing p))) None)
    go None = refl
    go (Some p) = put (field_list_at (Per.padding (Per.missing p)) (Some p))

padding_varied : {c : Per.Freedom} {d : Per.Detail c} {f : Per.Detail c → Per.BitForm} → PaddingAlone (f d) → PaddingAlone (varied c d f)
unfolding field_list_at
padding_varied h = record { at = λ q. h.at q }

padding_within : {x : Per.BitForm} {f : List Bool → Per.BitForm} → ((w : List Bool) → PaddingAlone (f w)) → PaddingAlone (within x f)
unfolding field_list_at
padding_within {x} {f} h = record { at = λ q. go q (written x 0) }
  where
    go : (q : Option ℕ) (o : Option (List Bool)) → option_and_then (λ w. field_list_at (f w) q) o
        ≡ option_and_then (λ t. field_list_at (as_form t) q) (option_and_then (λ w. field_list_at (f w) None) o)
    go q None = refl
    go q (Some w) = (h w).at q

padding_by : {x y : Per.BitForm} → ((q : Option ℕ) → field_list_at x q ≡ field_list_at y q) → PaddingAlone y → PaddingAlone x
padding_by e h = record { at = λ q. e q ∙ h.at q ∙ ap (option_and_then (λ t. field_list_at (as_form t) q)) (sym (e None)) }

padding_cond : (b : Bool) {x y : Per.BitForm} → PaddingAlone x → PaddingAlone y → PaddingAlone (cond b x y)
padding_cond true h k = h
padding_cond false h k = k

padding_if : (b : Bool) {x : Per.BitForm} → PaddingAlone x → PaddingAlone (only_if b x)
padding_if true h = h
padding_if false {x} h = padding_refused

padding_given : {X : Type 0} (o : Option X) {f : X → Per.BitForm} → ((x : X) → PaddingAlone (f x)) → PaddingAlone (given o f)
padding_given None {f} h = padding_refused
padding_given (Some x) h = h x

-- ---- units

abbrev pub AllPaddingAlone : List Per.BitForm → Type 0
AllPaddingAlone [] = Unit {0}
AllPaddingAlone (x ∷ xs) = PaddingAlone x × AllPaddingAlone xs

joined_padding : (xs : List Per.BitForm) → AllPaddingAlone xs → PaddingAlone (joined xs)
joined_padding [] h = padding_exactly []
joined_padding (x ∷ xs) h = padding_both h.0 (joined_padding xs h.1)

take_padding : (n : ℕ) (xs : List Per.BitForm) → AllPaddingAlone xs → AllPaddingAlone (take n xs)
take_padding zero xs h = tt
take_padding (suc n) [] h = tt
take_padding (suc n) (x ∷ xs) h = (h.0, take_padding n xs h.1)

drop_padding : (n : ℕ) (xs : List Per.BitForm) → AllPaddingAlone xs → AllPaddingAlone (drop n xs)
drop_padding zero xs h = h
drop_padding (suc n) [] h = tt
drop_padding (suc n) (x ∷ xs) h = drop_padding n xs h.1

map_padding : {X : Type 0} (f : X → Per.BitForm) → ((x : X) → PaddingAlone (f x)) → (xs : List X) → AllPaddingAlone (map f xs)
map_padding f h [] = tt
map_padding f h (x ∷ xs) = (h x, map_padding f h xs)

pub each_padding : (f : Value → Per.BitForm) → ((v : Value) → PaddingAlone (f v)) → (vs : Values) → AllPaddingAlone (each f vs)
each_padding f h no_more = tt
each_padding f h (member v vs) = (h v, each_padding f h vs)

-- ---- numbers and length determinants

at_octet_padding : (al : Bool) {x : Per.BitForm} → PaddingAlone x → PaddingAlone (Per.at_octet al x)
unfolding Per.at_octet
at_octet_padding true h = padding_both padding_itself h
at_octet_padding false h = h

in_octets_padding : (whole : ℕ → ℕ → Per.BitForm) → ((s c : ℕ) → PaddingAlone (whole s c)) → (al : Bool) (span d k : ℕ) → PaddingAlone (Per.in_octets_of whole al span d k)
unfolding Per.in_octets_of
in_octets_padding whole h al span d k = padding_if (leb (least_octets d) k && leb k (octet_width span))
    (padding_both (h (octet_width span - 1) (k - 1)) (at_octet_padding al (padding_exactly (flat_map (binary 8) (digits 256 k d)))))

constrained_in_padding : (most : ℕ) (al : Bool) (span d : ℕ) → PaddingAlone (Per.constrained_in most al span d)
unfolding Per.constrained_in
constrained_in_padding zero al span d = padding_refused
constrained_in_padding (suc most) al span d =
    padding_if (leb d span)
    (padding_cond (not al || ltb span 255) (padding_exactly (binary (width span) d))
    (padding_cond (span == 255) (at_octet_padding al (padding_exactly (binary 8 d)))
    (padding_cond (ltb span 65536) (at_octet_padding al (padding_exactly (binary 16 d)))
    (padding_varied (in_octets_padding (λ s c. Per.constrained_in most al s c) (λ s c. constrained_in_padding most al s c) al span d (least_octets d))))))

constrained_padding : (al : Bool) (span d : ℕ) → PaddingAlone (Per.constrained al span d)
unfolding Per.constrained
constrained_padding al span d = constrained_in_padding (suc span) al span d

short_length_padding : (al : Bool) (n : ℕ) → PaddingAlone (Per.short_length al n)
unfolding Per.short_length
short_length_padding al n = at_octet_padding al (padding_varied (padding_cond _ (padding_if _ (padding_exactly _)) (padding_if _ (padding_exactly _))))

fragments_padding : (al : Bool) (ms : List ℕ) (us : List Per.BitForm) → AllPaddingAlone us → PaddingAlone (Per.fragments al ms us)
unfolding Per.fragments
fragments_padding al [] us h = padding_both (short_length_padding al _) (joined_padding us h)
fragments_padding al (m ∷ ms) us h =
    padding_if _ (padding_both (at_octet_padding al (padding_exactly _)) (padding_both (joined_padding _ (take_padding _ us h)) (fragments_padding al ms _ (drop_padding _ us h))))

counted_padding : (al : Bool) (us : List Per.BitForm) → AllPaddingAlone us → PaddingAlone (Per.counted al us)
unfolding Per.counted
counted_padding al us h = padding_varied (fragments_padding al _ us h)

counted_octets_padding : (al : Bool) (os : List ℕ) → PaddingAlone (Per.counted_octets al os)
unfolding Per.counted_octets
counted_octets_padding al os = padding_if (list_all is_octet os) (counted_padding al (Per.octet_units os) (map_padding (λ o. exactly (binary 8 o)) (λ o. padding_exactly (binary 8 o)) os))

semi_constrained_padding : (al : Bool) (d : ℕ) → PaddingAlone (Per.semi_constrained al d)
unfolding Per.semi_constrained
semi_constrained_padding al d = padding_varied (padding_if _ (counted_octets_padding al _))

unconstrained_padding : (al : Bool) (v : ℤ) → PaddingAlone (Per.unconstrained al v)
unfolding Per.unconstrained
unconstrained_padding al v = padding_varied (padding_if _ (counted_octets_padding al _))

normally_small_padding : (al : Bool) (n : ℕ) → PaddingAlone (Per.normally_small al n)
unfolding Per.normally_small
normally_small_padding al n = padding_varied (padding_cond _ (padding_both (padding_exactly _) (semi_constrained_padding al n)) (padding_if _ (padding_exactly _)))

normally_few_padding : (al : Bool) (us : List Per.BitForm) → AllPaddingAlone us → PaddingAlone (Per.normally_few al us)
unfolding Per.normally_few
normally_few_padding al us h =
    padding_varied
    (padding_cond (not (Per.is_from_1_to_64 (length us))) (padding_both (padding_exactly (true ∷ [])) (counted_padding al us h))
    (padding_if (Per.is_from_1_to_64 (length us)) (padding_both (padding_exactly (false ∷ binary 6 (length us - 1))) (joined_padding us h))))

-- ---- scalars

whole_number_padding : (al : Bool) (low high : Option ℤ) (v : ℤ) → PaddingAlone (Per.whole_number al low high v)
unfolding Per.whole_number
whole_number_padding al (Some low) (Some high) v = padding_given (above low high) (λ span. padding_given (above low v) (λ d. constrained_padding al span d))
whole_number_padding al (Some low) None v = padding_given _ (λ d. semi_constrained_padding al d)
whole_number_padding al None (Some high) v = padding_if _ (unconstrained_padding al v)
whole_number_padding al None None v = unconstrained_padding al v

with_extension_bit_padding : (e i : Bool) {x y : Per.BitForm} → PaddingAlone x → PaddingAlone y → PaddingAlone (Per.with_extension_bit e i x y)
unfolding Per.with_extension_bit
with_extension_bit_padding false i h k = padding_if i h
with_extension_bit_padding true i h k = padding_varied (padding_cond _ (padding_both (padding_exactly _) k) (padding_if i (padding_both (padding_exactly _) h)))

integer_padding : (al : Bool) (b : Bounds) (held : Range) (v : ℤ) → PaddingAlone (Per.integer_form al b held v)
unfolding Per.integer_form
integer_padding al b held v = padding_if _ (with_extension_bit_padding b.extensible _ (whole_number_padding al b.range.low b.range.high v) (unconstrained_padding al v))

sized_root_padding : (al : Bool) (c : Counts) (high : Option ℕ) (has_padding : Counts → Bool) (us : List Per.BitForm) → AllPaddingAlone us → PaddingAlone (Per.sized_root al c high has_padding us)
unfolding Per.sized_root
sized_root_padding al c None has_padding us h = counted_padding al us h
sized_root_padding al c (Some high) has_padding us h = padding_cond _ (padding_both (constrained_padding al _ _) (at_octet_padding _ (joined_padding us h))) (counted_padding al us h)

sized_padding : (al : Bool) (z : Size) (held : Counts) (has_padding : Counts → Bool) (us : List Per.BitForm) → AllPaddingAlone us → PaddingAlone (Per.sized al z held has_padding us)
unfolding Per.sized
sized_padding al z held has_padding us h = padding_if _ (with_extension_bit_padding z.extensible _ (sized_root_padding al z.counts z.counts.high has_padding us h) (counted_padding al us h))

character_padding : (b : ℕ) (rs : List Run) (c : ℕ) → PaddingAlone (Per.character b rs c)
unfolding Per.character
character_padding b rs c = padding_given _ (λ i. padding_exactly _)

string_padding : (al : Bool) (k : StringKind) (z : Size) (a : Alphabet) (held : Counts) (cs : List ℕ) → PaddingAlone (Per.string_form al k z a held cs)
unfolding Per.string_form Per.characters
string_padding al k z a held cs =
    padding_if (may_hold k cs)
    (padding_cond (is_of_octets k) (padding_if (is_count_within held (length cs)) (counted_octets_padding al cs))
    (sized_padding al z held (Per.characters_have_padding bits (length cs)) (map (Per.character bits runs) cs) (map_padding (Per.character bits runs) (λ c. character_padding bits runs c) cs)))
  where
    runs : List Run
    runs = permitted k a

    bits : ℕ
    bits = Per.character_bits al runs

extension_bit_padding : (e m : Bool) → PaddingAlone (Per.extension_bit_of e m)
extension_bit_padding false m = padding_exactly []
extension_bit_padding true m = padding_exactly (m ∷ [])

item_padding : (al : Bool) (n : ℕ) (e : Bool) (i j : Option ℕ) → PaddingAlone (Per.item_form al n e i j)
unfolding Per.item_form
item_padding al n e (Some i) j = padding_both (extension_bit_padding e false) (constrained_padding al _ i)
item_padding al n true None (Some j) = padding_both (padding_exactly _) (normally_small_padding al j)
item_padding al n true None None = padding_refused
item_padding al n false None j = padding_refused

-- ---- open types, sequences and bags

open_padding : (al : Bool) (x : Per.BitForm) → PaddingAlone (Per.open_type al x)
unfolding Per.open_type
open_padding al x = padding_within
    (λ w. padding_varied (counted_padding al (map (λ o. exactly o) (Per.by_eights (w ++ []))) (map_padding (λ o. exactly o) (λ o. padding_exactly o) (Per.by_eights (w ++ [])))))

spelled_padding : (o : Presence) (s : Schema) (v : Value) {x : Per.BitForm} → PaddingAlone x → PaddingAlone (Per.spelled o s v x)
unfolding Per.spelled
spelled_padding o s v h = padding_cond (is_at_default o s v) (padding_varied padding_refused) (padding_cond (is_group_left_out s v) (padding_varied padding_refused) h)

presence_padding : (al : Bool) (ms : List Bool) (x : Per.BitForm) (xs : List (Option Per.BitForm)) → PaddingAlone x →
    AllPaddingAlone (present_ones xs) → PaddingAlone (by_presence al ms x xs (is_any_present xs))
unfolding Per.with_additions Per.additions
presence_padding al ms x xs h k = padding_cond (is_any_present xs)
    (padding_both (padding_exactly _)
    (padding_both h (padding_both (normally_few_padding al _ (map_padding Per.flag (λ a. padding_exactly _) xs)) (joined_padding _ k)))) (padding_both (padding_exactly _) h)

sequence_padding : (al e : Bool) (ms : List Bool) (x : Per.BitForm) (xs : List (Option Per.BitForm)) → PaddingAlone x →
    AllPaddingAlone (present_ones xs) → PaddingAlone (Per.sequence_form al e ms x xs)
unfolding Per.sequence_form
sequence_padding al false ms x [] h k = padding_both (padding_exactly ms) h
sequence_padding al false ms x (a ∷ xs) h k = padding_refused
sequence_padding al true ms x xs h k = padding_by (own al ms x xs) (presence_padding al ms x xs h k)

abbrev Given : Option (List (Option Per.BitForm)) → Type 0
Given None = Unit {0}
Given (Some xs) = AllPaddingAlone (present_ones xs)

given_padding : (al e : Bool) (ms : List Bool) (x : Per.BitForm) (o : Option (List (Option Per.BitForm))) → PaddingAlone x → Given o → PaddingAlone (given o (Per.sequence_form al e ms x))
given_padding al e ms x None h k = padding_refused
given_padding al e ms x (Some xs) h k = sequence_padding al e ms x xs h k

-- in any order
module _ {K : Type 0} (key : Per.BitForm → Option K) (before : K → K → Bool) where
  abbrev KeyedPaddingAlone : List (K × Per.BitForm) → Type 0
  KeyedPaddingAlone [] = Unit {0}
  KeyedPaddingAlone (e ∷ es) = PaddingAlone e.1 × KeyedPaddingAlone es

  put_padding : (e : K × Per.BitForm) (es : List (K × Per.BitForm)) → PaddingAlone e.1 → KeyedPaddingAlone es → KeyedPaddingAlone (put_in_place before e es)
  put_padding e [] h k = (h, tt)
  put_padding e (d ∷ es) h k = go (before d.0 e.0) (put_padding e es h k.1)
    where
      go : (t : Bool) → KeyedPaddingAlone (put_in_place before e es) → KeyedPaddingAlone (cond t (d ∷ put_in_place before e es) (e ∷ d ∷ es))
      go true i = (k.0, i)
      go false i = (h, k)

  abbrev MaybePaddingAlone : Option (List (K × Per.BitForm)) → Type 0
  MaybePaddingAlone None = Unit {0}
  MaybePaddingAlone (Some es) = KeyedPaddingAlone es

  keyed_padding : (xs : List Per.BitForm) → AllPaddingAlone xs → MaybePaddingAlone (with_keys key before xs)
  keyed_padding [] h = tt
  keyed_padding (x ∷ xs) h = go (key x) (with_keys key before xs) (keyed_padding xs h.1)
    where
      go : (o : Option K) (l : Option (List (K × Per.BitForm))) → MaybePaddingAlone l → MaybePaddingAlone (option_and_then (λ k. option_map (λ es. put_in_place before (k, x) es) l) o)
      go None l i = tt
      go (Some k) None i = tt
      go (Some k) (Some es) i = put_padding (k, x) es h.0 i

  last_padding : (es : List (K × Per.BitForm)) → KeyedPaddingAlone es → AllPaddingAlone (map (λ e. e.1) es)
  last_padding [] h = tt
  last_padding (e ∷ es) h = (h.0, last_padding es h.1)

  order_padding : (f : List Per.BitForm → Per.BitForm) → ((ys : List Per.BitForm) → AllPaddingAlone ys → PaddingAlone (f ys)) →
      (xs : List Per.BitForm) → AllPaddingAlone xs → PaddingAlone (given (ascending key before xs) f)
  order_padding f h xs k = go (with_keys key before xs) (keyed_padding xs k)
    where
      go : (l : Option (List (K × Per.BitForm))) → MaybePaddingAlone l → PaddingAlone (given (option_map (map (λ e. e.1)) l) f)
      go None i = padding_refused
      go (Some es) i = h (map (λ e. e.1) es) (last_padding es i)

bag_padding : (f : List Per.BitForm → Per.BitForm) → ((ys : List Per.BitForm) → AllPaddingAlone ys → PaddingAlone (f ys)) → (xs : List Per.BitForm) →
    AllPaddingAlone xs → PaddingAlone (Per.in_any_order xs f)
unfolding Per.in_any_order
bag_padding f h xs k = padding_varied (order_padding _ _ f h xs k)

-- ---- every type

left_out_padding : (q : Bool) {x : Per.BitForm} → PaddingAlone x → PaddingAlone (cond q refused x)
left_out_padding q h = padding_cond q padding_refused h

one_given : (x : Per.BitForm) (o : Option (List (Option Per.BitForm))) → PaddingAlone x → Given o → Given (option_map (λ xs. Some x ∷ xs) o)
one_given x None h k = tt
one_given x (Some xs) h k = (h, k)

none_given : (q : Bool) (o : Option (List (Option Per.BitForm))) → Given o → Given (cond q None (option_map (λ xs. None ∷ xs) o))
none_given true o k = tt
none_given false None k = tt
none_given false (Some xs) k = k

mutual
  unfolding Per.form Per.component_forms Per.addition_forms Per.alternative_form

  pub form_padding : (al : Bool) (s : Schema) (v : Value) → PaddingAlone (Per.form al s v)
  form_padding al boolean (truth b) = padding_exactly _
  form_padding al null nothing = padding_exactly []
  form_padding al (integer b held) (number v) = integer_padding al b held v
  form_padding al (enumerated roots e adds) (item v) = item_padding al _ e _ _
  form_padding al (bit_string z held) (bit_list bs) = sized_padding al z held _ _ (map_padding _ (λ b. padding_exactly _) bs)
  form_padding al (octet_string z held) (octet_list os) = padding_if _ (sized_padding al z held _ _ (map_padding _ (λ o. padding_exactly _) os))
  form_padding al (character_string k z a held) (text cs) = string_padding al k z a held cs
  form_padding al object_identifier (arcs ns) = padding_if _ (counted_octets_padding al _)
  form_padding al (sequence_of z held s) (members vs) = sized_padding al z held (λ c. false) _ (each_padding _ (λ v. form_padding al s v) vs)
  form_padding al (set_of z held s) (bag vs) = bag_padding _ (λ ys h. sized_padding al z held (λ c. false) ys h) _ (each_padding _ (λ v. form_padding al s v) vs)
  form_padding al (sequence cs e adds) (fields ps qs) = given_padding al e (presence_bits cs ps) _ (Per.addition_forms al adds qs) (component_padding al cs ps) (addition_padding al adds qs)
  form_padding al (set cs e adds) (fields ps qs) = given_padding al e (presence_bits cs ps) _ (Per.addition_forms al adds qs) (component_padding al cs ps) (addition_padding al adds qs)
  form_padding al (group cs) (fields ps end) = padding_both (padding_exactly _) (component_padding al cs ps)
  form_padding al (choice roots e adds) (chosen false i v) = padding_both (extension_bit_padding e false) (padding_both (constrained_padding al _ i) (alternative_padding al roots i v))
  form_padding al (choice roots true adds) (chosen true i v) = padding_both (padding_exactly _) (padding_both (normally_small_padding al i) (open_padding al _))
  form_padding al s v = padding_refused

  component_padding : (al : Bool) (cs : Components) (ps : Parts) → PaddingAlone (Per.component_forms al cs ps)
  component_padding al no_component end = padding_exactly []
  component_padding al (component t o s cs) (present v ps) = padding_both (spelled_padding o s v (form_padding al s v)) (component_padding al cs ps)
  component_padding al (component t o s cs) (absent ps) = left_out_padding (is_required o) (component_padding al cs ps)
  component_padding al cs ps = padding_refused

  addition_padding : (al : Bool) (cs : Components) (ps : Parts) → Given (Per.addition_forms al cs ps)
  addition_padding al no_component end = tt
  addition_padding al (component t o s cs) (present v ps) = one_given _ (Per.addition_forms al cs ps) (spelled_padding o s v (open_padding al (Per.form al s v))) (addition_padding al cs ps)
  addition_padding al (component t o s cs) (absent ps) = none_given (is_required o) (Per.addition_forms al cs ps) (addition_padding al cs ps)
  addition_padding al cs ps = tt

  alternative_padding : (al : Bool) (others : Alternatives) (i : ℕ) (v : Value) → PaddingAlone (Per.alternative_form al others i v)
  alternative_padding al (alternative t s others) zero v = form_padding al s v
  alternative_padding al (alternative t s others) (suc i) v = alternative_padding al others i v
  alternative_padding al no_alternative i v = padding_refused

-- ---- bits

pub told_bits : {x : Per.BitForm} → PaddingAlone x → (p : ℕ) → written x p ≡ option_and_then (λ t. written (as_form t) p) (field_list_at x None)
told_bits {x} h p =
    bits_of x p ∙ ap (option_and_then plain) (h.at (Some p))
    ∙ in_turn (field_list_at x None) (λ t. field_list_at (as_form t) (Some p)) plain
    ∙ chain_same (field_list_at x None) (λ t. option_and_then plain (field_list_at (as_form t) (Some p))) (λ t. written (as_form t) p) (λ t. sym (bits_of (as_form t) p))
