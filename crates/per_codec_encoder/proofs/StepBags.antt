-- Bags: each element's field-list is kept until the end, which puts them in the order of their complete encodings.
use Rattle.std.proofs.Common.{◌≡◌, ℕ, zero, suc, ◌*◌, leb, Bool, true, false, cond, ◌&&◌, List, [], ◌∷◌, ◌++◌, length}
use Rattle.std.proofs.Common.{map, take, drop, Option, Some, None, option_map, option_and_then, refl, ap, sym, ◌∙◌}
use Rattle.std.proofs.Common.{append_assoc}
use Rattle.std.proofs.lemmas.List.{append-nil}
use Rattle.asn1_model.specs.Value.{Value, bag, Values, no_more, member, each}
use Rattle.asn1_model.specs.Schema.{Counts, Size, Schema, set_of}
use Rattle.asn1_model.specs.Numbers.{binary}
use Rattle.asn1_model.specs.Form.{exactly, both, only_if, joined, given, put_in_place, with_keys, ascending, stands_before, written}
use Rattle.asn1_model.specs.Per
use Rattle.asn1_schema_laws.specs.Records.{Record}
use Rattle.asn1_model.specs.Lawful.{member_count}
use Rattle.asn1_schema_laws.specs.Presents.{presents, member_records}
use Rattle.per_codec_packing.specs.FieldLists.{FieldList, on, field_list_at, as_form}
use Rattle.per_codec_encoder.specs.Steps.{LengthDeterminants, Scope, bag_members, position, Heading, list_heading, with_open, bag_opened, closed_bag, State, runs}
use Rattle.per_codec_encoder.specs.Ties.{BridgesAt, Bridges}
use Rattle.per_codec_packing.proofs.Formed.{chain_same, in_turn}
use Rattle.per_codec_encoder.proofs.Bridge.{one_field_list}
use Rattle.per_codec_encoder.proofs.PaddingAlone.{PaddingAlone, AllPaddingAlone, each_padding, form_padding, told_bits}
use Rattle.per_codec_writing.specs.Headings.{form_due}
use Rattle.per_codec_writing.proofs.HeadingForms.{by_heading}
use Rattle.per_codec_encoder.proofs.Lists.{length-each, list_field_list}

-- ---- the records keep the field-lists

-- the field-list of each element, if all have one
abbrev all_field_lists : List Per.BitForm → Option (List FieldList)
all_field_lists [] = Some []
all_field_lists (x ∷ xs) = option_and_then (λ t. option_map (λ ts. t ∷ ts) (all_field_lists xs)) (field_list_at x None)

module _ (al : Bool) (z : Size) (held : Counts) (s : Schema) (h : (v : Value) → BridgesAt al s v) (front : FieldList) (k : List Scope) (rest : List Record) where
  abbrev forms : Values → List Per.BitForm
  forms vs = each (λ v. Per.form al s v) vs

  -- what the end makes of the field-lists
  abbrev closing : List FieldList → Option State
  closing ts = option_and_then (λ m. runs al rest m) (closed_bag al z held zero ts front k)

  field_list_by_field_list : (ts : List FieldList) (o : Option (List FieldList)) (c : Option FieldList) →
      option_and_then (λ a. option_and_then (λ us. closing ((ts ++ a ∷ []) ++ us)) o) c ≡ option_and_then (λ us. closing (ts ++ us)) (option_and_then (λ a. option_map (λ us. a ∷ us) o) c)
  field_list_by_field_list ts o None = refl
  field_list_by_field_list ts o (Some a) = go o
    where
      go : (o : Option (List FieldList)) → option_and_then (λ us. closing ((ts ++ a ∷ []) ++ us)) o ≡ option_and_then (λ us. closing (ts ++ us)) (option_map (λ us. a ∷ us) o)
      go None = refl
      go (Some us) = ap closing (append_assoc ts (a ∷ []) us)

  members_kept : (vs : Values) (ts : Option (List FieldList)) (one : FieldList) →
      runs al (member_records (λ v. presents s v) vs ++ rest) (one, bag_members z held (member_count vs) ts front ∷ k)
      ≡ option_and_then (λ us. closing (with_open ts one ++ us)) (all_field_lists (forms vs))
  members_kept no_more ts one = ap closing (sym (append-nil (with_open ts one)))
  members_kept (member v vs) ts one =
      ap (λ l. runs al l ([], bag_members z held (member_count vs) (Some (with_open ts one)) front ∷ k)) (append_assoc (presents s v) (member_records (λ v. presents s v) vs) rest)
      ∙ h v [] (bag_members z held (member_count vs) (Some (with_open ts one)) front ∷ k) (member_records (λ v. presents s v) vs ++ rest)
      ∙ chain_same (field_list_at (Per.form al s v) None) _ (λ a. option_and_then (λ us. closing ((with_open ts one ++ a ∷ []) ++ us))
      (all_field_lists (forms vs))) (λ a. members_kept vs (Some (with_open ts one)) a)
      ∙ field_list_by_field_list (with_open ts one) (all_field_lists (forms vs)) (field_list_at (Per.form al s v) None)

-- ---- order

-- under a map
module _ {K X Y : Type 0} (f : X → Y) (key : Y → Option K) (own : X → Option K) (before : K → K → Bool) (same : (x : X) → key (f x) ≡ own x) where
  abbrev with_key : K × X → K × Y
  with_key e = (e.0, f e.1)

  put-map : (e : K × X) (es : List (K × X)) → put_in_place before (with_key e) (map with_key es) ≡ map with_key (put_in_place before e es)
  put-map e [] = refl
  put-map e (d ∷ es) = go (before d.0 e.0) (put-map e es)
    where
      go : (t : Bool) → put_in_place before (with_key e) (map with_key es) ≡ map with_key (put_in_place before e es) →
          cond t (with_key d ∷ put_in_place before (with_key e) (map with_key es)) (with_key e ∷ with_key d ∷ map with_key es) ≡ map with_key (cond t (d ∷ put_in_place before e es) (e ∷ d ∷ es))
      go true i = ap (λ l. with_key d ∷ l) i
      go false i = refl

  keys-map : (xs : List X) → with_keys key before (map f xs) ≡ option_map (map with_key) (with_keys own before xs)
  keys-map [] = refl
  keys-map (x ∷ xs) = ap (option_and_then (λ k. option_map (λ es. put_in_place before (k, f x) es) (with_keys key before (map f xs)))) (same x) ∙ go (own x) (keys-map xs)
    where
      inner : (k : K) (o : Option (List (K × X))) → option_map (λ es. put_in_place before (k, f x) es) (option_map (map with_key) o)
          ≡ option_map (map with_key) (option_map (λ es. put_in_place before (k, x) es) o)
      inner k None = refl
      inner k (Some es) = ap Some (put-map (k, x) es)

      go : (o : Option K) → with_keys key before (map f xs) ≡ option_map (map with_key) (with_keys own before xs) →
          option_and_then (λ k. option_map (λ es. put_in_place before (k, f x) es) (with_keys key before (map f xs))) o
          ≡ option_map (map with_key) (option_and_then (λ k. option_map (λ es. put_in_place before (k, x) es) (with_keys own before xs)) o)
      go None i = refl
      go (Some k) i = ap (option_map (λ es. put_in_place before (k, f x) es)) i ∙ inner k (with_keys own before xs)

  last-map : (es : List (K × X)) → map (λ e. e.1) (map with_key es) ≡ map f (map (λ e. e.1) es)
  last-map [] = refl
  last-map (e ∷ es) = ap (λ l. f e.1 ∷ l) (last-map es)

  ascending-map : (xs : List X) → ascending key before (map f xs) ≡ option_map (map f) (ascending own before xs)
  ascending-map xs = ap (option_map (map (λ e. e.1))) (keys-map xs) ∙ go (with_keys own before xs)
    where
      go : (o : Option (List (K × X))) → option_map (map (λ e. e.1)) (option_map (map with_key) o) ≡ option_map (map f) (option_map (map (λ e. e.1)) o)
      go None = refl
      go (Some es) = ap Some (last-map es)

-- as many as before
module _ {K X : Type 0} (key : X → Option K) (before : K → K → Bool) where
  abbrev Counts_to : {Y : Type 0} → ℕ → Option (List Y) → Type 0
  Counts_to n None = Unit {0}
  Counts_to n (Some es) = length es ≡ n

  put-count : (e : K × X) (es : List (K × X)) → length (put_in_place before e es) ≡ suc (length es)
  put-count e [] = refl
  put-count e (d ∷ es) = go (before d.0 e.0) (put-count e es)
    where
      go : (t : Bool) → length (put_in_place before e es) ≡ suc (length es) → length (cond t (d ∷ put_in_place before e es) (e ∷ d ∷ es)) ≡ suc (suc (length es))
      go true i = ap suc i
      go false i = refl

  keys-count : (xs : List X) → Counts_to (length xs) (with_keys key before xs)
  keys-count [] = refl
  keys-count (x ∷ xs) = go (key x) (with_keys key before xs) (keys-count xs)
    where
      go : (o : Option K) (l : Option (List (K × X))) → Counts_to (length xs) l → Counts_to (suc (length xs)) (option_and_then (λ k. option_map (λ es. put_in_place before (k, x) es) l) o)
      go None l i = tt
      go (Some k) None i = tt
      go (Some k) (Some es) i = put-count (k, x) es ∙ ap suc i

  length-map : {Y Z : Type 0} (f : Y → Z) (ys : List Y) → length (map f ys) ≡ length ys
  length-map f [] = refl
  length-map f (y ∷ ys) = ap suc (length-map f ys)

  ascending-count : (xs : List X) → Counts_to (length xs) (ascending key before xs)
  ascending-count xs = go (with_keys key before xs) (keys-count xs)
    where
      go : (l : Option (List (K × X))) → Counts_to (length xs) l → Counts_to (length xs) (option_map (map (λ e. e.1)) l)
      go None i = tt
      go (Some es) i = length-map (λ (e : K × X). e.1) es ∙ i

-- ---- forms and their field-lists

-- a form with its field-list
record Told : Type 0 where
  form : Per.BitForm
  field_list : FieldList
  same : (q : Option ℕ) → field_list_at (as_form field_list) q ≡ field_list_at form q
  bits : written (as_form field_list) 0 ≡ written form 0

abbrev forms_of : List Told → List Per.BitForm
forms_of ys = map (λ (y : Told). y.form) ys

abbrev retold : List Told → List Per.BitForm
retold ys = map (λ (y : Told). as_form y.field_list) ys

abbrev field_lists_of : List Told → List FieldList
field_lists_of ys = map (λ (y : Told). y.field_list) ys

abbrev complete_bits : Per.BitForm → Option (List Bool)
complete_bits x = written (Per.complete x) 0

same_key : (y : Told) → complete_bits (as_form y.field_list) ≡ complete_bits y.form
unfolding written Per.complete
same_key y = ap (option_and_then (λ w. written (Per.padded w) 0)) y.bits

abbrev Found : List Per.BitForm → Option (List FieldList) → Type 0
Found xs None = with_keys complete_bits (stands_before Per.bit_less) xs ≡ None
Found xs (Some ts) = (ys : List Told) × (forms_of ys ≡ xs) × (field_lists_of ys ≡ ts)

no_key : (x : Per.BitForm) → PaddingAlone x → field_list_at x None ≡ None → complete_bits x ≡ None
unfolding written Per.complete
no_key x h e = ap (option_and_then (λ w. written (Per.padded w) 0)) (told_bits h 0 ∙ ap (option_and_then (λ t. written (as_form t) 0)) e)

found : (xs : List Per.BitForm) → AllPaddingAlone xs → Found xs (all_field_lists xs)
found [] h = ([], refl, refl)
found (x ∷ xs) h = go (field_list_at x None) refl (all_field_lists xs) (found xs h.1)
  where
    none_first : (o : Option (List Bool)) → with_keys complete_bits (stands_before Per.bit_less) xs ≡ None →
        option_and_then (λ k. option_map (λ es. put_in_place (stands_before Per.bit_less) (k, x) es) (with_keys complete_bits (stands_before Per.bit_less) xs)) o ≡ None
    none_first None i = refl
    none_first (Some k) i = ap (option_map (λ es. put_in_place (stands_before Per.bit_less) (k, x) es)) i

    go : (o : Option FieldList) → field_list_at x None ≡ o → (l : Option (List FieldList)) → Found xs l → Found (x ∷ xs) (option_and_then (λ t. option_map (λ ts. t ∷ ts) l) o)
    go None e l i = ap (option_and_then (λ k. option_map (λ es. put_in_place (stands_before Per.bit_less) (k, x) es) (with_keys complete_bits (stands_before Per.bit_less) xs))) (no_key x h.0 e)
    go (Some t) e None i = none_first (complete_bits x) i
    go (Some t) e (Some ts) i = (
      record {
        form = x;
        field_list = t;
        same = λ q. sym (h.0.at q ∙ ap (option_and_then (λ t. field_list_at (as_form t) q)) e);
        bits = sym (told_bits h.0 0 ∙ ap (option_and_then (λ t. written (as_form t) 0)) e);
      } ∷ i.0,
      ap (λ l. x ∷ l) i.1,
      ap (λ l. t ∷ l) i.2,
    )

-- ---- lists of these forms

joined_same : (ys : List Told) (q : Option ℕ) → field_list_at (joined (retold ys)) q ≡ field_list_at (joined (forms_of ys)) q
unfolding field_list_at
joined_same [] q = refl
joined_same (y ∷ ys) q =
    ap (option_and_then (λ a. option_map (λ b. a ++ b) (field_list_at (joined (retold ys)) (on q a)))) (y.same q)
    ∙ chain_same (field_list_at y.form q) (λ a. option_map (λ b. a ++ b) (field_list_at (joined (retold ys)) (on q a)))
    (λ a. option_map (λ b. a ++ b) (field_list_at (joined (forms_of ys)) (on q a))) (λ a. ap (option_map (λ b. a ++ b)) (joined_same ys (on q a)))

take-map : {X Y : Type 0} (f : X → Y) (n : ℕ) (xs : List X) → take n (map f xs) ≡ map f (take n xs)
take-map f zero xs = refl
take-map f (suc n) [] = refl
take-map f (suc n) (x ∷ xs) = ap (λ l. f x ∷ l) (take-map f n xs)

drop-map : {X Y : Type 0} (f : X → Y) (n : ℕ) (xs : List X) → drop n (map f xs) ≡ map f (drop n xs)
drop-map f zero xs = refl
drop-map f (suc n) [] = refl
drop-map f (suc n) (x ∷ xs) = drop-map f n xs

same_count : (ys : List Told) → length (retold ys) ≡ length (forms_of ys)
same_count [] = refl
same_count (y ∷ ys) = ap suc (same_count ys)

both_same : (x x' y y' : Per.BitForm) → ((q : Option ℕ) → field_list_at x q ≡ field_list_at x' q) →
    ((q : Option ℕ) → field_list_at y q ≡ field_list_at y' q) → (q : Option ℕ) → field_list_at (both x y) q ≡ field_list_at (both x' y') q
unfolding field_list_at
both_same x x' y y' h k q = ap (option_and_then (λ a. option_map (λ b. a ++ b) (field_list_at y (on q a)))) (h q) ∙
    chain_same (field_list_at x' q) (λ a. option_map (λ b. a ++ b) (field_list_at y (on q a)))
    (λ a. option_map (λ b. a ++ b) (field_list_at y' (on q a))) (λ a. ap (option_map (λ b. a ++ b)) (k (on q a)))

-- a part of them
taken_same : (n : ℕ) (ys : List Told) (q : Option ℕ) → field_list_at (joined (take n (retold ys))) q ≡ field_list_at (joined (take n (forms_of ys))) q
taken_same n ys q =
    ap (λ l. field_list_at (joined l) q) (take-map (λ (y : Told). as_form y.field_list) n ys)
    ∙ joined_same (take n ys) q
    ∙ ap (λ l. field_list_at (joined l) q) (sym (take-map (λ (y : Told). y.form) n ys))

fragments_same : (al : Bool) (ms : List ℕ) (ys : List Told) (q : Option ℕ) → field_list_at (Per.fragments al ms (retold ys)) q ≡ field_list_at (Per.fragments al ms (forms_of ys)) q
unfolding Per.fragments field_list_at
fragments_same al [] ys q = ap (λ n. field_list_at (both (Per.short_length al n) (joined (retold ys))) q) (same_count ys) ∙
    both_same (Per.short_length al (length (forms_of ys))) (Per.short_length al (length (forms_of ys))) (joined (retold ys)) (joined (forms_of ys)) (λ p. refl) (joined_same ys) q
fragments_same al (m ∷ ms) ys q =
    ap (λ n. field_list_at (only_if (leb 1 m && leb m 4 && leb (m * 16384) n)
    (both determinant (both (joined (take (m * 16384) (retold ys))) (Per.fragments al ms (drop (m * 16384) (retold ys)))))) q) (same_count ys)
    ∙ by_test (leb 1 m && leb m 4 && leb (m * 16384) (length (forms_of ys))) (λ p. fragments_same al ms (drop (m * 16384) ys) p)
  where
    determinant : Per.BitForm
    determinant = Per.at_octet al (exactly (true ∷ true ∷ binary 6 m))

    behind : List Per.BitForm → Per.BitForm
    behind us = both (joined (take (m * 16384) us)) (Per.fragments al ms (drop (m * 16384) us))

    left_same : ((p : Option ℕ) → field_list_at (Per.fragments al ms (retold (drop (m * 16384) ys))) p
        ≡ field_list_at (Per.fragments al ms (forms_of (drop (m * 16384) ys))) p) → (p : Option ℕ) →
        field_list_at (Per.fragments al ms (drop (m * 16384) (retold ys))) p ≡ field_list_at (Per.fragments al ms (drop (m * 16384) (forms_of ys))) p
    left_same h p = ap (λ l. field_list_at (Per.fragments al ms l) p) (drop-map (λ (y : Told). as_form y.field_list) (m * 16384) ys) ∙ h p ∙
        ap (λ l. field_list_at (Per.fragments al ms l) p) (sym (drop-map (λ (y : Told). y.form) (m * 16384) ys))

    by_test : (t : Bool) → ((p : Option ℕ) → field_list_at (Per.fragments al ms (retold (drop (m * 16384) ys))) p
        ≡ field_list_at (Per.fragments al ms (forms_of (drop (m * 16384) ys))) p) →
        field_list_at (only_if t (both determinant
        (both (joined (take (m * 16384) (retold ys))) (Per.fragments al ms (drop (m * 16384) (retold ys)))))) q
        ≡ field_list_at (only_if t (both determinant (both (joined (take (m * 16384) (forms_of ys))) (Per.fragments al ms (drop (m * 16384) (forms_of ys)))))) q
    by_test false h = refl
    by_test true h = both_same determinant determinant (behind (retold ys)) (behind (forms_of ys)) (λ p. refl)
        (both_same (joined (take (m * 16384) (retold ys))) (joined (take (m * 16384) (forms_of ys)))
        (Per.fragments al ms (drop (m * 16384) (retold ys))) (Per.fragments al ms (drop (m * 16384) (forms_of ys))) (taken_same (m * 16384) ys) (left_same h)) q

due_same : (al : Bool) (n : ℕ) (hs : LengthDeterminants) (ys : List Told) (q : Option ℕ) → field_list_at (form_due al n hs (retold ys)) q ≡ field_list_at (form_due al n hs (forms_of ys)) q
due_same al n None ys q = joined_same ys q
due_same al n (Some h) ys q = both_same (joined (take n (retold ys))) (joined (take n (forms_of ys))) (Per.fragments al h.0 (drop n (retold ys)))
    (Per.fragments al h.0 (drop n (forms_of ys))) (taken_same n ys)
    (λ p. ap (λ l. field_list_at (Per.fragments al h.0 l) p) (drop-map (λ (y : Told). as_form y.field_list) n ys) ∙
    fragments_same al h.0 (drop n ys) p ∙ ap (λ l. field_list_at (Per.fragments al h.0 l) p) (sym (drop-map (λ (y : Told). y.form) n ys))) q

module _ (al : Bool) (z : Size) (held : Counts) (q : Option ℕ) where
  abbrev size : List Per.BitForm → Per.BitForm
  size us = Per.sized al z held (λ c. false) us

  heading_same : (ys : List Told) (o : Option Heading) → by_heading al (retold ys) q o ≡ by_heading al (forms_of ys) q o
  heading_same ys None = refl
  heading_same ys (Some g) = ap (option_map (λ b. g.field_list ++ b)) (due_same al g.due g.determinants ys (on q g.field_list))

  sized_same : (ys : List Told) → field_list_at (size (retold ys)) q ≡ field_list_at (size (forms_of ys)) q
  sized_same ys =
      list_field_list al z held (retold ys) q
      ∙ heading_same ys (list_heading al z held (length (retold ys)) q)
      ∙ ap (λ n. by_heading al (forms_of ys) q (list_heading al z held n q)) (same_count ys)
      ∙ sym (list_field_list al z held (forms_of ys) q)

  abbrev ordered : List Per.BitForm → Per.BitForm
  ordered xs = Per.in_any_order xs size

  given_same : (o : Option (List Told)) → field_list_at (given (option_map retold o) size) q ≡ field_list_at (given (option_map forms_of o) size) q
  given_same None = refl
  given_same (Some ys) = sized_same ys

  order_same : (ys : List Told) → field_list_at (ordered (retold ys)) q ≡ field_list_at (ordered (forms_of ys)) q
  unfolding field_list_at Per.in_any_order
  order_same ys =
      ap (λ o. field_list_at (given o size) q) (ascending-map (λ (y : Told). as_form y.field_list) complete_bits (λ y. complete_bits y.form) (stands_before Per.bit_less) same_key ys)
      ∙ given_same (ascending (λ (y : Told). complete_bits y.form) (stands_before Per.bit_less) ys)
      ∙ ap (λ o. field_list_at (given o size) q) (sym (ascending-map (λ (y : Told). y.form) complete_bits (λ y. complete_bits y.form) (stands_before Per.bit_less) (λ y. refl) ys))

  -- the whole field-list by those of the elements
  by_field_lists : (xs : List Per.BitForm) (o : Option (List FieldList)) → Found xs o → option_and_then (λ ts. field_list_at (ordered (map as_form ts)) q) o ≡ field_list_at (ordered xs) q
  unfolding field_list_at Per.in_any_order
  by_field_lists xs None i = ap (λ o. field_list_at (given (option_map (map (λ e. e.1)) o) size) q) (sym i)
  by_field_lists xs (Some ts) i = ap (λ l. field_list_at (ordered (map as_form l)) q) (sym i.2) ∙ ap (λ l. field_list_at (ordered l) q) (twice i.0) ∙
      order_same i.0 ∙ ap (λ l. field_list_at (ordered l) q) i.1
    where
      twice : (ys : List Told) → map as_form (field_lists_of ys) ≡ retold ys
      twice [] = refl
      twice (y ∷ ys) = ap (λ l. as_form y.field_list ∷ l) (twice ys)

  -- if the size is refused
  unsized : (xs : List Per.BitForm) → list_heading al z held (length xs) q ≡ None → field_list_at (ordered xs) q ≡ None
  unfolding field_list_at Per.in_any_order
  unsized xs e = go (ascending complete_bits (stands_before Per.bit_less) xs) (ascending-count complete_bits (stands_before Per.bit_less) xs)
    where
      go : (o : Option (List Per.BitForm)) → Counts_to complete_bits (stands_before Per.bit_less) (length xs) o → field_list_at (given o size) q ≡ None
      go None i = refl
      go (Some ys) i = list_field_list al z held ys q ∙ ap (by_heading al ys q) (ap (λ n. list_heading al z held n q) i ∙ e)

-- ---- SET OF

pub bags : (z : Size) (held : Counts) (s : Schema) → Bridges s → Bridges (set_of z held s)
unfolding presents Per.form field_list_at
bags z held s b al (bag vs) os k rest = judged (list_heading al z held (member_count vs) q) refl
  where
    q : Option ℕ
    q = position (os, k)

    us : List Per.BitForm
    us = each (λ v. Per.form al s v) vs

    count : length us ≡ member_count vs
    count = length-each (λ v. Per.form al s v) vs

    judged : (o : Option Heading) → list_heading al z held (member_count vs) q ≡ o →
        option_and_then (λ m. runs al (member_records (λ v. presents s v) vs ++ rest) m) (bag_opened z held (member_count vs) (os, k) o)
        ≡ option_and_then (λ w. runs al rest (os ++ w, k)) (field_list_at (ordered al z held q us) q)
    judged None e = ap (option_and_then (λ w. runs al rest (os ++ w, k))) (sym (unsized al z held q us (ap (λ n. list_heading al z held n q) count ∙ e)))
    judged (Some g) e =
        members_kept al z held s (b al) os k rest vs None []
        ∙ chain_same (all_field_lists us) _ (λ ts. option_and_then (λ w. runs al rest (os ++ w, k))
        (field_list_at (ordered al z held q (map as_form ts)) q)) (λ ts. one_field_list al (field_list_at (ordered al z held q (map as_form ts)) q) os k rest)
        ∙ sym (in_turn (all_field_lists us) (λ ts. field_list_at (ordered al z held q (map as_form ts)) q) (λ w. runs al rest (os ++ w, k)))
        ∙ ap (option_and_then (λ w. runs al rest (os ++ w, k))) (by_field_lists al z held q us (all_field_lists us) (found us (each_padding (λ v. Per.form al s v) (λ v. form_padding al s v) vs)))
bags z held s b al v os k rest = refl
