-- Components after presence bits: each field-list is after the space of the preamble.
use Rattle.std.proofs.Common.{◌≡◌, ℕ, suc, ◌+◌, Bool, true, false, cond, List, [], ◌∷◌, ◌++◌, length, Option, Some}
use Rattle.std.proofs.Common.{None, option_map, option_and_then, refl, ap, sym, ◌∙◌, append_assoc, length-append, arith}
use Rattle.std.proofs.lemmas.List.{append-nil}
use Rattle.asn1_model.specs.Value.{Value, fields, Parts, end, absent, present}
use Rattle.asn1_model.specs.Schema.{Schema, sequence, group, Components, no_component, component}
use Rattle.asn1_model.specs.Normal.{is_at_default, is_group_left_out}
use Rattle.asn1_model.specs.Normal.{is_required, presence_bit_unless, presence_bits}
use Rattle.asn1_model.specs.Form.{exactly, refused, both, varied, only_if}
use Rattle.asn1_model.specs.Per
use Rattle.asn1_schema_laws.specs.Records.{Record, presence_bit, is_default, is_empty, ends, mismatch}
use Rattle.asn1_schema_laws.specs.Presents.{presents, root_records, optional_count, with_presence_bit}
use Rattle.per_codec_packing.specs.FieldLists.{FieldList, as_field_list, moved, on, field_list_at}
use Rattle.per_codec_encoder.specs.Steps.{Scope, components, extension_bit_width, offset, position, runs}
use Rattle.per_codec_encoder.specs.Ties.{BridgesAt, Bridges}
use Rattle.per_codec_packing.proofs.Formed.{chain_same, none_behind, two_field_lists, moved_twice, behind, length-field_list}

-- ---- what the normal form omits

abbrev pub noted_by : Bool → Bool → List Record
noted_by d g = cond d (is_default ∷ []) (cond g (is_empty ∷ []) [])

abbrev pub spelled_by : Bool → Bool → Per.BitForm → Per.BitForm
spelled_by d g x = cond d (varied Per.default_spelled_out false (λ b. only_if b x)) (cond g (varied Per.empty_group false (λ b. only_if b x)) x)

spelled_out : (al : Bool) (s : Schema) (v : Value) → BridgesAt al s v → (d g : Bool) (os : FieldList) (k : List Scope) (rest : List Record) →
    runs al ((presents s v ++ noted_by d g) ++ rest) (os, k) ≡ option_and_then (λ w. runs al rest (os ++ w, k)) (field_list_at (spelled_by d g (Per.form al s v)) (position (os, k)))
unfolding field_list_at
spelled_out al s v h true g os k rest = ap (λ l. runs al l (os, k)) (append_assoc (presents s v) (is_default ∷ []) rest) ∙
    h os k (is_default ∷ rest) ∙ none_behind (field_list_at (Per.form al s v) (position (os, k)))
spelled_out al s v h false true os k rest = ap (λ l. runs al l (os, k)) (append_assoc (presents s v) (is_empty ∷ []) rest) ∙
    h os k (is_empty ∷ rest) ∙ none_behind (field_list_at (Per.form al s v) (position (os, k)))
spelled_out al s v h false false os k rest = ap (λ l. runs al (l ++ rest) (os, k)) (append-nil (presents s v)) ∙ h os k rest

-- ---- components

-- each component's type has the bridge
abbrev pub EachBridges : Components → Type 0
EachBridges no_component = Unit {0}
EachBridges (component t o s cs) = Bridges s × EachBridges cs

-- how many presence bits there are
unless_count : (r b : Bool) (ms : List Bool) (n : ℕ) → length ms ≡ n → length (presence_bit_unless r b ms) ≡ cond r n (suc n)
unless_count true b ms n h = h
unless_count false b ms n h = ap suc h

pub presence_bits_count : (cs : Components) (ps : Parts) → length (presence_bits cs ps) ≡ optional_count cs
presence_bits_count no_component ps = refl
presence_bits_count (component t o s cs) (present v ps) = unless_count (is_required o) true (presence_bits cs ps) (optional_count cs) (presence_bits_count cs ps)
presence_bits_count (component t o s cs) (absent ps) = unless_count (is_required o) false (presence_bits cs ps) (optional_count cs) (presence_bits_count cs ps)
presence_bits_count (component t o s cs) end = unless_count (is_required o) false (presence_bits cs end) (optional_count cs) (presence_bits_count cs end)

-- a component that is present, and those after it
abbrev pub Root : Bool → Bool → Components → Type 0
Root al e cs = (ps : Parts) (ms : List Bool) (front os : FieldList) (k : List Scope) (rs more : List Record) →
    runs al (root_records cs ps rs ++ more) (os, components e (optional_count cs) ms front ∷ k)
    ≡ option_and_then (λ w. runs al (rs ++ more) (os ++ w, components e 0 (ms ++ presence_bits cs ps) front ∷ k))
    (field_list_at (Per.component_forms al cs ps) (position (os, components e (optional_count cs) ms front ∷ k)))

it_and_others : (al e : Bool) (cs : Components) (s : Schema) (v : Value) → BridgesAt al s v → Root al e cs →
    (d g : Bool) (ps : Parts) (ms : List Bool) (front os : FieldList) (k : List Scope) (rs more : List Record) →
    runs al (((presents s v ++ noted_by d g) ++ root_records cs ps rs) ++ more) (os, components e (optional_count cs) ms front ∷ k)
    ≡ option_and_then (λ w. runs al (rs ++ more) (os ++ w, components e 0 (ms ++ presence_bits cs ps) front ∷ k))
    (field_list_at (both (spelled_by d g (Per.form al s v)) (Per.component_forms al cs ps)) (position (os, components e (optional_count cs) ms front ∷ k)))
unfolding field_list_at
it_and_others al e cs s v h others d g ps ms front os k rs more =
    ap (λ l. runs al l (os, top)) (append_assoc (presents s v ++ noted_by d g) (root_records cs ps rs) more)
    ∙ spelled_out al s v h d g os top (root_records cs ps rs ++ more)
    ∙ chain_same (field_list_at (spelled_by d g (Per.form al s v)) p) _
    (λ a. option_and_then (λ b. runs al (rs ++ more) ((os ++ a) ++ b, components e 0 (ms ++ presence_bits cs ps) front ∷ k)) (field_list_at (Per.component_forms al cs ps) (on p a)))
    (λ a. others ps ms front (os ++ a) k rs more ∙
    ap (λ n. option_and_then (λ b. runs al (rs ++ more) ((os ++ a) ++ b, components e 0 (ms ++ presence_bits cs ps) front ∷ k))
    (field_list_at (Per.component_forms al cs ps) n)) (behind (offset top) os a))
    ∙ two_field_lists (field_list_at (spelled_by d g (Per.form al s v)) p) (λ a. field_list_at (Per.component_forms al cs ps) (on p a)) os
    (λ w. runs al (rs ++ more) (w, components e 0 (ms ++ presence_bits cs ps) front ∷ k))
  where
    top : List Scope
    top = components e (optional_count cs) ms front ∷ k

    p : Option ℕ
    p = position (os, top)

-- a presence bit is where it was due
one_bit : (e : Bool) (n : ℕ) (ms : List Bool) (b : Bool) (front os : FieldList) (k : List Scope) →
    position (os, components e n (ms ++ b ∷ []) front ∷ k) ≡ position (os, components e (suc n) ms front ∷ k)
one_bit e n ms b front os k =
    let l = length-append ms (b ∷ []) in
    let m : length front + (extension_bit_width e + length (ms ++ b ∷ []) + n) ≡ length front + (extension_bit_width e + length ms + suc n) = omega arith in
    ap (λ w. on (moved (offset k) w) os) m

presence_bit_off : (al e b : Bool) (cs : Components) (x : Per.BitForm) (ps : Parts) (ms : List Bool) (front os : FieldList) (k : List Scope)
    (rs more : List Record) → option_and_then (λ w. runs al (rs ++ more) (os ++ w, components e 0 ((ms ++ b ∷ []) ++ presence_bits cs ps) front ∷ k))
    (field_list_at x (position (os, components e (optional_count cs) (ms ++ b ∷ []) front ∷ k)))
    ≡ option_and_then (λ w. runs al (rs ++ more) (os ++ w, components e 0 (ms ++ (b ∷ presence_bits cs ps)) front ∷ k))
    (field_list_at x (position (os, components e (suc (optional_count cs)) ms front ∷ k)))
presence_bit_off al e b cs x ps ms front os k rs more =
    ap (λ n. option_and_then (λ w. runs al (rs ++ more) (os ++ w, components e 0 ((ms ++ b ∷ []) ++ presence_bits cs ps) front ∷ k))
    (field_list_at x n)) (one_bit e (optional_count cs) ms b front os k)
    ∙ ap (λ l. option_and_then (λ w. runs al (rs ++ more) (os ++ w, components e 0 l front ∷ k))
    (field_list_at x (position (os, components e (suc (optional_count cs)) ms front ∷ k)))) (append_assoc ms (b ∷ []) (presence_bits cs ps))

one_there : (al e r : Bool) (cs : Components) (s : Schema) (v : Value) → BridgesAt al s v → Root al e cs →
    (d g : Bool) (ps : Parts) (ms : List Bool) (front os : FieldList) (k : List Scope) (rs more : List Record) →
    runs al ((with_presence_bit r (presents s v ++ noted_by d g) ++ root_records cs ps rs) ++ more)
    (os, components e (cond r (optional_count cs) (suc (optional_count cs))) ms front ∷ k) ≡ option_and_then
    (λ w. runs al (rs ++ more) (os ++ w, components e 0 (ms ++ presence_bit_unless r true (presence_bits cs ps)) front ∷ k))
    (field_list_at (both (spelled_by d g (Per.form al s v)) (Per.component_forms al cs ps)) (position (os, components e (cond r (optional_count cs) (suc (optional_count cs))) ms front ∷ k)))
one_there al e true cs s v h others d g ps ms front os k rs more = it_and_others al e cs s v h others d g ps ms front os k rs more
one_there al e false cs s v h others d g ps ms front os k rs more =
    it_and_others al e cs s v h others d g ps (ms ++ true ∷ []) front os k rs more
    ∙ presence_bit_off al e true cs (both (spelled_by d g (Per.form al s v)) (Per.component_forms al cs ps)) ps ms front os k rs more

one_absent : (al e r : Bool) (cs : Components) → Root al e cs →
    (ps : Parts) (ms : List Bool) (front os : FieldList) (k : List Scope) (rs more : List Record) →
    runs al ((cond r (mismatch ∷ []) (presence_bit false ∷ []) ++ root_records cs ps rs) ++ more)
    (os, components e (cond r (optional_count cs) (suc (optional_count cs))) ms front ∷ k) ≡ option_and_then
    (λ w. runs al (rs ++ more) (os ++ w, components e 0 (ms ++ presence_bit_unless r false (presence_bits cs ps)) front ∷ k))
    (field_list_at (cond r refused (Per.component_forms al cs ps)) (position (os, components e (cond r (optional_count cs) (suc (optional_count cs))) ms front ∷ k)))
unfolding field_list_at
one_absent al e true cs others ps ms front os k rs more = refl
one_absent al e false cs others ps ms front os k rs more =
    others ps (ms ++ false ∷ []) front os k rs more
    ∙ presence_bit_off al e false cs (Per.component_forms al cs ps) ps ms front os k rs more

pub root : (al e : Bool) (cs : Components) → EachBridges cs → Root al e cs
unfolding root_records Per.component_forms field_list_at Per.spelled
root al e no_component h end ms front os k rs more = sym (ap (λ l. runs al (rs ++ more) (l, components e 0 (ms ++ []) front ∷ k)) (append-nil os) ∙
    ap (λ l. runs al (rs ++ more) (os, components e 0 l front ∷ k)) (append-nil ms))
root al e no_component h ps ms front os k rs more = refl
root al e (component t o s cs) h (present v ps) ms front os k rs more =
    one_there al e (is_required o) cs s v (h.0 al v) (root al e cs h.1) (is_at_default o s v) (is_group_left_out s v) ps ms front os k rs more
root al e (component t o s cs) h (absent ps) ms front os k rs more = one_absent al e (is_required o) cs (root al e cs h.1) ps ms front os k rs more
root al e (component t o s cs) h end ms front os k rs more = refl

-- ---- without an extension bit

-- the root begins after the preamble
pub preamble_place : (e : Bool) (n : ℕ) (os : FieldList) (k : List Scope) (t : FieldList) → extension_bit_width e + n ≡ length t → position ([], components e n [] os ∷ k) ≡ on (position (os, k)) t
preamble_place e n os k t h =
    let m : length os + (extension_bit_width e + 0 + n) + 0 ≡ length os + length t = omega arith in
    moved_twice (offset k) (length os + (extension_bit_width e + 0 + n)) 0 ∙ ap (moved (offset k)) m ∙ sym (moved_twice (offset k) (length os) (length t))

-- the end puts the presence bits before the root's bits
closed_off : (al : Bool) (cs : Components) → EachBridges cs → (ps : Parts) (os : FieldList) (k : List Scope) (rest : List Record) →
    runs al (root_records cs ps (ends ∷ []) ++ rest) ([], components false (optional_count cs) [] os ∷ k)
    ≡ option_and_then (λ w. runs al rest (os ++ w, k)) (field_list_at (both (exactly (presence_bits cs ps)) (Per.component_forms al cs ps)) (position (os, k)))
unfolding field_list_at Per.sequence_form
closed_off al cs h ps os k rest =
    root al false cs h ps [] os [] k (ends ∷ []) rest
    ∙ ap (λ n. option_and_then (λ w. runs al (ends ∷ rest) (w, components false 0 (presence_bits cs ps) os ∷ k)) (field_list_at (Per.component_forms al cs ps) n)) place
    ∙ go (field_list_at (Per.component_forms al cs ps) (on (position (os, k)) (as_field_list (presence_bits cs ps))))
  where
    place : position ([], components false (optional_count cs) [] os ∷ k) ≡ on (position (os, k)) (as_field_list (presence_bits cs ps))
    place = preamble_place false (optional_count cs) os k (as_field_list (presence_bits cs ps)) (let c = presence_bits_count cs ps in let t = length-field_list (presence_bits cs ps) in omega arith)

    go : (o : Option FieldList) → option_and_then (λ w. runs al (ends ∷ rest) (w, components false 0 (presence_bits cs ps) os ∷ k)) o
        ≡ option_and_then (λ w. runs al rest (os ++ w, k)) (option_map (λ b. as_field_list (presence_bits cs ps) ++ b) o)
    go None = refl
    go (Some w) = refl

pub plain_sequences : (cs : Components) → EachBridges cs → Bridges (sequence cs false no_component)
unfolding presents Per.form field_list_at Per.sequence_form Per.addition_forms
plain_sequences cs h al (fields ps end) os k rest = closed_off al cs h ps os k rest
plain_sequences cs h al (fields ps qs) os k rest = root al false cs h ps [] os [] k (mismatch ∷ []) rest ∙
    none_behind (field_list_at (Per.component_forms al cs ps) (position ([], components false (optional_count cs) [] os ∷ k)))
plain_sequences cs h al v os k rest = refl

pub groups : (cs : Components) → EachBridges cs → Bridges (group cs)
unfolding presents Per.form field_list_at
groups cs h al (fields ps end) os k rest = closed_off al cs h ps os k rest
groups cs h al v os k rest = refl
