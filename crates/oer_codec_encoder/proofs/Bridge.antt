-- The bridge, kind by kind.
use Rattle.std.proofs.Common.{◌≡◌, ℕ, ℤ, suc, ◌+◌, Bool, true, false, cond, List, [], ◌∷◌, ◌++◌, length, replicate, Option, Some, None, option_map, option_and_then, refl, ap, sym, ◌∙◌, append_assoc}
use Rattle.std.proofs.lemmas.List.{append-nil}
use Rattle.asn1_model.specs.Value.{Value, truth, nothing, number, item, bit_list, octet_list, text, arcs, fields, Parts, end, absent, present}
use Rattle.asn1_model.specs.Schema.{Range, Bounds, Counts, Size, StringKind, Alphabet, Schema, boolean, null, integer}
use Rattle.asn1_model.specs.Schema.{enumerated, bit_string, octet_string, character_string, object_identifier, group}
use Rattle.asn1_model.specs.Schema.{Components, no_component, component}
use Rattle.asn1_model.specs.Normal.{is_at_default, is_group_left_out}
use Rattle.asn1_model.specs.Normal.{is_required, presence_bit_unless, presence_bits}
use Rattle.asn1_model.specs.Numbers.{missing}
use Rattle.asn1_model.specs.Form.{refused, both, varied, only_if, written}
use Rattle.asn1_model.specs.Oer
use Rattle.asn1_schema_laws.specs.Records.{Record, presence_bit, is_default, is_empty, ends, mismatch}
use Rattle.asn1_schema_laws.specs.Presents.{presents, root_records, optional_count, with_presence_bit}
use Rattle.oer_codec_encoder.proofs.Still.{OctetsStill, still_if, counted_still, integer_still, item_still, bit_string_still, octets_still}
use Rattle.oer_codec_encoder.specs.Steps.{Scope, components, State, adds_text, runs}
use Rattle.oer_codec_encoder.specs.Ties.{BridgesAt, Bridges}

-- one record that adds a text
pub one_text : (o : Option (List ℕ)) (os : List ℕ) (k : List Scope) (rest : List Record) → option_and_then (λ m. runs rest m) (adds_text o (os, k)) ≡ option_and_then (λ w. runs rest (os ++ w, k)) o
one_text None os k rest = refl
one_text (Some w) os k rest = refl

pub boolean_bridges : Bridges boolean
unfolding presents Oer.form written
boolean_bridges (truth true) p os k rest = refl
boolean_bridges (truth false) p os k rest = refl
boolean_bridges v p os k rest = refl

pub null_bridges : Bridges null
unfolding presents Oer.form written
null_bridges nothing p os k rest = refl
null_bridges v p os k rest = refl

-- a scalar by its form
by_form : (x : Oer.OctetForm) → OctetsStill x → (p : ℕ) (os : List ℕ) (k : List Scope) (rest : List Record) →
    option_and_then (λ m. runs rest m) (adds_text (written x 0) (os, k)) ≡ option_and_then (λ w. runs rest (os ++ w, k)) (written x p)
by_form x h p os k rest = one_text (written x 0) os k rest ∙ ap (λ o. option_and_then (λ w. runs rest (os ++ w, k)) o) (sym (h.at p))

pub integer_bridges : (b : Bounds) (h : Range) → Bridges (integer b h)
unfolding presents Oer.form written
integer_bridges b h (number v) p os k rest = by_form (Oer.integer_form b h v) (integer_still b h v) p os k rest
integer_bridges b h v p os k rest = refl

pub enumerated_bridges : (roots : List ℤ) (e : Bool) (adds : List ℤ) → Bridges (enumerated roots e adds)
unfolding presents Oer.form written
enumerated_bridges roots e adds (item v) p os k rest = by_form (Oer.form (enumerated roots e adds) (item v)) (still_if _ (item_still v)) p os k rest
enumerated_bridges roots e adds v p os k rest = refl

pub bit_string_bridges : (z : Size) (h : Counts) → Bridges (bit_string z h)
unfolding presents Oer.form written
bit_string_bridges z h (bit_list bs) p os k rest = by_form (Oer.form (bit_string z h) (bit_list bs)) (still_if _ (bit_string_still _ bs)) p os k rest
bit_string_bridges z h v p os k rest = refl

pub octet_string_bridges : (z : Size) (h : Counts) → Bridges (octet_string z h)
unfolding presents Oer.form written
octet_string_bridges z h (octet_list bs) p os k rest = by_form (Oer.form (octet_string z h) (octet_list bs)) (still_if _ (octets_still _ bs)) p os k rest
octet_string_bridges z h v p os k rest = refl

pub string_bridges : (c : StringKind) (z : Size) (a : Alphabet) (h : Counts) → Bridges (character_string c z a h)
unfolding presents Oer.form written
string_bridges c z a h (text cs) p os k rest = by_form (Oer.form (character_string c z a h) (text cs)) (still_if _ (octets_still _ _)) p os k rest
string_bridges c z a h v p os k rest = refl

pub identifier_bridges : Bridges object_identifier
unfolding presents Oer.form written
identifier_bridges (arcs ns) p os k rest = by_form (Oer.form object_identifier (arcs ns)) (still_if _ (counted_still _)) p os k rest
identifier_bridges v p os k rest = refl

-- ---- options

pub chain_same : {X Y : Type 0} (o : Option X) (f g : X → Option Y) → ((x : X) → f x ≡ g x) → option_and_then f o ≡ option_and_then g o
chain_same None f g h = refl
chain_same (Some x) f g h = h x

pub none_behind : {X Y : Type 0} (o : Option X) → option_and_then {U = Y} (λ (x : X). None) o ≡ None
none_behind None = refl
none_behind (Some x) = refl

pub two_steps : {X Y Z : Type 0} (g : Y → Option Z) (f : X → Option Y) (o : Option X) → option_and_then (λ x. option_and_then g (f x)) o ≡ option_and_then g (option_and_then f o)
two_steps g f None = refl
two_steps g f (Some x) = refl

-- two texts in sequence
pub two_texts : (o : Option (List ℕ)) (q : List ℕ → Option (List ℕ)) (os : List ℕ) (f : List ℕ → Option State) →
    option_and_then (λ a. option_and_then (λ b. f ((os ++ a) ++ b)) (q a)) o ≡ option_and_then (λ w. f (os ++ w)) (option_and_then (λ a. option_map (λ b. a ++ b) (q a)) o)
two_texts None q os f = refl
two_texts (Some a) q os f = go (q a)
  where
    go : (r : Option (List ℕ)) → option_and_then (λ b. f ((os ++ a) ++ b)) r ≡ option_and_then (λ w. f (os ++ w)) (option_map (λ b. a ++ b) r)
    go None = refl
    go (Some b) = ap f (append_assoc os a b)

-- ---- components

-- each component's type has the bridge
abbrev pub EachBridges : Components → Type 0
EachBridges no_component = Unit {0}
EachBridges (component t o s cs) = Bridges s × EachBridges cs

abbrev pub preamble_octets : List Bool → List ℕ
preamble_octets bs = Oer.packed (bs ++ replicate (missing (length bs)) false)

abbrev pub noted_by : Bool → Bool → List Record
noted_by d g = cond d (is_default ∷ []) (cond g (is_empty ∷ []) [])

abbrev pub spelled_by : Bool → Bool → Oer.OctetForm → Oer.OctetForm
spelled_by d g x = cond d (varied Oer.default_spelled_out false (λ b. only_if b x)) (cond g (varied Oer.empty_group false (λ b. only_if b x)) x)

spelled_out : (s : Schema) (v : Value) → BridgesAt s v → (d g : Bool) (p : ℕ) (os : List ℕ) (k : List Scope) (rest : List Record) →
    runs ((presents s v ++ noted_by d g) ++ rest) (os, k) ≡ option_and_then (λ w. runs rest (os ++ w, k)) (written (spelled_by d g (Oer.form s v)) p)
unfolding written
spelled_out s v h true g p os k rest = ap (λ l. runs l (os, k)) (append_assoc (presents s v) (is_default ∷ []) rest) ∙ h p os k (is_default ∷ rest) ∙ none_behind (written (Oer.form s v) p)
spelled_out s v h false true p os k rest = ap (λ l. runs l (os, k)) (append_assoc (presents s v) (is_empty ∷ []) rest) ∙ h p os k (is_empty ∷ rest) ∙ none_behind (written (Oer.form s v) p)
spelled_out s v h false false p os k rest = ap (λ l. runs (l ++ rest) (os, k)) (append-nil (presents s v)) ∙ h p os k rest

-- a component that is present, and those after it
abbrev pub Root : Bool → Components → Type 0
Root e cs = (ps : Parts) (p : ℕ) (ms : List Bool) (front os : List ℕ) (k : List Scope) (rs more : List Record) →
    runs (root_records cs ps rs ++ more) (os, components e (optional_count cs) ms front ∷ k) ≡
    option_and_then (λ w. runs (rs ++ more) (os ++ w, components e 0 (ms ++ presence_bits cs ps) front ∷ k)) (written (Oer.component_forms cs ps) p)

it_and_others : (e : Bool) (cs : Components) (s : Schema) (v : Value) → BridgesAt s v → Root e cs →
    (d g : Bool) (ps : Parts) (p : ℕ) (ms : List Bool) (front os : List ℕ) (k : List Scope) (rs more : List Record) →
    runs (((presents s v ++ noted_by d g) ++ root_records cs ps rs) ++ more) (os, components e (optional_count cs) ms front ∷ k)
    ≡ option_and_then (λ w. runs (rs ++ more) (os ++ w, components e 0 (ms ++ presence_bits cs ps) front ∷ k)) (written (both (spelled_by d g (Oer.form s v)) (Oer.component_forms cs ps)) p)
unfolding written
it_and_others e cs s v h others d g ps p ms front os k rs more =
    ap (λ l. runs l (os, components e (optional_count cs) ms front ∷ k)) (append_assoc (presents s v ++ noted_by d g) (root_records cs ps rs) more)
    ∙ spelled_out s v h d g p os (components e (optional_count cs) ms front ∷ k) (root_records cs ps rs ++ more)
    ∙ chain_same (written (spelled_by d g (Oer.form s v)) p) _ (λ a.
    option_and_then (λ b. runs (rs ++ more) ((os ++ a) ++ b, components e 0 (ms ++ presence_bits cs ps) front ∷ k))
    (written (Oer.component_forms cs ps) (p + length a))) (λ a. others ps (p + length a) ms front (os ++ a) k rs more)
    ∙ two_texts (written (spelled_by d g (Oer.form s v)) p) (λ a. written (Oer.component_forms cs ps) (p + length a)) os
    (λ w. runs (rs ++ more) (w, components e 0 (ms ++ presence_bits cs ps) front ∷ k))

one_there : (e r : Bool) (cs : Components) (s : Schema) (v : Value) → BridgesAt s v → Root e cs →
    (d g : Bool) (ps : Parts) (p : ℕ) (ms : List Bool) (front os : List ℕ) (k : List Scope) (rs more : List Record) →
    runs ((with_presence_bit r (presents s v ++ noted_by d g) ++ root_records cs ps rs) ++ more)
    (os, components e (cond r (optional_count cs) (suc (optional_count cs))) ms front ∷ k) ≡ option_and_then
    (λ w. runs (rs ++ more) (os ++ w, components e 0 (ms ++ presence_bit_unless r true (presence_bits cs ps)) front ∷ k)) (written (both (spelled_by d g (Oer.form s v)) (Oer.component_forms cs ps)) p)
one_there e true cs s v h others d g ps p ms front os k rs more = it_and_others e cs s v h others d g ps p ms front os k rs more
one_there e false cs s v h others d g ps p ms front os k rs more =
    it_and_others e cs s v h others d g ps p (ms ++ true ∷ []) front os k rs more
    ∙ ap (λ l. option_and_then (λ w. runs (rs ++ more) (os ++ w, components e 0 l front ∷ k))
    (written (both (spelled_by d g (Oer.form s v)) (Oer.component_forms cs ps)) p)) (append_assoc ms (true ∷ []) (presence_bits cs ps))

one_absent : (e r : Bool) (cs : Components) → Root e cs → (ps : Parts) (p : ℕ) (ms : List Bool) (front os : List ℕ) (k : List Scope)
    (rs more : List Record) → runs ((cond r (mismatch ∷ []) (presence_bit false ∷ []) ++ root_records cs ps rs) ++ more)
    (os, components e (cond r (optional_count cs) (suc (optional_count cs))) ms front ∷ k) ≡ option_and_then
    (λ w. runs (rs ++ more) (os ++ w, components e 0 (ms ++ presence_bit_unless r false (presence_bits cs ps)) front ∷ k)) (written (cond r refused (Oer.component_forms cs ps)) p)
unfolding written
one_absent e true cs others ps p ms front os k rs more = refl
one_absent e false cs others ps p ms front os k rs more =
    others ps p (ms ++ false ∷ []) front os k rs more
    ∙ ap (λ l. option_and_then (λ w. runs (rs ++ more) (os ++ w, components e 0 l front ∷ k)) (written (Oer.component_forms cs ps) p)) (append_assoc ms (false ∷ []) (presence_bits cs ps))

pub root : (e : Bool) (cs : Components) → EachBridges cs → Root e cs
unfolding root_records Oer.component_forms written Oer.spelled
root e no_component h end p ms front os k rs more = sym (ap (λ l. runs (rs ++ more) (l, components e 0 (ms ++ []) front ∷ k)) (append-nil os) ∙
    ap (λ l. runs (rs ++ more) (os, components e 0 l front ∷ k)) (append-nil ms))
root e no_component h ps p ms front os k rs more = refl
root e (component t o s cs) h (present v ps) p ms front os k rs more =
    one_there e (is_required o) cs s v (h.0 v) (root e cs h.1) (is_at_default o s v) (is_group_left_out s v) ps p ms front os k rs more
root e (component t o s cs) h (absent ps) p ms front os k rs more = one_absent e (is_required o) cs (root e cs h.1) ps p ms front os k rs more
root e (component t o s cs) h end p ms front os k rs more = refl

-- the end puts the presence bits before the root's octets
pub closed_off : (cs : Components) → EachBridges cs → (ps : Parts) (p : ℕ) (os : List ℕ) (k : List Scope) (rest : List Record) →
    runs (root_records cs ps (ends ∷ []) ++ rest) ([], components false (optional_count cs) [] os ∷ k)
    ≡ option_and_then (λ w. runs rest (os ++ w, k)) (written (both (Oer.preamble (presence_bits cs ps)) (Oer.component_forms cs ps)) p)
unfolding written Oer.sequence_form
closed_off cs h ps p os k rest =
    root false cs h ps (p + length (preamble_octets (presence_bits cs ps))) [] os [] k (ends ∷ []) rest ∙ go (written (Oer.component_forms cs ps) (p + length (preamble_octets (presence_bits cs ps))))
  where
    go : (o : Option (List ℕ)) → option_and_then (λ w. runs (ends ∷ rest) (w, components false 0 (presence_bits cs ps) os ∷ k)) o
        ≡ option_and_then (λ w. runs rest (os ++ w, k)) (option_map (λ b. preamble_octets (presence_bits cs ps) ++ b) o)
    go None = refl
    go (Some w) = refl

-- and so does the end of a group, which has neither extension marker nor additions
pub groups : (cs : Components) → EachBridges cs → Bridges (group cs)
unfolding presents Oer.form written
groups cs h (fields ps end) p os k rest = closed_off cs h ps p os k rest
groups cs h v p os k rest = refl
