-- Types and values of each kind.
use Rattle.std.proofs.Common.{◌≡◌, ℕ, ◌≤◌, ◌+◌, zero, suc, ℤ, Bool, true, false, List, [], ◌∷◌, refl, subst, ap, ◌∙◌, arith}
use Rattle.std.specs.Prelude.{max, ◌&&◌}
use Rattle.std.proofs.Math.Nat.{le-max_left, le-max_right}
use Rattle.asn1_model.specs.Value.{Value, truth, nothing, number, bit_list, octet_list, text, arcs, member, depth, depth_of_members, map_members}
use Rattle.asn1_model.specs.Schema.{Tag, Range, Bounds, Counts, Size, Schema, boolean, null, integer, bit_string, octet_string, character_string, object_identifier, StringKind, Alphabet}
use Rattle.asn1_model.specs.Normal.{normal}
use Rattle.asn1_model.specs.Tidy.{is_tidy}
use Rattle.asn1_model.specs.Lawful.{is_lawful, is_group, is_range, is_tag, smallest, are_counts}
use Rattle.std.proofs.lemmas.Bool.{and_parts}
use Rattle.asn1_schema_laws.specs.Presents.{Fits, AllFit}
use Rattle.asn1_schema_laws.specs.Parts.{values_of}
use Rattle.asn1_schema_laws.specs.Tables.{scope, list_type, bag_type, is_one_tag, IsType, IsValue}
use Rattle.asn1_schema_laws.specs.Forms.{Form, sequence_form, set_form}
use Rattle.asn1_schema_laws.proofs.Beginnings.{tags_of_one, smallest_is_tag}
use Rattle.asn1_schema_laws.proofs.Forms.{listed_type, listed, depth_of_list, list_fits, normal_list}

-- a type under another tag
pub retagged : {ts us : List Tag} {s : ℕ → Schema} → is_one_tag ts ≡ true → IsType us s → IsType ts s
retagged {ts} {us} {s} e h = record { tagged = λ n. tags_of_one ts (s n) (h.no_group n) e; lawful = h.lawful; tidy = h.tidy; no_group = h.no_group }

-- a type under the smallest of some tags
pub under_smallest : {ts us : List Tag} {r s : ℕ → Schema} (t : Tag) → is_tag t ≡ true → IsType ts r → IsType us s → IsType (smallest t ts ∷ []) s
under_smallest {ts} {us} {r} {s} t e g h =
    retagged (smallest_is_tag ts t e ((and_parts _ _ ((and_parts _ _ (g.tagged 0)).0)).1)) h

pub boolean_type : {ts : List Tag} → is_one_tag ts ≡ true → IsType ts (λ _. boolean)
unfolding is_lawful is_tidy
boolean_type {ts} e = record { tagged = λ n. tags_of_one ts boolean refl e; lawful = λ n. refl; tidy = λ n. refl; no_group = λ n. refl }

pub boolean_value : (b : Bool) → IsValue (λ _. boolean) (truth b)
unfolding Fits normal
boolean_value b = record { fits = λ n le. tt; normal = λ n. refl }

pub null_type : {ts : List Tag} → is_one_tag ts ≡ true → IsType ts (λ _. null)
unfolding is_lawful is_tidy
null_type {ts} e = record { tagged = λ n. tags_of_one ts null refl e; lawful = λ n. refl; tidy = λ n. refl; no_group = λ n. refl }

pub null_value : IsValue (λ _. null) nothing
unfolding Fits normal
null_value = record { fits = λ n le. tt; normal = λ n. refl }

pub integer_type : {ts : List Tag} (b : Bounds) (h : Range) → is_one_tag ts ≡ true → is_range b.range ≡ true → is_range h ≡ true → IsType ts (λ _. integer b h)
unfolding is_lawful is_tidy
integer_type {ts} b h e p q = record { tagged = λ n. tags_of_one ts (integer b h) refl e; lawful = λ n. rw (p, q) refl; tidy = λ n. refl; no_group = λ n. refl }

pub integer_value : (b : Bounds) (h : Range) (z : ℤ) → IsValue (λ _. integer b h) (number z)
unfolding Fits normal
integer_value b h z = record { fits = λ n le. tt; normal = λ n. refl }

pub bit_string_type : {ts : List Tag} (z : Size) (h : Counts) → is_one_tag ts ≡ true → (are_counts z.counts && are_counts h) ≡ true → IsType ts (λ _. bit_string z h)
unfolding is_lawful is_tidy
bit_string_type {ts} z h e k = record { tagged = λ n. tags_of_one ts (bit_string z h) refl e; lawful = λ n. k; tidy = λ n. refl; no_group = λ n. refl }

pub bit_string_value : (z : Size) (h : Counts) (xs : List Bool) → IsValue (λ _. bit_string z h) (bit_list xs)
unfolding Fits normal
bit_string_value z h xs = record { fits = λ n le. tt; normal = λ n. refl }

pub octet_string_type : {ts : List Tag} (z : Size) (h : Counts) → is_one_tag ts ≡ true → (are_counts z.counts && are_counts h) ≡ true → IsType ts (λ _. octet_string z h)
unfolding is_lawful is_tidy
octet_string_type {ts} z h e k = record { tagged = λ n. tags_of_one ts (octet_string z h) refl e; lawful = λ n. k; tidy = λ n. refl; no_group = λ n. refl }

pub octet_string_value : (z : Size) (h : Counts) (xs : List ℕ) → IsValue (λ _. octet_string z h) (octet_list xs)
unfolding Fits normal
octet_string_value z h xs = record { fits = λ n le. tt; normal = λ n. refl }

pub character_string_type : {ts : List Tag} (c : StringKind) (z : Size) (a : Alphabet) (h : Counts) → is_one_tag ts ≡ true →
    (are_counts z.counts && are_counts h) ≡ true → IsType ts (λ _. character_string c z a h)
unfolding is_lawful is_tidy
character_string_type {ts} c z a h e k = record { tagged = λ n. tags_of_one ts (character_string c z a h) refl e; lawful = λ n. k; tidy = λ n. refl; no_group = λ n. refl }

pub character_string_value : (c : StringKind) (z : Size) (a : Alphabet) (h : Counts) (xs : List ℕ) → IsValue (λ _. character_string c z a h) (text xs)
unfolding Fits normal
character_string_value c z a h xs = record { fits = λ n le. tt; normal = λ n. refl }

pub identifier_type : {ts : List Tag} → is_one_tag ts ≡ true → IsType ts (λ _. object_identifier)
unfolding is_lawful is_tidy
identifier_type {ts} e = record { tagged = λ n. tags_of_one ts object_identifier refl e; lawful = λ n. refl; tidy = λ n. refl; no_group = λ n. refl }

pub identifier_value : (ns : List ℕ) → IsValue (λ _. object_identifier) (arcs ns)
unfolding Fits normal
identifier_value ns = record { fits = λ n le. tt; normal = λ n. refl }

-- SEQUENCE OF and SET OF
no_group_list : (k : Form) (z : Size) (h : Counts) (s : ℕ → Schema) (n : ℕ) → is_group (listed_type k z h s n) ≡ false
unfolding list_type bag_type scope
no_group_list sequence_form z h s zero = refl
no_group_list sequence_form z h s (suc m) = refl
no_group_list set_form z h s zero = refl
no_group_list set_form z h s (suc m) = refl

tidy_list : (k : Form) (z : Size) (h : Counts) (s : ℕ → Schema) → ((n : ℕ) → is_tidy (s n) ≡ true) → (n : ℕ) → is_tidy (listed_type k z h s n) ≡ true
unfolding list_type bag_type scope is_tidy
tidy_list sequence_form z h s t zero = refl
tidy_list sequence_form z h s t (suc m) = t m
tidy_list set_form z h s t zero = refl
tidy_list set_form z h s t (suc m) = t m

lawful_list : (k : Form) (z : Size) (h : Counts) {us : List Tag} {s : ℕ → Schema} → (are_counts z.counts && are_counts h) ≡ true → IsType us s → (n : ℕ) → is_lawful (listed_type k z h s n) ≡ true
unfolding list_type bag_type scope is_lawful
lawful_list sequence_form z h e t zero = refl
lawful_list sequence_form z h e t (suc m) = rw (e, t.no_group m) (t.lawful m)
lawful_list set_form z h e t zero = refl
lawful_list set_form z h e t (suc m) = rw (e, t.no_group m) (t.lawful m)

pub type_list : {ts us : List Tag} (k : Form) (z : Size) (h : Counts) {s : ℕ → Schema} → is_one_tag ts ≡ true →
    (are_counts z.counts && are_counts h) ≡ true → IsType us s → IsType ts (listed_type k z h s)
type_list {ts} k z h {s} e c t = record {
  tagged = λ n. tags_of_one ts (listed_type k z h s n) (no_group_list k z h s n) e;
  lawful = lawful_list k z h c t;
  tidy = tidy_list k z h s t.tidy;
  no_group = no_group_list k z h s;
}

all_fit : {A : Type 0} (s : ℕ → Schema) (f : A → Value) → ((x : A) → IsValue s (f x)) → (xs : List A) (n : ℕ) → depth_of_members (values_of f xs) ≤ n → AllFit (λ v. Fits (s n) v) (values_of f xs)
unfolding depth_of_members
all_fit s f h [] n le = tt
all_fit s f h (x ∷ xs) n le =
    let a : depth (f x) ≤ max (depth (f x)) (depth_of_members (values_of f xs)) = le-max_left _ _ in
    let b : depth_of_members (values_of f xs) ≤ max (depth (f x)) (depth_of_members (values_of f xs)) = le-max_right _ _ in
    let k : max (depth (f x)) (depth_of_members (values_of f xs)) ≤ n = le in
    ((h x).fits n (let z : depth (f x) ≤ n = omega arith in z), all_fit s f h xs n (let z : depth_of_members (values_of f xs) ≤ n = omega arith in z))

all_normal : {A : Type 0} (s : ℕ → Schema) (f : A → Value) → ((x : A) → IsValue s (f x)) → (xs : List A) (n : ℕ) → map_members (λ v. normal (s n) v) (values_of f xs) ≡ values_of f xs
all_normal s f h [] n = refl
all_normal s f h (x ∷ xs) n = ap (λ v. member v (map_members (λ v. normal (s n) v) (values_of f xs))) ((h x).normal n) ∙ ap (λ vs. member (f x) vs) (all_normal s f h xs n)

cut_list : (k : Form) (z : Size) (h : Counts) (s : ℕ → Schema) (v : Value) → normal (listed_type k z h s zero) v ≡ v
unfolding list_type bag_type scope normal
cut_list sequence_form z h s v = refl
cut_list set_form z h s v = refl

pub value_list : {A : Type 0} (k : Form) (z : Size) (h : Counts) (s : ℕ → Schema) (f : A → Value) (xs : List A) →
    ((x : A) → IsValue s (f x)) → IsValue (listed_type k z h s) (listed k (values_of f xs))
value_list k z h s f xs v = record {
  fits = λ n le. fits_at n (subst (λ (i : ℕ). i ≤ n) (depth_of_list k (values_of f xs)) le);
  normal = λ n. elim n as (λ n. normal (listed_type k z h s n) (listed k (values_of f xs)) ≡ listed k (values_of f xs)) [
    | zero ↦ cut_list k z h s (listed k (values_of f xs))
    | suc m ↦ normal_list z h s m k (values_of f xs) ∙ ap (λ vs. listed k vs) (all_normal s f v xs m)
  ];
}
  where
    fits_at : (n : ℕ) → depth_of_members (values_of f xs) + 1 ≤ n → Fits (listed_type k z h s n) (listed k (values_of f xs))
    fits_at zero le = absurd (omega arith)
    fits_at (suc m) le = list_fits z h s m k (values_of f xs) (all_fit s f v xs m (let w : depth_of_members (values_of f xs) ≤ m = omega arith in w))
