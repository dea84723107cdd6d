-- Choices and enumerations as types, and their values.
use Rattle.std.proofs.Common.{◌≡◌, ℕ, ℤ, ◌≤◌, ◌+◌, zero, suc, Bool, true, false, List, ◌∷◌, ◌++◌, refl, ◌∙◌, ap, arith}
use Rattle.asn1_model.specs.Value.{Value, item, chosen, depth}
use Rattle.asn1_model.specs.Schema.{Tag, Schema, cut, enumerated, choice}
use Rattle.asn1_model.specs.Normal.{normal, normal_alternative}
use Rattle.asn1_model.specs.Tidy.{is_tidy, are_tidy_alternatives}
use Rattle.asn1_model.specs.Lawful.{is_lawful, are_lawful_alternatives, is_group, is_tag, is_empty, alternative_tags, are_tags, are_tags_of}
use Rattle.asn1_schema_laws.specs.Presents.{Fits, ChosenFits}
use Rattle.asn1_schema_laws.specs.Tables.{scope, is_one_tag, are_choice_tags, IsType, IsValue}
use Rattle.asn1_schema_laws.proofs.Beginnings.{tags_of_one, tags_of_cut, tags_of_choice, choice_tags}
use Rattle.asn1_schema_laws.proofs.Recursive.{type_at as level_type}
use Rattle.asn1_schema_constructed.specs.Tables.{Variants, no_variant, variant, alternatives_at, Choices, side, tags_of, all_tags, type_at, choice_type, are_choices, AreVariants, are_items}
use Rattle.asn1_schema_constructed.specs.Recursive.{recursive_choice}

-- ---- enumerations
pub type_enumerated : {ts : List Tag} (roots : List ℤ) (e : Bool) (others : List ℤ) → is_one_tag ts ≡ true → are_items roots e others ≡ true → IsType ts (λ _. enumerated roots e others)
unfolding is_lawful is_tidy
type_enumerated {ts} roots e others k h = record { tagged = λ n. tags_of_one ts (enumerated roots e others) refl k; lawful = λ n. h; tidy = λ n. refl; no_group = λ n. refl }

pub value_enumerated : (roots : List ℤ) (e : Bool) (others : List ℤ) (z : ℤ) → IsValue (λ _. enumerated roots e others) (item z)
unfolding Fits normal
value_enumerated roots e others z = record { fits = λ n le. tt; normal = λ n. refl }

-- ---- alternatives
pub no_variants : AreVariants no_variant
unfolding alternatives_at are_lawful_alternatives are_tidy_alternatives
no_variants = record { lawful = λ n. refl; tidy = λ n. refl }

pub more_variants : (t : Tag) {us : List Tag} {s : ℕ → Schema} {vs : Variants} → is_tag t ≡ true → IsType us s → AreVariants vs → AreVariants (variant t s vs)
unfolding alternatives_at are_lawful_alternatives are_tidy_alternatives
more_variants t e h k = record { lawful = λ n. rw (e, h.no_group n, h.lawful n) (k.lawful n); tidy = λ n. rw (h.tidy n) (k.tidy n) }

-- their tags are the same for any number of levels
pub tags_at : (n : ℕ) (vs : Variants) → alternative_tags (alternatives_at n vs) ≡ tags_of vs
unfolding alternatives_at
tags_at n no_variant = refl
tags_at n (variant t s vs) = ap (λ ts. t ∷ ts) (tags_at n vs)

none_at : (n : ℕ) (vs : Variants) → is_empty (alternative_tags (alternatives_at n vs)) ≡ is_empty (tags_of vs)
unfolding alternatives_at
none_at n no_variant = refl
none_at n (variant t s vs) = refl

-- the value of the alternative with this index
pub fits_at : (n : ℕ) (vs : Variants) (i : ℕ) (v : Value) → ChosenFits (alternatives_at n vs) i v → Fits (type_at vs i n) v
unfolding alternatives_at ChosenFits
fits_at n no_variant i v f = absurd f
fits_at n (variant t s vs) zero v f = f
fits_at n (variant t s vs) (suc i) v f = fits_at n vs i v f

pub at_fits : (n : ℕ) (vs : Variants) (i : ℕ) (v : Value) → Fits (type_at vs i n) v → ChosenFits (alternatives_at n vs) i v
unfolding alternatives_at ChosenFits Fits
at_fits n no_variant i v f = absurd f
at_fits n (variant t s vs) zero v f = f
at_fits n (variant t s vs) (suc i) v f = at_fits n vs i v f

pub normal_at : (n : ℕ) (vs : Variants) (i : ℕ) (v : Value) → normal_alternative (alternatives_at n vs) i v ≡ normal (type_at vs i n) v
unfolding alternatives_at normal_alternative normal
normal_at n no_variant i v = refl
normal_at n (variant t s vs) zero v = refl
normal_at n (variant t s vs) (suc i) v = normal_at n vs i v

-- ---- choices
choice_begins : (ts : List Tag) (t : Choices) → are_choice_tags ts (all_tags t) ≡ true → (n : ℕ) → are_tags_of ts (choice_type t n) ≡ true
unfolding choice_type scope
choice_begins ts t e zero = tags_of_cut ts (choice_tags ts (all_tags t) e)
choice_begins ts t e (suc m) =
    tags_of_choice ts (alternatives_at m t.root) t.extensible (alternatives_at m t.additions)
    (ap (λ us. are_choice_tags ts (us ++ alternative_tags (alternatives_at m t.additions))) (tags_at m t.root)
    ∙ ap (λ us. are_choice_tags ts (tags_of t.root ++ us)) (tags_at m t.additions) ∙ e)

pub type_choice : {ts : List Tag} (t : Choices) → are_choice_tags ts (all_tags t) ≡ true → AreVariants t.root → AreVariants t.additions → are_choices t ≡ true → IsType ts (choice_type t)
unfolding choice_type scope is_lawful is_tidy
type_choice {ts} t e h k d = record {
  tagged = choice_begins ts t e;
  lawful = λ n. elim n as (λ n. is_lawful (scope n (λ m. choice (alternatives_at m t.root) t.extensible (alternatives_at m t.additions))) ≡ true)
      [ zero ↦ refl | suc m ↦ rw (none_at m t.root, none_at m t.additions, tags_at m t.root, tags_at m t.additions, d, h.lawful m) (k.lawful m) ];
  tidy = λ n. elim n as (λ n. is_tidy (scope n (λ m. choice (alternatives_at m t.root) t.extensible (alternatives_at m t.additions))) ≡ true) [ zero ↦ refl | suc m ↦ rw (h.tidy m) (k.tidy m) ];
  no_group = λ n. elim n as (λ n. is_group (scope n (λ m. choice (alternatives_at m t.root) t.extensible (alternatives_at m t.additions))) ≡ false) [ zero ↦ refl | suc m ↦ refl ];
}

pub one_fits : (t : Choices) (b : Bool) (i m : ℕ) (v : Value) → Fits (type_at (side t b) i m) v → Fits (choice (alternatives_at m t.root) t.extensible (alternatives_at m t.additions)) (chosen b i v)
unfolding Fits
one_fits t false i m v f = at_fits m t.root i v f
one_fits t true i m v f = at_fits m t.additions i v f

pub one_normal : (t : Choices) (b : Bool) (i m : ℕ) (v : Value) →
    normal (choice (alternatives_at m t.root) t.extensible (alternatives_at m t.additions)) (chosen b i v) ≡ chosen b i (normal (type_at (side t b) i m) v)
unfolding normal
one_normal t false i m v = ap (λ w. chosen false i w) (normal_at m t.root i v)
one_normal t true i m v = ap (λ w. chosen true i w) (normal_at m t.additions i v)

-- a root alternative, and an added one
pub value_choice : (t : Choices) (b : Bool) (i : ℕ) {v : Value} → IsValue (type_at (side t b) i) v → IsValue (choice_type t) (chosen b i v)
unfolding choice_type scope depth Fits normal
value_choice t b i {v} h = record {
  fits = λ n. elim n as (λ n. depth (chosen b i v) ≤ n → Fits (scope n (λ m. choice (alternatives_at m t.root) t.extensible (alternatives_at m t.additions))) (chosen b i v)) [
    | zero ↦ λ le. absurd (let y : depth v + 1 ≤ 0 = le in omega arith)
    | suc m ↦ λ le. let y : depth v + 1 ≤ suc m = le in one_fits t b i m v (h.fits m (let w : depth v ≤ m = omega arith in w))
  ];
  normal = λ n. elim n as (λ n. normal (scope n (λ m. choice (alternatives_at m t.root) t.extensible (alternatives_at m t.additions))) (chosen b i v)
      ≡ chosen b i v) [ zero ↦ refl | suc m ↦ one_normal t b i m v ∙ ap (λ w. chosen b i w) (h.normal m) ];
}

-- ---- recursive choices
cut_type : {ts : List Tag} → are_tags ts ≡ true → IsType ts (λ _. cut)
unfolding is_lawful is_tidy
cut_type {ts} e = record { tagged = λ n. tags_of_cut ts e; lawful = λ n. refl; tidy = λ n. refl; no_group = λ n. refl }

module _ {ts : List Tag} (f : (ℕ → Schema) → Choices) (e : (s : ℕ → Schema) → are_choice_tags ts (all_tags (f s)) ≡ true)
    (h : (s : ℕ → Schema) → IsType ts s → AreVariants (f s).root) (k : (s : ℕ → Schema) → IsType ts s → AreVariants (f s).additions) (d : (s : ℕ → Schema) → are_choices (f s) ≡ true) where
  each_level : (n : ℕ) → IsType ts (λ _. recursive_choice f n)
  unfolding recursive_choice
  each_level zero = cut_type (choice_tags ts (all_tags (f (λ _. cut))) (e (λ _. cut)))
  each_level (suc n) = let t = each_level n in
      level_type (type_choice (f (λ _. recursive_choice f n)) (e (λ _. recursive_choice f n)) (h (λ _. recursive_choice f n) t)
      (k (λ _. recursive_choice f n) t) (d (λ _. recursive_choice f n))) (suc n)

  pub recursive_choice_type : IsType ts (recursive_choice f)
  recursive_choice_type = record { tagged = λ n. (each_level n).tagged n; lawful = λ n. (each_level n).lawful n; tidy = λ n. (each_level n).tidy n; no_group = λ n. (each_level n).no_group n }
