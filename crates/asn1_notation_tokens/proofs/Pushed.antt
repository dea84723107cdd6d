-- One item more.
use Rattle.std.proofs.Common.{◌≡◌, ◌≤◌, ◌+◌, ◌-◌, ◌∙◌, ℕ, Bool, true, ◌&&◌, List, [], ◌∷◌, ◌++◌, refl, sym, ap, subst, length, take, drop, All, arith}
use Rattle.std.specs.List.{list_all}
use Rattle.std.proofs.lemmas.Bool.{lt-ltb, le-leb}
use Rattle.std.proofs.lemmas.List.{length-drop, take_all}
use Rattle.std.proofs.lemmas.List.Folds.{list_all-append}
use Rattle.std.proofs.lemmas.List.Elements.{All-append, All-cons}
use Rattle.std.proofs.Math.Nat.{add-sub_cancel_left}
use Rattle.asn1_notation_tokens.specs.declared.items.Item.{Item}
use Rattle.asn1_notation_tokens.specs.declared.items.ItemKind.{ItemKind}
use Rattle.asn1_notation_tokens.specs.Lexical.{HasForm, IsItemOf}
use Rattle.asn1_notation_tokens.specs.Spans.{is_inside}

-- the text from an index on
abbrev pub rest_of : List ℕ → ℕ → List ℕ
rest_of text a = take (length text - a) (drop a text)

rest_of-drop : (text : List ℕ) (a : ℕ) → rest_of text a ≡ drop a text
rest_of-drop text a = take_all (length text - a) (drop a text) (let e : length (drop a text) ≡ length text - a = length-drop a text in omega (arith, e))

pub length_rest : (text : List ℕ) (a : ℕ) → length (rest_of text a) ≡ length text - a
length_rest text a = ap length (rest_of-drop text a) ∙ length-drop a text

-- What has a form at an index is an item there.
pub item_at : (text : List ℕ) (kind : ItemKind) (a n : ℕ) → HasForm kind (take n (rest_of text a)) → IsItemOf text (record { kind = kind; start = a; end = a + n })
item_at text kind a n h = subst (λ m. HasForm kind (take m (drop a text))) (sym (add-sub_cancel_left a n)) (subst (λ xs. HasForm kind (take n xs)) (rest_of-drop text a) h)

pub items_pushed : (text : List ℕ) (is : List Item) (i : Item) → All (IsItemOf text) is → IsItemOf text i → All (IsItemOf text) (is ++ i ∷ [])
items_pushed text is i h one = All-append (IsItemOf text) is (i ∷ []) h (All-cons (IsItemOf text) i [] one (λ k d l. absurd (omega (arith, l))))

both : (a b : Bool) → a ≡ true → b ≡ true → (a && b) ≡ true
both a b e f = ap (λ x. x && b) e ∙ f

pub inside_at : (length_of a n : ℕ) (kind : ItemKind) → 1 ≤ n → a + n ≤ length_of → is_inside length_of (record { kind = kind; start = a; end = a + n }) ≡ true
inside_at length_of a n kind p l = both _ _ (lt-ltb a (a + n) (omega arith)) (le-leb (a + n) length_of l)

pub inside_pushed : (n : ℕ) (is : List Item) (i : Item) → list_all (is_inside n) is ≡ true → is_inside n i ≡ true → list_all (is_inside n) (is ++ i ∷ []) ≡ true
inside_pushed n is i h one = list_all-append (is_inside n) is (i ∷ []) ∙ both _ _ h (both _ _ one refl)
