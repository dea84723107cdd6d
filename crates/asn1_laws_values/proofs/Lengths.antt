-- The number of forms is the same in any order, and the number of elements is that of their forms.
use Rattle.std.proofs.Common.{◌≡◌, ℕ, zero, suc, Bool, true, false, not, cond, ◌&&◌, ◌||◌, List, [], ◌∷◌, length, Option, Some, None, refl, ap, sym, ◌∙◌}
use Rattle.asn1_model.specs.Value.{Value, Values, no_more, member, each}
use Rattle.asn1_model.specs.Form.{pick, arranged, in_order, ascending}
use Rattle.std.specs.Prelude.{is_some}
use Rattle.asn1_model.proofs.Forms.{map_parts}
use Rattle.asn1_laws_values.proofs.Arranged.{arranged_parts, ascending_code, some_parts}
use Rattle.asn1_model.specs.Lawful.{member_count}

picked_length : {X : Type 0} (i : ℕ) (xs : List X) (x : X) (rest : List X) → pick i xs ≡ Some (x, rest) → length xs ≡ suc (length rest)
picked_length i [] x rest e = cc
picked_length {X} zero (z ∷ xs) x rest e =
    let u : X × List X = (z, xs) in
    let v : X × List X = (x, rest) in
    let g : u ≡ v = some_parts e in
    ap (λ (p : X × List X). suc (length p.1)) g
picked_length {X} (suc i) (z ∷ xs) x rest e =
    let q = map_parts (pick i xs) (λ (p : X × List X). (p.0, z ∷ p.1)) (x, rest) e in
    ap suc (picked_length i xs q.0.0 q.0.1 q.1) ∙ ap (λ (p : X × List X). suc (length p.1)) q.2

arranged_length : {X : Type 0} (is : List ℕ) (xs zs : List X) → arranged is xs ≡ Some zs → length zs ≡ length xs
arranged_length [] [] zs e = ap length (sym (some_parts e))
arranged_length [] (x ∷ xs) zs e = cc
arranged_length (i ∷ is) xs zs e =
    let q = arranged_parts i is xs zs e in
    sym (ap length q.5) ∙ ap suc (arranged_length is q.1 q.2 q.4) ∙ sym (picked_length i xs q.0 q.1 q.3)

pub order_length : {K X : Type 0} (key : X → Option K) (before : K → K → Bool) (o : Option (List ℕ)) (xs zs : List X) → in_order (ascending key before xs) o xs ≡ Some zs → length zs ≡ length xs
order_length key before None xs zs e = let c = ascending_code key before xs zs e in arranged_length c.0 xs zs c.1
order_length key before (Some is) xs zs e = arranged_length is xs zs e

pub each_length : {X : Type 0} (f : Value → X) (vs : Values) → length (each f vs) ≡ member_count vs
each_length f no_more = refl
each_length f (member v vs) = ap suc (each_length f vs)

-- ---- booleans
pub two_true : (a b : Bool) → a ≡ true → b ≡ true → (a && b) ≡ true
two_true a b h k = rw (h, k) refl

pub or_first : (a b : Bool) → a ≡ true → (a || b) ≡ true
or_first a b h = rw h refl

pub or_second : (a b : Bool) → b ≡ true → (a || b) ≡ true
or_second true b h = refl
or_second false b h = h

pub unless : {X : Type 0} (b : Bool) (o : Option X) (x : X) → cond b None o ≡ Some x → (not b ≡ true) × (o ≡ Some x)
unless true o x e = cc
unless false o x e = (refl, e)

pub not_any : (t : Bool) → not t ≡ true → t ≡ false
not_any true e = sym e
not_any false e = refl

pub some_present : {X : Type 0} (o : Option X) (x : X) → o ≡ Some x → is_some o ≡ true
some_present o x e = ap is_some e
