-- Elements of SEQUENCE OF and SET OF as lists, their arrangements, and properties of each component and alternative of
-- a type.
use Rattle.std.proofs.Common.{◌≡◌, ℕ, zero, suc, List, [], ◌∷◌, map, Bool, Option, Some, None, option_map, refl, ap, ◌∙◌}
use Rattle.asn1_model.specs.Value.{Value, Values, no_more, member, values_of, each}
use Rattle.asn1_model.specs.Schema.{Presence, Schema, Components, no_component, component, Alternatives, no_alternative, alternative}
use Rattle.asn1_model.specs.Form.{pick, arranged, ascending, in_order}
use Rattle.asn1_model.proofs.Forms.{map_parts}
use Rattle.asn1_laws_values.proofs.Arranged.{arranged_parts, ascending_code}

abbrev pub listed : Values → List Value
listed no_more = []
listed (member v vs) = v ∷ listed vs

pub each_is_map : {X : Type 0} (f : Value → X) (vs : Values) → each f vs ≡ map f (listed vs)
each_is_map f no_more = refl
each_is_map f (member v vs) = ap (λ l. f v ∷ l) (each_is_map f vs)

pub listed_again : (vs : Values) → values_of (listed vs) ≡ vs
listed_again no_more = refl
listed_again (member v vs) = ap (λ ws. member v ws) (listed_again vs)

-- ---- arrangements of what is made from elements are those of the elements
some_same : {X : Type 0} {x y : X} → Some x ≡ Some y → x ≡ y
some_same e = cc

pick_map : {X Y : Type 0} (f : X → Y) (i : ℕ) (xs : List X) (y : Y) (rest : List Y) → pick i (map f xs) ≡ Some (y, rest) →
    (x : X) × (us : List X) × (pick i xs ≡ Some (x, us)) × (f x ≡ y) × (map f us ≡ rest)
pick_map f i [] y rest e = cc
pick_map {X} {Y} f zero (x ∷ xs) y rest e =
    let p : Y × List Y = (f x, map f xs) in
    let q : Y × List Y = (y, rest) in
    let g : p ≡ q = some_same e in
    (x, xs, refl, ap (λ (r : Y × List Y). r.0) g, ap (λ (r : Y × List Y). r.1) g)
pick_map {X} {Y} f (suc i) (x ∷ xs) y rest e =
    let q = map_parts (pick i (map f xs)) (λ (p : Y × List Y). (p.0, f x ∷ p.1)) (y, rest) e in
    let a : q.0.0 ≡ y = ap (λ (p : Y × List Y). p.0) q.2 in
    let b : f x ∷ q.0.1 ≡ rest = ap (λ (p : Y × List Y). p.1) q.2 in
    let r = pick_map f i xs q.0.0 q.0.1 q.1 in
    (r.0, x ∷ r.1, ap (λ o. option_map (λ (p : X × List X). (p.0, x ∷ p.1)) o) r.2, r.3 ∙ a, ap (λ l. f x ∷ l) r.4 ∙ b)

arranged_map : {X Y : Type 0} (f : X → Y) (is : List ℕ) (xs : List X) (ys : List Y) → arranged is (map f xs) ≡ Some ys → (us : List X) × (arranged is xs ≡ Some us) × (map f us ≡ ys)
arranged_map f [] [] ys e = ([], refl, some_same e)
arranged_map f [] (x ∷ xs) ys e = cc
arranged_map {X} {Y} f (i ∷ is) xs ys e =
    let q = arranged_parts i is (map f xs) ys e in
    let p = pick_map f i xs q.0 q.1 q.3 in
    let r = arranged_map f is p.1 q.2 (ap (λ l. arranged is l) p.4 ∙ q.4) in
    (p.0 ∷ r.0, again p.0 p.1 r.0 p.2 r.1, ap (λ y. y ∷ map f r.0) p.3 ∙ ap (λ l. q.0 ∷ l) r.2 ∙ q.5)
  where
    again : (x : X) (rest us : List X) → pick i xs ≡ Some (x, rest) → arranged is rest ≡ Some us → arranged (i ∷ is) xs ≡ Some (x ∷ us)
    again x rest us e f = rw (e, f) refl

-- any order is an arrangement
pub order_map : {X Y K : Type 0} (f : X → Y) (key : Y → Option K) (before : K → K → Bool) (o : Option (List ℕ)) (xs : List X)
    (ys : List Y) → in_order (ascending key before (map f xs)) o (map f xs) ≡ Some ys → (is : List ℕ) × (us : List X) × (arranged is xs ≡ Some us) × (map f us ≡ ys)
order_map f key before None xs ys e =
    let c = ascending_code key before (map f xs) ys e in
    let r = arranged_map f c.0 xs ys c.1 in
    (c.0, r.0, r.1, r.2)
order_map f key before (Some is) xs ys e = let r = arranged_map f is xs ys e in (is, r.0, r.1, r.2)

-- ---- each component, and each alternative
abbrev pub EachComponent : (Presence → Schema → Type 0) → Components → Type 0
EachComponent P no_component = Unit {0}
EachComponent P (component t o s cs) = P o s × EachComponent P cs

abbrev pub EachAlternative : (Schema → Type 0) → Alternatives → Type 0
EachAlternative P no_alternative = Unit {0}
EachAlternative P (alternative t s others) = P s × EachAlternative P others

pub component_map : {P Q : Presence → Schema → Type 0} (cs : Components) → ((o : Presence) (s : Schema) → P o s → Q o s) → EachComponent P cs → EachComponent Q cs
component_map no_component f h = tt
component_map (component t o s cs) f h = (f o s h.0, component_map cs f h.1)

-- an arrangement of what is mapped
pick_maps : {X Y : Type 0} (f : X → Y) (i : ℕ) (xs rest : List X) (x : X) → pick i xs ≡ Some (x, rest) → pick i (map f xs) ≡ Some (f x, map f rest)
pick_maps f i [] rest x e = cc
pick_maps {X} {Y} f zero (y ∷ xs) rest x e =
    let p : X × List X = (y, xs) in
    let q : X × List X = (x, rest) in
    let g : p ≡ q = some_same e in
    ap (λ (r : X × List X). Some (f r.0, map f r.1)) g
pick_maps {X} {Y} f (suc i) (y ∷ xs) rest x e =
    let q = map_parts (pick i xs) (λ (p : X × List X). (p.0, y ∷ p.1)) (x, rest) e in
    let r = pick_maps f i xs q.0.1 q.0.0 q.1 in
    ap (λ o. option_map (λ (p : Y × List Y). (p.0, f y ∷ p.1)) o) r ∙ ap (λ (p : X × List X). Some (f p.0, map f p.1)) q.2

pub arranged_maps : {X Y : Type 0} (f : X → Y) (is : List ℕ) (xs ys : List X) → arranged is xs ≡ Some ys → arranged is (map f xs) ≡ Some (map f ys)
arranged_maps f [] [] ys e = ap (λ l. Some (map f l)) (some_same e)
arranged_maps f [] (x ∷ xs) ys e = cc
arranged_maps {X} {Y} f (i ∷ is) xs ys e =
    let q = arranged_parts i is xs ys e in
    let a = pick_maps f i xs q.1 q.0 q.3 in
    let b = arranged_maps f is q.1 q.2 q.4 in
    again q.0 q.1 q.2 a b ∙ ap (λ l. Some (map f l)) q.5
  where
    again : (x : X) (rest us : List X) → pick i (map f xs) ≡ Some (f x, map f rest) → arranged is (map f rest) ≡ Some (map f us) → arranged (i ∷ is) (map f xs) ≡ Some (f x ∷ map f us)
    again x rest us e f = rw (e, f) refl
