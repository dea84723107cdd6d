-- Components and additions of two versions of a type: if both read the beginning of the same encoding, the parts can
-- be carried over.
use Rattle.std.proofs.Common.{◌≡◌, ℕ, suc, not, Bool, true, false, cond, List, [], ◌∷◌, length, take, map, Option, Some, None, option_map, option_and_then, refl, ap, sym, ◌∙◌, subst, inl, inr, ◌⊎◌}
use Rattle.std.proofs.lemmas.List.{append-nil}
use Rattle.asn1_model.specs.Value.{Value, Parts, end, absent, present}
use Rattle.asn1_model.specs.Schema.{Tag, Presence, required, optional, by_default, Schema, Components, no_component, component}
use Rattle.asn1_model.specs.Form.{Form, refused, both, joined, Bitmap, is_any_present, present_ones, covered_by, own_bitmap}
use Rattle.std.specs.Prelude.{is_some}
use Rattle.asn1_model.specs.Normal.{presence_bits, is_required, presence_bit_unless}
use Rattle.asn1_model.specs.Versions.{carried, grow, carried_parts, all_absent, both_parts, ExtendsEach}
use Rattle.asn1_model.proofs.Forms.{map_parts}
use Rattle.asn1_laws_fronts.proofs.Fronts.{Agree, agree_with_refused, agree_map, agree_both, agree_if_right, agree_nothing}
use Rattle.asn1_laws_fronts.proofs.Additions as adding
use Rattle.asn1_laws_fronts.proofs.Additions.{unless_equal, no_any, cond_some}
use Rattle.asn1_laws_fronts.proofs.Spelled.{presence_bits_long}
use Rattle.asn1_laws_versions.proofs.Taken.{taken, taken_same, taken_both, taken_refused, taken_if, taken_given, right_given}
use Rattle.asn1_laws_versions.proofs.Keeping.{kept_required, take_all}

-- ---- what there is
abbrev pub There : {X : Type 0} → Option X → Type 0
There {X} o = (x : X) × (o ≡ Some x)

pub there_map : {X Y : Type 0} (f : X → Y) (o : Option X) → There o → There (option_map f o)
there_map f o t = (f t.0, ap (option_map f) t.1)

pub there_chain : {X Y : Type 0} (o : Option X) (k : X → Option Y) → There o → ((x : X) → There (k x)) → There (option_and_then k o)
there_chain None k t h = let e = t.1 in cc
there_chain (Some x) k t h = h x

pub there_both : (o p : Option Parts) → There o → There p → There (both_parts o p)
there_both None p t u = let e = t.1 in cc
there_both (Some ps) None t u = let e = u.1 in cc
there_both (Some ps) (Some qs) t u = (_, refl)

-- the newer value can be carried over to the older version, and, if the encoding is read as it is written, the older
-- one to the newer
abbrev pub Carried : Bool → Schema → Schema → Value → Value → Type 0
Carried m s s' x v = There (carried false s s' v) × (m ≡ true → There (grow s s' x))

abbrev pub PartsCarried : Bool → Components → Components → Parts → Parts → Type 0
PartsCarried m cs cs' ps qs = There (carried_parts false cs cs' qs) × (m ≡ true → There (carried_parts true cs cs' ps))

present_carried : (m : Bool) (t t' : List Tag) (o o' : Presence) (s s' : Schema) (cs cs' : Components) (x v : Value)
    (ps qs : Parts) → Carried m s s' x v → PartsCarried m cs cs' ps qs → PartsCarried m (component t o s cs) (component t' o' s' cs') (present x ps) (present v qs)
unfolding carried_parts
present_carried m t t' o o' s s' cs cs' x v ps qs h k =
    (there_chain (carried false s s' v) _ h.0 (λ w. there_map (λ rs. present w rs) _ k.0), λ q. there_chain (grow s s' x) _ (h.1 q) (λ w. there_map (λ rs. present w rs) _ (k.1 q)))

absent_carried : (m : Bool) (t t' : List Tag) (o o' : Presence) (s s' : Schema) (cs cs' : Components) (ps qs : Parts) →
    PartsCarried m cs cs' ps qs → PartsCarried m (component t o s cs) (component t' o' s' cs') (absent ps) (absent qs)
unfolding carried_parts
absent_carried m t t' o o' s s' cs cs' ps qs k = (there_map absent _ k.0, λ q. there_map absent _ (k.1 q))

no_parts_carried : (m : Bool) → PartsCarried m no_component no_component end end
unfolding carried_parts
no_parts_carried m = ((end, refl), λ q. (end, refl))

-- ---- what an extension keeps
presence_bits_further : (r r' m n : Bool) (ms ns : List Bool) → r' ≡ r → presence_bit_unless r m ms ≡ presence_bit_unless r' n ns → (ms ≡ ns) × ((r ≡ true) ⊎ (m ≡ n))
presence_bits_further r r' m n ms ns k e = unless_equal r m n ms ns (e ∙ ap (λ r. presence_bit_unless r n ns) k)

unless_long : (r r' m : Bool) (ms ns : List Bool) → r' ≡ r → length ms ≡ length ns → length (presence_bit_unless r m ms) ≡ length (presence_bit_unless r' m ns)
unless_long true true m ms ns e h = h
unless_long false false m ms ns e h = ap suc h
unless_long true false m ms ns e h = cc
unless_long false true m ms ns e h = cc

ends_long : (cs cs' : Components) → ExtendsEach false cs cs' → length (presence_bits cs end) ≡ length (presence_bits cs' end)
unfolding ExtendsEach
ends_long no_component no_component h = refl
ends_long no_component (component t' o' s' cs') h = absurd h
ends_long (component t o s cs) no_component h = absurd h
ends_long (component t o s cs) (component t' o' s' cs') h = unless_long (is_required o) (is_required o') false _ _ (kept_required s s' o o' h.1) (ends_long cs cs' h.3)

-- both versions have the same number of presence bits
pub presence_bits_meet : (cs cs' : Components) (ps qs : Parts) → ExtendsEach false cs cs' → length (presence_bits cs ps) ≡ length (presence_bits cs' qs)
presence_bits_meet cs cs' ps qs h = presence_bits_long cs ps end ∙ ends_long cs cs' h ∙ presence_bits_long cs' end qs

-- ---- components in pairs
abbrev pub EachPair : (Presence → Schema → Presence → Schema → Type 0) → Components → Components → Type 0
EachPair Q (component t o s cs) (component t' o' s' cs') = Q o s o' s' × EachPair Q cs cs'
EachPair Q cs cs' = Unit {0}

pub pair_map : {P Q : Presence → Schema → Presence → Schema → Type 0} (cs cs' : Components) →
    ((o : Presence) (s : Schema) (o' : Presence) (s' : Schema) → P o s o' s' → Q o s o' s') → EachPair P cs cs' → EachPair Q cs cs'
pair_map no_component cs' f h = tt
pair_map (component t o s cs) no_component f h = tt
pair_map (component t o s cs) (component t' o' s' cs') f h = (f o s o' s' h.0, pair_map cs cs' f h.1)

module _ (F : Type 0) (D : F → Type 0) (A : Type 0) (free : F → Bool) (m : Bool) where
  abbrev Forms : Type 0
  Forms = Form F D A

  abbrev pub Meets : Forms → Forms → Type 0 → Type 0
  Meets x y P = Agree {F = F} {D = D} {A = A} free (taken free m x) y P

  one_absent : (r : Bool) (x y : Forms) (P : Type 0) → r ≡ true → Agree {F = F} {D = D} {A = A} free x (cond r refused y) P
  one_absent true x y P h = agree_with_refused free _ _
  one_absent false x y P h = cc

  other_absent : (r : Bool) (x y : Forms) (P : Type 0) → r ≡ true → Meets (cond r refused x) y P
  other_absent true x y P h = taken_refused free m _ _
  other_absent false x y P h = cc

  if_absent : (r r' : Bool) (x y : Forms) (P : Type 0) → r' ≡ r → Meets x y P → Meets (cond r refused x) (cond r' refused y) P
  if_absent true r' x y P e h = taken_refused free m _ _
  if_absent false true x y P e h = cc
  if_absent false false x y P e h = h

  unlike : (r : Bool) (b c : Bool) → (b ≡ c → ⊥) → (r ≡ true) ⊎ (b ≡ c) → r ≡ true
  unlike r b c n (inl e) = e
  unlike r b c n (inr e) = absurd (n e)

  true_false : true ≡ false → ⊥
  true_false e = cc

  false_true : false ≡ true → ⊥
  false_true e = cc

  -- ---- components of a root
  module _ (shown : Presence → Schema → Value → Form F D A) where
    abbrev pub ShownMeet : Presence → Schema → Presence → Schema → Type 0
    ShownMeet o s o' s' = (x v : Value) → Meets (shown o s x) (shown o' s' v) (Carried m s s' x v)

    abbrev Shown : Components → Parts → Forms
    Shown cs ps = adding.components_of F D A free shown cs ps

    pub components_meet : (cs cs' : Components) (ps qs : Parts) → ExtendsEach false cs cs' → EachPair ShownMeet cs cs' →
        presence_bits cs ps ≡ presence_bits cs' qs → Meets (Shown cs ps) (Shown cs' qs) (PartsCarried m cs cs' ps qs)
    unfolding ExtendsEach
    components_meet no_component no_component end end h k e = agree_map free (λ u. no_parts_carried m) (taken_same free m _ _ _ (agree_nothing free))
    components_meet no_component no_component end qs h k e = agree_with_refused free _ _
    components_meet no_component no_component ps qs h k e = taken_refused free m _ _
    components_meet no_component (component t' o' s' cs') ps qs h k e = absurd h
    components_meet (component t o s cs) no_component ps qs h k e = absurd h
    components_meet (component t o s cs) (component t' o' s' cs') (present x ps) (present v qs) h k e =
        agree_map free (λ q. present_carried m t t' o o' s s' cs cs' x v ps qs q.0 q.1)
        (taken_both free m _ _ _ _ _ _ (k.0 x v)
        (λ u. components_meet cs cs' ps qs h.3 k.1 ((presence_bits_further (is_required o) (is_required o') true true _ _ (kept_required s s' o o' h.1) e).0)))
    components_meet (component t o s cs) (component t' o' s' cs') (present x ps) (absent qs) h k e =
        one_absent (is_required o') _ _ _ (kept_required s s' o o' h.1
        ∙ unlike (is_required o) true false true_false ((presence_bits_further (is_required o) (is_required o') true false _ _ (kept_required s s' o o' h.1) e).1))
    components_meet (component t o s cs) (component t' o' s' cs') (present x ps) end h k e = agree_with_refused free _ _
    components_meet (component t o s cs) (component t' o' s' cs') (absent ps) (present v qs) h k e =
        other_absent (is_required o) _ _ _ (unlike (is_required o) false true false_true ((presence_bits_further (is_required o) (is_required o') false true _ _ (kept_required s s' o o' h.1) e).1))
    components_meet (component t o s cs) (component t' o' s' cs') (absent ps) (absent qs) h k e =
        if_absent (is_required o) (is_required o') _ _ _ (kept_required s s' o o' h.1)
        (agree_map free (λ q. absent_carried m t t' o o' s s' cs cs' ps qs q)
        (components_meet cs cs' ps qs h.3 k.1 ((presence_bits_further (is_required o) (is_required o') false false _ _ (kept_required s s' o o' h.1) e).0)))
    components_meet (component t o s cs) (component t' o' s' cs') (absent ps) end h k e = agree_with_refused free _ _
    components_meet (component t o s cs) (component t' o' s' cs') end qs h k e = taken_refused free m _ _

  -- ---- additions
  module _ (unknown : List ℕ → Form F D A)
      (unknown_alike : (os ps : List ℕ) → Agree {F = F} {D = D} {A = A} free (unknown os) (unknown ps) (os ≡ ps))
      (added : Presence → Schema → Value → Form F D A) (unknown_added : (o : Presence) (s : Schema) (v : Value) (os : List ℕ) →
      Agree {F = F} {D = D} {A = A} free (unknown os) (added o s v) (Unit {0})) where
    abbrev pub AddedMeet : Presence → Schema → Presence → Schema → Type 0
    AddedMeet o s o' s' = (x v : Value) → Meets (added o s x) (added o' s' v) (Carried m s s' x v)

    abbrev Added : Components → Parts → Option (List (Option (Form F D A)))
    Added cs ps = adding.additions_of F D A free unknown unknown_alike added cs ps

    abbrev Tells : List (Option (Form F D A)) → List (Option (Form F D A)) → Type 0
    Tells xs all = adding.Tells F D A free unknown unknown_alike xs all

    abbrev Flags : List (Option (Form F D A)) → List Bool
    Flags xs = map (λ a. is_some a) xs

    abbrev No : List (Option (Form F D A)) → Type 0
    No xs = is_any_present xs ≡ false

    abbrev Spread : List (Option (List ℕ)) → List (Option (Form F D A))
    Spread more = map (option_map unknown) more

    unless_required : (r : Bool) (o : Option (List (Option Forms))) (xs : List (Option Forms)) → cond r None o ≡ Some xs → o ≡ Some xs
    unless_required true o xs e = cc
    unless_required false o xs e = e

    absent_added : (t : List Tag) (o : Presence) (s : Schema) (cs : Components) (ps : Parts) (xs : List (Option Forms)) →
        Added (component t o s cs) (absent ps) ≡ Some xs → (zs : List (Option Forms)) × (Added cs ps ≡ Some zs) × (None ∷ zs ≡ xs)
    absent_added t o s cs ps xs e = map_parts (Added cs ps) (λ zs. None ∷ zs) xs (unless_required (is_required o) _ _ e)

    present_added : (t : List Tag) (o : Presence) (s : Schema) (cs : Components) (v : Value) (ps : Parts)
        (xs : List (Option Forms)) → Added (component t o s cs) (present v ps) ≡ Some xs → (zs : List (Option Forms)) × (Added cs ps ≡ Some zs) × (Some (added o s v) ∷ zs ≡ xs)
    present_added t o s cs v ps xs e = map_parts (Added cs ps) (λ zs. Some (added o s v) ∷ zs) xs e

    is_one : (x : Forms) (xs zs : List (Option Forms)) → Some x ∷ zs ≡ xs → No xs → ⊥
    is_one x xs zs e n = let q : true ≡ false = subst (λ l. No l) (sym e) n in true_false q

    none_further : (xs zs : List (Option Forms)) → None ∷ zs ≡ xs → No xs → No zs
    none_further xs zs e n = subst (λ l. No l) (sym e) n

    -- ---- additions, all of which are absent
    may_be_absent : (o : Presence) (t : List Tag) (s : Schema) (cs : Components) (l : Option (List (Option Forms)))
        (xs : List (Option Forms)) → cond (is_required o) None l ≡ Some xs → There (all_absent cs) → There (all_absent (component t o s cs))
    may_be_absent required t s cs l xs e h = cc
    may_be_absent optional t s cs l xs e h = there_map absent _ h
    may_be_absent (by_default d) t s cs l xs e h = there_map absent _ h

    absent_there : (cs : Components) (qs : Parts) (ys : List (Option Forms)) → Added cs qs ≡ Some ys → No ys → There (all_absent cs)
    absent_there no_component qs ys f i = (end, refl)
    absent_there (component t o s cs) end ys f i = cc
    absent_there (component t o s cs) (absent qs) ys f i =
        let b = absent_added t o s cs qs ys f in
        may_be_absent o t s cs _ ys f (absent_there cs qs b.0 b.1 (none_further ys b.0 b.2 i))
    absent_there (component t o s cs) (present v qs) ys f i = let b = present_added t o s cs v qs ys f in absurd (is_one _ ys b.0 b.2 i)

    pub none_meet : (more : Bool) (cs cs' : Components) (ps qs : Parts) (xs ys : List (Option Forms)) → ExtendsEach more cs cs' →
        Added cs ps ≡ Some xs → Added cs' qs ≡ Some ys → No xs → No ys → There (carried_parts false cs cs' qs) × There (carried_parts true cs cs' ps)
    unfolding ExtendsEach carried_parts
    none_meet more no_component cs' end qs xs ys h e f i j = ((end, refl), absent_there cs' qs ys f j)
    none_meet more no_component cs' (absent ps) qs xs ys h e f i j = cc
    none_meet more no_component cs' (present x ps) qs xs ys h e f i j = cc
    none_meet more (component t o s cs) no_component ps qs xs ys h e f i j = absurd h
    none_meet more (component t o s cs) (component t' o' s' cs') end qs xs ys h e f i j = cc
    none_meet more (component t o s cs) (component t' o' s' cs') (present x ps) qs xs ys h e f i j = let b = present_added t o s cs x ps xs e in absurd (is_one _ xs b.0 b.2 i)
    none_meet more (component t o s cs) (component t' o' s' cs') (absent ps) end xs ys h e f i j = cc
    none_meet more (component t o s cs) (component t' o' s' cs') (absent ps) (present v qs) xs ys h e f i j = let b = present_added t' o' s' cs' v qs ys f in absurd (is_one _ ys b.0 b.2 j)
    none_meet more (component t o s cs) (component t' o' s' cs') (absent ps) (absent qs) xs ys h e f i j =
        let a = absent_added t o s cs ps xs e in
        let b = absent_added t' o' s' cs' qs ys f in
        let r = none_meet more cs cs' ps qs a.0 b.0 h.3 a.1 b.1 (none_further xs a.0 a.2 i) (none_further ys b.0 b.2 j) in
        (there_map absent _ r.0, there_map absent _ r.1)

    -- ---- additions that the older version does not know
    unknown_place : (y : Option Forms) (ys others : List (Option Forms)) (more : List (Option (List ℕ))) → Tells (y ∷ ys) others →
        Flags (Spread more) ≡ Flags others → ((os : List ℕ) (x : Forms) → y ≡ Some x →
        Agree {F = F} {D = D} {A = A} free (unknown os) x (Unit {0})) →
        ((more : List (Option (List ℕ))) (others : List (Option Forms)) → Tells ys others → Flags (Spread more) ≡ Flags others →
        Agree {F = F} {D = D} {A = A} free (joined (present_ones (Spread more))) (joined (present_ones others)) (Unit {0})) →
        Agree {F = F} {D = D} {A = A} free (joined (present_ones (Spread more))) (joined (present_ones others)) (Unit {0})
    unknown_place y ys [] [] t e h k = agree_nothing free
    unknown_place y ys (b ∷ others) [] t e h k = cc
    unknown_place y ys [] (a ∷ more) t e h k = cc
    unknown_place y ys (None ∷ others) (None ∷ more) t e h k = k more others t.1 cc
    unknown_place y ys (Some x ∷ others) (None ∷ more) t e h k = cc
    unknown_place y ys (None ∷ others) (Some os ∷ more) t e h k = cc
    unknown_place y ys (Some x ∷ others) (Some os ∷ more) t e h k = agree_map free (λ q. tt) (agree_both free (h os x t.0) (λ u. k more others t.1 cc))

    none_is_none : (os : List ℕ) (x : Forms) → None ≡ Some x → Agree {F = F} {D = D} {A = A} free (unknown os) x (Unit {0})
    none_is_none os x e = cc

    unknowns_meet : (cs : Components) (qs : Parts) (ys others : List (Option Forms)) (more : List (Option (List ℕ))) → Added cs qs
        ≡ Some ys → Tells ys others → Flags (Spread more) ≡ Flags others → Agree {F = F} {D = D} {A = A} free (joined (present_ones (Spread more))) (joined (present_ones others)) (Unit {0})
    unknowns_meet no_component end ys others more f t e =
        let b : [] ≡ ys = cc in
        let u : Tells [] others = subst (λ l. Tells l others) (sym b) t in
        subst (λ l. Agree free (joined (present_ones (Spread more))) (joined (present_ones l)) (Unit {0})) u.1
        (adding.unknowns_alike F D A free unknown unknown_alike more u.0 (e ∙ ap (λ l. Flags l) (sym u.1)))
    unknowns_meet no_component (absent qs) ys others more f t e = cc
    unknowns_meet no_component (present v qs) ys others more f t e = cc
    unknowns_meet (component k o s cs) end ys others more f t e = cc
    unknowns_meet (component k o s cs) (absent qs) ys others more f t e =
        let b = absent_added k o s cs qs ys f in
        unknown_place None b.0 others more (subst (λ l. Tells l others) (sym b.2) t) e none_is_none (λ more others t' e'. unknowns_meet cs qs b.0 others more b.1 t' e')
    unknowns_meet (component k o s cs) (present v qs) ys others more f t e =
        let b = present_added k o s cs v qs ys f in
        let one : (os : List ℕ) (x : Forms) → Some (added o s v) ≡ Some x →
        Agree {F = F} {D = D} {A = A} free (unknown os) x (Unit {0}) = λ os x q. subst (λ z. Agree free (unknown os) z (Unit {0})) (some_one q) (unknown_added o s v os) in
        unknown_place (Some (added o s v)) b.0 others more (subst (λ l. Tells l others) (sym b.2) t) e one (λ more others t' e'. unknowns_meet cs qs b.0 others more b.1 t' e')
      where
        some_one : {x y : Forms} → Some x ≡ Some y → x ≡ y
        some_one e = cc

    -- ---- one position in both versions
    places_meet : (x y : Option Forms) (xs ys all others : List (Option Forms)) (P : Type 0) → Tells (x ∷ xs) all →
        (m ≡ true → length all ≡ suc (length xs)) → Tells (y ∷ ys) others → Flags all ≡ Flags others →
        (No (x ∷ xs) → No (y ∷ ys) → P) → (is_some x ≡ is_some y → (us vs : List (Option Forms)) → Tells xs us →
        (m ≡ true → length us ≡ length xs) → Tells ys vs → Flags us ≡ Flags vs →
        Meets (joined (present_ones (x ∷ us))) (joined (present_ones (y ∷ vs))) P) → Meets (joined (present_ones all)) (joined (present_ones others)) P
    places_meet x y xs ys [] [] P t l u e k c = taken_same free m _ _ _ (agree_map free (λ q. k t u) (agree_nothing free))
    places_meet x y xs ys [] (b ∷ others) P t l u e k c = cc
    places_meet x y xs ys (a ∷ all) [] P t l u e k c = cc
    places_meet x y xs ys (a ∷ all) (b ∷ others) P t l u e k c =
        let head : is_some a ≡ is_some b = cc in
        let tail : Flags all ≡ Flags others = cc in
        let flags : is_some x ≡ is_some y = ap (λ z. is_some z) t.0 ∙ head ∙ ap (λ z. is_some z) (sym u.0) in
        subst (λ z. Meets (joined (present_ones (z ∷ all))) (joined (present_ones (b ∷ others))) P) t.0
        (subst (λ z. Meets (joined (present_ones (x ∷ all))) (joined (present_ones (z ∷ others))) P) u.0 (c flags all others t.1 (λ q. one_less _ _ (l q)) u.1 tail))
      where
        one_less : (i j : ℕ) → suc i ≡ suc j → i ≡ j
        one_less i j e = cc

    -- what is not said of the newer version's additions
    not_told : (ys : List (Option Forms)) → Tells ys [] → No ys
    not_told [] t = refl
    not_told (y ∷ ys) t = t

    no_others : (all others : List (Option Forms)) → Flags all ≡ Flags others → length all ≡ 0 → others ≡ []
    no_others [] [] e l = refl
    no_others [] (b ∷ others) e l = cc
    no_others (a ∷ all) others e l = absurd (none_is_some _ l)
      where
        none_is_some : (n : ℕ) → suc n ≡ 0 → ⊥
        none_is_some n e = cc

    further_meet : (cs' : Components) (ps qs : Parts) (xs ys all others : List (Option Forms)) → Added no_component ps ≡ Some xs →
        Added cs' qs ≡ Some ys → Tells xs all → (m ≡ true → length all ≡ length xs) → Tells ys others → Flags all ≡ Flags others →
        Meets (joined (present_ones all)) (joined (present_ones others)) (PartsCarried m no_component cs' ps qs)
    unfolding carried_parts
    further_meet cs' end qs xs ys all others e f t l u w =
        let a : [] ≡ xs = cc in
        let t' : Tells [] all = subst (λ l. Tells l all) (sym a) t in
        let carried : PartsCarried m no_component cs' end qs =
        ((end, refl), λ q. let n : others ≡ [] = no_others all others w (l q ∙ ap length (sym a)) in absent_there cs' qs ys f (not_told ys (subst (λ l. Tells ys l) n u))) in
        subst (λ l. Meets (joined (present_ones l)) (joined (present_ones others)) (PartsCarried m no_component cs' end qs)) t'.1
        (taken_same free m _ _ _ (agree_map free (λ q. carried) (unknowns_meet cs' qs ys others t'.0 f u (ap (λ l. Flags l) t'.1 ∙ w))))
    further_meet cs' (absent ps) qs xs ys all others e f t l u w = cc
    further_meet cs' (present x ps) qs xs ys all others e f t l u w = cc

    pub weaken : (more : Bool) (cs cs' : Components) (ps qs : Parts) → There (carried_parts false cs cs' qs) × There (carried_parts true cs cs' ps) → PartsCarried m cs cs' ps qs
    weaken more cs cs' ps qs h = (h.0, λ q. h.1)

    further_length : (x : Option Forms) (xs zs all : List (Option Forms)) → x ∷ zs ≡ xs → (m ≡ true → length all ≡ length xs) → m ≡ true → length all ≡ suc (length zs)
    further_length x xs zs all e l q = l q ∙ ap length (sym e)

    pub present_meet : (more : Bool) (cs cs' : Components) (ps qs : Parts) (xs ys all others : List (Option Forms)) →
        ExtendsEach more cs cs' → EachPair AddedMeet cs cs' → Added cs ps ≡ Some xs → Added cs' qs ≡ Some ys → Tells xs all →
        (m ≡ true → length all ≡ length xs) → Tells ys others → Flags all ≡ Flags others → Meets (joined (present_ones all)) (joined (present_ones others)) (PartsCarried m cs cs' ps qs)
    unfolding ExtendsEach
    present_meet more no_component cs' ps qs xs ys all others h k e f t l u w = further_meet cs' ps qs xs ys all others e f t l u w
    present_meet more (component n o s cs) no_component ps qs xs ys all others h k e f t l u w = absurd h
    present_meet more (component n o s cs) (component n' o' s' cs') end qs xs ys all others h k e f t l u w = cc
    present_meet more (component n o s cs) (component n' o' s' cs') (absent ps) end xs ys all others h k e f t l u w = cc
    present_meet more (component n o s cs) (component n' o' s' cs') (present x ps) end xs ys all others h k e f t l u w = cc
    present_meet more (component n o s cs) (component n' o' s' cs') (absent ps) (absent qs) xs ys all others h k e f t l u w =
        let a = absent_added n o s cs ps xs e in
        let b = absent_added n' o' s' cs' qs ys f in
        places_meet None None a.0 b.0 all others _ (subst (λ l. Tells l all) (sym a.2) t) (further_length None xs a.0 all a.2 l)
        (subst (λ l. Tells l others) (sym b.2) u) w
        (λ i j. absent_carried m n n' o o' s s' cs cs' ps qs
        (weaken more cs cs' ps qs (none_meet more cs cs' ps qs a.0 b.0 h.3 a.1 b.1 i j)))
        (λ i us vs t' l' u' w'. agree_map free (λ q. absent_carried m n n' o o' s s' cs cs' ps qs q) (present_meet more cs cs' ps qs a.0 b.0 us vs h.3 k.1 a.1 b.1 t' l' u' w'))
    present_meet more (component n o s cs) (component n' o' s' cs') (absent ps) (present v qs) xs ys all others h k e f t l u w =
        let a = absent_added n o s cs ps xs e in
        let b = present_added n' o' s' cs' v qs ys f in
        places_meet None (Some (added o' s' v)) a.0 b.0 all others _ (subst (λ l. Tells l all) (sym a.2) t)
        (further_length None xs a.0 all a.2 l) (subst (λ l. Tells l others) (sym b.2) u) w (λ i j. absurd (true_false j)) (λ i us vs t' l' u' w'. absurd (false_true i))
    present_meet more (component n o s cs) (component n' o' s' cs') (present x ps) (absent qs) xs ys all others h k e f t l u w =
        let a = present_added n o s cs x ps xs e in
        let b = absent_added n' o' s' cs' qs ys f in
        places_meet (Some (added o s x)) None a.0 b.0 all others _ (subst (λ l. Tells l all) (sym a.2) t)
        (further_length (Some (added o s x)) xs a.0 all a.2 l) (subst (λ l. Tells l others) (sym b.2) u) w (λ i j. absurd (true_false i)) (λ i us vs t' l' u' w'. absurd (true_false i))
    present_meet more (component n o s cs) (component n' o' s' cs') (present x ps) (present v qs) xs ys all others h k e f t l u w =
        let a = present_added n o s cs x ps xs e in
        let b = present_added n' o' s' cs' v qs ys f in
        places_meet (Some (added o s x)) (Some (added o' s' v)) a.0 b.0 all others _ (subst (λ l. Tells l all) (sym a.2) t)
        (further_length (Some (added o s x)) xs a.0 all a.2 l) (subst (λ l. Tells l others) (sym b.2) u) w
        (λ i j. absurd (true_false i)) (λ i us vs t' l' u' w'. agree_map free
        (λ q. present_carried m n n' o o' s s' cs cs' x v ps qs q.0 q.1) (taken_both free m _ _ _ _ _ _ (k.0 x v) (λ r. present_meet more cs cs' ps qs a.0 b.0 us vs h.3 k.1 a.1 b.1 t' l' u' w')))

    -- ---- with or without a bitmap
    own_is : (t : Bool) (xs : List (Option Forms)) (b : Bitmap) → Some b ≡ cond t (Some (record { covered = length xs; further = [] })) None → b ≡ record { covered = length xs; further = [] }
    own_is true xs b e = cc
    own_is false xs b e = cc

    own_length : (xs all : List (Option Forms)) (b : Bitmap) → Some b ≡ own_bitmap xs → covered_by unknown b xs ≡ Some all → length all ≡ length xs
    own_length xs all b e f =
        let own : Bitmap = record { covered = length xs; further = [] } in
        let g : covered_by unknown own xs ≡ Some all = subst (λ b. covered_by unknown b xs ≡ Some all) (own_is (is_any_present xs) xs b e) f in
        let q = cond_some _ _ all g in
        ap length (sym q.1) ∙ ap length (append-nil (take (length xs) xs)) ∙ ap length (take_all xs)

    first_differs : (ms ns : List Bool) → false ∷ ms ≡ true ∷ ns → ⊥
    first_differs ms ns e = cc

    other_differs : (ms ns : List Bool) → true ∷ ms ≡ false ∷ ns → ⊥
    other_differs ms ns e = cc

    module _ (preamble : List Bool → Form F D A) (preambles_alike : (ms ns : List Bool) → length ms ≡ length ns →
        Agree {F = F} {D = D} {A = A} free (preamble ms) (preamble ns) (ms ≡ ns)) (bits : List (Option (Form F D A)) → Form F D A)
        (bits_alike : (xs ys : List (Option (Form F D A))) →
        Agree {F = F} {D = D} {A = A} free (bits xs) (bits ys) (map (λ a. is_some a) xs ≡ map (λ a. is_some a) ys))
        (hidden : Form F D A → Form F D A) (hidden_left : (x y : Form F D A) (P : Type 0) →
        Agree {F = F} {D = D} {A = A} free x y P → Agree {F = F} {D = D} {A = A} free (hidden x) y P)
        (hidden_right : (x y : Form F D A) (P : Type 0) → Agree {F = F} {D = D} {A = A} free x y P →
        Agree {F = F} {D = D} {A = A} free x (hidden y) P) (hidden_taken : (x y : Form F D A) (P : Type 0) →
        Agree {F = F} {D = D} {A = A} free (taken free m x) y P → Agree {F = F} {D = D} {A = A} free (taken free m (hidden x)) y P) where
      abbrev With : List Bool → Form F D A → List (Option (Form F D A)) → Form F D A
      With ms root all = adding.with_all F D A free unknown unknown_alike added preamble preambles_alike bits bits_alike hidden hidden_left hidden_right ms root all

      abbrev Bitmapped : List Bool → Form F D A → List (Option (Form F D A)) → Option Bitmap → Form F D A
      Bitmapped ms root xs b = adding.bitmapped F D A free unknown unknown_alike added preamble preambles_alike bits bits_alike hidden hidden_left hidden_right ms root xs b

      left_shown : (t : Bool) (x y : Forms) (Q : Type 0) → Meets x y Q → Meets (cond t x (hidden x)) y Q
      left_shown true x y Q h = h
      left_shown false x y Q h = hidden_taken x y Q h

      right_shown : (t : Bool) (x y : Forms) (Q : Type 0) → Agree {F = F} {D = D} {A = A} free x y Q → Agree {F = F} {D = D} {A = A} free x (cond t y (hidden y)) Q
      right_shown true x y Q h = h
      right_shown false x y Q h = hidden_right x y Q h

      module _ (ms ns : List Bool) (long : length ms ≡ length ns) (x y : Form F D A) (P : Type 0) (roots_meet : ms ≡ ns → Agree {F = F} {D = D} {A = A} free (taken free m x) y P) where
        without_and_with : (others : List (Option Forms)) (Q : Type 0) → Meets (both (preamble (false ∷ ms)) x) (With ns y others) Q
        without_and_with others Q = agree_map free (λ (q : ⊥ × Q). absurd (q.0))
            (taken_both free m _ _ _ _ ⊥ Q (taken_same free m _ _ _ (agree_map free (λ e. first_differs ms ns e) (preambles_alike (false ∷ ms) (true ∷ ns) (ap suc long)))) (λ e. absurd e))

        with_and_without : (all : List (Option Forms)) (Q : Type 0) → Meets (With ms x all) (both (preamble (false ∷ ns)) y) Q
        with_and_without all Q = agree_map free (λ (q : ⊥ × Q). absurd (q.0))
            (taken_both free m _ _ _ _ ⊥ Q (taken_same free m _ _ _ (agree_map free (λ e. other_differs ms ns e) (preambles_alike (true ∷ ms) (false ∷ ns) (ap suc long)))) (λ e. absurd e))

        without_bitmaps : Meets (both (preamble (false ∷ ms)) x) (both (preamble (false ∷ ns)) y) P
        without_bitmaps = agree_map free (λ q. q.1) (taken_both free m _ _ _ _ _ _ (taken_same free m _ _ _ (preambles_alike (false ∷ ms) (false ∷ ns) (ap suc long))) (λ e. roots_meet cc))

        module _ (more : Bool) (cs cs' : Components) (ps qs : Parts) (xs ys : List (Option (Form F D A)))
            (h : ExtendsEach more cs cs') (k : EachPair AddedMeet cs cs') (e : Added cs ps ≡ Some xs) (f : Added cs' qs ≡ Some ys) where
          with_bitmaps : (all others : List (Option Forms)) → Tells xs all → (m ≡ true → length all ≡ length xs) → Tells ys others →
              Meets (With ms x all) (With ns y others) (P × PartsCarried m cs cs' ps qs)
          with_bitmaps all others t l u = agree_map free (λ q. (q.1.0, q.1.1.1))
              (taken_both free m _ _ _ _ _ _ (taken_same free m _ _ _ (preambles_alike (true ∷ ms) (true ∷ ns) (ap suc long)))
              (λ i. taken_both free m _ _ _ _ _ _ (roots_meet cc)
              (λ j. taken_both free m _ _ _ _ _ _ (taken_same free m _ _ _ (bits_alike all others)) (λ w. present_meet more cs cs' ps qs xs ys all others h k e f t l u w))))

          pub bitmapped_meet : (b c : Option Bitmap) → (m ≡ true → b ≡ own_bitmap xs) → Meets (Bitmapped ms x xs b) (Bitmapped ns y ys c) (P × PartsCarried m cs cs' ps qs)
          bitmapped_meet None None o = taken_if free m (not (is_any_present xs)) (both (preamble (false ∷ ms)) x) _ _
              (λ i. agree_if_right free (not (is_any_present ys))
              (λ j. agree_map free (λ q. (q, weaken more cs cs' ps qs (none_meet more cs cs' ps qs xs ys h e f (no_any _ i) (no_any _ j)))) without_bitmaps))
          bitmapped_meet None (Some c) o = taken_if free m (not (is_any_present xs)) (both (preamble (false ∷ ms)) x) _ _
              (λ i. right_given free (covered_by unknown c ys) _ _ _ (λ others j. right_shown (is_any_present others) _ _ _ (without_and_with others _)))
          bitmapped_meet (Some b) None o = taken_given free m (covered_by unknown b xs) _ _ _
              (λ all i. agree_if_right free (not (is_any_present ys)) (λ j. left_shown (is_any_present all) _ _ _ (with_and_without all _)))
          bitmapped_meet (Some b) (Some c) o = taken_given free m (covered_by unknown b xs) _ _ _
              (λ all i. right_given free (covered_by unknown c ys) _ _ _
              (λ others j. left_shown (is_any_present all) _ _ _
              (right_shown (is_any_present others) _ _ _
              (with_bitmaps all others (adding.covered_tells F D A free unknown unknown_alike b xs all i)
              (λ q. own_length xs all b (o q) i) (adding.covered_tells F D A free unknown unknown_alike c ys others j)))))
