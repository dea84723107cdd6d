-- Prefixes of components and additions, for all rules at once: given the forms of a component and an addition, the
-- bits of a preamble and of a bitmap, and unknown additions.
use Rattle.std.proofs.Common.{◌≡◌, ℕ, zero, suc, ◌+◌, ◌≤◌, ◌==◌, ltb, not, Bool, true, false, cond, ◌&&◌, ◌||◌, List}
use Rattle.std.proofs.Common.{[], ◌∷◌, ◌++◌, length, take, drop, map, Option, Some, None, option_map, refl, ap, sym}
use Rattle.std.proofs.Common.{◌∙◌, subst, inl, inr, ◌⊎◌, arith}
use Rattle.std.proofs.lemmas.Bool.{and_parts, and_from, or_cases, ltb-true, eqb-true}
use Rattle.asn1_model.specs.Value.{Value, Parts, end, absent, present, same, same_parts}
use Rattle.asn1_model.specs.Schema.{Presence, Schema, Components, no_component, component}
use Rattle.asn1_model.specs.Form.{Form, refused, both, only_if, given, joined, Bitmap, is_any_present, present_ones, covered_by, exactly}
use Rattle.std.specs.Prelude.{is_some}
use Rattle.asn1_model.specs.Normal.{presence_bits, is_required, presence_bit_unless}
use Rattle.asn1_model.proofs.Forms.{map_parts}
use Rattle.asn1_laws_fronts.proofs.Fronts.{Agree, agree_refused, agree_with_refused, agree_map, agree_both, agree_both_apart, agree_given, agree_if, agree_if_left, agree_if_right, agree_nothing}
use Rattle.asn1_laws_values.proofs.Listed.{EachComponent}

pub unless_equal : (r m n : Bool) (ms ns : List Bool) → presence_bit_unless r m ms ≡ presence_bit_unless r n ns → (ms ≡ ns) × ((r ≡ true) ⊎ (m ≡ n))
unless_equal true m n ms ns e = (e, inl refl)
unless_equal false m n ms ns e = (cc, inr cc)

pub no_any : (t : Bool) → not t ≡ true → t ≡ false
no_any true e = sym e
no_any false e = refl

pub cond_some : {X : Type 0} (b : Bool) (x y : X) → cond b (Some x) None ≡ Some y → (b ≡ true) × (x ≡ y)
cond_some true x y e = (refl, cc)
cond_some false x y e = cc

two_parts : (v w : Value) (ps qs : Parts) → same v w ≡ true → same_parts ps qs ≡ true → same_parts (present v ps) (present w qs) ≡ true
unfolding same_parts
two_parts v w ps qs e f = and_from _ _ e f

absent_parts : (ps qs : Parts) → same_parts ps qs ≡ true → same_parts (absent ps) (absent qs) ≡ true
unfolding same_parts
absent_parts ps qs e = e

end_parts : same_parts end end ≡ true
unfolding same_parts
end_parts = refl

module _ (F : Type 0) (D : F → Type 0) (A : Type 0) (free : F → Bool) where
  abbrev Forms : Type 0
  Forms = Form F D A

  abbrev pub AlikeHere : Forms → Forms → Type 0 → Type 0
  AlikeHere x y P = Agree {F = F} {D = D} {A = A} free x y P

  -- ---- components of a root
  module _ (shown : Presence → Schema → Value → Form F D A) where
    abbrev pub AlikeShown : Presence → Schema → Type 0
    AlikeShown o s = (v w : Value) → AlikeHere (shown o s v) (shown o s w) (same v w ≡ true)

    abbrev pub components_of : Components → Parts → Form F D A
    components_of no_component end = exactly []
    components_of (component t o s cs) (present v ps) = both (shown o s v) (components_of cs ps)
    components_of (component t o s cs) (absent ps) = cond (is_required o) refused (components_of cs ps)
    components_of cs ps = refused

    if_absent : (r : Bool) (x y : Forms) (P : Type 0) → AlikeHere x y P → AlikeHere (cond r refused x) (cond r refused y) P
    if_absent true x y P h = agree_refused free _ _
    if_absent false x y P h = h

    one_absent : (r : Bool) (x y : Forms) (P : Type 0) → (r ≡ true) ⊎ (true ≡ false) → AlikeHere x (cond r refused y) P
    one_absent true x y P h = agree_with_refused free _ _
    one_absent false x y P (inl e) = cc
    one_absent false x y P (inr e) = cc

    other_absent : (r : Bool) (x y : Forms) (P : Type 0) → (r ≡ true) ⊎ (false ≡ true) → AlikeHere (cond r refused x) y P
    other_absent true x y P h = agree_refused free _ _
    other_absent false x y P (inl e) = cc
    other_absent false x y P (inr e) = cc

    pub components_alike : (cs : Components) (ps qs : Parts) → EachComponent AlikeShown cs → presence_bits cs ps
        ≡ presence_bits cs qs → AlikeHere (components_of cs ps) (components_of cs qs) (same_parts ps qs ≡ true)
    components_alike no_component end end h m = agree_map free (λ u. end_parts) (agree_nothing free)
    components_alike no_component end qs h m = agree_with_refused free _ _
    components_alike no_component ps qs h m = agree_refused free _ _
    components_alike (component t o s cs) (present v ps) (present w qs) h m =
        agree_map free (λ q. two_parts v w ps qs q.0 q.1)
        (agree_both free (h.0 v w) (λ e. components_alike cs ps qs h.1 ((unless_equal (is_required o) true true (presence_bits cs ps) (presence_bits cs qs) m).0)))
    components_alike (component t o s cs) (present v ps) (absent qs) h m = one_absent (is_required o) _ _ _ ((unless_equal (is_required o) true false (presence_bits cs ps) (presence_bits cs qs) m).1)
    components_alike (component t o s cs) (present v ps) end h m = agree_with_refused free _ _
    components_alike (component t o s cs) (absent ps) (present w qs) h m =
        other_absent (is_required o) _ _ _ ((unless_equal (is_required o) false true (presence_bits cs ps) (presence_bits cs qs) m).1)
    components_alike (component t o s cs) (absent ps) (absent qs) h m =
        if_absent (is_required o) _ _ _ (agree_map free (λ e. absent_parts ps qs e)
        (components_alike cs ps qs h.1 ((unless_equal (is_required o) false false (presence_bits cs ps) (presence_bits cs qs) m).0)))
    components_alike (component t o s cs) (absent ps) end h m = agree_with_refused free _ _
    components_alike (component t o s cs) end qs h m = agree_refused free _ _

  -- ---- additions
  module _ (unknown : List ℕ → Form F D A) (unknown_alike : (os ps : List ℕ) → AlikeHere (unknown os) (unknown ps) (os ≡ ps)) where
    -- the additions that a bitmap describes: the type's as far as it covers them, the others being absent, and unknown
    -- ones
    abbrev pub Tells : List (Option Forms) → List (Option Forms) → Type 0
    Tells [] all = (more : List (Option (List ℕ))) × (map (option_map unknown) more ≡ all)
    Tells (x ∷ xs) [] = is_any_present (x ∷ xs) ≡ false
    Tells (x ∷ xs) (y ∷ all) = (x ≡ y) × Tells xs all

    tells_of : (c : ℕ) (xs : List (Option Forms)) (more : List (Option (List ℕ))) → is_any_present (drop c xs) ≡ false →
        (length xs ≤ c) ⊎ (more ≡ []) → Tells xs (take c xs ++ map (option_map unknown) more)
    tells_of zero [] more h i = (more, refl)
    tells_of (suc c) [] more h i = (more, refl)
    tells_of zero (x ∷ xs) more h (inl i) = absurd (omega arith)
    tells_of zero (x ∷ xs) more h (inr i) = subst (λ l. Tells (x ∷ xs) (map (option_map unknown) l)) (sym i) h
    tells_of (suc c) (x ∷ xs) more h (inl i) = (refl, tells_of c xs more h (inl (omega arith)))
    tells_of (suc c) (x ∷ xs) more h (inr i) = (refl, tells_of c xs more h (inr i))

    none_of : (more : List (Option (List ℕ))) → (length more == 0) ≡ true → more ≡ []
    none_of [] e = refl
    none_of (x ∷ more) e = let h = eqb-true (length (x ∷ more)) 0 e in absurd (omega arith)

    pub covered_tells : (b : Bitmap) (xs all : List (Option Forms)) → covered_by unknown b xs ≡ Some all → Tells xs all
    covered_tells b xs all e =
        let q = cond_some (not (is_any_present (drop b.covered xs)) && (ltb (length xs) (b.covered + 1) || length b.further == 0)) (take b.covered xs ++ map (option_map unknown) b.further) all e in
        let p = and_parts _ _ q.0 in
        subst (λ l. Tells xs l) q.1 (tells_of b.covered xs b.further (no_any _ p.0) (cases (or_cases _ _ p.1)))
      where
        cases : (ltb (length xs) (b.covered + 1) ≡ true) ⊎ ((length b.further == 0) ≡ true) → (length xs ≤ b.covered) ⊎ (b.further ≡ [])
        cases (inl h) = let k = ltb-true _ _ h in inl (omega arith)
        cases (inr h) = inr (none_of b.further h)

    pub unknowns_alike : (more others : List (Option (List ℕ))) → map (λ a. is_some a) (map (option_map unknown) more)
        ≡ map (λ a. is_some a) (map (option_map unknown) others) →
        AlikeHere (joined (present_ones (map (option_map unknown) more))) (joined (present_ones (map (option_map unknown) others))) (Unit {0})
    unknowns_alike [] [] m = agree_nothing free
    unknowns_alike [] (b ∷ others) m = cc
    unknowns_alike (a ∷ more) [] m = cc
    unknowns_alike (None ∷ more) (None ∷ others) m = unknowns_alike more others cc
    unknowns_alike (None ∷ more) (Some os ∷ others) m = cc
    unknowns_alike (Some os ∷ more) (None ∷ others) m = cc
    unknowns_alike (Some os ∷ more) (Some ps ∷ others) m = agree_map free (λ q. tt) (agree_both free (unknown_alike os ps) (λ e. unknowns_alike more others cc))

    module _ (added : Presence → Schema → Value → Form F D A) where
      abbrev pub AlikeAdded : Presence → Schema → Type 0
      AlikeAdded o s = (v w : Value) → AlikeHere (added o s v) (added o s w) (same v w ≡ true)

      abbrev pub additions_of : Components → Parts → Option (List (Option Forms))
      additions_of no_component end = Some []
      additions_of (component t o s cs) (present v ps) = option_map (λ xs. Some (added o s v) ∷ xs) (additions_of cs ps)
      additions_of (component t o s cs) (absent ps) = cond (is_required o) None (option_map (λ xs. None ∷ xs) (additions_of cs ps))
      additions_of cs ps = None

      unless_required : (r : Bool) (o : Option (List (Option Forms))) (xs : List (Option Forms)) → cond r None o ≡ Some xs → o ≡ Some xs
      unless_required true o xs e = cc
      unless_required false o xs e = e

      -- parts, all of which are absent
      pub none_same : (cs : Components) (ps qs : Parts) (xs ys : List (Option Forms)) → additions_of cs ps ≡ Some xs →
          additions_of cs qs ≡ Some ys → is_any_present xs ≡ false → is_any_present ys ≡ false → same_parts ps qs ≡ true
      none_same no_component end end xs ys e f h i = end_parts
      none_same no_component end (absent qs) xs ys e f h i = cc
      none_same no_component end (present w qs) xs ys e f h i = cc
      none_same no_component (absent ps) qs xs ys e f h i = cc
      none_same no_component (present v ps) qs xs ys e f h i = cc
      none_same (component t o s cs) end qs xs ys e f h i = cc
      none_same (component t o s cs) (absent ps) end xs ys e f h i = cc
      none_same (component t o s cs) (absent ps) (absent qs) xs ys e f h i =
          let a = map_parts (additions_of cs ps) (λ zs. None ∷ zs) xs (unless_required (is_required o) _ _ e) in
          let b = map_parts (additions_of cs qs) (λ zs. None ∷ zs) ys (unless_required (is_required o) _ _ f) in
          absent_parts ps qs (none_same cs ps qs a.0 b.0 a.1 b.1 (subst (λ l. is_any_present l ≡ false) (sym a.2) h) (subst (λ l. is_any_present l ≡ false) (sym b.2) i))
      none_same (component t o s cs) (absent ps) (present w qs) xs ys e f h i = let b =
          map_parts (additions_of cs qs) (λ zs. Some (added o s w) ∷ zs) ys f in let c : true ≡ false = subst (λ l. is_any_present l ≡ false) (sym b.2) i in cc
      none_same (component t o s cs) (present v ps) qs xs ys e f h i = let a =
          map_parts (additions_of cs ps) (λ zs. Some (added o s v) ∷ zs) xs e in let c : true ≡ false = subst (λ l. is_any_present l ≡ false) (sym a.2) h in cc

      -- one position in both
      places_alike : (x y : Option Forms) (xs ys all others : List (Option Forms)) (P : Type 0) → Tells (x ∷ xs) all →
          Tells (y ∷ ys) others → map (λ a. is_some a) all ≡ map (λ a. is_some a) others →
          (is_any_present (x ∷ xs) ≡ false → is_any_present (y ∷ ys) ≡ false → P) →
          (is_some x ≡ is_some y → (us vs : List (Option Forms)) → Tells xs us → Tells ys vs → map (λ a. is_some a) us
          ≡ map (λ a. is_some a) vs → AlikeHere (joined (present_ones (x ∷ us))) (joined (present_ones (y ∷ vs))) P) → AlikeHere (joined (present_ones all)) (joined (present_ones others)) P
      places_alike x y xs ys [] [] P t u m k c = agree_map free (λ e. k t u) (agree_nothing free)
      places_alike x y xs ys [] (b ∷ others) P t u m k c = cc
      places_alike x y xs ys (a ∷ all) [] P t u m k c = cc
      places_alike x y xs ys (a ∷ all) (b ∷ others) P t u m k c =
          let head : is_some a ≡ is_some b = cc in
          let tail : map (λ a. is_some a) all ≡ map (λ a. is_some a) others = cc in
          let flags : is_some x ≡ is_some y = ap (λ z. is_some z) t.0 ∙ head ∙ ap (λ z. is_some z) (sym u.0) in
          subst (λ z. AlikeHere (joined (present_ones (z ∷ all))) (joined (present_ones (b ∷ others))) P) t.0
          (subst (λ z. AlikeHere (joined (present_ones (x ∷ all))) (joined (present_ones (z ∷ others))) P) u.0 (c flags all others t.1 u.1 tail))

      present_alike : (cs : Components) (ps qs : Parts) (xs ys all others : List (Option Forms)) → EachComponent AlikeAdded cs →
          additions_of cs ps ≡ Some xs → additions_of cs qs ≡ Some ys → Tells xs all → Tells ys others → map (λ a. is_some a) all
          ≡ map (λ a. is_some a) others → AlikeHere (joined (present_ones all)) (joined (present_ones others)) (same_parts ps qs ≡ true)
      present_alike no_component end end xs ys all others h e f t u m =
          let a : [] ≡ xs = cc in
          let b : [] ≡ ys = cc in
          let t' : Tells [] all = subst (λ l. Tells l all) (sym a) t in
          let u' : Tells [] others = subst (λ l. Tells l others) (sym b) u in
          subst (λ l. AlikeHere (joined (present_ones l)) (joined (present_ones others)) (same_parts end end ≡ true)) t'.1
          (subst (λ l. AlikeHere (joined (present_ones (map (option_map unknown) t'.0))) (joined (present_ones l))
          (same_parts end end ≡ true)) u'.1 (agree_map free (λ q. end_parts) (unknowns_alike t'.0 u'.0 (ap (λ l. map (λ a. is_some a) l) t'.1 ∙ m ∙ ap (λ l. map (λ a. is_some a) l) (sym u'.1)))))
      present_alike no_component end (absent qs) xs ys all others h e f t u m = cc
      present_alike no_component end (present w qs) xs ys all others h e f t u m = cc
      present_alike no_component (absent ps) qs xs ys all others h e f t u m = cc
      present_alike no_component (present v ps) qs xs ys all others h e f t u m = cc
      present_alike (component k o s cs) end qs xs ys all others h e f t u m = cc
      present_alike (component k o s cs) (absent ps) end xs ys all others h e f t u m = cc
      present_alike (component k o s cs) (present v ps) end xs ys all others h e f t u m = cc
      present_alike (component k o s cs) (absent ps) (absent qs) xs ys all others h e f t u m =
          let a = map_parts (additions_of cs ps) (λ zs. None ∷ zs) xs (unless_required (is_required o) _ _ e) in
          let b = map_parts (additions_of cs qs) (λ zs. None ∷ zs) ys (unless_required (is_required o) _ _ f) in
          places_alike None None a.0 b.0 all others _ (subst (λ l. Tells l all) (sym a.2) t)
          (subst (λ l. Tells l others) (sym b.2) u) m (λ i j. absent_parts ps qs (none_same cs ps qs a.0 b.0 a.1 b.1 i j))
          (λ i us vs t' u' m'. agree_map free (λ q. absent_parts ps qs q) (present_alike cs ps qs a.0 b.0 us vs h.1 a.1 b.1 t' u' m'))
      present_alike (component k o s cs) (absent ps) (present w qs) xs ys all others h e f t u m =
          let a = map_parts (additions_of cs ps) (λ zs. None ∷ zs) xs (unless_required (is_required o) _ _ e) in
          let b = map_parts (additions_of cs qs) (λ zs. Some (added o s w) ∷ zs) ys f in
          places_alike None (Some (added o s w)) a.0 b.0 all others _ (subst (λ l. Tells l all) (sym a.2) t) (subst (λ l. Tells l others) (sym b.2) u) m (λ i j. cc) (λ i us vs t' u' m'. cc)
      present_alike (component k o s cs) (present v ps) (absent qs) xs ys all others h e f t u m =
          let a = map_parts (additions_of cs ps) (λ zs. Some (added o s v) ∷ zs) xs e in
          let b = map_parts (additions_of cs qs) (λ zs. None ∷ zs) ys (unless_required (is_required o) _ _ f) in
          places_alike (Some (added o s v)) None a.0 b.0 all others _ (subst (λ l. Tells l all) (sym a.2) t) (subst (λ l. Tells l others) (sym b.2) u) m (λ i j. cc) (λ i us vs t' u' m'. cc)
      present_alike (component k o s cs) (present v ps) (present w qs) xs ys all others h e f t u m =
          let a = map_parts (additions_of cs ps) (λ zs. Some (added o s v) ∷ zs) xs e in
          let b = map_parts (additions_of cs qs) (λ zs. Some (added o s w) ∷ zs) ys f in
          places_alike (Some (added o s v)) (Some (added o s w)) a.0 b.0 all others _ (subst (λ l. Tells l all) (sym a.2) t)
          (subst (λ l. Tells l others) (sym b.2) u) m (λ i j. cc)
          (λ i us vs t' u' m'. agree_map free (λ q. two_parts v w ps qs q.0 q.1) (agree_both free (h.0 v w) (λ r. present_alike cs ps qs a.0 b.0 us vs h.1 a.1 b.1 t' u' m')))

      -- ---- with or without a bitmap
      module _ (preamble : List Bool → Form F D A) (preambles_alike : (ms ns : List Bool) → length ms ≡ length ns →
          AlikeHere (preamble ms) (preamble ns) (ms ≡ ns)) (bits : List (Option (Form F D A)) → Form F D A)
          (bits_alike : (xs ys : List (Option Forms)) →
          AlikeHere (bits xs) (bits ys) (map (λ a. is_some a) xs ≡ map (λ a. is_some a) ys)) (hidden : Form F D A → Form F D A)
          (hidden_left : (x y : Forms) (P : Type 0) → AlikeHere x y P → AlikeHere (hidden x) y P) (hidden_right : (x y : Forms) (P : Type 0) → AlikeHere x y P → AlikeHere x (hidden y) P) where
        abbrev pub with_all : List Bool → Form F D A → List (Option Forms) → Form F D A
        with_all ms root all = both (preamble (true ∷ ms)) (both root (both (bits all) (joined (present_ones all))))

        abbrev pub bitmapped : List Bool → Form F D A → List (Option Forms) → Option Bitmap → Form F D A
        bitmapped ms root xs None = only_if (not (is_any_present xs)) (both (preamble (false ∷ ms)) root)
        bitmapped ms root xs (Some b) = given (covered_by unknown b xs) (λ all. cond (is_any_present all) (with_all ms root all) (hidden (with_all ms root all)))

        shown_left : (t : Bool) (x y : Forms) (P : Type 0) → AlikeHere x y P → AlikeHere (cond t x (hidden x)) y P
        shown_left true x y P h = h
        shown_left false x y P h = hidden_left x y P h

        shown_right : (t : Bool) (x y : Forms) (P : Type 0) → AlikeHere x y P → AlikeHere x (cond t y (hidden y)) P
        shown_right true x y P h = h
        shown_right false x y P h = hidden_right x y P h

        first_differs : (ms ns : List Bool) → false ∷ ms ≡ true ∷ ns → ⊥
        first_differs ms ns e = cc

        module _ (ms ns : List Bool) (long : length ms ≡ length ns) (x y : Form F D A) (P : Type 0) (roots_alike : ms ≡ ns → AlikeHere x y P) where
          without_and_with : (all : List (Option Forms)) (Q : Type 0) → AlikeHere (both (preamble (false ∷ ms)) x) (with_all ns y all) Q
          without_and_with all Q = agree_both_apart free (agree_map free (λ e. first_differs ms ns e) (preambles_alike (false ∷ ms) (true ∷ ns) (ap suc long)))

          with_and_without : (all : List (Option Forms)) (Q : Type 0) → AlikeHere (with_all ms x all) (both (preamble (false ∷ ns)) y) Q
          with_and_without all Q = agree_both_apart free (agree_map free (λ e. first_differs ns ms (sym e)) (preambles_alike (true ∷ ms) (false ∷ ns) (ap suc long)))

          without_bitmaps : AlikeHere (both (preamble (false ∷ ms)) x) (both (preamble (false ∷ ns)) y) P
          without_bitmaps = agree_map free (λ q. q.1) (agree_both free (preambles_alike (false ∷ ms) (false ∷ ns) (ap suc long)) (λ e. roots_alike cc))

          with_bitmaps : (cs : Components) (ps qs : Parts) (xs ys all others : List (Option Forms)) → EachComponent AlikeAdded cs →
              additions_of cs ps ≡ Some xs → additions_of cs qs ≡ Some ys → Tells xs all → Tells ys others → AlikeHere (with_all ms x all) (with_all ns y others) (P × (same_parts ps qs ≡ true))
          with_bitmaps cs ps qs xs ys all others h e f t u =
              agree_map free (λ q. (q.1.0, q.1.1.1)) (agree_both free (preambles_alike (true ∷ ms) (true ∷ ns) (ap suc long))
              (λ i. agree_both free (roots_alike cc) (λ j. agree_both free (bits_alike all others) (λ m. present_alike cs ps qs xs ys all others h e f t u m))))

          pub bitmapped_alike : (cs : Components) (ps qs : Parts) (xs ys : List (Option Forms)) (b c : Option Bitmap) →
              EachComponent AlikeAdded cs → additions_of cs ps ≡ Some xs → additions_of cs qs ≡ Some ys → AlikeHere (bitmapped ms x xs b) (bitmapped ns y ys c) (P × (same_parts ps qs ≡ true))
          bitmapped_alike cs ps qs xs ys None None h e f =
              agree_if free (not (is_any_present xs)) (not (is_any_present ys)) _ _ (λ i j. agree_map free (λ q. (q, none_same cs ps qs xs ys e f (no_any _ i) (no_any _ j))) without_bitmaps)
          bitmapped_alike cs ps qs xs ys None (Some c) h e f =
              agree_if_left free (not (is_any_present xs)) {x = both (preamble (false ∷ ms)) x} {y = bitmapped ns y ys (Some c)}
              (λ i. right_given (covered_by unknown c ys) (λ others. shown_right (is_any_present others) _ _ _ (without_and_with others _)))
            where
              right_given : {Z : Type 0} {u : Forms} {Q : Type 0} (o : Option Z) {f : Z → Form F D A} → ((z : Z) → AlikeHere u (f z) Q) → AlikeHere u (given o f) Q
              right_given None k = agree_with_refused free _ _
              right_given (Some z) k = k z
          bitmapped_alike cs ps qs xs ys (Some b) None h e f =
              agree_if_right free (not (is_any_present ys)) {x = bitmapped ms x xs (Some b)} {y = both (preamble (false ∷ ns)) y}
              (λ i. left_given (covered_by unknown b xs) (λ all. shown_left (is_any_present all) _ _ _ (with_and_without all _)))
            where
              left_given : {Z : Type 0} {u : Forms} {Q : Type 0} (o : Option Z) {f : Z → Form F D A} → ((z : Z) → AlikeHere (f z) u Q) → AlikeHere (given o f) u Q
              left_given None k = agree_refused free _ _
              left_given (Some z) k = k z
          bitmapped_alike cs ps qs xs ys (Some b) (Some c) h e f =
              agree_given free (covered_by unknown b xs) (covered_by unknown c ys) _ _
              (λ all others i j. shown_left (is_any_present all) _ _ _
              (shown_right (is_any_present others) _ _ _ (with_bitmaps cs ps qs xs ys all others h e f (covered_tells b xs all i) (covered_tells c ys others j))))
