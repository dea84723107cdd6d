-- If one form has a canonical encoding, another has the same: the rules by which such facts are derived.
use Rattle.std.proofs.Common.{◌≡◌, ℕ, zero, suc, ◌+◌, ◌==◌, ltb, not, Bool, true, false, cond, ◌&&◌, ◌||◌, List, []}
use Rattle.std.proofs.Common.{◌∷◌, ◌++◌, length, take, drop, map, Option, Some, None, option_map, refl, ap, sym, ◌∙◌}
use Rattle.std.proofs.Common.{subst}
use Rattle.std.proofs.lemmas.Bool.{and_parts}
use Rattle.asn1_model.specs.Value.{Parts, end, absent, present, same_parts}
use Rattle.asn1_model.specs.Schema.{Components, no_component, component}
use Rattle.asn1_model.specs.Form.{Form, exactly, refused, both, placed, varied, within, written, only_if, given, joined, Bitmap, is_any_present, present_ones, covered_by, own_bitmap}
use Rattle.std.specs.Prelude.{is_some}
use Rattle.asn1_model.specs.Normal.{presence_bits, is_required, presence_bit_unless}
use Rattle.asn1_model.proofs.Forms.{chain_parts, map_parts}

pub record Gives {F : Type 0} {D : F → Type 0} {A : Type 0} (x y : Form F D A) : Type 0 where
  pub texts : (p : ℕ) (w : List A) → written x p ≡ Some w → written y p ≡ Some w

cond_some : {X : Type 0} (b : Bool) (x y : X) → cond b (Some x) None ≡ Some y → (b ≡ true) × (x ≡ y)
cond_some true x y e = (refl, cc)
cond_some false x y e = cc

if_true : {X : Type 0} (b : Bool) (x : X) → b ≡ true → cond b (Some x) None ≡ Some x
if_true true x e = refl
if_true false x e = cc

module _ {F : Type 0} {D : F → Type 0} {A : Type 0} where
  pub gives_same : (x : Form F D A) → Gives x x
  gives_same x = record { texts = λ p w e. e }

  pub gives_equal : (x y : Form F D A) → x ≡ y → Gives x y
  gives_equal x y e = subst (λ z. Gives x z) e (gives_same x)

  pub gives_refused : (y : Form F D A) → Gives refused y
  unfolding written
  gives_refused y = record { texts = λ p w e. cc }

  pub gives_both : {x x' y y' : Form F D A} → Gives x x' → Gives y y' → Gives (both x y) (both x' y')
  unfolding written
  gives_both {x} {x'} {y} {y'} h k = record {
    texts = λ p w e.
        let q = chain_parts (written x p) (λ a. option_map (λ b. a ++ b) (written y (p + length a))) w e in
        let s = map_parts (written y (p + length q.0)) (λ b. q.0 ++ b) w q.2 in
        let f = h.texts p q.0 q.1 in
        let g = k.texts (p + length q.0) s.0 s.1 in
        rw (f, g) (ap Some s.2);
  }

  pub gives_placed : {f f' : ℕ → Form F D A} → ((p : ℕ) → Gives (f p) (f' p)) → Gives (placed f) (placed f')
  unfolding written
  gives_placed h = record { texts = λ p w e. (h p).texts p w e }

  pub gives_varied : {c c' : F} {d : D c} {d' : D c'} {f : D c → Form F D A} {f' : D c' → Form F D A} → Gives (f d) (f' d') → Gives (varied c d f) (varied c' d' f')
  unfolding written
  gives_varied h = record { texts = λ p w e. h.texts p w e }

  pub gives_within : {x x' : Form F D A} {f f' : List A → Form F D A} → Gives x x' → ((w : List A) → Gives (f w) (f' w)) → Gives (within x f) (within x' f')
  unfolding written
  gives_within {x} {x'} {f} {f'} h k = record {
    texts = λ p w e.
        let q = chain_parts (written x 0) (λ a. written (f a) p) w e in
        let g = h.texts 0 q.0 q.1 in
        rw g ((k q.0).texts p w q.2);
  }

  pub gives_if : (b : Bool) (x y : Form F D A) → Gives x y → Gives (only_if b x) (only_if b y)
  gives_if true x y h = h
  gives_if false x y h = gives_refused refused

  pub gives_cond : (b : Bool) (x x' y y' : Form F D A) → Gives x x' → Gives y y' → Gives (cond b x y) (cond b x' y')
  gives_cond true x x' y y' h k = h
  gives_cond false x x' y y' h k = k

  pub gives_given : {X Y : Type 0} (o : Option X) (q : Option Y) (f : X → Form F D A) (g : Y → Form F D A) →
      ((x : X) → o ≡ Some x → (y : Y) × (q ≡ Some y) × Gives (f x) (g y)) → Gives (given o f) (given q g)
  gives_given None q f g h = gives_refused (given q g)
  gives_given (Some x) q f g h = let r = h x refl in let e = r.1 in rw e r.2

  -- ---- lists
  abbrev pub EachGives : List (Form F D A) → List (Form F D A) → Type 0
  EachGives [] [] = Unit {0}
  EachGives (x ∷ xs) (y ∷ ys) = Gives x y × EachGives xs ys
  EachGives xs ys = ⊥

  pub each_length : (xs ys : List (Form F D A)) → EachGives xs ys → length xs ≡ length ys
  each_length [] [] h = refl
  each_length [] (y ∷ ys) h = absurd h
  each_length (x ∷ xs) [] h = absurd h
  each_length (x ∷ xs) (y ∷ ys) h = ap suc (each_length xs ys h.1)

  pub gives_joined : (xs ys : List (Form F D A)) → EachGives xs ys → Gives (joined xs) (joined ys)
  gives_joined [] [] h = gives_same (exactly [])
  gives_joined [] (y ∷ ys) h = absurd h
  gives_joined (x ∷ xs) [] h = absurd h
  gives_joined (x ∷ xs) (y ∷ ys) h = gives_both h.0 (gives_joined xs ys h.1)

  pub each_take : (n : ℕ) (xs ys : List (Form F D A)) → EachGives xs ys → EachGives (take n xs) (take n ys)
  each_take zero xs ys h = tt
  each_take (suc n) [] [] h = tt
  each_take (suc n) [] (y ∷ ys) h = absurd h
  each_take (suc n) (x ∷ xs) [] h = absurd h
  each_take (suc n) (x ∷ xs) (y ∷ ys) h = (h.0, each_take n xs ys h.1)

  pub each_drop : (n : ℕ) (xs ys : List (Form F D A)) → EachGives xs ys → EachGives (drop n xs) (drop n ys)
  each_drop zero xs ys h = h
  each_drop (suc n) [] [] h = tt
  each_drop (suc n) [] (y ∷ ys) h = absurd h
  each_drop (suc n) (x ∷ xs) [] h = absurd h
  each_drop (suc n) (x ∷ xs) (y ∷ ys) h = each_drop n xs ys h.1

  -- ---- additions, each present in both or in neither
  abbrev pub EachSlot : List (Option (Form F D A)) → List (Option (Form F D A)) → Type 0
  EachSlot [] [] = Unit {0}
  EachSlot (None ∷ xs) (None ∷ ys) = EachSlot xs ys
  EachSlot (Some x ∷ xs) (Some y ∷ ys) = Gives x y × EachSlot xs ys
  EachSlot xs ys = ⊥

  pub slots_flags : (xs ys : List (Option (Form F D A))) → EachSlot xs ys → map (λ a. is_some a) xs ≡ map (λ a. is_some a) ys
  slots_flags [] [] h = refl
  slots_flags [] (y ∷ ys) h = absurd h
  slots_flags (None ∷ xs) [] h = absurd h
  slots_flags (Some x ∷ xs) [] h = absurd h
  slots_flags (None ∷ xs) (None ∷ ys) h = ap (λ l. false ∷ l) (slots_flags xs ys h)
  slots_flags (None ∷ xs) (Some y ∷ ys) h = absurd h
  slots_flags (Some x ∷ xs) (None ∷ ys) h = absurd h
  slots_flags (Some x ∷ xs) (Some y ∷ ys) h = ap (λ l. true ∷ l) (slots_flags xs ys h.1)

  pub slots_any : (xs ys : List (Option (Form F D A))) → EachSlot xs ys → is_any_present xs ≡ is_any_present ys
  slots_any [] [] h = refl
  slots_any [] (y ∷ ys) h = absurd h
  slots_any (None ∷ xs) [] h = absurd h
  slots_any (Some x ∷ xs) [] h = absurd h
  slots_any (None ∷ xs) (None ∷ ys) h = slots_any xs ys h
  slots_any (None ∷ xs) (Some y ∷ ys) h = absurd h
  slots_any (Some x ∷ xs) (None ∷ ys) h = absurd h
  slots_any (Some x ∷ xs) (Some y ∷ ys) h = refl

  slots_length : (xs ys : List (Option (Form F D A))) → EachSlot xs ys → length xs ≡ length ys
  slots_length [] [] h = refl
  slots_length [] (y ∷ ys) h = absurd h
  slots_length (None ∷ xs) [] h = absurd h
  slots_length (Some x ∷ xs) [] h = absurd h
  slots_length (None ∷ xs) (None ∷ ys) h = ap suc (slots_length xs ys h)
  slots_length (None ∷ xs) (Some y ∷ ys) h = absurd h
  slots_length (Some x ∷ xs) (None ∷ ys) h = absurd h
  slots_length (Some x ∷ xs) (Some y ∷ ys) h = ap suc (slots_length xs ys h.1)

  pub slots_own : (xs ys : List (Option (Form F D A))) → EachSlot xs ys → own_bitmap xs ≡ own_bitmap ys
  slots_own xs ys h = let a = slots_any xs ys h in let b = slots_length xs ys h in cc

  pub slots_present : (xs ys : List (Option (Form F D A))) → EachSlot xs ys → EachGives (present_ones xs) (present_ones ys)
  slots_present [] [] h = tt
  slots_present [] (y ∷ ys) h = absurd h
  slots_present (None ∷ xs) [] h = absurd h
  slots_present (Some x ∷ xs) [] h = absurd h
  slots_present (None ∷ xs) (None ∷ ys) h = slots_present xs ys h
  slots_present (None ∷ xs) (Some y ∷ ys) h = absurd h
  slots_present (Some x ∷ xs) (None ∷ ys) h = absurd h
  slots_present (Some x ∷ xs) (Some y ∷ ys) h = (h.0, slots_present xs ys h.1)

  slots_drop : (n : ℕ) (xs ys : List (Option (Form F D A))) → EachSlot xs ys → EachSlot (drop n xs) (drop n ys)
  slots_drop zero xs ys h = h
  slots_drop (suc n) [] [] h = tt
  slots_drop (suc n) [] (y ∷ ys) h = absurd h
  slots_drop (suc n) (None ∷ xs) [] h = absurd h
  slots_drop (suc n) (Some x ∷ xs) [] h = absurd h
  slots_drop (suc n) (None ∷ xs) (None ∷ ys) h = slots_drop n xs ys h
  slots_drop (suc n) (None ∷ xs) (Some y ∷ ys) h = absurd h
  slots_drop (suc n) (Some x ∷ xs) (None ∷ ys) h = absurd h
  slots_drop (suc n) (Some x ∷ xs) (Some y ∷ ys) h = slots_drop n xs ys h.1

  slots_same : (us : List (Option (Form F D A))) → EachSlot us us
  slots_same [] = tt
  slots_same (None ∷ us) = slots_same us
  slots_same (Some u ∷ us) = (gives_same u, slots_same us)

  slots_taken : (n : ℕ) (xs ys us : List (Option (Form F D A))) → EachSlot xs ys → EachSlot (take n xs ++ us) (take n ys ++ us)
  slots_taken zero xs ys us h = slots_same us
  slots_taken (suc n) [] [] us h = slots_same us
  slots_taken (suc n) [] (y ∷ ys) us h = absurd h
  slots_taken (suc n) (None ∷ xs) [] us h = absurd h
  slots_taken (suc n) (Some x ∷ xs) [] us h = absurd h
  slots_taken (suc n) (None ∷ xs) (None ∷ ys) us h = slots_taken n xs ys us h
  slots_taken (suc n) (None ∷ xs) (Some y ∷ ys) us h = absurd h
  slots_taken (suc n) (Some x ∷ xs) (None ∷ ys) us h = absurd h
  slots_taken (suc n) (Some x ∷ xs) (Some y ∷ ys) us h = (h.0, slots_taken n xs ys us h.1)

  pub covered_slots : (u : List ℕ → Form F D A) (b : Bitmap) (xs ys all : List (Option (Form F D A))) → EachSlot xs ys →
      covered_by u b xs ≡ Some all → (others : List (Option (Form F D A))) × (covered_by u b ys ≡ Some others) × EachSlot all others
  covered_slots u b xs ys all h e =
      let us : List (Option (Form F D A)) = map (option_map u) b.further in
      let q = cond_some (not (is_any_present (drop b.covered xs)) && (ltb (length xs) (b.covered + 1) || length b.further == 0)) (take b.covered xs ++ map (option_map u) b.further) all e in
      let n = slots_any (drop b.covered xs) (drop b.covered ys) (slots_drop b.covered xs ys h) in
      let l = slots_length xs ys h in
      let t : (not (is_any_present (drop b.covered ys)) && (ltb (length ys) (b.covered + 1) || length b.further == 0)) ≡ true =
      ap (λ x. not x && (ltb (length ys) (b.covered + 1) || length b.further == 0)) (sym n)
      ∙ ap (λ x. not (is_any_present (drop b.covered xs)) && (ltb x (b.covered + 1) || length b.further == 0)) (sym l) ∙ q.0 in (
        take b.covered ys ++ map (option_map u) b.further,
        if_true _ _ t,
        subst (λ z. EachSlot z (take b.covered ys ++ map (option_map u) b.further)) q.1 (slots_taken b.covered xs ys (map (option_map u) b.further) h),
      )

-- ---- presence bits
pub presence_bits_same : (cs : Components) (ps qs : Parts) → same_parts ps qs ≡ true → presence_bits cs ps ≡ presence_bits cs qs
unfolding same_parts
presence_bits_same no_component ps qs e = refl
presence_bits_same (component t o s cs) end end e = refl
presence_bits_same (component t o s cs) end (absent qs) e = cc
presence_bits_same (component t o s cs) end (present w qs) e = cc
presence_bits_same (component t o s cs) (absent ps) end e = cc
presence_bits_same (component t o s cs) (absent ps) (absent qs) e = ap (λ m. presence_bit_unless (is_required o) false m) (presence_bits_same cs ps qs e)
presence_bits_same (component t o s cs) (absent ps) (present w qs) e = cc
presence_bits_same (component t o s cs) (present v ps) end e = cc
presence_bits_same (component t o s cs) (present v ps) (absent qs) e = cc
presence_bits_same (component t o s cs) (present v ps) (present w qs) e = ap (λ m. presence_bit_unless (is_required o) true m) (presence_bits_same cs ps qs ((and_parts _ _ e).1))
