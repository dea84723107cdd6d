-- The number of elements that are still to come, counted from the outermost scope.
use Rattle.std.proofs.Common.{◌≡◌, ◌<◌, ◌≤◌, ℕ, suc, ◌+◌, ◌-◌, ◌^◌, min, Bool, true, false, cond, Option, Some, None}
use Rattle.std.proofs.Common.{List, [], ◌∷◌, ◌++◌, map, reverse, drop, get_or, length, refl, ap, sym, ◌∙◌, arith}
use Rattle.std.specs.Prelude.{IfSome, IfNone}
use Rattle.std.specs.Option.{unwrap_or}
use Rattle.std.proofs.Math.Seq.{drop-cons, drop-length}
use Rattle.std.proofs.lemmas.List.{reverse-append, map-append}
use Rattle.oer_codec_laws.specs.Takes.{Scope, open_type, members, alternative}
use Rattle.oer_codec_longer_laws.specs.More.{is_within}
use Rattle.oer_codec_longer_laws.specs.Few.{due}
use Rattle.oer_codec_decoder.specs.declared.frames.Frame.{Frame}
use Rattle.oer_codec_decoder.specs.declared.frames.Frame.TheVariants.{Components, Added, OpenType, Members, Alternative}
use Rattle.oer_codec_decoder.specs.declared.frames.Enclosing.{Enclosing}
use Rattle.oer_codec_decoder.specs.declared.frames.Enclosing.TheVariants.{Alternative as EnclosingAlternative, OpenType as EnclosingOpenType}
use Rattle.oer_codec_decoder.specs.Scopes.{scope_of, scopes_of, owing}

-- an open type around all others
all_within : (k : List Scope) (os : List ℕ) → is_within (k ++ (open_type os ∷ [])) ≡ true
all_within [] os = refl
all_within (open_type rest ∷ k) os = refl
all_within (s ∷ k) os = all_within k os

none_due : (k : List Scope) (os : List ℕ) → due (k ++ (open_type os ∷ [])) ≡ 0
none_due [] os = refl
none_due (members n ∷ k) os =
    ap (λ b. cond b (due (k ++ (open_type os ∷ []))) (n + due (k ++ (open_type os ∷ [])))) (all_within k os) ∙ none_due k os
none_due (s ∷ k) os = none_due k os

-- another scope around all others
still_within : (k : List Scope) (s : Scope) → is_within (s ∷ []) ≡ false → is_within (k ++ (s ∷ [])) ≡ is_within k
still_within [] s h = h
still_within (open_type rest ∷ k) s h = refl
still_within (t ∷ k) s h = still_within k s h

with_members : (b c : Bool) (n x y z : ℕ) → c ≡ b → x ≡ z + y → cond c x (n + x) ≡ z + cond b y (n + y)
with_members true true n x y z e h = h
with_members false false n x y z e h = omega arith
with_members true false n x y z e h = cc
with_members false true n x y z e h = cc

also_due : (k : List Scope) (s : Scope) → is_within (s ∷ []) ≡ false → due (k ++ (s ∷ [])) ≡ due (s ∷ []) + due k
also_due [] s h = omega arith
also_due (members n ∷ k) s h = with_members (is_within k) (is_within (k ++ (s ∷ []))) n (due (k ++ (s ∷ []))) (due k) (due (s ∷ [])) (still_within k s h) (also_due k s h)
also_due (t ∷ k) s h = also_due k s h

outermost : (f : Frame) (fs : List Frame) → map scope_of (reverse (f ∷ fs)) ≡ map scope_of (reverse fs) ++ (scope_of f ∷ [])
outermost f fs = ap (λ l. map scope_of l) (reverse-append (f ∷ []) fs) ∙ map-append scope_of (reverse fs) (f ∷ [])

pub owing_due : (fs : List Frame) → owing fs ≡ due (map scope_of (reverse fs))
owing_due [] = refl
owing_due (OpenType behind ∷ fs) = sym (ap (λ l. due l) (outermost (OpenType behind) fs) ∙ none_due (map scope_of (reverse fs)) behind)
owing_due (Members n ∷ fs) =
    let e = owing_due fs in
    let f = ap (λ l. due l) (outermost (Members n) fs) ∙ also_due (map scope_of (reverse fs)) (members n) refl in
    omega arith
owing_due (Components x r ∷ fs) =
    let e = owing_due fs in
    let f = ap (λ l. due l) (outermost (Components x r) fs) ∙ also_due (map scope_of (reverse fs)) (scope_of (Components x r)) refl in
    omega arith
owing_due (Added a ∷ fs) =
    let e = owing_due fs in
    let f = ap (λ l. due l) (outermost (Added a) fs) ∙ also_due (map scope_of (reverse fs)) (scope_of (Added a)) refl in
    omega arith
owing_due (Alternative ∷ fs) =
    let e = owing_due fs in
    let f = ap (λ l. due l) (outermost Alternative fs) ∙ also_due (map scope_of (reverse fs)) alternative refl in
    omega arith

-- ---- all frames
pub inner_due : (e : Option Enclosing) (fs : List Frame) → due (scopes_of e fs) ≡ due (map scope_of fs)
inner_due None fs = refl
inner_due (Some EnclosingAlternative) fs = refl
inner_due (Some (EnclosingOpenType behind)) fs = refl

-- frames in the order in which they began, and the innermost one apart
pub all_due : (all : List Frame) (f : Frame) (fs k : List Frame) → all ≡ f ∷ k → reverse fs ≡ drop 1 all → owing (fs ++ (f ∷ [])) ≡ due (map scope_of all)
all_due all f fs k e o =
    let same : reverse fs ≡ k = o ∙ ap (λ l. drop 1 l) e in
    owing_due (fs ++ (f ∷ [])) ∙ ap (λ l. due (map scope_of l)) (reverse-append fs (f ∷ []) ∙ ap (λ l. f ∷ l) same ∙ sym e)

-- ---- one frame after another
pub next_frame : (fs rest : List Frame) (i d m r : ℕ) (f : Frame) → i < length fs → f ≡ get_or fs i f →
    ((gs : List Frame) → min (d + owing (f ∷ gs)) (2 ^ 64 - 1) ≡ min (m + owing gs) (2 ^ 64 - 1)) →
    min (d + owing (drop i fs ++ rest)) (2 ^ 64 - 1) ≡ r → min (m + owing (drop (i + 1) fs ++ rest)) (2 ^ 64 - 1) ≡ r
next_frame fs rest i d m r f h g add inv =
    let k : i + 1 ≡ suc i = omega arith in
    let c : drop i fs ≡ f ∷ drop (i + 1) fs = drop-cons fs i f h ∙ ap (λ x. x ∷ drop (suc i) fs) (sym g) ∙ ap (λ n. f ∷ drop n fs) (sym k) in
    sym (add (drop (i + 1) fs ++ rest)) ∙ ap (λ l. min (d + owing (l ++ rest)) (2 ^ 64 - 1)) (sym c) ∙ inv

pub open_frame : (fs rest : List Frame) (i d r : ℕ) (f : Frame) → i < length fs → f ≡ get_or fs i f → ((gs : List Frame) → owing (f ∷ gs) ≡ 0) →
    d < 2 ^ 64 → min (d + owing (drop i fs ++ rest)) (2 ^ 64 - 1) ≡ r → d ≡ r
open_frame fs rest i d r f h g none b inv =
    let c : drop i fs ≡ f ∷ drop (suc i) fs = drop-cons fs i f h ∙ ap (λ x. x ∷ drop (suc i) fs) (sym g) in
    let z : owing (drop i fs ++ rest) ≡ 0 = ap (λ l. owing (l ++ rest)) c ∙ none (drop (suc i) fs ++ rest) in
    omega (arith, z, inv)

pub last_frame : (fs rest : List Frame) (i d r : ℕ) → length fs ≤ i → i ≤ length fs → min (d + owing (drop i fs ++ rest)) (2 ^ 64 - 1) ≡ r → min (d + owing rest) (2 ^ 64 - 1) ≡ r
last_frame fs rest i d r n h inv =
    let k : i ≡ length fs = omega arith in
    let c : drop i fs ≡ [] = ap (λ m. drop m fs) k ∙ drop-length fs in
    ap (λ l. min (d + owing (l ++ rest)) (2 ^ 64 - 1)) (sym c) ∙ inv

pub last_due : (o : Option ℕ) (d r : ℕ) (f : Frame) → IfSome o
    (λ n. (gs : List Frame) → min (d + owing (f ∷ gs)) (2 ^ 64 - 1) ≡ min (n + owing gs) (2 ^ 64 - 1)) → IfSome o (λ n. n < 2 ^ 64) →
    IfNone o ((gs : List Frame) → owing (f ∷ gs) ≡ 0) → d < 2 ^ 64 → min (d + owing (f ∷ [])) (2 ^ 64 - 1) ≡ r → unwrap_or o d ≡ r
last_due None d r f a m n h e = let z = n [] in omega (arith, z, e, h)
last_due (Some k) d r f a m n h e = let z = a [] in omega (arith, z, e, m)
