-- What one version of a type writes in the packed rules, the other reads.
use Rattle.std.proofs.Common.{◌≡◌, ℕ, ◌-◌, ◌*◌, ltb, leb, not, Bool, true, false, ◌&&◌, List, [], ◌∷◌, ◌++◌, length}
use Rattle.std.proofs.Common.{take, drop, map, Option, Some, None, option_and_then, refl, ap, sym, ◌∙◌, inl, subst}
use Rattle.std.proofs.lemmas.List.{append-nil}
use Rattle.asn1_model.specs.Schema.{Counts, Size}
use Rattle.asn1_model.specs.Numbers.{binary, is_count_within, by_eights, packed}
use Rattle.asn1_model.specs.Form.{exactly, both, written, only_if, joined}
use Rattle.asn1_model.specs.Per
use Rattle.asn1_laws_values.proofs.Covers.{Covers, CoversEach, covers_same, covers_eq, covers_both, covers_varied}
use Rattle.asn1_laws_values.proofs.Covers.{covers_within, covers_if, covers_cond, covers_joined, each_length, each_take}
use Rattle.asn1_laws_values.proofs.Covers.{each_drop}
use Rattle.asn1_laws_values.proofs.Messages.{IsWhole, complete_whole}
use Rattle.asn1_laws_values.proofs.Octets.{eights_units, packed_octets}
use Rattle.asn1_laws_values.proofs.BitPieces.{bit_pieces}
use Rattle.asn1_laws_versions.proofs.Covered.{AreCovered}

-- ---- elements
module _ (free : Per.Freedom → Bool) (al : Bool) where
  abbrev Kept : Per.BitForm → Per.BitForm → Type 0
  Kept x y = Covers {F = Per.Freedom} {D = Per.Detail} {A = Bool} free x y

  abbrev EachKept : List Per.BitForm → List Per.BitForm → Type 0
  EachKept xs ys = CoversEach {F = Per.Freedom} {D = Per.Detail} {A = Bool} free xs ys

  at_octet_covers : (b : Bool) {x y : Per.BitForm} → Kept x y → Kept (Per.at_octet b x) (Per.at_octet b y)
  unfolding Per.at_octet
  at_octet_covers false h = h
  at_octet_covers true h = covers_both free (covers_same free _) h

  fragments_cover : (ms : List ℕ) (xs ys : List Per.BitForm) → EachKept xs ys → Kept (Per.fragments al ms xs) (Per.fragments al ms ys)
  unfolding Per.fragments
  fragments_cover [] xs ys h =
      let length_kept = covers_eq free (ap (λ n. Per.short_length al n) (each_length free xs ys h)) in
      covers_both free length_kept (covers_joined free xs ys h)
  fragments_cover (m ∷ ms) xs ys h =
      let n = m * 16384 in
      let next : Per.BitForm → Per.BitForm → Per.BitForm = λ u r. both (Per.at_octet al (exactly (true ∷ true ∷ binary 6 m))) (both u r) in
      let x = next (joined (take n xs)) (Per.fragments al ms (drop n xs)) in
      let y = next (joined (take n ys)) (Per.fragments al ms (drop n ys)) in
      let test : ℕ → Bool = λ k. leb 1 m && leb m 4 && leb n k in
      let P : ℕ → Type 0 = λ k. Kept (Per.fragments al (m ∷ ms) xs) (only_if (test k) y) in
      let others = fragments_cover ms (drop n xs) (drop n ys) (each_drop free n xs ys h) in
      let first = covers_joined free _ _ (each_take free n xs ys h) in
      let s : Kept x y = covers_both free (covers_same free _) (covers_both free first others) in
      subst P (each_length free xs ys h) (covers_if free (test (length xs)) {x = x} {y = y} (λ t. s))

  counted_covers : (xs ys : List Per.BitForm) → EachKept xs ys → Kept (Per.counted al xs) (Per.counted al ys)
  unfolding Per.counted
  counted_covers xs ys h =
      let ms = Per.largest_first (length xs) in
      covers_varied free ms (inl (ap Per.largest_first (each_length free xs ys h))) (fragments_cover ms xs ys h)

  with_bit_covers : (e b : Bool) {r r' o o' : Per.BitForm} → Kept r r' → Kept o o' →
      Kept (Per.with_extension_bit e b r o) (Per.with_extension_bit e b r' o')
  unfolding Per.with_extension_bit
  with_bit_covers false b {r} {r'} h k = covers_if free b {x = r} {y = r'} (λ t. h)
  with_bit_covers true b {r} {r'} {o} {o'} h k =
      let told : Bool → Per.BitForm → Per.BitForm = λ t x. both (exactly (t ∷ [])) x in
      let inside = covers_if free b {x = told false r} {y = told false r'} (λ t. covers_both free (covers_same free _) h) in
      let outside : Kept (told true o) (told true o') = covers_both free (covers_same free _) k in
      covers_varied free (not b) (inl refl)
      (covers_cond free (not b) {x = told true o} {x' = told true o'} {y = only_if b (told false r)} {y' = only_if b (told false r')} outside inside)

  module _ (has_padding : Counts → Bool) where
    sized_root_covers : (c : Counts) (high : Option ℕ) (xs ys : List Per.BitForm) → EachKept xs ys →
        Kept (Per.sized_root al c high has_padding xs) (Per.sized_root al c high has_padding ys)
    unfolding Per.sized_root
    sized_root_covers c None xs ys h = counted_covers xs ys h
    sized_root_covers c (Some high) xs ys h =
        let count : ℕ → Per.BitForm = λ n. Per.constrained al (high - c.low) (n - c.low) in
        let units : List Per.BitForm → Per.BitForm = λ us. Per.at_octet (al && has_padding c) (joined us) in
        let x = both (count (length xs)) (units xs) in
        let y = both (count (length ys)) (units ys) in
        let s : Kept x y = covers_both free (covers_eq free (ap count (each_length free xs ys h)))
        (at_octet_covers (al && has_padding c) (covers_joined free xs ys h)) in
        covers_cond free (ltb high 65536) {x = x} {x' = y} {y = Per.counted al xs} {y' = Per.counted al ys} s (counted_covers xs ys h)

    pub sized_covers : (z : Size) (held : Counts) (xs ys : List Per.BitForm) → EachKept xs ys →
        Kept (Per.sized al z held has_padding xs) (Per.sized al z held has_padding ys)
    unfolding Per.sized
    sized_covers z held xs ys h =
        let part : ℕ → List Per.BitForm → Per.BitForm = λ n us. Per.with_extension_bit z.extensible (is_count_within z.counts n)
        (Per.sized_root al z.counts z.counts.high has_padding us) (Per.counted al us) in
        let P : ℕ → Type 0 = λ n. Kept (Per.sized al z held has_padding xs) (only_if (is_count_within held n) (part n ys)) in
        let s = with_bit_covers z.extensible (is_count_within z.counts (length xs))
        (sized_root_covers z.counts z.counts.high xs ys h) (counted_covers xs ys h) in
        subst P (each_length free xs ys h)
        (covers_if free (is_count_within held (length xs)) {x = part (length xs) xs} {y = part (length xs) ys} (λ t. s))

-- ---- an addition that the reader does not know is some octets to it
open_covers : (al : Bool) (free : Per.Freedom → Bool) (x y : Per.BitForm) → Covers free x y →
    Covers free (Per.open_type al x) (Per.open_type al y)
unfolding Per.open_type Per.complete
open_covers al free x y h = covers_within free (covers_within free h (λ w. covers_same free _)) (λ w. covers_same free _)

added_covers : (al : Bool) (i : ℕ) (free : Per.Freedom → Bool) (x y : Per.BitForm) → Covers free x y →
    Covers free (both (exactly (true ∷ [])) (both (Per.normally_small al i) (Per.open_type al x)))
    (both (exactly (true ∷ [])) (both (Per.normally_small al i) (Per.open_type al y)))
added_covers al i free x y h =
    covers_both free (covers_same free _) (covers_both free (covers_same free _) (open_covers al free x y h))

abbrev Eights : Bool → List Bool → Per.BitForm
Eights al w = Per.counted al (map (λ o. exactly o) (by_eights w))

whole_eights : (al : Bool) (w : List Bool) → IsWhole w → Eights al (w ++ []) ≡ Per.counted_octets al (packed w)
unfolding Per.counted_octets
whole_eights al w k =
    let units = Per.counted al (Per.octet_units (packed w)) in
    let only = ap (λ (t : Bool). only_if {F = Per.Freedom} {D = Per.Detail} t units) (packed_octets k.0 w k.1) in
    ap (λ l. Eights al l) (append-nil w) ∙ ap (λ us. Per.counted al us) (eights_units k.0 w k.1) ∙ sym only

unknown_open : (al : Bool) (free : Per.Freedom → Bool) (x : Per.BitForm) (o : Option (List Bool)) → written (Per.complete x) 0 ≡ o →
    (os : List ℕ) × Covers {F = Per.Freedom} {D = Per.Detail} {A = Bool} free (Per.open_type al x) (Per.counted_octets al os)
unfolding Per.open_type written
unknown_open al free x None e =
    let none : (p : ℕ) → written (Per.open_type al x) p ≡ None =
    λ p. ap (λ o. option_and_then (λ w. written (Eights al (w ++ [])) p) o) e in
    ([], record { reads = λ p u t. let n = none p in cc })
unknown_open al free x (Some w) e =
    let s : Covers free (Eights al (w ++ [])) (Per.counted_octets al (packed w)) =
    covers_eq free (whole_eights al w (complete_whole x w e)) in
    let same : (p : ℕ) → written (Per.open_type al x) p ≡ written (Eights al (w ++ [])) p =
    λ p. ap (λ o. option_and_then (λ w. written (Eights al (w ++ [])) p) o) e in
    (packed w, record { reads = λ p u t. s.reads p u (sym (same p) ∙ t) })

pub covered : (al : Bool) → AreCovered (bit_pieces al)
covered al = record {
  keeps_list = λ free z c xs ys h. sized_covers free al (λ c. false) z c xs ys h;
  keeps_open = open_covers al;
  keeps_tagged = λ a t free x y h. h;
  keeps_root = λ e k i free x y h. covers_both free (covers_same free _) (covers_both free (covers_same free _) h);
  keeps_added = added_covers al;
  unknown = λ free x. unknown_open al free x (written (Per.complete x) 0) refl;
}
