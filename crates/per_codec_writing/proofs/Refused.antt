-- Units have no field-list together if one of them has none.
use Rattle.std.proofs.Common.{◌≡◌, ℕ, zero, suc, ◌*◌, leb, ltb, Bool, true, false, cond, ◌&&◌, List, [], ◌∷◌, ◌++◌, length, map, take, drop, Option, Some, None, option_map, refl, ap, sym, ◌∙◌}
use Rattle.std.specs.Prelude.{option_and_then}
use Rattle.std.proofs.lemmas.List.{take-map, drop-map}
use Rattle.asn1_model.specs.Form.{exactly, only_if, both, joined}
use Rattle.asn1_model.specs.Numbers.{binary}
use Rattle.asn1_model.specs.Schema.{Size, Counts}
use Rattle.std.specs.List.{list_all}
use Rattle.asn1_model.specs.Per
use Rattle.per_codec_packing.specs.FieldLists.{FieldList, on, field_list_at}

-- no field-list at any position
abbrev Never : Per.BitForm → Type 0
Never x = (p : Option ℕ) → field_list_at x p ≡ None

none_if : (b : Bool) (x : Per.BitForm) → Never x → Never (only_if b x)
unfolding field_list_at
none_if true x h p = h p
none_if false x h p = refl

none_first : (x y : Per.BitForm) → Never x → Never (both x y)
unfolding field_list_at
none_first x y h p = rw (h p) refl

none_second : (x y : Per.BitForm) → Never y → Never (both x y)
unfolding field_list_at
none_second x y h p = go (field_list_at x p)
  where
    go : (o : Option FieldList) → option_and_then (λ a. option_map (λ b. a ++ b) (field_list_at y (on p a))) o ≡ None
    go None = refl
    go (Some a) = rw (h (on p a)) refl

none_either : (b : Bool) (x y : Per.BitForm) → Never x → Never y → Never (cond b x y)
none_either true x y h k p = h p
none_either false x y h k p = k p

none_at_octet : (b : Bool) (x : Per.BitForm) → Never x → Never (Per.at_octet b x)
unfolding Per.at_octet
none_at_octet false x h p = h p
none_at_octet true x h p = none_second _ x h p

split : (test : ℕ → Bool) (n : ℕ) (cs : List ℕ) → list_all test cs ≡ (list_all test (take n cs) && list_all test (drop n cs))
split test zero cs = refl
split test (suc n) [] = refl
split test (suc n) (c ∷ cs) = ap (λ b. test c && b) (split test n cs) ∙ go (test c) (list_all test (take n cs)) (list_all test (drop n cs))
  where
    go : (x y z : Bool) → (x && (y && z)) ≡ ((x && y) && z)
    go true y z = refl
    go false y z = refl

module _ (f : ℕ → Per.BitForm) (test : ℕ → Bool) (h : (c : ℕ) → test c ≡ false → Never (f c)) where
  none_joined : (cs : List ℕ) → list_all test cs ≡ false → Never (joined (map f cs))
  none_joined [] e p = cc
  none_joined (c ∷ cs) e p = go (test c) refl e (λ k. none_joined cs k)
    where
      go : (b : Bool) → test c ≡ b → (b && list_all test cs) ≡ false → (list_all test cs ≡ false → Never (joined (map f cs))) → field_list_at (both (f c) (joined (map f cs))) p ≡ None
      go false t k r = none_first (f c) (joined (map f cs)) (h c t) p
      go true t k r = none_second (f c) (joined (map f cs)) (r k) p

  none_parts : (x : Per.BitForm) (n : ℕ) (cs : List ℕ) → list_all test cs ≡ false → (list_all test (drop n cs) ≡ false → Never x) → Never (both (joined (take n (map f cs))) x)
  none_parts x n cs e r = go (list_all test (take n cs)) refl (sym (split test n cs) ∙ e)
    where
      go : (b : Bool) → list_all test (take n cs) ≡ b → (list_all test (take n cs) && list_all test (drop n cs)) ≡ false → Never (both (joined (take n (map f cs))) x)
      go false t k = none_first _ x (rw take-map (none_joined (take n cs) t))
      go true t k = none_second _ x (r (rw t at k))

  none_fragments : (al : Bool) (ms cs : List ℕ) → list_all test cs ≡ false → Never (Per.fragments al ms (map f cs))
  unfolding Per.fragments
  none_fragments al [] cs e p = none_second (Per.short_length al (length (map f cs))) (joined (map f cs)) (none_joined cs e) p
  none_fragments al (m ∷ ms) cs e p =
      none_if (leb 1 m && leb m 4 && leb (m * 16384) (length (map f cs))) _
      (none_second (Per.at_octet al (exactly (true ∷ true ∷ binary 6 m)))
      (both (joined (take (m * 16384) (map f cs))) (Per.fragments al ms (drop (m * 16384) (map f cs))))
      (none_parts (Per.fragments al ms (drop (m * 16384) (map f cs))) (m * 16384) cs e (λ k. rw drop-map (none_fragments al ms (drop (m * 16384) cs) k)))) p

  none_counted : (al : Bool) (cs : List ℕ) → list_all test cs ≡ false → Never (Per.counted al (map f cs))
  unfolding Per.counted field_list_at
  none_counted al cs e p = none_fragments al _ cs e p

  none_root : (al : Bool) (c : Counts) (o : Option ℕ) (has_padding : Counts → Bool) (cs : List ℕ) → list_all test cs ≡ false → Never (Per.sized_root al c o has_padding (map f cs))
  unfolding Per.sized_root
  none_root al c None has_padding cs e p = none_counted al cs e p
  none_root al c (Some high) has_padding cs e p = none_either (ltb high 65536) _ _ (none_second _ _ (none_at_octet (al && has_padding c) _ (none_joined cs e))) (none_counted al cs e) p

  none_with_extension_bit : (e b : Bool) (x y : Per.BitForm) → Never x → Never y → Never (Per.with_extension_bit e b x y)
  unfolding Per.with_extension_bit field_list_at
  none_with_extension_bit false b x y h k p = none_if b x h p
  none_with_extension_bit true true x y h k p = none_second (exactly (false ∷ [])) x h p
  none_with_extension_bit true false x y h k p = none_second (exactly (true ∷ [])) y k p

  pub none_sized : (al : Bool) (z : Size) (held : Counts) (has_padding : Counts → Bool) (cs : List ℕ) → list_all test cs ≡ false → Never (Per.sized al z held has_padding (map f cs))
  unfolding Per.sized
  none_sized al z held has_padding cs e p = none_if _ _ (none_with_extension_bit z.extensible _ _ _ (none_root al z.counts z.counts.high has_padding cs e) (none_counted al cs e)) p
