-- Field-lists in buffers that grow at the end.
use Rattle.std.proofs.Common.{◌≡◌, ℕ, zero, suc, ◌+◌, ◌-◌, ◌<◌, ◌≤◌, Bool, List, [], ◌∷◌, ◌++◌, length, take, drop, get_or, refl, ap, subst, sym, ◌∙◌, length-append, arith}
use Rattle.std.proofs.lemmas.List.{length-map, length-drop, take_all, take-append-le, drop-append-le, drop-take, map-append, get_or-map}
use Rattle.std.proofs.Math.Seq.{drop-append_seam}
use Rattle.per_codec_packing.specs.FieldLists.{FieldList}
use Rattle.per_codec_packing.specs.Spread.{spread, Ascend}
use Rattle.per_codec_packing.specs.Parts.{cut, field_list_in, field_lists_in, IsPart, AreParts}
use Rattle.per_codec_packing.specs.declared.field_lists.Span.{Span}
use Rattle.per_codec_packing.specs.declared.field_lists.Part.{Part}

-- ---- the elements in a span

cut_kept : {X : Type 0} (s : Span) (xs more : List X) → s.from ≤ s.to → s.to ≤ length xs → cut s (xs ++ more) ≡ cut s xs
cut_kept s xs more a b =
    let l = length-drop s.from xs in
    ap (λ ys. take (s.to - s.from) ys) (drop-append-le s.from xs more (omega arith)) ∙ take-append-le (s.to - s.from) (drop s.from xs) more (omega arith)

cut_last : {X : Type 0} (s : Span) (xs more : List X) → s.from ≡ length xs → s.to ≡ length (xs ++ more) → cut s (xs ++ more) ≡ more
cut_last s xs more a b =
    let l = length-append xs more in
    ap (λ n. take (s.to - s.from) (drop n (xs ++ more))) a ∙ ap (λ ys. take (s.to - s.from) ys) (drop-append_seam xs more) ∙ take_all (s.to - s.from) more (omega arith)

pub cut_both : {X : Type 0} (s : Span) (xs : List X) → s.from ≤ s.to → drop s.from (take s.to xs) ≡ cut s xs
cut_both s xs a =
    let e : s.to ≡ s.from + (s.to - s.from) = omega arith in
    ap (λ n. drop s.from (take n xs)) e ∙ drop-take s.from (s.to - s.from) xs

-- ---- more at the end

module _ (bits w : List Bool) (paddings v : List ℕ) where
  module _ (p : Part) (h : IsPart bits paddings p) where
    bits_kept : cut p.bits (bits ++ w) ≡ cut p.bits bits
    bits_kept = cut_kept p.bits bits w h.bits_ordered h.bits_within

    paddings_kept : cut p.paddings (paddings ++ v) ≡ cut p.paddings paddings
    paddings_kept = cut_kept p.paddings paddings v h.paddings_ordered h.paddings_within

    field_list_kept : field_list_in (bits ++ w) (paddings ++ v) p ≡ field_list_in bits paddings p
    field_list_kept = ap (λ l. spread 0 l (cut p.paddings (paddings ++ v))) bits_kept ∙ ap (λ l. spread 0 (cut p.bits bits) l) paddings_kept

    part_kept : IsPart (bits ++ w) (paddings ++ v) p
    part_kept = record {
      bits_ordered = h.bits_ordered;
      bits_within = omega (arith, h.bits_within, length-append bits w);
      paddings_ordered = h.paddings_ordered;
      paddings_within = omega (arith, h.paddings_within, length-append paddings v);
      ascend = subst (λ l. Ascend 0 l (length (cut p.bits (bits ++ w)))) (sym paddings_kept) (subst (λ l. Ascend 0 (cut p.paddings paddings) (length l)) (sym bits_kept) h.ascend);
    }

  field_lists_kept : (ps : List Part) → AreParts bits paddings ps → field_lists_in (bits ++ w) (paddings ++ v) ps ≡ field_lists_in bits paddings ps
  field_lists_kept [] h = refl
  field_lists_kept (p ∷ ps) h = ap (λ t. t ∷ field_lists_in (bits ++ w) (paddings ++ v) ps) (field_list_kept p h.0) ∙ ap (λ ts. field_list_in bits paddings p ∷ ts) (field_lists_kept ps h.1)

  parts_kept : (ps : List Part) → AreParts bits paddings ps → AreParts (bits ++ w) (paddings ++ v) ps
  parts_kept [] h = tt
  parts_kept (p ∷ ps) h = (part_kept p h.0, parts_kept ps h.1)

  -- a part of what was added last
  module _ (p : Part) (from : p.bits.from ≡ length bits) (to : p.bits.to ≡ length (bits ++ w)) (first : p.paddings.from ≡ length paddings) (past : p.paddings.to ≡ length (paddings ++ v)) where
    last_field_list : field_list_in (bits ++ w) (paddings ++ v) p ≡ spread 0 w v
    last_field_list = ap (λ l. spread 0 l (cut p.paddings (paddings ++ v))) (cut_last p.bits bits w from to) ∙ ap (λ l. spread 0 w l) (cut_last p.paddings paddings v first past)

    last_part : Ascend 0 v (length w) → IsPart (bits ++ w) (paddings ++ v) p
    last_part a = record {
      bits_ordered = omega (arith, from, to, length-append bits w);
      bits_within = omega (arith, to);
      paddings_ordered = omega (arith, first, past, length-append paddings v);
      paddings_within = omega (arith, past);
      ascend = subst (λ l. Ascend 0 l (length (cut p.bits (bits ++ w)))) (sym (cut_last p.paddings paddings v first past))
          (subst (λ l. Ascend 0 v (length l)) (sym (cut_last p.bits bits w from to)) a);
    }

one_behind : (bits : List Bool) (paddings : List ℕ) (ps : List Part) (p : Part) → AreParts bits paddings ps → IsPart bits paddings p → AreParts bits paddings (ps ++ p ∷ [])
one_behind bits paddings [] p h k = (k, tt)
one_behind bits paddings (q ∷ ps) p h k = (h.0, one_behind bits paddings ps p h.1 k)

-- ---- what is stored

module _ (bits w more : List Bool) (paddings v others : List ℕ) (ps all : List Part) (h : AreParts bits paddings ps) (e : more ≡ bits ++ w) (f : others ≡ paddings ++ v) where
  -- the same parts
  module _ (g : all ≡ ps) where
    pub still_parts : AreParts more others all
    still_parts = subst (λ l. AreParts l others all) (sym e) (subst (λ l. AreParts (bits ++ w) l all) (sym f)
        (subst (λ l. AreParts (bits ++ w) (paddings ++ v) l) (sym g) (parts_kept bits w paddings v ps h)))

    pub same_field_lists : field_lists_in more others all ≡ field_lists_in bits paddings ps
    same_field_lists = ap (λ l. field_lists_in l others all) e ∙ ap (λ l. field_lists_in (bits ++ w) l all) f ∙
        ap (λ l. field_lists_in (bits ++ w) (paddings ++ v) l) g ∙ field_lists_kept bits w paddings v ps h

  -- one more part
  module _ (p : Part) (g : all ≡ ps ++ p ∷ []) (from : p.bits.from ≡ length bits) (to : p.bits.to ≡ length more)
      (first : p.paddings.from ≡ length paddings) (past : p.paddings.to ≡ length others) where
    pub more_parts : Ascend 0 v (length w) → AreParts more others all
    more_parts a =
        subst (λ l. AreParts l others all) (sym e) (subst (λ l. AreParts (bits ++ w) l all) (sym f) (subst (λ l. AreParts (bits ++ w) (paddings ++ v) l) (sym g)
        (one_behind (bits ++ w) (paddings ++ v) ps p (parts_kept bits w paddings v ps h) (last_part bits w paddings v p from (to ∙ ap length e) first (past ∙ ap length f) a))))

    pub one_field_list_more : field_lists_in more others all ≡ field_lists_in bits paddings ps ++ spread 0 w v ∷ []
    one_field_list_more =
        ap (λ l. field_lists_in l others all) e ∙ ap (λ l. field_lists_in (bits ++ w) l all) f ∙ ap (λ l. field_lists_in (bits ++ w) (paddings ++ v) l) g
        ∙ map-append (field_list_in (bits ++ w) (paddings ++ v)) ps (p ∷ [])
        ∙ ap (λ l. l ++ field_list_in (bits ++ w) (paddings ++ v) p ∷ []) (field_lists_kept bits w paddings v ps h)
        ∙ ap (λ t. field_lists_in bits paddings ps ++ t ∷ []) (last_field_list bits w paddings v p from (to ∙ ap length e) first (past ∙ ap length f))

-- ---- one of them

pub part_at : (bits : List Bool) (paddings : List ℕ) (ps : List Part) (i : ℕ) (p d : Part) → AreParts bits paddings ps → i < length ps → p ≡ get_or ps i d → IsPart bits paddings p
part_at bits paddings [] i p d h l e = absurd (omega arith)
part_at bits paddings (q ∷ ps) zero p d h l e = subst (IsPart bits paddings) (sym e) h.0
part_at bits paddings (q ∷ ps) (suc i) p d h l e = part_at bits paddings ps i p d h.1 (omega arith) e

pub field_list_at : (bits : List Bool) (paddings : List ℕ) (ps : List Part) (i : ℕ) (p d : Part) → i < length ps → p ≡ get_or ps i d →
    spread 0 (cut p.bits bits) (cut p.paddings paddings) ≡ get_or (field_lists_in bits paddings ps) i []
field_list_at bits paddings ps i p d l e = ap (field_list_in bits paddings) e ∙ sym (get_or-map (field_list_in bits paddings) ps i d [] l)

-- the part of the field-list at an index
pub part_of : (bits : List Bool) (paddings : List ℕ) (ps : List Part) (ts : List FieldList) (i : ℕ) (p : Part) → AreParts bits paddings ps →
    field_lists_in bits paddings ps ≡ ts → i < length ts → p ≡ get_or ps i p → IsPart bits paddings p
part_of bits paddings ps ts i p h is l e = part_at bits paddings ps i p p h (omega (arith, length-map ps (field_list_in bits paddings), ap length is, l)) e
