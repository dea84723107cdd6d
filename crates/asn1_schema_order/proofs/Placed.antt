-- Entries of encodings, one after another.
use Rattle.std.proofs.Common.{◌≡◌, ℕ, suc, ◌+◌, ◌<◌, List, [], ◌∷◌, ◌++◌, length, get_or, take, ap, sym, subst, ◌∙◌, arith}
use Rattle.std.specs.Ordering.{is_lt}
use Rattle.std.proofs.lemmas.List.{take_all, take_more, length-take-le}
use Rattle.asn1_schema_order.specs.declared.encodings.Entry.{Entry}
use Rattle.asn1_schema_order.specs.Entries.{octets_of, ArePlaced}
use Rattle.asn1_schema_order.specs.LeadingOctets.{leading, fronted}
use Rattle.asn1_schema_order.proofs.Ascending.{Each, each_push, less}
use Rattle.asn1_schema_order.proofs.Leading.{AreOctets, leads}

placed_one : (i : ℕ) (ws : List (List ℕ)) (es : List Entry) (w : List ℕ) (e : Entry) → ArePlaced i ws es → octets_of e ≡ w → e.index ≡ i + length ws → ArePlaced i (ws ++ w ∷ []) (es ++ e ∷ [])
placed_one i [] [] w e p a b = (a, b ∙ (omega arith), tt)
placed_one i [] (f ∷ fs) w e p a b = absurd p
placed_one i (v ∷ vs) [] w e p a b = absurd p
placed_one i (v ∷ vs) (f ∷ fs) w e p a b = (p.0, p.1, placed_one (suc i) vs fs w e p.2 a (omega (arith, b)))

-- one more of those taken
pub placed_next : (ws : List (List ℕ)) (es fs : List Entry) (i : ℕ) (e : Entry) → i < length ws → ArePlaced 0 (take i ws) es →
    octets_of e ≡ get_or ws i [] → e.index ≡ i → fs ≡ es ++ e ∷ [] → ArePlaced 0 (take (i + 1) ws) fs
placed_next ws es fs i e h p a b c =
    subst (λ l. ArePlaced 0 (take (i + 1) ws) l) (sym c)
    (subst (λ l. ArePlaced 0 l (es ++ e ∷ [])) (sym (take_more ws i [] h)) (placed_one 0 (take i ws) es (get_or ws i []) e p a (omega (arith, b, h, length-take-le i ws (omega (arith, h))))))

-- all are taken
pub placed_all : (ws : List (List ℕ)) (es : List Entry) (i : ℕ) → length ws ≡ i → ArePlaced 0 (take i ws) es → ArePlaced 0 ws es
placed_all ws es i h p = subst (λ l. ArePlaced 0 l es) (take_all i ws (omega (arith, h))) p

-- ---- their fronts

abbrev pub HasFront : Entry → Type 0
HasFront e = (e.front ≡ leading 8 (octets_of e)) × AreOctets (octets_of e)

pub fronts_agree : (d e : Entry) → HasFront d → HasFront e → less octets_of d e ≡ less fronted d e
fronts_agree d e p q = ap is_lt (sym (leads 8 d.front e.front (octets_of d) (octets_of e) p.0 q.0 p.1 q.1))

pub fronts_next : (es fs : List Entry) (e : Entry) → Each HasFront es → HasFront e → fs ≡ es ++ e ∷ [] → Each HasFront fs
fronts_next es fs e q p c = subst (Each HasFront) (sym c) (each_push HasFront es e q p)
