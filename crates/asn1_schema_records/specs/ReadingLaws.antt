-- The laws of the decoder of kept records.
use Rattle.std.proofs.Common.{◌≡◌, ℕ, Bool, true, false, List, ◌∷◌, refl, sym, ◌∙◌, subst, ap, arith}
use Rattle.asn1_model.specs.Schema.{Size, Counts}
use Rattle.asn1_model.specs.Numbers.{is_count_within}
use Rattle.asn1_schema_errors.specs.declared.CodecKind.{CodecKind}
use Rattle.asn1_schema_laws.specs.Records.{Record, Question, question, told, whole, one_of, bits, octets}
use Rattle.asn1_schema_laws.specs.Records.{characters, list_begins, bag_begins, choice_begins, asks_list}
use Rattle.asn1_schema_laws.specs.Records.{asks_bag, asks_sequence, asks_set, asks_group, asks_choice, asks_end}
use Rattle.asn1_schema_laws.specs.Records.{asks_whole, asks_one_of, asks_bits, asks_octets, asks_characters}
use Rattle.asn1_schema_records.specs.Taken.{Left, Takes, Levels, IsKept}

-- the record that a decoder finds, from the question and the kept record
rebuilt : Question → Record → Record
rebuilt (asks_whole b h) (whole b' h' v) = whole b h v
rebuilt (asks_one_of roots e adds) (one_of roots' e' adds' v) = one_of roots e adds v
rebuilt (asks_bits z h) (bits z' h' bs) = bits z h bs
rebuilt (asks_octets z h) (octets z' h' os) = octets z h os
rebuilt (asks_characters k z a h) (characters k' z' a' h' cs) = characters k z a h cs
rebuilt (asks_list z h) k = list_begins z h 0
rebuilt (asks_bag z h) k = bag_begins z h 0
rebuilt (asks_choice roots e adds) (choice_begins roots' e' adds' added i) = choice_begins roots e adds added i
rebuilt q k = k

told_is : (k r : Record) → IsKept k r → told r ≡ rebuilt (question r) k
unfolding rebuilt
told_is k (whole b h v) e = ap (λ (t : Record). rebuilt (asks_whole b h) t) (sym e.0)
told_is k (one_of roots m adds v) e = ap (λ (t : Record). rebuilt (asks_one_of roots m adds) t) (sym e.0)
told_is k (bits z h bs) e = ap (λ (t : Record). rebuilt (asks_bits z h) t) (sym e.0)
told_is k (octets z h os) e = ap (λ (t : Record). rebuilt (asks_octets z h) t) (sym e.0)
told_is k (characters t z a h cs) e = ap (λ (u : Record). rebuilt (asks_characters t z a h) u) (sym e.0)
told_is k (list_begins z h n) e = refl
told_is k (bag_begins z h n) e = refl
told_is k (choice_begins roots m adds added i) e = ap (λ (t : Record). rebuilt (asks_choice roots m adds) t) (sym e.0)
told_is k r e = sym e

levels_one : (q : Question) (m a b : Left) → Levels q m a → Levels q m b → a.levels ≡ b.levels
levels_one (asks_list z h) m a b p q = omega arith
levels_one (asks_bag z h) m a b p q = omega arith
levels_one (asks_sequence e n) m a b p q = omega arith
levels_one (asks_set e n) m a b p q = omega arith
levels_one (asks_group n) m a b p q = omega arith
levels_one (asks_choice r e x) m a b p q = omega arith
levels_one asks_end m a b p q = p.0 ∙ sym q.0
levels_one x m a b p q = p ∙ sym q

left_is : {b c : Left} → b.records ≡ c.records → b.levels ≡ c.levels → b.most ≡ c.most → b.failed ≡ c.failed → b.rules
    ≡ c.rules → b ≡ c
left_is {b} {c} v w x y z =
    ap (λ (t : List Record). let l : Left = record {
      records = t;
      levels = b.levels;
      most = b.most;
      failed = b.failed;
      rules = b.rules;
    } in l) v
    ∙ (ap (λ (t : ℕ). let l : Left = record {
      records = c.records;
      levels = t;
      most = b.most;
      failed = b.failed;
      rules = b.rules;
    } in l) w
    ∙ (ap (λ (t : ℕ). let l : Left = record {
      records = c.records;
      levels = c.levels;
      most = t;
      failed = b.failed;
      rules = b.rules;
    } in l) x
    ∙ (ap (λ (t : Bool). let l : Left = record {
      records = c.records;
      levels = c.levels;
      most = c.most;
      failed = t;
      rules = b.rules;
    } in l) y
    ∙ ap (λ (t : CodecKind). let l : Left = record {
      records = c.records;
      levels = c.levels;
      most = c.most;
      failed =
          c.failed;
      rules = t;
    } in l) z)))

pub takes_one : (a : Left) (r s : Record) (b c : Left) → question r ≡ question s → Takes a r b → Takes a s c
    → (told r ≡ told s) × (b ≡ c)
takes_one a r s b c k p q =
    let e : p.front ∷ b.records ≡ q.front ∷ c.records = sym p.taken ∙ q.taken in
    let x : p.front ≡ q.front = cc e in
    let y : b.records ≡ c.records = cc e in
    let z : b.levels ≡ c.levels = levels_one (question r) a b c p.levels
    (subst (λ (t : Question). Levels t a c) (sym k) q.levels) in (
      told_is p.front r p.is_kept ∙ (ap (λ (t : Question). rebuilt t p.front) k
          ∙ (ap (λ (t : Record). rebuilt (question s) t) x ∙ sym (told_is q.front s q.is_kept))),
      left_is y z (p.most ∙ sym q.most) (p.ready_still ∙ sym q.ready_still) (p.rules ∙ sym q.rules),
    )

pub takes_held : (a : Left) (z : Size) (h : Counts) (n : ℕ) (b : Left) → Takes a (list_begins z h n) b
    → is_count_within h n ≡ true
takes_held a z h n b p = let k = p.is_kept in k.3

pub takes_bag_held : (a : Left) (z : Size) (h : Counts) (n : ℕ) (b : Left) → Takes a (bag_begins z h n) b
    → is_count_within h n ≡ true
takes_bag_held a z h n b p = let k = p.is_kept in k.3

pub takes_same : (a : Left) (r : Record) (b : Left) → Takes a r b → b.rules ≡ a.rules
takes_same a r b p = p.rules

pub takes_none : (a : Left) (r : Record) (b : Left) → a.failed ≡ true → Takes a r b → ⊥
takes_none a r b h p = let e : true ≡ false = sym h ∙ p.ready in cc

pub takes_on : (a : Left) (r : Record) (b : Left) → Takes a r b → b.failed ≡ true → ⊥
takes_on a r b p f = let e : true ≡ false = sym f ∙ p.ready_still in cc
