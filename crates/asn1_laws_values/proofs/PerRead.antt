-- What a reader of PER accepts is a value of the type, and a strict reader's value is in normal form.
use Rattle.std.proofs.Common.{◌≡◌, ℕ, not, Bool, true, false, cond, ◌&&◌, ◌||◌, List, ◌∷◌, length, Option, Some, None, refl, subst, ◌*◌, leb, ltb, [], drop}
use Rattle.std.proofs.lemmas.Bool.{and_parts}
use Rattle.std.proofs.lemmas.List.{length-map}
use Rattle.std.specs.Prelude.{ℤ, is_some}
use Rattle.asn1_model.specs.Value.{Value, truth, nothing, number, bit_list, octet_list, text, arcs}
use Rattle.asn1_model.specs.Schema.{Range, Bounds, Counts, Size, Alphabet, StringKind, Schema, cut, boolean, null, integer, bit_string, octet_string, character_string, object_identifier}
use Rattle.asn1_model.specs.Normal.{is_bounded}
use Rattle.asn1_model.specs.Numbers.{is_within, is_count_within, fits_128, admits}
use Rattle.asn1_model.specs.Strings.{is_octet, may_hold, is_of_octets, is_identifier, permitted}
use Rattle.std.specs.List.{list_all}
use Rattle.asn1_model.specs.Form.{Form, Reads, only_if, exactly, both, joined}
use Rattle.asn1_model.specs.Per
use Rattle.asn1_laws_values.proofs.Readable.{IsRead, read_refused, read_both, read_varied, read_within, read_if, AllRead, read_joined, all_joined}
use Rattle.asn1_model.specs.Lawful.{is_of}
use Rattle.asn1_laws_values.proofs.Lengths.{two_true}
use Rattle.asn1_model.specs.Per
use Rattle.asn1_model.specs.Tidy.{is_normal}
use Rattle.asn1_model.specs.Rules.{strict_per}
use Rattle.asn1_laws_values.proofs.BitPieces.{bit_pieces, composed}
use Rattle.asn1_laws_values.proofs.Accepted.{ArePassed, is_leaf, read_of, read_normal, not_free}

abbrev PerForm : Type 0
PerForm = Form Per.Freedom Per.Detail Bool

module _ (free : Per.Freedom → Bool) where
  abbrev Read : PerForm → Type 0
  Read x = IsRead free x

  abbrev ReadEach : List PerForm → Type 0
  ReadEach xs = AllRead free xs

  -- ---- counts
  at_octet_read : (b : Bool) (x : PerForm) → Read (Per.at_octet b x) → Read x
  unfolding Per.at_octet
  at_octet_read false x r = r
  at_octet_read true x r = (read_both free r).1

  fragments_read : (al : Bool) (ms : List ℕ) (xs : List PerForm) → Read (Per.fragments al ms xs) → ReadEach xs
  unfolding Per.fragments
  fragments_read al [] xs r = read_joined free xs ((read_both free r).1)
  fragments_read al (m ∷ ms) xs r =
      let q = read_both free ((read_if free (leb 1 m && leb m 4 && leb (m * 16384) (length xs)) r).1) in
      let p = read_both free q.1 in
      all_joined free (m * 16384) xs (read_joined free _ p.0) (fragments_read al ms (drop (m * 16384) xs) p.1)

  counted_read : (al : Bool) (xs : List PerForm) → Read (Per.counted al xs) → ReadEach xs
  unfolding Per.counted
  counted_read al xs r = let q = read_varied free r in fragments_read al q.0 xs q.2

  cond_read : (b : Bool) (x y : PerForm) (P : Type 0) → (Read x → P) → (Read y → P) → Read (cond b x y) → P
  cond_read true x y P h k r = h r
  cond_read false x y P h k r = k r

  sized_root_read : (al : Bool) (c : Counts) (high : Option ℕ) (has_padding : Counts → Bool) (xs : List PerForm) → Read (Per.sized_root al c high has_padding xs) → ReadEach xs
  unfolding Per.sized_root
  sized_root_read al c None has_padding xs r = counted_read al xs r
  sized_root_read al c (Some high) has_padding xs r =
      cond_read (ltb high 65536) _ _ (ReadEach xs) (λ r. read_joined free xs (at_octet_read (al && has_padding c) (joined xs) ((read_both free r).1))) (counted_read al xs) r

  with_extension_bit_read : (e b : Bool) (x y : PerForm) (P : Type 0) → (Read x → P) → (Read y → P) → Read (Per.with_extension_bit e b x y) → P
  unfolding Per.with_extension_bit
  with_extension_bit_read false b x y P h k r = h ((read_if free b r).1)
  with_extension_bit_read true b x y P h k r =
      let q = read_varied free r in
      cond_read q.0 (both (exactly (true ∷ [])) y) (only_if b (both (exactly (false ∷ [])) x)) P (λ r. k ((read_both free r).1)) (λ r. h ((read_both free ((read_if free b r).1)).1)) q.2

  sized_read : (al : Bool) (z : Size) (held : Counts) (has_padding : Counts → Bool) (xs : List PerForm) → Read (Per.sized al z held has_padding xs) → ReadEach xs
  unfolding Per.sized
  sized_read al z held has_padding xs r = with_extension_bit_read z.extensible _ _ _ (ReadEach xs)
      (sized_root_read al z.counts z.counts.high has_padding xs) (counted_read al xs) ((read_if free _ r).1)

  open_read : (al : Bool) (x : PerForm) → Read (Per.open_type al x) → Read x
  unfolding Per.open_type Per.complete
  open_read al x r = (read_within free ((read_within free r).0)).0

  -- a value is in the root, or there is an extension marker
  with_extension_bit_in : (e b : Bool) (x y : PerForm) → Read (Per.with_extension_bit e b x y) → (e || b) ≡ true
  unfolding Per.with_extension_bit
  with_extension_bit_in false b x y r = (read_if free b r).0
  with_extension_bit_in true b x y r = refl

  sized_admits : (al : Bool) (z : Size) (held : Counts) (has_padding : Counts → Bool) (xs : List PerForm) → Read (Per.sized al z held has_padding xs) → admits z held (length xs) ≡ true
  unfolding Per.sized
  sized_admits al z held has_padding xs r =
      let q = read_if free (is_count_within held (length xs)) r in
      two_true _ _ q.0 (with_extension_bit_in z.extensible (is_count_within z.counts (length xs)) _ _ q.1)

  sized_held : (al : Bool) (z : Size) (held : Counts) (has_padding : Counts → Bool) (xs : List PerForm) → Read (Per.sized al z held has_padding xs) → is_count_within held (length xs) ≡ true
  unfolding Per.sized
  sized_held al z held has_padding xs r = (read_if free (is_count_within held (length xs)) r).0

  -- ---- the leaves
  integer_of : (al : Bool) (b : Bounds) (held : Range) (v : ℤ) → Read (Per.integer_form al b held v) → (is_within held v && (b.extensible || is_within b.range v)) ≡ true
  unfolding Per.integer_form
  integer_of al b held v r =
      let q = read_if free (is_within held v && (not (is_bounded b) || fits_128 v)) r in
      two_true _ _ ((and_parts (is_within held v) (not (is_bounded b) || fits_128 v) q.0).0) (with_extension_bit_in b.extensible (is_within b.range v) _ _ q.1)

  item_of : (al : Bool) (n : ℕ) (e : Bool) (i j : Option ℕ) → Read (Per.item_form al n e i j) → (is_some i || (e && is_some j)) ≡ true
  unfolding Per.item_form
  item_of al n e (Some i) j r = refl
  item_of al n true None (Some j) r = refl
  item_of al n true None None r = absurd (read_refused free r)
  item_of al n false None j r = absurd (read_refused free r)

  bits_of : (al : Bool) (z : Size) (held : Counts) (bs : List Bool) → Read (Per.sized al z held (Per.string_has_padding 1 (length bs)) (Per.bit_units bs)) → admits z held (length bs) ≡ true
  bits_of al z held bs r = subst (λ n. admits z held n ≡ true) (length-map bs _) (sized_admits al z held _ _ r)

  octets_of : (al : Bool) (z : Size) (held : Counts) (os : List ℕ) → Read (Per.sized al z held (Per.string_has_padding 8 (length os)) (Per.octet_units os)) → admits z held (length os) ≡ true
  octets_of al z held os r = subst (λ n. admits z held n ≡ true) (length-map os _) (sized_admits al z held _ _ r)

  characters_of : (al : Bool) (k : StringKind) (z : Size) (a : Alphabet) (held : Counts) (cs : List ℕ) →
      Read (Per.characters al z held (permitted k a) cs) → (is_count_within held (length cs) ≡ true) × (admits z held (length cs) ≡ true)
  unfolding Per.characters
  characters_of al k z a held cs r = (
    subst (λ n. is_count_within held n ≡ true) (length-map cs _) (sized_held al z held _ _ r),
    subst (λ n. admits z held n ≡ true) (length-map cs _) (sized_admits al z held _ _ r),
  )

  by_kind : (al : Bool) (k : StringKind) (z : Size) (a : Alphabet) (held : Counts) (cs : List ℕ) (b : Bool) →
      Read (cond b (only_if (is_count_within held (length cs)) (Per.counted_octets al cs))
      (Per.characters al z held (permitted k a) cs)) → (is_count_within held (length cs) ≡ true) × ((b || admits z held (length cs)) ≡ true)
  by_kind al k z a held cs true r = ((read_if free (is_count_within held (length cs)) r).0, refl)
  by_kind al k z a held cs false r = characters_of al k z a held cs r

  string_of : (al : Bool) (k : StringKind) (z : Size) (a : Alphabet) (held : Counts) (cs : List ℕ) →
      Read (Per.string_form al k z a held cs) → (may_hold k cs && is_count_within held (length cs) && (is_of_octets k || admits z held (length cs))) ≡ true
  unfolding Per.string_form
  string_of al k z a held cs r =
      let q = read_if free (may_hold k cs) r in
      let p = by_kind al k z a held cs (is_of_octets k) q.1 in
      two_true _ _ (two_true _ _ q.0 p.0) p.1

  leaf_of : (al : Bool) (s : Schema) (v : Value) → is_leaf s ≡ true → Read (Per.form al s v) → is_of s v ≡ true
  unfolding is_of Per.form
  leaf_of al boolean (truth b) e r = refl
  leaf_of al null nothing e r = refl
  leaf_of al (integer b held) (number v) e r = integer_of al b held v r
  leaf_of al (bit_string z held) (bit_list bs) e r = bits_of al z held bs r
  leaf_of al (octet_string z held) (octet_list os) e r =
      let q = read_if free (list_all is_octet os) r in
      two_true _ _ q.0 (octets_of al z held os q.1)
  leaf_of al (character_string k z a held) (text cs) e r = string_of al k z a held cs r
  leaf_of al object_identifier (arcs ns) e r = (read_if free (is_identifier ns) r).0
  leaf_of al boolean v e r = absurd (read_refused free r)
  leaf_of al null v e r = absurd (read_refused free r)
  leaf_of al (integer b held) v e r = absurd (read_refused free r)
  leaf_of al (bit_string z held) v e r = absurd (read_refused free r)
  leaf_of al (octet_string z held) v e r = absurd (read_refused free r)
  leaf_of al (character_string k z a held) v e r = absurd (read_refused free r)
  leaf_of al object_identifier v e r = absurd (read_refused free r)
  leaf_of al cut v e r = absurd (read_refused free r)
  leaf_of al s v e r = cc

  pub passed : (al : Bool) → ArePassed (bit_pieces al) free
  passed al = record {
    leaves = leaf_of al;
    items = λ n k e o p r. item_of al k e o p r;
    counts = λ z c xs r. sized_held al z c (λ c. false) xs r;
    lists = λ z c xs r. sized_read al z c (λ c. false) xs r;
    open_types = open_read al;
    tagged = λ a t x r. r;
    roots = λ e k i x r. (read_both free ((read_both free r).1)).1;
    added = λ i x r. open_read al x ((read_both free ((read_both free r).1)).1);
  }

pub message_of : (free : Per.Freedom → Bool) (al : Bool) (s : Schema) (v : Value) (w : List Bool) → Reads free (Per.message al s v) 0 w →
    is_of s v ≡ true
unfolding Per.message Per.complete
message_of free al s v w r =
    let inner = (read_within free (record { position = 0; content = w; reads = r })).0 in
    read_of (bit_pieces al) (composed al) free (passed free al) s v inner

pub message_normal : (al : Bool) (s : Schema) (v : Value) (w : List Bool) → Reads strict_per (Per.message al s v) 0 w → is_normal s v ≡ true
unfolding Per.message Per.complete
message_normal al s v w r =
    let inner = (read_within strict_per (record { position = 0; content = w; reads = r })).0 in
    read_normal (bit_pieces al) (composed al) strict_per (passed strict_per al) not_free not_free s v inner
