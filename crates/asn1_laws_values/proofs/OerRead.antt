-- What a reader of OER accepts is a value of the type, and a strict reader's value is in normal form.
use Rattle.std.proofs.Common.{◌≡◌, ℕ, not, Bool, true, false, cond, ◌&&◌, ◌||◌, List, length, refl}
use Rattle.std.proofs.lemmas.Bool.{and_parts}
use Rattle.std.specs.Prelude.{ℤ, is_some}
use Rattle.asn1_model.specs.Value.{Value, truth, nothing, number, bit_list, octet_list, text, arcs}
use Rattle.asn1_model.specs.Schema.{Range, Bounds, Counts, Size, StringKind, Schema, cut, boolean, null, integer, bit_string, octet_string, character_string, object_identifier}
use Rattle.asn1_model.specs.Normal.{is_bounded}
use Rattle.asn1_model.specs.Numbers.{is_within, is_count_within, fits_128, admits}
use Rattle.asn1_model.specs.Strings.{is_octet, may_hold, is_of_octets, is_identifier}
use Rattle.std.specs.List.{list_all}
use Rattle.asn1_model.specs.Form.{Form, Reads, only_if}
use Rattle.asn1_model.specs.Oer
use Rattle.asn1_laws_values.proofs.Readable.{IsRead, read_refused, read_both, read_if, AllRead, read_joined, read_within}
use Rattle.asn1_model.specs.Lawful.{is_of}
use Rattle.asn1_laws_values.proofs.Lengths.{two_true, or_second}
use Rattle.asn1_model.specs.Tidy.{is_normal}
use Rattle.asn1_model.specs.Rules.{strict_oer}
use Rattle.asn1_laws_values.proofs.OctetPieces.{octet_pieces, composed}
use Rattle.asn1_laws_values.proofs.Accepted.{ArePassed, is_leaf, read_of, read_normal, not_free}

abbrev OerForm : Type 0
OerForm = Form Oer.Freedom Oer.Detail ℕ

module _ (free : Oer.Freedom → Bool) where
  abbrev Read : OerForm → Type 0
  Read x = IsRead free x

  abbrev ReadEach : List OerForm → Type 0
  ReadEach xs = AllRead free xs

  members_read : (held : Counts) (xs : List OerForm) → Read (Oer.members_form held xs) → (is_count_within held (length xs) ≡ true) × ReadEach xs
  unfolding Oer.members_form
  members_read held xs r = let q = read_if free (is_count_within held (length xs)) r in (q.0, read_joined free xs ((read_both free q.1).1))

  open_read : (x : OerForm) → Read (Oer.open_type x) → Read x
  unfolding Oer.open_type
  open_read x r = (read_within free r).0

  tagged_read : (a : Bool) (x : OerForm) → Read (cond a (Oer.open_type x) x) → Read x
  tagged_read true x r = open_read x r
  tagged_read false x r = r

  -- ---- the leaves
  by_extension_marker : (e b : Bool) (x y : OerForm) → Read (cond e x (only_if b y)) → (e || b) ≡ true
  by_extension_marker true b x y r = refl
  by_extension_marker false b x y r = (read_if free b r).0

  integer_of : (b : Bounds) (held : Range) (v : ℤ) → Read (Oer.integer_form b held v) → (is_within held v && (b.extensible || is_within b.range v)) ≡ true
  unfolding Oer.integer_form
  integer_of b held v r =
      let q = read_if free (is_within held v && (not (is_bounded b) || fits_128 v)) r in
      two_true _ _ ((and_parts (is_within held v) (not (is_bounded b) || fits_128 v) q.0).0) (by_extension_marker b.extensible (is_within b.range v) _ _ q.1)

  octets_of : (b : Bool) (os : List ℕ) → Read (Oer.octets_form b os) → list_all is_octet os ≡ true
  unfolding Oer.octets_form Oer.counted
  octets_of true os r = (read_if free (list_all is_octet os) r).0
  octets_of false os r = (read_if free (list_all is_octet os) r).0

  string_of : (k : StringKind) (z : Size) (held : Counts) (cs : List ℕ) → (admits z held (length cs) && may_hold k cs) ≡ true →
      (may_hold k cs && is_count_within held (length cs) && (is_of_octets k || admits z held (length cs))) ≡ true
  string_of k z held cs h =
      let p = and_parts (admits z held (length cs)) (may_hold k cs) h in
      let q = and_parts (is_count_within held (length cs)) (z.extensible || is_count_within z.counts (length cs)) p.0 in
      two_true _ _ (two_true _ _ p.1 q.0) (or_second (is_of_octets k) (admits z held (length cs)) p.0)

  leaf_of : (s : Schema) (v : Value) → is_leaf s ≡ true → Read (Oer.form s v) → is_of s v ≡ true
  unfolding is_of Oer.form
  leaf_of boolean (truth b) e r = refl
  leaf_of null nothing e r = refl
  leaf_of (integer b held) (number v) e r = integer_of b held v r
  leaf_of (bit_string z held) (bit_list bs) e r = (read_if free (admits z held (length bs)) r).0
  leaf_of (octet_string z held) (octet_list os) e r =
      let q = read_if free (admits z held (length os)) r in
      two_true _ _ (octets_of (Oer.is_fixed z) os q.1) q.0
  leaf_of (character_string k z a held) (text cs) e r =
      string_of k z held cs ((read_if free (admits z held (length cs) && may_hold k cs) r).0)
  leaf_of object_identifier (arcs ns) e r = (read_if free (is_identifier ns) r).0
  leaf_of boolean v e r = absurd (read_refused free r)
  leaf_of null v e r = absurd (read_refused free r)
  leaf_of (integer b held) v e r = absurd (read_refused free r)
  leaf_of (bit_string z held) v e r = absurd (read_refused free r)
  leaf_of (octet_string z held) v e r = absurd (read_refused free r)
  leaf_of (character_string k z a held) v e r = absurd (read_refused free r)
  leaf_of object_identifier v e r = absurd (read_refused free r)
  leaf_of cut v e r = absurd (read_refused free r)
  leaf_of s v e r = cc

  pub passed : ArePassed octet_pieces free
  passed = record {
    leaves = leaf_of;
    items = λ n k e o p r. (read_if free (is_some o || (e && is_some p)) r).0;
    counts = λ z c xs r. (members_read c xs r).0;
    lists = λ z c xs r. (members_read c xs r).1;
    open_types = open_read;
    tagged = λ a t x r. tagged_read a x ((read_both free r).1);
    roots = λ e k i x r. r;
    added = λ i x r. r;
  }

pub octets_are_of : (free : Oer.Freedom → Bool) (s : Schema) (v : Value) (w : List ℕ) → Reads free (Oer.form s v) 0 w → is_of s v ≡ true
octets_are_of free s v w r =
    read_of octet_pieces composed free (passed free) s v (record { position = 0; content = w; reads = r })

pub octets_normal : (s : Schema) (v : Value) (w : List ℕ) → Reads strict_oer (Oer.form s v) 0 w → is_normal s v ≡ true
octets_normal s v w r =
    read_normal octet_pieces composed strict_oer (passed strict_oer) not_free not_free s v (record { position = 0; content = w; reads = r })
