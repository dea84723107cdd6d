-- Units in sequence, and field-lists that are missing.
use Rattle.std.proofs.Common.{◌≡◌, ℕ, Bool, List, [], ◌∷◌, ◌++◌, Option, Some, None, option_map, Result, Ok, Err, refl, ap, subst, sym, ◌∙◌}
use Rattle.std.specs.Result.{IsErrAnd, MatchResult}
use Rattle.asn1_model.specs.Form.{joined}
use Rattle.asn1_schema_errors.specs.declared.EncodeError.{EncodeError}
use Rattle.asn1_schema_errors.specs.declared.EncodeError.TheVariants.{OutOfMemory, CallOutOfPlace, AlreadyFailed}
use Rattle.per_codec_packing.specs.FieldLists.{FieldList, as_field_list, on, field_list_at}
use Rattle.per_codec_packing.proofs.Formed.{as_field_list-append}
use Rattle.per_codec_writing.specs.Writing.{Packed, Adds, Refuses, place, plus}
use Rattle.per_codec_writing.proofs.PaddingFieldLists.{adds_field_list}
use Rattle.per_codec_writing.specs.Units.{together, unit_forms}

joined_field_list : (ts : List (List Bool)) (p : Option ℕ) → field_list_at (joined (unit_forms ts)) p ≡ Some (as_field_list (together ts))
unfolding field_list_at
joined_field_list [] p = refl
joined_field_list (t ∷ ts) p = ap (option_map (λ v. as_field_list t ++ v)) (joined_field_list ts (on p (as_field_list t))) ∙ ap Some (as_field_list-append t (together ts))

pub adds_joined : (ts : List (List Bool)) (old new : Packed) → new ≡ plus old (as_field_list (together ts)) → Adds (field_list_at (joined (unit_forms ts)) (place old)) old new
adds_joined ts old new e = adds_field_list _ (as_field_list (together ts)) old new (joined_field_list ts (place old)) e

-- if one field-list is missing, so is another
pub refuses_also : (o o' : Option FieldList) (e : EncodeError) → (o ≡ None → o' ≡ None) → Refuses o e → Refuses o' e
refuses_also o o' OutOfMemory h r = tt
refuses_also o o' CallOutOfPlace h r = r
refuses_also o o' AlreadyFailed h r = r
refuses_also o o' e h r = h r

pub refuses_memory : (o : Option FieldList) (e : EncodeError) → e ≡ OutOfMemory → Refuses o e
refuses_memory o e h = subst (Refuses o) (sym h) tt

-- what a `?` passes on
pub raised : (o o' : Option FieldList) (A : Unit {0} → Type 0) (x : EncodeError) (r : Result (Unit {0}) EncodeError) → IsErrAnd r (λ y. y ≡ x) →
    (o ≡ None → o' ≡ None) → Refuses o x → MatchResult r A (Refuses o')
raised o o' A x (Ok v) h n p = absurd h
raised o o' A x (Err y) h n p = refuses_also o o' y n (subst (Refuses o) (sym h) p)
