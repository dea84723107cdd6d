use Rattle.std.proofs.Common.{◌≡◌, ◌∷◌, ◌++◌, ◌+◌, ◌<◌, ◌^◌, ℕ, List, [], length, take, drop, get_or, Some, refl, sym, ap, ◌∙◌, arith}
use Rattle.std.proofs.lemmas.List.{drop_more, take_more}
use Rattle.asn1_model.specs.Numbers.{octet_bits}
use Rattle.per_codec_alphabets.proofs.Places.{of_number}
use Rattle.per_codec_alphabets.specs.Codes.{code_of}
use Rattle.per_codec_reading_values.proofs.Steps.{begins, ends_without, goes_on, octet_digits, octet_behind, octet_below, octets_whole}
use Rattle.per_codec_reading_values.proofs.codes.are_in_run.Goals as goal

some_same : {x y : ℕ} → Some x ≡ Some y → x ≡ y
some_same e = cc

pub loop-octet-init : goal.loop-octet-init
loop-octet-init g c = begins g.S.StaticPermittedAlphabet.kind c.args._alphabet.now (length c.args.octets.now) [] (octet_bits c.args.octets.now) refl
    (octets_whole c.args._alphabet.now c.args.octets.now c.requires.octet)

pub returns-in_default-clause-stuck : goal.returns-in_default-clause-stuck
returns-in_default-clause-stuck g c e =
    let a = c.args._alphabet.now in
    let i : ℕ = c.loop-octet.octet-index in
    let os : List ℕ = c.args.octets.now in
    let l : i < length os = omega (arith, c.loop-octet-test.true) in
    let small : get_or os i 0 < 2 ^ 8 = (c.type_inv.octets i).fits in
    let x : c.from.result ≡ get_or os i 0 = c.from.ensures in
    let at : drop i os ≡ c.from.result ∷ drop (i + 1) os = drop_more os i 0 l ∙ ap (λ o. o ∷ drop (i + 1) os) (sym x) in
    let below : c.from.result < 2 ^ 8 = rw x small in
    ends_without g.S.StaticPermittedAlphabet.kind a (length os) i _ _ (octet_bits os) c.loop-octet.invariant l _ c.from.result
    (octet_digits a c.requires.octet (drop i os) (drop (i + 1) os) c.from.result at) (octet_below a c.from.result c.requires.octet below)
    (λ d f p. c.in_default.ensures.alone d (sym (c.requires.codes d) ∙ f) p) refl

pub loop-octet-preserved : goal.loop-octet-preserved
loop-octet-preserved g c =
    let a = c.args._alphabet.now in
    let i : ℕ = c.loop-octet.octet-index in
    let os : List ℕ = c.args.octets.now in
    let l : i < length os = omega (arith, c.loop-octet-test.true) in
    let small : get_or os i 0 < 2 ^ 8 = (c.type_inv.octets i).fits in
    let x : c.from.result ≡ get_or os i 0 = c.from.ensures in
    let at : drop i os ≡ c.from.result ∷ drop (i + 1) os = drop_more os i 0 l ∙ ap (λ o. o ∷ drop (i + 1) os) (sym x) in
    let below : c.from.result < 2 ^ 8 = rw x small in
    let d : ℕ = c.in-Some._character in
    let found : code_of a d ≡ Some c.from.result = c.requires.codes d ∙ c.in-Some.ensures.found in
    let same : get_or os i 0 ≡ d = sym x ∙ some_same (of_number a d c.from.result c.requires.by_number found) in
    let more : take (i + 1) os ≡ take i os ++ d ∷ [] = take_more os i 0 l ∙ ap (λ o. take i os ++ o ∷ []) same in
    goes_on g.S.StaticPermittedAlphabet.kind a (length os) i _ (octet_bits (drop i os)) (octet_bits os) c.loop-octet.invariant l _ c.from.result
    (octet_digits a c.requires.octet (drop i os) (drop (i + 1) os) c.from.result at) (octet_below a c.from.result c.requires.octet below)
    (λ d f p. c.in-Some.ensures.alone d (sym (c.requires.codes d) ∙ f) p) d (take (i + 1) os) _ more c.in-Some.ensures.permitted found
    (octet_behind a c.requires.octet (drop i os) (drop (i + 1) os) c.from.result at)
