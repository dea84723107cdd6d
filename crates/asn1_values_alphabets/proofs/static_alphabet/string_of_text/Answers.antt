use Rattle.std.proofs.Common.{rules, map-id, ◌≡◌, ◌∷◌, [], ◌+◌, length, drop, true, sym, ◌∙◌, arith}
use Rattle.std.specs.Str.{chars}
use Rattle.std.proofs.lemmas.Iterator.{YieldsList-from_chars}
use Rattle.std.proofs.lemmas.Iterator.Consumers.{YieldsList-turn, YieldsList-end}
use Rattle.std.proofs.lemmas.List.{at_drop_all, length_push}
use Rattle.std.proofs.lemmas.Result.{err_from_is_err_and}
use Rattle.asn1_values_alphabets.specs.Permitted.{first_refused, permits, permits_all, IsRefusalOf}
use Rattle.asn1_values_alphabets.proofs.Permitted.{list_all-find, first_refused-permitted, refused_by_first, turn_of_text}
use Rattle.asn1_values_alphabets.proofs.static_alphabet.string_of_text.Goals as goal

pub loop-character-preserved : goal.loop-character-preserved
loop-character-preserved g c =
    let t = YieldsList-turn (YieldsList-from_chars c.args.text.now c.utf8.text cc) c.loop-character.yielded _ c.loop-character.yielded_by _ _ c.in-Some.character c.in-Some.is c.next.ensures.steps in
    let made = c.loop-character.invariant.made in
    let e = turn_of_text g.S.StaticPermittedAlphabet.kind (chars c.args.text.now) (length c.loop-character.yielded) c.in-Some.character t.0 t.1 in
    let permitted : permits g.S.StaticPermittedAlphabet.kind c.in-Some.character ≡ true = rw (← c.from.ensures) c.in_ok-push_char.ensures.permitted in
    let pushed = c.in_ok-push_char.ensures.pushed in
    let same = c.from.ensures in
    record {
      made = cc;
      first = rw length_push (sym (first_refused-permitted g.S.StaticPermittedAlphabet.kind c.in-Some.character
          (drop (length c.loop-character.yielded + 1) (chars c.args.text.now)) permitted) ∙ sym e ∙ c.loop-character.invariant.first);
    }

pub returns-in_err-push_char-clause-refused : goal.returns-in_err-push_char-clause-refused
returns-in_err-push_char-clause-refused g c =
    let t = YieldsList-turn (YieldsList-from_chars c.args.text.now c.utf8.text cc) c.loop-character.yielded _ c.loop-character.yielded_by _ _ c.in-Some.character c.in-Some.is c.next.ensures.steps in
    let e = turn_of_text g.S.StaticPermittedAlphabet.kind (chars c.args.text.now) (length c.loop-character.yielded) c.in-Some.character t.0 t.1 in
    let r : IsRefusalOf g.S.StaticPermittedAlphabet.kind g.S.StaticPermittedAlphabet.refused (c.in-Some.character ∷ []) c.in_err-push_char.field-0.0 =
    rw (← c.from.ensures) c.in_err-push_char.ensures.refused in
    let p = err_from_is_err_and c.from_residual-in_err-push_char.result c.from_residual-in_err-push_char.ensures.1 in
    let all : permits_all g.S.StaticPermittedAlphabet.kind (chars c.args.text.now) ≡ true = search rules in
    rw (p.1, p.2) (refused_by_first g.S.StaticPermittedAlphabet.kind g.S.StaticPermittedAlphabet.refused c.in-Some.character
    (drop (length c.loop-character.yielded + 1) (chars c.args.text.now)) (chars c.args.text.now) c.in_err-push_char.field-0.0 (sym e ∙ c.loop-character.invariant.first) all r)

pub returns-clause-characters : goal.returns-clause-characters
returns-clause-characters g c =
    let t = YieldsList-end (YieldsList-from_chars c.args.text.now c.utf8.text cc) c.loop-character.yielded _ c.loop-character.yielded_by _ _ c.in-None.is c.next.ensures.steps in
    let all : c.loop-character.yielded ≡ chars c.args.text.now = sym (map-id c.loop-character.yielded) ∙ t.0 in
    c.loop-character.invariant.made ∙ all

pub returns-clause-permitted : goal.returns-clause-permitted
returns-clause-permitted g c =
    let t = YieldsList-end (YieldsList-from_chars c.args.text.now c.utf8.text cc) c.loop-character.yielded _ c.loop-character.yielded_by _ _ c.in-None.is c.next.ensures.steps in
    let past = at_drop_all (first_refused g.S.StaticPermittedAlphabet.kind) (chars c.args.text.now) (length c.loop-character.yielded) (omega (arith, t.1)) in
    list_all-find (permits g.S.StaticPermittedAlphabet.kind) (chars c.args.text.now) (sym c.loop-character.invariant.first ∙ past)
