use Rattle.std.proofs.Common.{◌≡◌, ◌≤◌, ◌+◌, ◌-◌, ◌++◌, ◌∷◌, [], length, slice_index_or, refl, ap, ◌∙◌, arith, rules}
use Rattle.per_codec_alphabets.proofs.Listed.{end_longer, more_few}
use Rattle.per_codec_alphabets.specs.Codes.{runs_of}
use Rattle.per_codec_alphabets.specs.Listed.{all_of}
use Rattle.per_codec_alphabets.proofs.few.FewRuns.push_character.Goals as goal

pub returns-then-eq : goal.returns-then-eq
returns-then-eq c =
    let runs = c.self.inside.runs in
    let n = c.self.inside.count in
    let r = slice_index_or runs (n - 1) (record { first = 0; last = 0 }) in
    let follows : r.last + 1 ≡ c.args.character = search rules in
    let within : n ≤ length runs = omega (arith, c.self.invariant.within, c.self.invariant.eight) in
    λ t. end_longer runs n c.args.character _ (record { first = r.first; last = c.args.character }) c.if-self-gt0.true within c.self.invariant.some follows refl refl
    ∙ ap (λ l. all_of (runs_of l) ++ c.args.character ∷ []) c.self.view_is

pub invariant_of-self-2 : goal.invariant_of-self-2
invariant_of-self-2 c = more_few c.self.inside.runs c.self.inside.count (record { first = c.args.character; last = c.args.character })
    (omega (arith, c.self.invariant.within, c.if-self-eq-PLACES.false)) (omega arith) c.self.invariant
