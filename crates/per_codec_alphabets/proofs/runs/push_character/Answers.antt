use Rattle.std.proofs.Common.{rules, ◌≡◌, ◌+◌, refl}
use Rattle.per_codec_alphabets.proofs.Places.{joined}
use Rattle.per_codec_alphabets.proofs.runs.push_character.Goals as goal

pub returns-then-run-character : goal.returns-then-run-character
returns-then-run-character c =
    let follows : c.in-Some.run'.last + 1 ≡ c.args.character = search rules in
    rw (c.in-Some.ensures.items, c.in_ok-push-2.ensures.items) (joined c.pop.new.self.items c.in-Some.run'
    (record { first = c.in-Some.run'.first; last = c.args.character }) c.args.character follows c.if-run-character.true refl refl)
