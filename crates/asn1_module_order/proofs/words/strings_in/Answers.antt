use Rattle.std.proofs.Common.{◌≡◌, ◌∙◌, List, [], Option, ap, map, string_bytes}
use Rattle.std.specs.Prelude.{unwrap_or}
use Rattle.std.proofs.lemmas.Result.{IfOk-weaker}
use Rattle.clap.specs.Words.{Text, found_of}
use Rattle.clap.proofs.WalkLemmas.{raw_values-rows}
use Rattle.asn1_module_order.proofs.words.strings_in.Goals as goal

listed : Option (List Text) → List Text
listed o = unwrap_or o []

pub returns-in-Some : goal.returns-in-Some
unfolding listed
returns-in-Some c =
    IfOk-weaker c.strings_of.result _ _ (λ strings e. e ∙ ap listed (c.in-Some.ensures ∙ raw_values-rows (found_of c.args.options.now) c.args.name.now)) c.strings_of.ensures

pub returns-in-None : goal.returns-in-None
unfolding listed
returns-in-None c =
    ap (map string_bytes) c.new.ensures.items ∙ ap listed (c.in-None.ensures ∙ raw_values-rows (found_of c.args.options.now) c.args.name.now)
