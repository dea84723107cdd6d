use Rattle.std.proofs.Common.{◌∙◌, ap, inl, map, option_map, sym}
use Rattle.std.proofs.lemmas.Result.{err_from_is_err_and}
use Rattle.clap.specs.Words.{app_of}
use Rattle.asn1_module_order.specs.Orders.{request_of}
use Rattle.asn1_module_order.proofs.OrderLemmas.{bad_words, words_ask}
use Rattle.asn1_module_order.proofs.words.read_order.Goals as goal

pub returns-in_err-matches-clause-bad : goal.returns-in_err-matches-clause-bad
returns-in_err-matches-clause-bad g c =
    let bad = bad_words (app_of c.in_ok-grammar.grammar) (map g.S.AsStr.text c.args.words.now) c.in_err-matches.field-0.0 c.in_ok-grammar.ensures c.in_err-matches.ensures.kinds in
    let exit = err_from_is_err_and c.from_residual-in_err-matches.result c.from_residual-in_err-matches.ensures.1 in
    rw (exit.1, exit.2) bad

pub returns-in-Some-clause-ok : goal.returns-in-Some-clause-ok
returns-in-Some-clause-ok g c =
    words_ask (app_of c.in_ok-grammar.grammar) (map g.S.AsStr.text c.args.words.now) c.in_ok-matches.matches _ c.in_ok-grammar.ensures
    (c.in_ok-matches.ensures.ok).2 c.in_ok-matches.ensures.kinds (ap (option_map request_of) (sym c.in-Some.is) ∙ c.in_ok-order.ensures.request)

pub returns-clause-bad : goal.returns-clause-bad
returns-clause-bad g c =
    inl (words_ask (app_of c.in_ok-grammar.grammar) (map g.S.AsStr.text c.args.words.now) c.in_ok-matches.matches _ c.in_ok-grammar.ensures
    (c.in_ok-matches.ensures.ok).2 c.in_ok-matches.ensures.kinds (ap (option_map request_of) (sym c.in-None.is) ∙ c.in_ok-order.ensures.request))
