use Rattle.per_codec_decoder.proofs.missing.missing_octets.Goals as goal

pub returns-in-Err : goal.returns-in-Err
returns-in-Err c = c.fragments.invariant c.in-Err.missing (c.in-Err.ensures.only c.fragments.behind c.in-Ok.ensures.ok)

pub fragments-preserved : goal.fragments-preserved
fragments-preserved c = λ n s. c.fragments.invariant n (c.in_default-pass_fragment.ensures.ok c.fragments.behind n c.in-Ok.ensures.ok s)
