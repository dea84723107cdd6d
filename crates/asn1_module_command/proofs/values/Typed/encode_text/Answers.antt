use Rattle.std.proofs.lemmas.Result.{IfOk-weaker}
use Rattle.asn1_module_command.proofs.values.Typed.encode_text.Goals as goal

pub returns : goal.returns
returns c =
    let tape = c.in_ok-tape.ensures in
    IfOk-weaker c.encode.result _ _ (λ octets w. record {
      value = tape.value;
      is_value = tape.is_value;
      is_of_type = tape.is_of_type;
      written = w.written tape.value (record { is_value = tape.is_value; kept = tape.kept });
    }) c.encode.ensures
