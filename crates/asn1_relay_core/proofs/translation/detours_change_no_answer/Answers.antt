use Rattle.asn1_relay_core.proofs.Detours.{behind_a_detour, through_a_detour}
use Rattle.asn1_relay_core.proofs.translation.detours_change_no_answer.Goals as goal

pub returns : goal.returns
returns c = λ from via to s w octets x lawful first. (behind_a_detour from via s w octets lawful first to x, through_a_detour from via s w octets lawful first to x)
