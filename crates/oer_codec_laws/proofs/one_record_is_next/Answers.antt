use Rattle.oer_codec_laws.proofs.Next as Next
use Rattle.oer_codec_laws.proofs.one_record_is_next.Goals as goal

pub returns : goal.returns
returns c = Next.one_taken
