use Rattle.std.proofs.Common.{length}
use Rattle.oer_codec_reading.proofs.tags.+read_groups.Given as goal

abbrev pub decreases-read_groups : goal.decreases-read_groups
decreases-read_groups l = length l.cursor.now
