use Rattle.history_laws.proofs.LowLaws.{low_watermark-rises}
use Rattle.history_laws.proofs.watermarks.low_watermark_never_falls.Goals as goal

pub returns : goal.returns
returns c = record { low = low_watermark-rises }
