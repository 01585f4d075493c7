use Rattle.audit.proofs.LowLaws.{low-table}
use Rattle.audit.proofs.law.one_pass_finds_the_low_watermarks.Goals as goal

pub returns : goal.returns
returns c = record { low = λ case run part topology there. low-table case run topology part there }
