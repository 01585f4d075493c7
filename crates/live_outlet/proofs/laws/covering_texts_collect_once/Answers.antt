use Rattle.live_outlet.proofs.Results.{covers-agrees, covers-part, covers-only, covers-collects}
use Rattle.live_outlet.proofs.laws.covering_texts_collect_once.Goals as goal

pub returns : goal.returns
returns c = record { agree = covers-agrees; each = covers-part; only = covers-only; once = covers-collects }
