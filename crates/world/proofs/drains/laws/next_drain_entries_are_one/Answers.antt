use Rattle.world.proofs.drains.OneStep.{last-follows, one_step}
use Rattle.world.proofs.drains.laws.next_drain_entries_are_one.Goals as goal

pub returns : goal.returns
returns c = record {
  same = λ case from history one other x f y g. one_step case from history one other x y
      (last-follows case history one f.legal f.fenced) (last-follows case history other g.legal g.fenced);
}
