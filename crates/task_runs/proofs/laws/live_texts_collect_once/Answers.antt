use Rattle.task_runs.proofs.LiveCollects.{live-agrees, live-collects}
use Rattle.task_runs.proofs.laws.live_texts_collect_once.Goals as goal

pub returns : goal.returns
returns c = record {
  agree = λ shape history text why is. live-agrees shape history text is why;
  once = λ shape history text texts others is. live-collects shape history text is texts others;
}
