use Rattle.world.specs.scripts.Worlds.{world_on}
use Rattle.world.proofs.scripts.Steps.{script-claimed, script-keeps}
use Rattle.world.proofs.scripts.keeping.scripts_keep_what_steps_keep.Goals as goal

pub returns : goal.returns
returns c = record {
  kept = script-keeps;
  claimed = script-claimed;
  sixteen = λ case routes history marks script. (script-keeps case (world_on routes history marks) script).form.workers;
}
