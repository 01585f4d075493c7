use Rattle.millwheel_cli.proofs.Said.{AppendsPrefix-either}
use Rattle.millwheel_cli.proofs.saying.tell.Goals as goal

pub returns-clause-told : goal.returns-clause-told
returns-clause-told g c = AppendsPrefix-either _ _ _ _ c.say-said.ensures.whole c.say-said.ensures.part
