use Rattle.std.proofs.Common.{◌≡◌, ◌≤◌, ◌+◌}
use Rattle.topology.specs.Shapes.{injectors_of}
use Rattle.plain_answer.specs.Plain.{fires_of, fired_of}
use Rattle.plain_answer.specs.Sends.{AreRead}
use Rattle.plain_answer.proofs.Making.{AreMadeTo}
use Rattle.plain_answer.proofs.Working.{work_left}
use Rattle.plain_answer.proofs.streams.compute.Given as goal

-- the streams of the parts so far, and what they send; how often they fire, and what the parts that are left add, is how
-- often all do
abbrev pub invariant-loop-part : goal.invariant-loop-part
invariant-loop-part l = record {
  begun : injectors_of l.case.topology ≤ l.part;
  made : AreMadeTo l.case l.part l.all.streams.items;
  read : AreRead l.case.topology l.all.streams.items l.all.reads.items;
  fired : l.fired + work_left fires_of l.case l.part ≡ fired_of l.case;
}
