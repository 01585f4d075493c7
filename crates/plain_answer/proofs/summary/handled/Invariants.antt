use Rattle.std.proofs.Common.{◌≡◌, ◌≤◌, ◌+◌}
use Rattle.topology.specs.Shapes.{injectors_of}
use Rattle.plain_answer.specs.Plain.{handled_of}
use Rattle.plain_answer.proofs.Working.{members_long, work_left}
use Rattle.plain_answer.proofs.summary.handled.Given as goal

-- the sum so far, and what the parts that are left add, is that of all
abbrev pub invariant-loop-part : goal.invariant-loop-part
invariant-loop-part l = record {
  begun : injectors_of l.case.topology ≤ l.part;
  sum : l.sum + work_left members_long l.case l.part ≡ handled_of l.case;
}
