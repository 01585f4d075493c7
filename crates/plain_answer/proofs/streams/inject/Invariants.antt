use Rattle.std.proofs.Common.{◌≡◌, map}
use Rattle.std.specs.List.{range_with_len}
use Rattle.run_history.specs.Cases.{source_of}
use Rattle.plain_answer.specs.Plain.{injected_of}
use Rattle.plain_answer.specs.Sends.{AreRead}
use Rattle.plain_answer.proofs.streams.inject.Given as goal

-- the streams of the injectors so far, and what they send
abbrev pub invariant-loop-part : goal.invariant-loop-part
invariant-loop-part l = record {
  streams : l.all.streams.items ≡ map injected_of (map (source_of l.case) (range_with_len 0 l.part));
  read : AreRead l.case.topology l.all.streams.items l.all.reads.items;
}
