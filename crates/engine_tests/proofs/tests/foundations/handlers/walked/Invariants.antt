use Rattle.mw_types.specs.Bounds.{IsWithin}
use Rattle.computations.specs.Parts.{HasState}
use Rattle.engine_tests.proofs.tests.foundations.handlers.walked.Given as goal

-- the row may have the state so far
abbrev pub invariant-loop-deed : goal.invariant-loop-deed
invariant-loop-deed g l = HasState l.work l.part l.state × IsWithin l.state
