use Rattle.std.proofs.Common.{◌≡◌, rules, subst, ap, ◌∙◌}
use Rattle.std.specs.Prelude.{IsTrue}
use Rattle.std.specs.List.{list_all}
use Rattle.topology.specs.Rules.{is_name}
use Rattle.topology.specs.Shapes.{streams_of, stream_of}
use Rattle.run_history.specs.Cases.{CaseShape}
use Rattle.live_outlet.proofs.Reading.{stream-name}
use Rattle.live_outlet.proofs.live.line.Goals as goal

pub told-requires-clause-stream : goal.told-requires-clause-stream
told-requires-clause-stream c =
    let same : c.in_ok-stream.stream ≡ stream_of c.args.case.now.topology c.args.emission.now.part = search rules in
    ap is_name same
    ∙ stream-name c.args.case.now.topology c.args.emission.now.part
    (subst (λ (s : CaseShape). IsTrue (list_all is_name (streams_of s.topology))) c.case.view_is
    c.parts-parts.ensures.rules.streams) c.requires.part
