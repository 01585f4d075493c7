use Rattle.std.proofs.Common.{◌+◌, rules, ◌∙◌, arith}
use Rattle.text_lines.specs.Lines.{lines_of}
use Rattle.live_outlet.specs.Progress.{Found}
use Rattle.live_outlet.proofs.Taking.{lines_taken-step, text-refused, text-collected}
use Rattle.live_outlet.proofs.collecting.collect.Goals as goal

pub loop-rest-preserved : goal.loop-rest-preserved
loop-rest-preserved c =
    let found : Found = record { firsts = c.loop-rest.firsts.entries; other = c.loop-rest.other } in
    let found' : Found = record { firsts = c.take.new.firsts.entries; other = c.take.new.other } in record {
      same = c.loop-rest.invariant.same
          ∙ lines_taken-step found found' (c.loop-rest.line + 1) (lines_of c.loop-rest.rest.now) c.first_line.result.0.now
          (lines_of c.first_line.result.1.now) c.first_line.ensures.lines (search rules);
      few = search (rules, arith);
      most = search (rules, arith);
    }

pub returns-in-Err-clause-refused : goal.returns-in-Err-clause-refused
returns-in-Err-clause-refused c =
    let found : Found = record { firsts = c.loop-rest.firsts.entries; other = c.loop-rest.other } in
    text-refused c.args.bytes.now found (c.loop-rest.line + 1) (lines_of c.loop-rest.rest.now) c.first_line.result.0.now
    (lines_of c.first_line.result.1.now) c.in-Err.why c.loop-rest.invariant.same c.first_line.ensures.lines
    c.in-Err.ensures.refused

pub returns-clause-collected : goal.returns-clause-collected
returns-clause-collected c =
    text-collected c.args.bytes.now (record { firsts = c.loop-rest.firsts.entries; other = c.loop-rest.other })
    (c.loop-rest.line + 1) c.loop-rest.rest.now c.in_ok-lines.lines c.loop-rest.invariant.same (search rules) (search rules)
    (search rules)
