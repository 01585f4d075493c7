use Rattle.std.proofs.Common.{rules}
use Rattle.millwheel_cli.proofs.Reasons.{plan_refused}
use Rattle.millwheel_cli.proofs.call.read_first.Goals as goal

pub returns-in-Err-clause-refused : goal.returns-in-Err-clause-refused
returns-in-Err-clause-refused g c =
    let bare = c.in_ok-bare.ensures in
    search (
      rules,
      plan_refused _ _ _ _ _ _ _ _ c.args.call.now c.args.inputs.now _ _ _ bare.files bare.left bare.faults_later
          bare.lacks_later c.in-Err.ensures.refused,
    )
