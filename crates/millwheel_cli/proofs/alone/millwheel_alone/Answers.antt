use Rattle.millwheel_cli.proofs.Leaving.{left_of_call, no_usage, not_none, ok_of_left, reason_of_call}
use Rattle.millwheel_cli.proofs.Telling.{told_answer, told_unkept, unkept_call}
use Rattle.millwheel_cli.proofs.alone.millwheel_alone.Goals as goal

pub returns-in-Ok-clause-ok : goal.returns-in-Ok-clause-ok
returns-in-Ok-clause-ok g c is =
    ok_of_left _ _ _ _ (left_of_call _ _ c.in-Ok.command _ _ c.weak_passes_are_seen_through.ensures.text
    c.in-Ok.ensures.command c.called_alone-done.ensures.ended) is

pub returns-in-Ok-clause-usage : goal.returns-in-Ok-clause-usage
returns-in-Ok-clause-usage g c is =
    absurd (no_usage _ _ c.in-Ok.command _ c.in-Ok.ensures.command
    (reason_of_call _ _ c.in-Ok.command _ _ c.in-Ok.ensures.command c.called_alone-done.ensures.ended) is)

pub returns-in-Ok-clause-no_command : goal.returns-in-Ok-clause-no_command
returns-in-Ok-clause-no_command g c none = absurd (not_none _ c.in-Ok.command c.in-Ok.ensures.command none)

pub returns-in-Ok-clause-reason : goal.returns-in-Ok-clause-reason
returns-in-Ok-clause-reason g c =
    reason_of_call _ _ c.in-Ok.command _ _ c.in-Ok.ensures.command c.called_alone-done.ensures.ended

pub returns-in-Ok-clause-answer : goal.returns-in-Ok-clause-answer
returns-in-Ok-clause-answer g c held rows told seen_rows well kept written =
    let end = c.called_alone-done.ensures in
    told_answer _ _ _ _ _ _ _ held rows _
    (reason_of_call _ _ c.in-Ok.command _ _ c.in-Ok.ensures.command end.ended)
    (left_of_call _ _ c.in-Ok.command _ _ c.weak_passes_are_seen_through.ensures.text c.in-Ok.ensures.command end.ended)
    end.keeper_fault end.sink_fault end.tells told seen_rows well kept written

pub returns-in-Ok-clause-unkept_answer : goal.returns-in-Ok-clause-unkept_answer
returns-in-Ok-clause-unkept_answer g c held call told asks well written =
    let end = c.called_alone-done.ensures in
    told_unkept _ _ _ _ _ held call _
    (reason_of_call _ _ c.in-Ok.command _ _ c.in-Ok.ensures.command end.ended)
    (left_of_call _ _ c.in-Ok.command _ _ c.weak_passes_are_seen_through.ensures.text c.in-Ok.ensures.command end.ended)
    end.sink_fault told asks well written

pub returns-in-Ok-clause-uncalled : goal.returns-in-Ok-clause-uncalled
returns-in-Ok-clause-uncalled g c call asks =
    c.called_alone-done.ensures.unkept (unkept_call _ call c.in-Ok.command asks c.in-Ok.ensures.command)

pub returns-in-Ok-clause-left : goal.returns-in-Ok-clause-left
returns-in-Ok-clause-left g c =
    left_of_call _ _ c.in-Ok.command _ _ c.weak_passes_are_seen_through.ensures.text c.in-Ok.ensures.command c.called_alone-done.ensures.ended
