use Rattle.millwheel_cli.proofs.form.topology_of.Goals as goal

-- folding leaves it of what was stated
pub returns-clause-left : goal.returns-clause-left
returns-clause-left c =
    let stated = c.in_ok-topology.ensures in
    let made = c.in_ok-fold.ensures in
    record { shape = _; taken = stated.taken; rules = stated.rules; folding = made.topology; ways = made.routes }
