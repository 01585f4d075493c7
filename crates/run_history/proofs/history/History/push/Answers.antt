use Rattle.std.proofs.Common.{◌∙◌}
use Rattle.list_lemmas.proofs.Told.{on_err-anyway}
use Rattle.run_history.proofs.Packings.{map_kept, packed_appended, unpacked_appended, unpacked_taken_back}
use Rattle.run_history.proofs.history.History.push.Goals as goal

pub returns-in_err-packed-clause-unchanged : goal.returns-in_err-packed-clause-unchanged
returns-in_err-packed-clause-unchanged c = on_err-anyway c.from_residual.result
    (map_kept c.self.inside.details c.pack.new.self c.self.inside.entries c.pack.ensures.kept c.self.invariant.each
    ∙ c.self.view_is)

pub invariant_of-self-2 : goal.invariant_of-self-2
invariant_of-self-2 c = packed_appended c.append.result c.self.inside.details c.pack.new.self c.append.new.details
    c.self.inside.entries c.append.new.entries c.in_ok-packed.packed c.pack.ensures.kept c.in_ok-packed.ensures.packed.0
    c.in_ok-packed.ensures.counted c.self.invariant c.append.ensures.appended c.append.ensures.unchanged

pub returns-clause-appended : goal.returns-clause-appended
returns-clause-appended c = unpacked_appended c.append.result c.self.inside.details c.pack.new.self
    c.append.new.details c.self.inside.entries c.append.new.entries c.in_ok-packed.packed c.args.entry c.args.self.now
    c.pack.ensures.kept c.in_ok-packed.ensures.packed.1 c.self.invariant c.self.view_is c.append.ensures.appended

pub returns-clause-unchanged : goal.returns-clause-unchanged
returns-clause-unchanged c = unpacked_taken_back c.append.result c.self.inside.details c.pack.new.self
    c.append.new.details c.self.inside.entries c.append.new.entries c.in_ok-packed.packed c.args.self.now
    c.pack.ensures.kept c.in_ok-packed.ensures.counted.1 c.self.invariant c.self.view_is c.append.ensures.unchanged
