use Rattle.std.proofs.Common.{◌∙◌, ap, length, rules}
use Rattle.row_parts.specs.Changes.{shrunk}
use Rattle.row_parts.proofs.ChangeLaws.{shrunk-grown}
use Rattle.row_parts.proofs.row.Row.grow.Goals as goal

-- without what it grew by it is as it was
pub returns-clause-back : goal.returns-clause-back
returns-clause-back c =
    ap (shrunk c.args.id (length c.args.self.now.pending)) (search rules)
    ∙ shrunk-grown c.args.id c.args.sent c.args.self.now c.requires.new
