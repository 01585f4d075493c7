use Rattle.std.proofs.Common.{◌≡◌, ◌∙◌, rules, min, true}
use Rattle.run_history.specs.Cases.{is_injector}
use Rattle.holdings.proofs.OwnLaws.{own-stated}
use Rattle.holdings.proofs.held.Held.own_beside.Goals as goal

-- the lesser of the oldest work and of what the file states
pub returns-then-part-injectors : goal.returns-then-part-injectors
returns-then-part-injectors c =
    let is : is_injector c.args.case.now.topology c.args.part ≡ true = search rules in
    let lesser : c.min.result ≡ min c.args.oldest c.stated.result = search rules in
    lesser ∙ own-stated c.args.case.now c.args.self.now.rows c.args.part c.args.oldest c.stated.result is
    c.requires.oldest c.stated.ensures
