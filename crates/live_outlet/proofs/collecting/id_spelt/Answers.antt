use Rattle.std.proofs.Common.{Some, rules, ap, ◌∙◌}
use Rattle.live_outlet.specs.LiveLines.{LiveLine}
use Rattle.live_outlet.proofs.Spelling.{id_spelt-some}
use Rattle.live_outlet.proofs.collecting.id_spelt.Goals as goal

pub returns-then-eq : goal.returns-then-eq
returns-then-eq c =
    ap (λ (line : LiveLine). Some line.id) c.line.view_is
    ∙ id_spelt-some c.args.text.now c.args.line.now c.requires.live (search rules)
