use Rattle.std.proofs.Common.{rules, subst, sym}
use Rattle.std.specs.Prelude.{IfErr, Result}
use Rattle.live_outlet.specs.declared.refusal.CollectRefusal.{CollectRefusal}
use Rattle.live_outlet.specs.Progress.{Found, IsRefusalOf}
use Rattle.live_outlet.proofs.Taking.{line_taken-told}
use Rattle.live_outlet.proofs.collecting.take.Goals as goal

pub returns-in-Some-clause-refused : goal.returns-in-Some-clause-refused
returns-in-Some-clause-refused c =
    subst (λ (t : Result Found CollectRefusal). IfErr c.keep.result (IsRefusalOf t))
    (sym (line_taken-told (record { firsts = c.args.firsts.now.entries; other = c.args.other.now }) c.args.line c.args.text.now
    c.in-Some.id (search rules) (search rules)))
    (c.keep.ensures.refused c.args.other.now)
