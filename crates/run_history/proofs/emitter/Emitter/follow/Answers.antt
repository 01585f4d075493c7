use Rattle.std.proofs.Common.{◌∙◌, ◌<◌, ◌++◌, ◌∷◌, [], List, ap, cond, subst, sym}
use Rattle.std.proofs.lemmas.Result.{on_ok_weaker}
use Rattle.mw_types.specs.declared.entry.Entry.{Entry}
use Rattle.mw_types.specs.declared.delivery.Emission.{Emission}
use Rattle.topology.specs.Shapes.{parts_of}
use Rattle.row_parts.specs.Contents.{IsId}
use Rattle.run_history.specs.Lent.{lent}
use Rattle.run_history.specs.Printing.{HasFollowed, sends_made}
use Rattle.run_history.specs.Runs.{run_of}
use Rattle.run_history.proofs.Reaching.{all-appended, emitted_ids, emitted_there, followed_more}
use Rattle.run_history.proofs.emitter.Emitter.follow.Goals as goal

pub returns-clause-followed : goal.returns-clause-followed
returns-clause-followed c =
    let shape = c.args.topology.now in
    let entry = lent c.args.entry.now in
    let late = c.self.inside.late in
    on_ok_weaker c.push.result (λ appended (history : List Entry) (before : HasFollowed shape history c.args.self.now).
    let inside : HasFollowed shape history late = subst (HasFollowed shape history) (sym c.self.view_is) before in
    followed_more shape history entry late _ inside
    (appended ∙ ap (λ n. late ++ n ∷ []) (c.late_sends.ensures ∙ ap (λ b. cond b (sends_made shape entry) 0)
    (c.is_late-late.ensures (run_of shape history).made inside.knows)))) c.push.ensures.appended

pub returns-clause-parts : goal.returns-clause-parts
returns-clause-parts c =
    on_ok_weaker c.push.result (λ appended. all-appended (λ (e : Emission). e.part < parts_of c.args.topology.now) _ _ _
    c.in_ok-emit_all.ensures.emitted
    (emitted_there c.args.topology.now c.is_late-late.result c.args.commit (lent c.args.entry.now) c.requires.part))
    c.push.ensures.appended

pub returns-clause-ids : goal.returns-clause-ids
returns-clause-ids c =
    on_ok_weaker c.push.result (λ appended. all-appended (λ (e : Emission). IsId e.id) _ _ _
    c.in_ok-emit_all.ensures.emitted
    (emitted_ids c.args.topology.now c.is_late-late.result c.args.commit (lent c.args.entry.now) c.requires.commit c.requires.few))
    c.push.ensures.appended
