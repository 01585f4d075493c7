use Rattle.std.proofs.Common.{◌∙◌, ◌++◌, ◌∷◌, ℕ, List, [], length, length-append, sym, subst}
use Rattle.workers.specs.declared.mailbox.Mailbox.{Mailbox}
use Rattle.workers.specs.Boxes.{HavePasses}
use Rattle.workers.proofs.Handing.{boxes-more}
use Rattle.workers.proofs.boxes.add_box.Goals as goal

-- each worker has a pass of one mailbox more
pub returns-clause-passes : goal.returns-clause-passes
returns-clause-passes g c =
    let boxes = c.args.boxes.now.items in
    let box = c.in_ok-mailbox.mailbox in
    let passes = c.hand_out.new.passes.items in
    let all = boxes-more boxes box c.in_ok-mailbox.made.items c.args.passes.now.items passes
    (c.in_ok-mailbox.ensures.many ∙ sym c.requires.many) c.in_ok-mailbox.ensures.passes c.in_ok-hand_out.ensures.handed
    c.requires.passes in
    subst (λ (l : List (Mailbox g.row.N.Denot g.row.J.Denot)). HavePasses (length l) l passes) (sym c.in_ok-push.ensures.items)
    (subst (λ (n : ℕ). HavePasses n (boxes ++ box ∷ []) passes) (sym (length-append boxes (box ∷ []))) all)
