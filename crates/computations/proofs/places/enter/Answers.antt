use Rattle.std.proofs.Common.{set, sym, ◌∙◌, ap, subst}
use Rattle.computations.specs.Places.{IsPlace, IsGap}
use Rattle.computations.proofs.Searching.{entered-place, entered-gap}
use Rattle.computations.proofs.places.enter.Goals as goal

-- one with its number is there
pub returns-in_ok-set-in-Ok-clause-entered : goal.returns-in_ok-set-in-Ok-clause-entered
returns-in_ok-set-in-Ok-clause-entered g c =
    let number = g.X.Numbered.number in
    let place = subst (λ n. IsPlace number c.args.xs.now n c.in-Ok.at) c.number.ensures c.in-Ok.ensures.found in
    c.in_ok-set-in-Ok.ensures.changed ∙ ap (set c.args.xs.now c.in-Ok.at) c.joined.ensures
    ∙ sym (entered-place number c.args.new (λ x. g.X.Numbered.joined x c.args.new) c.args.xs.now c.in-Ok.at
    c.element_at-there.result place c.element_at-there.ensures)

-- none is
pub returns-in_ok-insert-in-Err-clause-entered : goal.returns-in_ok-insert-in-Err-clause-entered
returns-in_ok-insert-in-Err-clause-entered g c =
    let number = g.X.Numbered.number in
    let gap = subst (λ n. IsGap number c.args.xs.now n c.in-Err.at) c.number.ensures c.in-Err.ensures.absent in
    c.in_ok-insert-in-Err.ensures.inserted
    ∙ sym (entered-gap number c.args.new (λ x. g.X.Numbered.joined x c.args.new) c.args.xs.now c.in-Err.at gap)
