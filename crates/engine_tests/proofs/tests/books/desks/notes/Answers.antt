use Rattle.std.proofs.Common.{◌∷◌, [], sym, ap, subst, ◌∙◌}
use Rattle.engine_tests.specs.TestSeats.{IsAtRest}
use Rattle.engine_tests.proofs.TestSeatLaws.{rest_behind, rest_moved}
use Rattle.engine_tests.proofs.tests.books.desks.notes.Goals as goal

-- each seat is at rest again once its desk is gone
pub returns-clause-one : goal.returns-clause-one
returns-clause-one g c =
    let first = c.on-first.result in
    let desk = c.pass_note.new.one in
    let begun = rest_moved _ _ _ _ _ first.seat.now.place c.requires.one c.on-first.ensures.view
    (first.table ∙ ap (λ s. s.table.shared.table_id) c.on-first.ensures.shared) in
    let left = c.one-1.given.1 (sym (c.pass_note.ensures.loan ∙ c.on-first.ensures.loan)) in
    subst (λ s. IsAtRest c.args.shared.now.table.shared.table_id c.args.shared.now.case.now 2 (0 ∷ []) s.place) (sym left)
    (rest_behind _ _ _ _ _ desk.seat.now.place begun c.pass_note.ensures.home c.pass_note.ensures.case
    desk.seat.now.live desk.turn desk.places)

pub returns-clause-other : goal.returns-clause-other
returns-clause-other g c =
    let first = c.on-second.result in
    let desk = c.pass_note.new.other in
    let begun = rest_moved _ _ _ _ _ first.seat.now.place c.requires.other c.on-second.ensures.view
    (first.table ∙ ap (λ s. s.table.shared.table_id) c.on-second.ensures.shared) in
    let left = c.other-1.given.1 (sym (c.pass_note.ensures.other_loan ∙ c.on-second.ensures.loan)) in
    subst (λ s. IsAtRest c.args.shared.now.table.shared.table_id c.args.shared.now.case.now 2 (1 ∷ []) s.place) (sym left)
    (rest_behind _ _ _ _ _ desk.seat.now.place begun c.pass_note.ensures.other_home c.pass_note.ensures.other_case
    desk.seat.now.live desk.turn desk.places)
