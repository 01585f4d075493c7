use Rattle.std.proofs.Common.{◌∙◌, ◌<◌, ℕ, List, [], arith, get_or, subst, sym}
use Rattle.std.specs.Prelude.{All, Contains}
use Rattle.list_lemmas.proofs.Told.{on_ok-map}
use Rattle.mw_types.specs.declared.delivery.Delivery.{Delivery}
use Rattle.topology.specs.Shapes.{parts_of}
use Rattle.run_history.specs.Watermarks.{least, times_set}
use Rattle.audit.specs.Works.{HasRestampedAt, HasStampsMore}
use Rattle.audit.proofs.WorkSteps.{left-there, sent-there, taken-held, timed-held}
use Rattle.audit.proofs.works.note_entry_work.Goals as goal

pub take_handled_work-requires-clause-held : goal.take_handled_work-requires-clause-held
take_handled_work-requires-clause-held c =
    taken-held c.args.case.now c.args.history.now c.args.kept.now c.args.entry.now c.requires.followed c.requires.kept

-- the part of the row is there
pub restamp-requires-clause-there : goal.restamp-requires-clause-there
restamp-requires-clause-there c =
    let there = left-there c.args.case.now c.args.history.now c.args.kept.now c.args.entry.now c.args.left.now c.requires.followed
    c.requires.kept c.requires.next c.requires.left in
    let many = c.take_handled_work.ensures.many in
    omega (arith, there, many)

-- and its first time was a stamp
pub restamp-requires-clause-held : goal.restamp-requires-clause-held
restamp-requires-clause-held c apart =
    let time = c.time_before-before.ensures c.args.case.now.topology in
    subst (Contains (get_or c.take_handled_work.new.works.items c.args.left.now.name.part [])) (sym time)
    (timed-held c.args.case.now c.args.history.now c.args.kept.now c.args.entry.now c.args.left.now c.take_handled_work.new.works.items
    c.requires.followed c.requires.kept c.requires.next c.requires.left c.take_handled_work.ensures.taken (λ end. apart (time ∙ end)))

-- what is sent goes to parts that are there
pub note_work-requires : goal.note_work-requires
note_work-requires c =
    let many = c.restamp.ensures.many ∙ c.take_handled_work.ensures.many ∙ c.requires.kept.works.many in record {
      there = subst (λ (n : ℕ). All (λ (d : Delivery). d.to.part < n) c.new_pending.result.now) (sym many)
          (subst (All (λ (d : Delivery). d.to.part < parts_of c.args.case.now.topology)) (sym c.new_pending.ensures)
          (sent-there c.args.case.now c.args.history.now c.args.kept.now c.args.entry.now c.args.left.now c.requires.followed c.requires.next
          c.requires.left));
    }

pub returns-clause-works : goal.returns-clause-works
returns-clause-works c = on_ok-map c.note_work.result
    (λ sends. record {
      without = c.take_handled_work.new.works.items;
      timed = c.restamp.new.works.items;
      taken = c.take_handled_work.ensures.taken;
      changed = subst (λ (b : ℕ). HasRestampedAt c.args.left.now.name.part b (least (times_set c.args.left.now.row))
          c.take_handled_work.new.works.items c.restamp.new.works.items) (c.time_before-before.ensures c.args.case.now.topology)
          (subst (λ (a : ℕ). HasRestampedAt c.args.left.now.name.part c.time_before-before.result a c.take_handled_work.new.works.items
          c.restamp.new.works.items) c.first_time.ensures c.in_ok-restamp.ensures.changed);
      sends = subst (λ (l : List Delivery). HasStampsMore l c.restamp.new.works.items c.note_work.new.works.items) c.new_pending.ensures sends;
      many = c.note_work.ensures.many ∙ c.restamp.ensures.many ∙ c.take_handled_work.ensures.many;
    }) c.note_work.ensures.added
