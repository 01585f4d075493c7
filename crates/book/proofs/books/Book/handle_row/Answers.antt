use Rattle.std.proofs.Common.{◌∙◌, ap}
use Rattle.mw_types.specs.declared.entry.Entry.TheVariants as entries
use Rattle.book.specs.Proposals.{left_by}
use Rattle.book.specs.declared.proposal.Proposal.TheVariants as proposals
use Rattle.book.proofs.Drafting.{IsDrafting-proposed, IsWrittenBy-drafted}
use Rattle.book.proofs.books.Book.handle_row.Goals as goal

-- the draft makes of the row what the entry leaves
pub put_draft-done-requires-clause-drafting : goal.put_draft-done-requires-clause-drafting
put_draft-done-requires-clause-drafting g c =
    let proposal = proposals.Handle c.args.delivery.now c.args.effects.now in
    let entry = entries.Handle c.seq.result c.args.name.now c.args.delivery.now.id c.args.effects.now in
    IsDrafting-proposed c.args.self.now c.args.lease.now c.args.front c.args.name.now c.args.row.now c.in-Ok.draft c.args.commit
    proposal entry c.requires.admitted c.requires.lease c.requires.row c.requires.handling c.requires.seen
    (ap (λ n. entries.Handle n c.args.name.now c.args.delivery.now.id c.args.effects.now) c.seq.ensures)
    c.in-Ok.ensures.may
    (c.in-Ok.ensures.left ∙ (λ i. left_by (c.case-case.ensures.case i).topology c.args.name.now proposal
    (c.requires.admitted.number i) entry c.args.row.now))

-- what was appended is the proposal's
pub returns-clause-written : goal.returns-clause-written
returns-clause-written g c =
    let proposal = proposals.Handle c.args.delivery.now c.args.effects.now in
    let entry = entries.Handle c.seq.result c.args.name.now c.args.delivery.now.id c.args.effects.now in
    IsWrittenBy-drafted c.args.self.now c.put_draft-done.new.self c.args.lease.now c.args.front c.args.name.now c.args.row.now
    c.put_draft-done.new.row c.in-Ok.draft c.args.commit proposal entry c.put_draft-done.result
    c.requires.admitted c.requires.lease c.requires.row c.requires.handling c.requires.seen
    (ap (λ n. entries.Handle n c.args.name.now c.args.delivery.now.id c.args.effects.now) c.seq.ensures)
    (c.in-Ok.ensures.left ∙ (λ i. left_by (c.case-case.ensures.case i).topology c.args.name.now proposal
    (c.requires.admitted.number i) entry c.args.row.now))
    c.put_draft-done.ensures.appended c.put_draft-done.ensures.commit c.put_draft-done.ensures.changed
