use Rattle.std.proofs.Common.{◌∙◌, ap, ◌≡◌, subst}
use Rattle.std.specs.Prelude.{Some, option_map}
use Rattle.injector.specs.Sources.{item_at}
use Rattle.mw_types.specs.declared.entry.Entry.TheVariants as entries
use Rattle.run_history.specs.Cases.{CaseShape, record_of, source_of}
use Rattle.book.specs.Proposals.{left_by}
use Rattle.book.specs.declared.proposal.Proposal.TheVariants as proposals
use Rattle.book.proofs.Drafting.{IsDrafting-proposed, IsWrittenBy-drafted}
use Rattle.book.proofs.SeenRows.{told-then}
use Rattle.book.proofs.books.Book.inject_row.Goals as goal

-- the draft makes of the row what the entry leaves
pub put_draft-done-requires-clause-drafting : goal.put_draft-done-requires-clause-drafting
put_draft-done-requires-clause-drafting g c =
    let proposal = proposals.Inject c.args.line in
    let entry = entries.Inject c.seq.result c.args.name.now.part c.args.line c.in-Ok.made.item in
    IsDrafting-proposed c.args.self.now c.args.lease.now c.args.front c.args.name.now c.args.row.now c.in-Ok.made.draft c.args.commit
    proposal entry c.requires.admitted c.requires.lease c.requires.row c.requires.line
    (told-then c.args.self.now.rows _ _ c.requires.row.known (λ r is. tt)) (
      c.in-Ok.made.item,
      (
        subst (λ (x : CaseShape). option_map record_of (item_at (source_of x c.args.name.now.part) c.args.line) ≡ Some c.in-Ok.made.item)
            c.case-case.ensures.case c.in-Ok.ensures.item,
        ap (λ n. entries.Inject n c.args.name.now.part c.args.line c.in-Ok.made.item) c.seq.ensures,
      ),
    )
    c.in-Ok.ensures.may
    (c.in-Ok.ensures.left ∙ (λ i. left_by (c.case-case.ensures.case i).topology c.args.name.now proposal
    (c.requires.admitted.number i) entry c.args.row.now))

-- what was appended is the proposal's
pub returns-clause-written : goal.returns-clause-written
returns-clause-written g c =
    let proposal = proposals.Inject c.args.line in
    let entry = entries.Inject c.seq.result c.args.name.now.part c.args.line c.in-Ok.made.item in
    IsWrittenBy-drafted c.args.self.now c.put_draft-done.new.self c.args.lease.now c.args.front c.args.name.now c.args.row.now
    c.put_draft-done.new.row c.in-Ok.made.draft c.args.commit proposal entry c.put_draft-done.result
    c.requires.admitted c.requires.lease c.requires.row c.requires.line
    (told-then c.args.self.now.rows _ _ c.requires.row.known (λ r is. tt)) (
      c.in-Ok.made.item,
      (
        subst (λ (x : CaseShape). option_map record_of (item_at (source_of x c.args.name.now.part) c.args.line) ≡ Some c.in-Ok.made.item)
            c.case-case.ensures.case c.in-Ok.ensures.item,
        ap (λ n. entries.Inject n c.args.name.now.part c.args.line c.in-Ok.made.item) c.seq.ensures,
      ),
    )
    (c.in-Ok.ensures.left ∙ (λ i. left_by (c.case-case.ensures.case i).topology c.args.name.now proposal
    (c.requires.admitted.number i) entry c.args.row.now))
    c.put_draft-done.ensures.appended c.put_draft-done.ensures.commit c.put_draft-done.ensures.changed
