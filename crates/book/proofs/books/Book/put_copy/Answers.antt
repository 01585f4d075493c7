use Rattle.std.proofs.Common.{subst, sym}
use Rattle.row_parts.specs.Contents.{Contents}
use Rattle.book.specs.Answers.{answer_of}
use Rattle.book.specs.Conditions.{IsRowOf, IsRowSeenAt}
use Rattle.book.specs.Writings.{IsPut, MayPutAt}
use Rattle.book.proofs.ClaimLaws.{stale-again}
use Rattle.book.proofs.SeenRows.{claimed-whole}
use Rattle.book.proofs.books.Book.put_copy.Goals as goal

-- the claim that was seen is there
pub copy_for-requires : goal.copy_for-requires
copy_for-requires g c = record {
  claimed = claimed-whole c.args.lease.now.interval c.args.lease.now.seq c.args.front c.args.self.now.history c.requires.lease.seen_all.claimed;
}

-- the refusal is that of the copy
pub returns-in-Err-clause-stale : goal.returns-in-Err-clause-stale
returns-in-Err-clause-stale g c = stale-again c.args.self.now.history c.args.lease.now c.in-Err.why c.in-Err.ensures.stale

-- what is known of the row is known of its copy
pub put-requires : goal.put-requires
put-requires g c =
    let same = sym c.in-Ok.ensures.copied in record {
      lease = c.requires.lease;
      row = subst (λ (r : Contents). IsRowSeenAt c.args.self.now c.args.lease.now c.args.front c.args.name.now r) same c.requires.row;
      may = subst (λ (r : Contents). MayPutAt c.args.self.now c.args.front c.args.name.now r c.args.writing) same c.requires.may;
    }

-- what was put into the copy is put into the row
pub returns-in-Ok-put-clause-put : goal.returns-in-Ok-put-clause-put
returns-in-Ok-put-clause-put g c =
    let old = c.args.self.now in
    subst (λ (r : Contents). IsPut old.case old.rows old.history c.put.new.self.history
    c.args.lease.now c.args.name.now c.args.writing r (answer_of c.in-Ok-put.commit c.put.new.row))
    c.in-Ok.ensures.copied c.in-Ok-put.ensures.put

-- the row that was handed in was the history's
pub returns-in-Ok-put-clause-found : goal.returns-in-Ok-put-clause-found
returns-in-Ok-put-clause-found g c =
    let old = c.args.self.now in
    subst (λ (r : Contents). IsRowOf old.case old.rows old.history c.args.name.now r) c.in-Ok.ensures.copied c.in-Ok-put.ensures.found

-- the refusal is that of the write in place
pub returns-in-Err-put-clause-stale : goal.returns-in-Err-put-clause-stale
returns-in-Err-put-clause-stale g c = stale-again c.args.self.now.history c.args.lease.now c.in-Err-put.why c.in-Err-put.ensures.stale
