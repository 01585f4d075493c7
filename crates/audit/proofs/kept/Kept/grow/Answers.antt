use Rattle.std.proofs.Common.{◌≡◌, subst, refl, length}
use Rattle.std.specs.Prelude.{None}
use Rattle.std.specs.BTreeMap.{get}
use Rattle.std.specs.Ordering.{nat_cmp}
use Rattle.list_lemmas.proofs.Told.{on_ok-map}
use Rattle.book.specs.Sending.{IsAfterEntry}
use Rattle.run_history.specs.Made.{row_written}
use Rattle.audit.specs.declared.kept.Kept.{Kept}
use Rattle.audit.specs.Keeping.{HasClaimed, IsLeftOf, newly_pending}
use Rattle.audit.proofs.KeepingLaws.{kept-claimed, kept-worked, on_ok-four}
use Rattle.audit.proofs.kept.Kept.grow.Goals as goal

-- the row that the entry leaves is put
pub returns-in_ok-note_entry_work-in-Some : goal.returns-in_ok-note_entry_work-in-Some
returns-in_ok-note_entry_work-in-Some c =
    let case = c.args.case.now in
    let history = c.args.history.now in
    let entry = c.args.entry.now in
    let old = c.args.self.now in
    let left = c.in-Some.left in
    let leaves = subst (IsLeftOf case history entry) c.in-Some.is c.in_ok-left.ensures in
    let mid = c.note_entry_work.new.kept in
    on_ok-four c.put.result
    (λ rows waiting pending work. kept-worked case history entry left old mid c.put.new.self c.requires.followed c.requires.next.may
    c.requires.few c.requires.kept leaves c.in_ok-note_entry_work-in-Some.ensures.works c.in_ok-note_entry_work-in-Some.ensures.rest
    c.put.ensures.works c.put.ensures.claims rows waiting
    (subst (λ n. IsAfterEntry n entry left.name (length (newly_pending mid.rows.entries left)) mid.pending.entries c.put.new.self.pending.entries)
    c.len.ensures.count pending)
    work)
    c.put.ensures.rows c.put.ensures.waiting c.put.ensures.pending c.put.ensures.work

-- the claim is noted
pub returns-in-None : goal.returns-in-None
returns-in-None c =
    let case = c.args.case.now in
    let history = c.args.history.now in
    let entry = c.args.entry.now in
    let old = c.args.self.now in
    let none : row_written entry ≡ None = subst (IsLeftOf case history entry) c.in-None.is c.in_ok-left.ensures in
    let new : Kept = record old { claims = c.note_claim.new.claims } in
    on_ok-map c.note_claim.result
    (λ claimed. kept-claimed case history entry old new c.requires.kept none refl refl refl refl refl
    (subst (λ n. HasClaimed entry n (get nat_cmp old.claims) (get nat_cmp c.note_claim.new.claims)) c.len-in-None.ensures.count claimed))
    c.note_claim.ensures
