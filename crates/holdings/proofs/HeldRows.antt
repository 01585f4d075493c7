-- The rows that are held of an interval stay what their lease knows, as entries come.
use Rattle.std.proofs.Common.{◌≡◌, ◌≢◌, ◌<◌, ◌≤◌, ℕ, Bool, true, false, cond, List, [], ◌∷◌, ◌++◌, length, refl, sym, ◌∙◌, ap, subst, arith, length-append, append_assoc, inl, inr}
use Rattle.std.specs.Prelude.{Option, Some, None, IfSome, IsSome, unwrap_or, ◌⊎◌, slice_get}
use Rattle.std.specs.List.Sorted.{IsStrictlySortedBy}
use Rattle.std.specs.Map.{lookup, keys_of}
use Rattle.std.specs.BTreeMap.{insert_entry, is_at}
use Rattle.std.specs.Ordering.{is_eq}
use Rattle.std.specs.Cmp.{tied_itself}
use Rattle.std.proofs.lemmas.Bool.{both_ways}
use Rattle.std.proofs.lemmas.List.Elements.{All-append, All-from_recursion}
use Rattle.list_lemmas.proofs.Told.{if-same}
use Rattle.mw_types.specs.Orders.{row_cmp}
use Rattle.mw_types.specs.declared.identity.RowName.{RowName}
use Rattle.mw_types.specs.declared.entry.Entry.{Entry}
use Rattle.mw_types.specs.declared.entry.Entry.TheVariants.{Claim, Ack, Purge}
use Rattle.mw_types.proofs.OrderLaws.{row_cmp-total}
use Rattle.topology.specs.Shapes.{Shape, parts_of}
use Rattle.row_parts.specs.Contents.{Contents, fresh}
use Rattle.run_history.specs.Cases.{CaseShape, fresh_of}
use Rattle.run_history.specs.Made.{row_written}
use Rattle.run_history.specs.Runs.{Run, cached, row_in, row_of, run_of, written_row}
use Rattle.run_history.specs.Fences.{CarryNot, IsClaimed, IsFenced, interval_of, known, last_claim, sequencer_of}
use Rattle.run_history.specs.Fits.{fits}
use Rattle.run_history.proofs.Claims.{last_claim-push}
use Rattle.run_history.proofs.Fenced.{IsFenced-begins}
use Rattle.run_history.proofs.Fitting.{fits-more}
use Rattle.run_history.proofs.Known.{known-last}
use Rattle.list_lemmas.proofs.Lists.{some_same}
use Rattle.run_history.proofs.Lookups.{lookup-insert_entry, same_entries, sorted-insert_entry}
use Rattle.run_history.proofs.RunLaws.{run_of-push}
use Rattle.history_laws.proofs.FenceLaws.{row_in-known}
use Rattle.history_laws.proofs.RowSteps.{row_in-elsewhere, same_row}
use Rattle.book.specs.Answers.{IsWritten}
use Rattle.book.specs.Books.{LeaseView}
use Rattle.book.specs.Desking.{HasStored, HasWritten, IsKnownOf, IsRowKnown}
use Rattle.book.specs.Desks.{DeskView, HasLooked, HasMoved, IsSound}
use Rattle.book.specs.Proposals.{IsEntryOf, IsProposable}
use Rattle.book.specs.Writings.{HasPut, MayPut}
use Rattle.book.specs.declared.answers.Written.{Written}
use Rattle.book.specs.declared.proposal.Proposal.{Proposal}
use Rattle.book.specs.declared.proposal.Proposal.TheVariants as proposals
use Rattle.book.specs.declared.writing.Writing.{Writing}
use Rattle.book.specs.declared.writing.Writing.TheVariants as writings
use Rattle.book.proofs.ClaimLaws.{row-no_claim}
use Rattle.holdings.specs.Holding.{AreRowsHeld, HeldView, row_held, with_row}
use Rattle.holdings.proofs.CacheLaws.{apart-tied, tied_row}

-- ---- what is told

-- what follows from two things that are told is told
pub told-both : {X : Type 0} (o p : Option X) (P Q R : Type 0) → p ≡ o → (P → Q → R) → IfSome o (λ _. P) → IfSome o (λ _. Q) → IfSome p (λ _. R)
told-both {X} o p P Q R same so one other = subst (λ (x : Option X). IfSome x (λ _. R)) (sym same) (here o one other)
  where
    here : (x : Option X) → IfSome x (λ _. P) → IfSome x (λ _. Q) → IfSome x (λ _. R)
    here None first second = tt
    here (Some x) first second = so first second

-- ---- a row in the place of one

-- two names are one, or not
pub name_or_not : (a b : RowName) → (a ≡ b) ⊎ (a ≡ b → ⊥)
name_or_not a b = elim (is_at (row_cmp a) b) as (λ x. is_at (row_cmp a) b ≡ x → (a ≡ b) ⊎ (a ≡ b → ⊥)) [
  | true ↦ λ tie. inl (same_row a b tie)
  | false ↦ λ tie. inr (λ same. both_ways (is_at (row_cmp a) b) tie
      (subst (λ (n : RowName). is_at (row_cmp a) n ≡ true) same (ap is_eq (tied_itself row_cmp-total a))))
] refl

-- a row that is put is found
pub found-put : (rows : List (RowName × Contents)) (name : RowName) (row : Contents)
    → row_in (cached (insert_entry row_cmp rows name row)) name ≡ Some row
found-put rows name row = lookup-insert_entry row_cmp-total rows name row name
    ∙ ap (λ o. cond (is_eq o) (Some row) (lookup (is_at (row_cmp name)) rows)) (tied_itself row_cmp-total name)

-- and so it is among those that are held
pub found-here : (name : RowName) (row : Contents) (held : HeldView) → row_in (cached (with_row name row held).rows) name ≡ Some row
found-here name row held = found-put held.rows name row

-- of another name what was there is found
pub found-other : (name other : RowName) (row : Contents) (held : HeldView) → (other ≡ name → ⊥)
    → row_in (cached (with_row name row held).rows) other ≡ row_in (cached held.rows) other
found-other name other row held apart = lookup-insert_entry row_cmp-total held.rows name row other
    ∙ ap (λ b. cond b (Some row) (lookup (is_at (row_cmp other)) held.rows))
    (apart-tied other other name apart (ap is_eq (tied_itself row_cmp-total other)))

-- a row that is put is held
pub row_held-here : (shape : Shape) (name : RowName) (row : Contents) (held : HeldView) → row_held shape (with_row name row held) name ≡ row
row_held-here shape name row held = ap (λ o. unwrap_or o (fresh (fresh_of shape name.part))) (found-here name row held)

-- each other row is held as before
pub row_held-other : (shape : Shape) (name other : RowName) (row : Contents) (held : HeldView) → (other ≡ name → ⊥)
    → row_held shape (with_row name row held) other ≡ row_held shape held other
row_held-other shape name other row held apart = ap (λ o. unwrap_or o (fresh (fresh_of shape other.part))) (found-other name other row held apart)

-- a row that is put as it is held changes none
pub row_held-same : (shape : Shape) (name other : RowName) (held : HeldView)
    → row_held shape (with_row name (row_held shape held name) held) other ≡ row_held shape held other
row_held-same shape name other held = elim (name_or_not other name) [
  | inl same ↦ subst (λ (n : RowName). row_held shape (with_row name (row_held shape held name) held) n ≡ row_held shape held n) (sym same)
      (row_held-here shape name (row_held shape held name) held)
  | inr apart ↦ row_held-other shape name other (row_held shape held name) held apart
]

-- a value that is put where it is changes nothing
pub insert-same : (es : List (RowName × Contents)) (name : RowName) (v : Contents) → IsStrictlySortedBy row_cmp (keys_of es)
    → lookup (is_at (row_cmp name)) es ≡ Some v → insert_entry row_cmp es name v ≡ es
insert-same es name v ordered found =
    same_entries row_cmp-total tied_row (insert_entry row_cmp es name v) es (sorted-insert_entry row_cmp-total es name v ordered) ordered
    (λ q. lookup-insert_entry row_cmp-total es name v q ∙ by_tie q (is_at (row_cmp q) name) refl)
  where
    by_tie : (q : RowName) (b : Bool) → is_at (row_cmp q) name ≡ b
        → cond (is_at (row_cmp q) name) (Some v) (lookup (is_at (row_cmp q)) es) ≡ lookup (is_at (row_cmp q)) es
    by_tie q true tie = ap (λ b. cond b (Some v) (lookup (is_at (row_cmp q)) es)) tie ∙ sym found
        ∙ ap (λ (n : RowName). lookup (is_at (row_cmp n)) es) (sym (same_row q name tie))
    by_tie q false tie = ap (λ b. cond b (Some v) (lookup (is_at (row_cmp q)) es)) tie

-- a row that is cached already is cached as it is
pub cached-already : (shape : Shape) (name : RowName) (row : Contents) (held : HeldView) → IsStrictlySortedBy row_cmp (keys_of held.rows)
    → row_in (cached held.rows) name ≡ Some row → held ≡ with_row name (row_held shape held name) held
cached-already shape name row held ordered found =
    let same : row_held shape held name ≡ row = ap (λ o. unwrap_or o (fresh (fresh_of shape name.part))) found in
    let rows = sym (ap (insert_entry row_cmp held.rows name) same ∙ insert-same held.rows name row ordered found) in
    λ i. record { lease = held.lease; rows = rows i }

-- ---- as entries come

-- the rows are those of a lease by what was seen
abbrev pub AreKnown : CaseShape → List Entry → HeldView → Type 0
AreKnown case seen held = (name : RowName) → interval_of case.topology name ≡ Some held.lease.interval
    → row_held case.topology held name
    ≡ row_of case.topology (run_of case.topology (known held.lease.interval held.lease.seq seen)) name

-- what is known of a row under a lease stays, where nothing that is appended carries the lease
pub known-stays : (shape : Shape) (lease : LeaseView) (front rest : List Entry) (name : RowName) → IsFenced shape (front ++ rest)
    → IsClaimed lease.interval lease.seq front → CarryNot lease.seq rest → interval_of shape name ≡ Some lease.interval
    → row_of shape (run_of shape (known lease.interval lease.seq (front ++ rest))) name
    ≡ row_of shape (run_of shape (known lease.interval lease.seq front)) name
known-stays shape lease front rest name fenced claimed none lies =
    ap (λ o. unwrap_or o (fresh (fresh_of shape name.part)))
    (row_in-known shape lease.interval lease.seq claimed.0 front rest fenced claimed.1 none name lies)

-- the rows that are held stay right, where nothing that is appended carries their lease
pub AreRowsHeld-more : (case : CaseShape) (old new : DeskView) (held : HeldView) (rest : List Entry) → IsFenced case.topology new.seen
    → IsClaimed held.lease.interval held.lease.seq old.seen → new.seen ≡ old.seen ++ rest → CarryNot held.lease.seq rest
    → new.told ≡ old.told → AreRowsHeld case old held → AreRowsHeld case new held
AreRowsHeld-more case old new held rest fenced claimed more none told are = record {
  known = if-same old.told new.told (AreKnown case old.seen held) (AreKnown case new.seen held) told
      (λ each name lies. each name lies
      ∙ sym (known-stays case.topology held.lease old.seen rest name (subst (IsFenced case.topology) more fenced) claimed none lies)
      ∙ ap (λ (h : List Entry). row_of case.topology (run_of case.topology (known held.lease.interval held.lease.seq h)) name) (sym more))
      are.known;
  fit = λ name lies part. fits-more case (length old.seen) (length new.seen) name (row_held case.topology held name)
      (let whole = ap length more ∙ length-append old.seen rest in omega (arith, whole)) (are.fit name lies part);
  within = are.within;
  ordered = are.ordered;
}

-- the rows that are held stay right after a call without an entry of its own
pub AreRowsHeld-looked : (case : CaseShape) (old new : DeskView) (held : HeldView) → old.case ≡ case → IsSound old → IsSound new
    → old.leases held.lease ≡ true → HasLooked old new → AreRowsHeld case old held → AreRowsHeld case new held
AreRowsHeld-looked case old new held same sound now may looked are =
    AreRowsHeld-more case old new held looked.others (subst (λ (c : CaseShape). IsFenced c.topology new.seen) (looked.case ∙ same) now.fenced)
    (sound.claimed held.lease may) looked.more (looked.foreign held.lease may) looked.told are

-- where a row of the interval is put, each row that is cached lies in the interval
within-put : (case : CaseShape) (desk : DeskView) (name : RowName) (row : Contents) (held : HeldView)
    → interval_of case.topology name ≡ Some held.lease.interval → AreRowsHeld case desk held
    → (other : RowName) → IsSome (row_in (cached (with_row name row held).rows) other) → interval_of case.topology other ≡ Some held.lease.interval
within-put case desk name row held lies are other there = elim (name_or_not other name) [
  | inl same ↦ ap (interval_of case.topology) same ∙ lies
  | inr apart ↦ are.within other (subst IsSome (found-other name other row held apart) there)
]

-- a row that is cached as it is held leaves all rows right
pub AreRowsHeld-cached : (case : CaseShape) (desk : DeskView) (name : RowName) (held : HeldView)
    → interval_of case.topology name ≡ Some held.lease.interval → AreRowsHeld case desk held
    → AreRowsHeld case desk (with_row name (row_held case.topology held name) held)
AreRowsHeld-cached case desk name held lies are =
    let after = with_row name (row_held case.topology held name) held in record {
      known = if-same desk.told desk.told (AreKnown case desk.seen held) (AreKnown case desk.seen after) refl
          (λ each other there. row_held-same case.topology name other held ∙ each other there) are.known;
      fit = λ other there part. subst (λ (r : Contents). fits case (length desk.seen) other r ≡ true)
          (sym (row_held-same case.topology name other held)) (are.fit other there part);
      within = within-put case desk name (row_held case.topology held name) held lies are;
      ordered = sorted-insert_entry row_cmp-total held.rows name (row_held case.topology held name) are.ordered;
    }

-- ---- an entry on a row

-- an entry on a row was appended under a lease, and the row that it leaves was answered
pub record HasEntered (old new : DeskView) (lease : LeaseView) (name : RowName) (answer : Written) : Type 0 where
  pub before : List Entry
  pub entry : Entry
  pub left : Contents
  pub moved : HasMoved old new before
  pub on_row : row_written entry ≡ Some name
  pub carries : sequencer_of entry ≡ Some lease.seq
  pub written : IsWritten old.case old.told before new.seen lease name entry left answer

-- the entry of a proposal is on its row, and carries its sequencer
entry-on : (case : CaseShape) (seq : ℕ) (name : RowName) (row : Contents) (proposal : Proposal) (entry : Entry)
    → IsProposable case name row proposal → IsEntryOf case seq name proposal entry
    → (row_written entry ≡ Some name) × (sequencer_of entry ≡ Some seq)
entry-on case seq name row (proposals.Inject line) entry may of = (
  ap row_written of.1.1 ∙ (λ i. Some (record { part = name.part; key = sym may.no_key i })),
  ap sequencer_of of.1.1,
)
entry-on case seq name row (proposals.Handle delivery effects) entry may of = (ap row_written of, ap sequencer_of of)
entry-on case seq name row (proposals.Fire timer mark effects) entry may of = (ap row_written of, ap sequencer_of of)

-- a proposal that was accepted
entered-written : (case : CaseShape) (old new : DeskView) (lease : LeaseView) (name : RowName) (proposal : Proposal) (row : Contents)
    (answer : Written) → old.case ≡ case → IsProposable case name row proposal
    → HasWritten old new lease name proposal row answer → HasEntered old new lease name answer
entered-written case old new lease name proposal row answer same may by =
    let on = entry-on case lease.seq name row proposal by.written.entry may
    (subst (λ (c : CaseShape). IsEntryOf c lease.seq name proposal by.written.entry) same by.written.of_proposal) in
    record { before = by.before; entry = by.written.entry; left = _; moved = by.moved; on_row = on.0; carries = on.1; written = by.written.written }

-- an entry that was stored
entered-stored : (old new : DeskView) (lease : LeaseView) (name : RowName) (entry : Entry) (row : Contents) (left : ℕ → Contents)
    (answer : Written) → row_written entry ≡ Some name → sequencer_of entry ≡ Some lease.seq
    → HasStored old new lease name entry row left answer → HasEntered old new lease name answer
entered-stored old new lease name entry row left answer on carries by = record {
  before = by.before;
  entry = entry;
  left = left (length by.before);
  moved = by.moved;
  on_row = on;
  carries = carries;
  written = by.written;
}

-- whatever was put
pub entered-put : (old new : DeskView) (lease : LeaseView) (name : RowName) (writing : Writing) (row : Contents) (answer : Written)
    → MayPut old name row writing → HasPut old new lease name writing row answer → HasEntered old new lease name answer
entered-put old new lease name (writings.Propose proposal) row answer may by =
    entered-written old.case old new lease name proposal.now row answer refl may.0 by
entered-put old new lease name (writings.Settle id) row answer may by =
    let entry = Ack lease.seq name id in
    entered-stored old new lease name entry row (λ commit. written_row commit entry [] row) answer refl refl by
entered-put old new lease name (writings.Purge floor) row answer may by =
    let entry = Purge lease.seq name floor in
    entered-stored old new lease name entry row (λ commit. written_row commit entry [] row) answer refl refl by

-- what is proposed of the row that is held may be put into it
pub proposed-put : (case : CaseShape) (desk : DeskView) (place : Option HeldView) (name : RowName) (proposal : Proposal) → desk.case ≡ case
    → IfSome place (λ held. IsProposable case name (row_held case.topology held name) proposal) → IsKnownOf desk name proposal
    → IfSome place (λ held. IsProposable desk.case name (row_held case.topology held name) proposal × IsKnownOf desk name proposal)
proposed-put case desk None name proposal same may known = tt
proposed-put case desk (Some held) name proposal same may known =
    (subst (λ (c : CaseShape). IsProposable c name (row_held case.topology held name) proposal) (sym same) may, known)

module _ (case : CaseShape) (old new : DeskView) (same : old.case ≡ case) (sound : IsSound old) (now : IsSound new) where
  -- the new history is fenced
  fenced-now : new.case ≡ old.case → IsFenced case.topology new.seen
  fenced-now moved = subst (λ (c : CaseShape). IsFenced c.topology new.seen) (moved ∙ same) now.fenced

  -- another row is by the new history what it was by what was known under the lease
  elsewhere : (lease : LeaseView) (name other : RowName) (answer : Written) → old.leases lease ≡ true → HasEntered old new lease name answer
      → (other ≡ name → ⊥) → interval_of case.topology other ≡ Some lease.interval
      → row_of case.topology (run_of case.topology new.seen) other
      ≡ row_of case.topology (run_of case.topology (known lease.interval lease.seq old.seen)) other
  elsewhere lease name other answer may by apart lies =
      let shape = case.topology in
      let run = run_of shape by.before in
      let fenced : IsFenced shape (by.before ++ by.entry ∷ []) = subst (IsFenced shape) by.written.appended (fenced-now by.moved.case) in
      ap (λ (h : List Entry). row_of shape (run_of shape h) other) by.written.appended
      ∙ ap (λ o. unwrap_or o (fresh (fresh_of shape other.part)))
      (ap (λ (r : Run). row_in r other) (run_of-push shape by.before by.entry)
      ∙ row_in-elsewhere shape run by.entry other (λ on. apart (sym (some_same name other (sym by.on_row ∙ on)))))
      ∙ ap (λ (h : List Entry). row_of shape (run_of shape h) other)
      (sym (known-last lease.interval lease.seq by.before by.written.last) ∙ ap (known lease.interval lease.seq) by.moved.more)
      ∙ known-stays shape lease old.seen by.moved.others other
      (subst (IsFenced shape) by.moved.more (IsFenced-begins shape by.before (by.before ++ by.entry ∷ []) (by.entry ∷ [], refl) fenced))
      (sound.claimed lease may) (by.moved.foreign lease may) lies

  -- under the lease all of the new history is known
  all-known : (lease : LeaseView) (name : RowName) (answer : Written) → HasEntered old new lease name answer
      → known lease.interval lease.seq new.seen ≡ new.seen
  all-known lease name answer by = known-last lease.interval lease.seq new.seen
      (ap (last_claim lease.interval) by.written.appended ∙ last_claim-push lease.interval by.before by.entry
      ∙ ap (λ b. cond b (Some (length by.before)) (last_claim lease.interval by.before)) (row-no_claim lease.interval by.entry name by.on_row)
      ∙ by.written.last)

  -- more entries were seen
  seen-more : (lease : LeaseView) (name : RowName) (answer : Written) → HasEntered old new lease name answer → length old.seen ≤ length new.seen
  seen-more lease name answer by =
      let whole = ap length by.written.appended ∙ length-append by.before (by.entry ∷ []) in
      let front = ap length by.moved.more ∙ length-append old.seen by.moved.others in omega (arith, whole, front)

  -- after an entry on a row of the interval, where the row that it leaves is put in its place, all rows are right
  pub AreRowsHeld-entered : (name : RowName) (answer : Written) (held : HeldView) → old.leases held.lease ≡ true
      → interval_of case.topology name ≡ Some held.lease.interval → HasEntered old new held.lease name answer
      → AreRowsHeld case old held → AreRowsHeld case new (with_row name answer.row held)
  AreRowsHeld-entered name answer held may lies by are = record {
    known = told-both old.told new.told (AreKnown case old.seen held) (answer.row ≡ row_of old.case.topology (run_of old.case.topology new.seen) name)
        (AreKnown case new.seen after) by.moved.told (λ each put other there. by_known each put other there (name_or_not other name))
        are.known by.written.of_history;
    fit = λ other there part. by_fit other there part (name_or_not other name);
    within = within-put case old name answer.row held lies are;
    ordered = sorted-insert_entry row_cmp-total held.rows name answer.row are.ordered;
  }
    where
      after : HeldView
      after = with_row name answer.row held

      row_now : RowName → List Entry → Contents
      row_now other history = row_of case.topology (run_of case.topology history) other

      by_known : AreKnown case old.seen held → answer.row ≡ row_of old.case.topology (run_of old.case.topology new.seen) name
          → (other : RowName) → interval_of case.topology other ≡ Some held.lease.interval → (other ≡ name) ⊎ (other ≡ name → ⊥)
          → row_held case.topology after other
          ≡ row_of case.topology (run_of case.topology (known held.lease.interval held.lease.seq new.seen)) other
      by_known each put other there (inl here) =
          ap (row_held case.topology after) here ∙ row_held-here case.topology name answer.row held
          ∙ subst (λ (c : CaseShape). answer.row ≡ row_of c.topology (run_of c.topology new.seen) name) same put
          ∙ ap (λ (n : RowName). row_of case.topology (run_of case.topology new.seen) n) (sym here)
          ∙ ap (λ (h : List Entry). row_of case.topology (run_of case.topology h) other) (sym (all-known held.lease name answer by))
      by_known each put other there (inr apart) =
          row_held-other case.topology name other answer.row held apart ∙ each other there
          ∙ sym (elsewhere held.lease name other answer may by apart there)
          ∙ ap (λ (h : List Entry). row_of case.topology (run_of case.topology h) other) (sym (all-known held.lease name answer by))

      by_fit : (other : RowName) → interval_of case.topology other ≡ Some held.lease.interval → other.part < parts_of case.topology
          → (other ≡ name) ⊎ (other ≡ name → ⊥) → fits case (length new.seen) other (row_held case.topology after other) ≡ true
      by_fit other there part (inl here) =
          subst (λ (n : RowName). fits case (length new.seen) n (row_held case.topology after n) ≡ true) (sym here)
          (subst (λ (r : Contents). fits case (length new.seen) name r ≡ true) (sym (row_held-here case.topology name answer.row held))
          (subst (λ (c : CaseShape). fits c (length new.seen) name answer.row ≡ true) same by.written.fit))
      by_fit other there part (inr apart) =
          subst (λ (r : Contents). fits case (length new.seen) other r ≡ true) (sym (row_held-other case.topology name other answer.row held apart))
          (fits-more case (length old.seen) (length new.seen) other (row_held case.topology held other) (seen-more held.lease name answer by)
          (are.fit other there part))

  -- leases of two intervals have two sequencers
  leases-apart : (one two : LeaseView) → old.leases one ≡ true → old.leases two ≡ true → one.interval ≢ two.interval → one.seq ≢ two.seq
  leases-apart one two first second apart equal =
      let a = sound.claimed one first in
      let b = sound.claimed two second in
      apart (interval_of_claim a.0 b.0 one.interval two.interval
      (some_same (Claim a.0 one.interval) (Claim b.0 two.interval) (sym a.1 ∙ ap (slice_get old.seen) equal ∙ b.1)))
    where
      interval_of_claim : (v w i j : ℕ) → Claim v i ≡ Claim w j → i ≡ j
      interval_of_claim v w i j e = cc

  -- rows of another interval stay right after an entry on a row
  pub AreRowsHeld-elsewhere : (lease : LeaseView) (name : RowName) (answer : Written) (held : HeldView) → old.leases lease ≡ true
      → old.leases held.lease ≡ true → held.lease.interval ≢ lease.interval → HasEntered old new lease name answer
      → AreRowsHeld case old held → AreRowsHeld case new held
  AreRowsHeld-elsewhere lease name answer held may other apart by are =
      AreRowsHeld-more case old new held (by.moved.others ++ by.entry ∷ []) (fenced-now by.moved.case) (sound.claimed held.lease other)
      (by.written.appended ∙ ap (λ (h : List Entry). h ++ by.entry ∷ []) by.moved.more ∙ append_assoc old.seen by.moved.others (by.entry ∷ []))
      (All-append (λ (e : Entry). sequencer_of e ≢ Some held.lease.seq) by.moved.others (by.entry ∷ []) (by.moved.foreign held.lease other)
      (All-from_recursion (λ (e : Entry). sequencer_of e ≢ Some held.lease.seq) (by.entry ∷ [])
      ((λ e. leases-apart held.lease lease other may apart (some_same held.lease.seq lease.seq (sym e ∙ by.carries))), tt)))
      by.moved.told are

-- the row that is held is the row as it is known under its lease
pub held-known : (case : CaseShape) (desk : DeskView) (name : RowName) (held : HeldView) (row : Contents) → desk.case ≡ case
    → AreRowsHeld case desk held → interval_of case.topology name ≡ Some held.lease.interval → name.part < parts_of case.topology
    → row ≡ row_held case.topology held name → IsRowKnown desk held.lease name row
held-known case desk name held row same are lies part is = record {
  fit = subst (λ (c : CaseShape). fits c (length desk.seen) name row ≡ true) (sym same)
      (subst (λ (r : Contents). fits case (length desk.seen) name r ≡ true) (sym is) (are.fit name lies part));
  known = if-same desk.told desk.told (AreKnown case desk.seen held)
      (row ≡ row_of desk.case.topology (run_of desk.case.topology (known held.lease.interval held.lease.seq desk.seen)) name) refl
      (λ each. is ∙ each name lies
      ∙ ap (λ (c : CaseShape). row_of c.topology (run_of c.topology (known held.lease.interval held.lease.seq desk.seen)) name) (sym same))
      are.known;
}
