-- What a holder of a lease has seen is as it is in the whole history, where the lease is the last of its interval.
use Rattle.std.proofs.Common.{◌≡◌, ◌<◌, ◌≤◌, ◌+◌, ℕ, zero, suc, Bool, true, false, ◌&&◌, cond, List, [], ◌∷◌, ◌++◌, length, take, drop, refl, sym, ◌∙◌, ap, subst, arith, length-append}
use Rattle.std.specs.Prelude.{Option, Some, None, Result, Ok, Err, IfOk, OnOk, IfSome, IsSome, not, ◌==◌, slice_get}
use Rattle.std.specs.Option.{is_some, option_map_or}
use Rattle.std.proofs.lemmas.Bool.{ltb-true}
use Rattle.std.proofs.lemmas.List.{take-append-drop}
use Rattle.mw_types.specs.declared.identity.RecordId.{RecordId}
use Rattle.mw_types.specs.declared.identity.RowName.{RowName}
use Rattle.mw_types.specs.declared.delivery.Delivery.{Delivery}
use Rattle.mw_types.specs.declared.kind.Kind.{Kind}
use Rattle.mw_types.specs.declared.entry.Entry.{Entry}
use Rattle.mw_types.specs.declared.entry.Entry.TheVariants.{Ack, Claim, Purge}
use Rattle.topology.specs.Shapes.{Shape, injectors_of, parts_of, kind_of}
use Rattle.row_parts.specs.Contents.{Contents, IsId, same_id, found_delivery}
use Rattle.run_history.specs.Cases.{CaseShape, is_injector, source_of}
use Rattle.run_history.specs.Made.{row_written, productions_of, deliveries_of}
use Rattle.run_history.specs.Runs.{Run, run_of, row_of, row_in, written_row}
use Rattle.run_history.specs.Legal.{MayFollow, IsLegal, floor_of}
use Rattle.run_history.proofs.RunLaws.{run_of-push}
use Rattle.run_history.specs.Fences.{IsClaimed, IsFenced, HasSeen, last_claim, sequencer_of, known}
use Rattle.run_history.specs.HistoryLines.{HasLine}
use Rattle.run_history.specs.Finished.{is_handled}
use Rattle.list_lemmas.proofs.Lists.{none_some}
use Rattle.history_laws.proofs.FenceLaws.{claim-within, row_of-seen}
use Rattle.run_history.proofs.Known.{known-last}
use Rattle.run_history.proofs.Claims.{last_claim-front}
use Rattle.run_history.proofs.Fenced.{entry-under}
use Rattle.history_laws.proofs.FinishedLaws.{handled-waits_not}
use Rattle.history_laws.proofs.IdLaws.{next-length}
use Rattle.history_laws.proofs.PendingLaws.{kind-there}
use Rattle.history_laws.proofs.RowSteps.{row_of-here}
use Rattle.history_laws.proofs.SeenLaws.{MayFollow-seen, HasSeen-take, IsLegalAndFenced-front}
use Rattle.book.specs.Books.{BookView, LeaseView, core_of}
use Rattle.run_history.specs.Fits.{fits, suits_part, is_cursor_within}
use Rattle.computations.specs.Handlers.{has_kind}
use Rattle.book.specs.Lawful.{HoldsRowsOf, IsLawful}
use Rattle.book.specs.Conditions.{MayUseAt, IsRowSeenAt, MaySettleAt, MayForgetAt}
use Rattle.book.specs.Answers.{IsWritten, answer_of}
use Rattle.book.specs.declared.answers.Written.{Written}
use Rattle.book.specs.declared.refusals.WriteRefusal.{WriteRefusal}
use Rattle.book.specs.Appending.{IsNext}
use Rattle.run_history.proofs.Fitting.{fits-parts, fits-less, fits-later}

-- two facts of what is told
pub told-both : {X : Type 0} (o : Option X) (P Q : X → Type 0) → IfSome o P → IfSome o Q → IfSome o (λ x. P x × Q x)
told-both None P Q one other = tt
told-both (Some x) P Q one other = (one, other)

-- a fact that follows of what is told
pub told-then : {X : Type 0} (o : Option X) (P Q : X → Type 0) → IfSome o P → ((x : X) → P x → Q x) → IfSome o Q
told-then None P Q one then = tt
told-then (Some x) P Q one then = then x one

-- the part of a row that suits it is there
pub part-there : (case : CaseShape) (part : ℕ) (row : Contents) → suits_part case part row ≡ true → part < parts_of case.topology
part-there case part row suits = by_part (is_injector case.topology part) refl suits
  where
    by_kind : (o : Option Kind) → kind_of case.topology part ≡ o → option_map_or (λ (kind : Kind). has_kind kind row.state) o false ≡ true
        → part < parts_of case.topology
    by_kind None is suits = absurd cc
    by_kind (Some kind) is suits = kind-there case.topology part kind is

    by_part : (b : Bool) → is_injector case.topology part ≡ b
        → cond b (is_cursor_within (length (source_of case part)) row.state && (length row.timers == 0))
        (option_map_or (λ (kind : Kind). has_kind kind row.state) (kind_of case.topology part) false) ≡ true
        → part < parts_of case.topology
    by_part true is suits = let less = ltb-true part (injectors_of case.topology) is in omega (arith, less)
    by_part false is suits = by_kind (kind_of case.topology part) refl suits

-- what was seen under the last claim
pub seen-front : (book : BookView) (lease : LeaseView) (front : ℕ) (name : RowName) → MayUseAt book lease front name
    → last_claim lease.interval book.history ≡ Some lease.seq → HasSeen lease.interval lease.seq (take front book.history)
    (drop front book.history)
seen-front book lease front name uses last = HasSeen-take lease.interval lease.seq front book.history last uses.seen_all

-- the row as it is known under the lease is the row of what was seen
pub row-front : (book : BookView) (lease : LeaseView) (front : ℕ) (name : RowName) → MayUseAt book lease front name
    → last_claim lease.interval book.history ≡ Some lease.seq → let shape = book.case.topology in
    row_of shape (run_of shape (known lease.interval lease.seq (take front book.history))) name ≡ row_of shape
    (run_of shape (take front book.history)) name
row-front book lease front name uses last =
    let shape = book.case.topology in
    let seen = seen-front book lease front name uses last in
    ap (λ (h : List Entry). row_of shape (run_of shape h) name) (known-last lease.interval lease.seq (take front book.history)
    (last_claim-front lease.interval lease.seq (take front book.history) (drop front book.history) seen.last
    (claim-within lease.interval lease.seq (take front book.history) (drop front book.history) seen.all)))

-- and is the row of the whole history
pub row-whole : (book : BookView) (lease : LeaseView) (front : ℕ) (name : RowName) → IsFenced book.case.topology book.history
    → MayUseAt book lease front name → last_claim lease.interval book.history ≡ Some lease.seq → let shape = book.case.topology in
    row_of shape (run_of shape (take front book.history)) name ≡ row_of shape (run_of shape book.history) name
row-whole book lease front name fenced uses last =
    let shape = book.case.topology in
    let split = take-append-drop front book.history in
    sym (row_of-seen shape lease.interval lease.seq (take front book.history) (drop front book.history)
    (subst (IsFenced shape) (sym split) fenced)
    (seen-front book lease front name uses last) name uses.covers)
    ∙ ap (λ (h : List Entry). row_of shape (run_of shape h) name) split

-- an entry that may follow what was seen may follow the whole history
may-whole : (book : BookView) (lease : LeaseView) (front : ℕ) (name : RowName) (entry : Entry) → IsLawful book.case (core_of book)
    → MayUseAt book lease front name → last_claim lease.interval book.history ≡ Some lease.seq
    → row_written entry ≡ Some name → sequencer_of entry ≡ Some lease.seq → IsLegal book.case book.history
    → let shape = book.case.topology in
    MayFollow book.case (run_of shape (take front book.history)) entry → MayFollow book.case (run_of shape book.history) entry
may-whole book lease front name entry lawful uses last written carries legal may =
    let shape = book.case.topology in
    let split = take-append-drop front book.history in
    subst (λ (h : List Entry). MayFollow book.case (run_of shape h) entry) split
    (MayFollow-seen book.case (take front book.history) (drop front book.history) lease.interval lease.seq entry lawful.runnable
    (subst (IsLegal book.case) (sym split) legal) (subst (IsFenced shape) (sym split) lawful.fenced)
    (seen-front book lease front name uses last)
    (record { name = name; on_row = written; of_interval = uses.covers; carries = carries }) may)

-- the row that an entry leaves is that of the history with the entry
left-whole : (shape : Shape) (history : List Entry) (name : RowName) (entry : Entry) (row left : Contents) (sent : List Delivery)
    → row_written entry ≡ Some name → row ≡ row_of shape (run_of shape history) name
    → sent ≡ deliveries_of shape (run_of shape history).made (run_of shape history).next entry
    → left ≡ written_row (length history) entry sent row
    → left ≡ row_of shape (run_of shape (history ++ entry ∷ [])) name
left-whole shape history name entry row left sent written is made leaves =
    let run = run_of shape history in
    leaves
    ∙ ap (λ (c : Contents). written_row (length history) entry sent c) is
    ∙ ap (λ (s : List Delivery). written_row (length history) entry s (row_of shape run name)) made
    ∙ ap (λ n. written_row n entry (deliveries_of shape run.made run.next entry) (row_of shape run name)) (sym (next-length shape history))
    ∙ sym (row_of-here shape run entry name written)
    ∙ sym (ap (λ (r : Run). row_of shape r name) (run_of-push shape history entry))

-- a write that was worked out on what was seen may come next
pub IsNext-seen : (book : BookView) (lease : LeaseView) (front : ℕ) (name : RowName) (entry : Entry) (row left : Contents)
    (sent : List Delivery)
    → IsLawful book.case (core_of book) → MayUseAt book lease front name → IsRowSeenAt book lease front name row
    → last_claim lease.interval book.history ≡ Some lease.seq → length book.history < book.limit
    → row_written entry ≡ Some name → sequencer_of entry ≡ Some lease.seq → length (productions_of entry) ≤ 8 → HasLine entry
    → left ≡ written_row (length book.history) entry sent row → fits book.case (length book.history + 1) name left ≡ true
    → IfSome book.rows (λ _. MayFollow book.case (run_of book.case.topology (take front book.history)) entry)
    → IfSome book.rows (λ _. let run = run_of book.case.topology book.history in sent ≡ deliveries_of book.case.topology run.made run.next
    entry)
    → IsNext book.case (core_of book) name entry left
IsNext-seen book lease front name entry row left sent lawful uses seen last room written carries few line leaves fit may made =
    let shape = book.case.topology in record {
      room = room;
      on_row = written;
      under = entry-under shape book.history entry name lease.interval lease.seq written uses.covers last carries;
      part = part-there book.case name.part row (fits-parts book.case (length book.history) name row seen.fit).0;
      few = few;
      line = line;
      fit = fit;
      may = told-then book.rows (λ r. HoldsRowsOf book.case book.history r × MayFollow book.case
          (run_of shape (take front book.history)) entry) _
          (told-both book.rows (HoldsRowsOf book.case book.history) _ lawful.held may)
          (λ r p. may-whole book lease front name entry lawful uses last written carries p.0.legal p.1);
      of_history = told-then book.rows
          (λ r. (row ≡ row_of shape (run_of shape (known lease.interval lease.seq (take front book.history))) name)
          × (sent ≡ deliveries_of shape (run_of shape book.history).made (run_of shape book.history).next entry)) _
          (told-both book.rows _ _ seen.known made)
          (λ r p. left-whole shape book.history name entry row left sent written
          (p.0 ∙ row-front book lease front name uses last ∙ row-whole book lease front name lawful.fenced uses last) p.1 leaves);
    }

-- ---- settling

-- an id may be settled
may-settle : (book : BookView) (lease : LeaseView) (front : ℕ) (name : RowName) (row : Contents) (id : RecordId)
    → IsLawful book.case (core_of book)
    → MayUseAt book lease front name → IsRowSeenAt book lease front name row → MaySettleAt book front row id
    → last_claim lease.interval book.history ≡ Some lease.seq
    → IfSome book.rows (λ _. MayFollow book.case (run_of book.case.topology (take front book.history)) (Ack lease.seq name id))
may-settle book lease front name row id lawful uses seen settles last =
    let shape = book.case.topology in
    let split = take-append-drop front book.history in
    told-then book.rows
    (λ r. HoldsRowsOf book.case book.history r × ((row ≡ row_of shape (run_of shape (known lease.interval lease.seq (take front book.history)))
    name) × (is_handled id (take front book.history) ≡ true))) _
    (told-both book.rows _ _ lawful.held (told-both book.rows _ _ seen.known settles.handled))
    (λ r p.
    let legal = IsLegalAndFenced-front book.case (take front book.history) (drop front book.history)
    (record { legal = subst (IsLegal book.case) (sym split) p.0.legal; fenced = subst (IsFenced shape) (sym split) lawful.fenced }) in
    record {
      pending = subst (λ (c : Contents). IsSome (found_delivery id c.pending))
          (p.1.0 ∙ row-front book lease front name uses last) settles.pending;
      handled = ap is_some (handled-waits_not book.case (take front book.history) id legal.legal p.1.1);
    })

-- a settled row comes next
pub IsNext-settled : (book : BookView) (lease : LeaseView) (front : ℕ) (name : RowName) (row left : Contents) (id : RecordId)
    → IsLawful book.case (core_of book)
    → MayUseAt book lease front name → IsRowSeenAt book lease front name row → MaySettleAt book front row id
    → last_claim lease.interval book.history ≡ Some lease.seq → length book.history < book.limit → IsId id
    → left ≡ written_row (length book.history) (Ack lease.seq name id) [] row
    → IsNext book.case (core_of book) name (Ack lease.seq name id) left
IsNext-settled book lease front name row left id lawful uses seen settles last room is leaves =
    IsNext-seen book lease front name (Ack lease.seq name id) row left [] lawful uses seen last room refl refl (omega arith) is leaves
    (subst (λ (c : Contents). fits book.case (length book.history + 1) name c ≡ true) (sym leaves)
    (fits-less book.case (length book.history) name row (written_row (length book.history) (Ack lease.seq name id) [] row)
    (λ (d : Delivery). not (same_id d.id id)) seen.fit refl refl refl))
    (may-settle book lease front name row id lawful uses seen settles last)
    (told-then book.rows (HoldsRowsOf book.case book.history) _ lawful.held (λ r _. refl))

-- ---- purging

-- a floor may be raised
may-raise : (book : BookView) (lease : LeaseView) (front : ℕ) (name : RowName) (row : Contents) (floor : ℕ) → MayUseAt book lease front name
    → IsRowSeenAt book lease front name row → MayForgetAt book front name row floor
    → last_claim lease.interval book.history ≡ Some lease.seq
    → IfSome book.rows (λ _. MayFollow book.case (run_of book.case.topology (take front book.history)) (Purge lease.seq name floor))
may-raise book lease front name row floor uses seen raises last =
    let shape = book.case.topology in
    let run = run_of shape (take front book.history) in
    told-then book.rows
    (λ r. (row ≡ row_of shape (run_of shape (known lease.interval lease.seq (take front book.history))) name) ×
    (IsSome (row_in run name) × (floor ≤ floor_of run))) _
    (told-both book.rows _ _ seen.known (told-both book.rows _ _ raises.there raises.finished))
    (λ r p. record {
      there = p.1.0;
      rises = subst (λ (c : Contents). c.floor < floor) (p.0 ∙ row-front book lease front name uses last) raises.rises;
      finished = p.1.1;
    })

-- a purged row comes next
pub IsNext-purged : (book : BookView) (lease : LeaseView) (front : ℕ) (name : RowName) (row left : Contents) (floor : ℕ)
    → IsLawful book.case (core_of book)
    → MayUseAt book lease front name → IsRowSeenAt book lease front name row → MayForgetAt book front name row floor
    → last_claim lease.interval book.history ≡ Some lease.seq → length book.history < book.limit
    → left ≡ written_row (length book.history) (Purge lease.seq name floor) [] row
    → IsNext book.case (core_of book) name (Purge lease.seq name floor) left
IsNext-purged book lease front name row left floor lawful uses seen raises last room leaves =
    IsNext-seen book lease front name (Purge lease.seq name floor) row left [] lawful uses seen last room refl refl (omega arith) tt leaves
    (subst (λ (c : Contents). fits book.case (length book.history + 1) name c ≡ true) (sym leaves)
    (fits-later book.case (length book.history) name row seen.fit))
    (may-raise book lease front name row floor uses seen raises last)
    (told-then book.rows (HoldsRowsOf book.case book.history) _ lawful.held (λ r _. refl))

-- ---- what a write answers

-- an accepted write, by the entry that came next
pub IsWritten-next : (old new : BookView) (lease : LeaseView) (name : RowName) (entry : Entry) (left : Contents) (answer : Written)
    → IsNext old.case (core_of old) name entry left → last_claim lease.interval old.history ≡ Some lease.seq
    → new.history ≡ old.history ++ entry ∷ [] → answer.commit ≡ length old.history → answer.row ≡ left
    → IsWritten old.case old.rows old.history new.history lease name entry left answer
IsWritten-next old new lease name entry left answer next last appended commit row =
    let shape = old.case.topology in record {
      appended = appended;
      commit = commit;
      changed_alone = row;
      of_history = told-then old.rows (λ _. left ≡ row_of shape (run_of shape (old.history ++ entry ∷ [])) name) _ next.of_history
          (λ r is. row ∙ is ∙ sym (ap (λ (h : List Entry). row_of shape (run_of shape h) name) appended));
      fit = subst (λ (c : Contents). fits old.case (length new.history) name c ≡ true) (sym row)
          (subst (λ n. fits old.case n name left ≡ true) (sym (ap length appended ∙ length-append old.history (entry ∷ []))) next.fit);
      last = last;
    }

-- an accepted write, by what changing the row answered
pub IsWritten-result : (old new : BookView) (lease : LeaseView) (name : RowName) (entry given : Entry) (left after : Contents)
    (result : Result ℕ WriteRefusal)
    → IsNext old.case (core_of old) name entry left → last_claim lease.interval old.history ≡ Some lease.seq → given ≡ entry
    → OnOk result (new.history ≡ old.history ++ given ∷ []) → IfOk result (λ commit. commit ≡ length old.history)
    → OnOk result (after ≡ left)
    → IfOk result (λ commit. IsWritten old.case old.rows old.history new.history lease name entry left (answer_of commit after))
IsWritten-result old new lease name entry given left after (Err why) next last same appended commit row = tt
IsWritten-result old new lease name entry given left after (Ok n) next last same appended commit row =
    IsWritten-next old new lease name entry left (answer_of n after) next last (appended ∙ ap (λ (e : Entry). old.history ++ e ∷ []) same)
    commit row

-- the row that is handed in is that of the history, where a contract can see the keeper's rows
pub row-was : (book : BookView) (lease : LeaseView) (front : ℕ) (name : RowName) (row : Contents) → IsLawful book.case (core_of book)
    → MayUseAt book lease front name → IsRowSeenAt book lease front name row → last_claim lease.interval book.history ≡ Some lease.seq
    → IfSome book.rows (λ _. row ≡ row_of book.case.topology (run_of book.case.topology book.history) name)
row-was book lease front name row lawful uses seen last =
    let shape = book.case.topology in
    told-then book.rows (λ _. row ≡ row_of shape (run_of shape (known lease.interval lease.seq (take front book.history))) name) _
    seen.known
    (λ r is. is ∙ row-front book lease front name uses last ∙ row-whole book lease front name lawful.fenced uses last)

-- what holds of an accepted write, where it holds anyway
pub when-written : {T A : Type 0} (result : Result T WriteRefusal) → A → OnOk result A
when-written (Ok written) holds = holds
when-written (Err why) holds = tt

-- what stands in a beginning stands in the whole
take-at : {X : Type 0} (n i : ℕ) (xs : List X) (x : X) → slice_get (take n xs) i ≡ Some x → slice_get xs i ≡ Some x
take-at zero i xs x at = absurd (none_some x at)
take-at (suc n) i [] x at = at
take-at (suc n) zero (y ∷ ys) x at = at
take-at (suc n) (suc i) (y ∷ ys) x at = take-at n i ys x at

-- a claim that was seen stands in the history
pub claimed-whole : (interval seq n : ℕ) (history : List Entry) → IsClaimed interval seq (take n history) → IsClaimed interval seq history
claimed-whole interval seq n history claimed = (claimed.0, take-at n seq history (Claim claimed.0 interval) claimed.1)
