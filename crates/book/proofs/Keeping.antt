-- One more entry keeps a book lawful.
use Rattle.std.proofs.Common.{◌≡◌, ◌<◌, ◌≤◌, ◌+◌, ◌-◌, ◌^◌, ℕ, List, [], ◌∷◌, ◌++◌, length, refl, sym, ◌∙◌, ap, subst, arith, length-append}
use Rattle.std.specs.Prelude.{Option, Some, None, Result, Ok, Err, OnOk, OnErr, All, IfSome, option_map}
use Rattle.std.specs.Option.{option_map_or}
use Rattle.std.specs.List.{AllByRecursion}
use Rattle.std.specs.BTreeMap.{insert_entry}
use Rattle.std.specs.declared.cmp.Ordering.TheVariants.{Less, Equal, Greater}
use Rattle.std.specs.Ordering.{match_ordering, is_eq}
use Rattle.std.proofs.lemmas.List.Elements.{All-append, All-from_recursion}
use Rattle.mw_types.specs.declared.identity.RecordId.{RecordId}
use Rattle.mw_types.specs.declared.identity.RowName.{RowName}
use Rattle.mw_types.specs.declared.entry.Entry.{Entry}
use Rattle.mw_types.specs.declared.entry.Entry.TheVariants.{Claim}
use Rattle.mw_types.specs.Orders.{row_cmp}
use Rattle.topology.specs.Shapes.{Shape, parts_of}
use Rattle.row_parts.specs.Contents.{Contents}
use Rattle.row_parts.specs.Spelling.{spelling_of, IsSpelledRow}
use Rattle.row_keeper.specs.Rows.{Rows, with_row}
use Rattle.run_history.specs.Cases.{CaseShape}
use Rattle.run_history.specs.Made.{row_written, productions_of}
use Rattle.run_history.specs.Runs.{Run, run_of, row_of}
use Rattle.run_history.specs.Legal.{MayClaim, MayFollow}
use Rattle.run_history.specs.Printing.{IsPrintable, IsOnPart}
use Rattle.run_history.proofs.RunLaws.{run_of-push, IsLegal-push}
use Rattle.run_history.specs.Fences.{IsFenced}
use Rattle.run_history.specs.HistoryLines.{HasLine}
use Rattle.run_history.specs.Finished.{unfinished, work_in}
use Rattle.run_history.specs.Stored.{stored_rows}
use Rattle.list_lemmas.proofs.Lists.{each-weaker}
use Rattle.history_laws.proofs.RowSteps.{same_row, made_row, row_of-here}
use Rattle.run_history.proofs.Fenced.{IsFenced-push, claim-under}
use Rattle.history_laws.proofs.LowLaws.{rows-in_order}
use Rattle.history_laws.proofs.UnfinishedLaws.{unfinished-followed, unfinished-kept}
use Rattle.history_laws.proofs.StoredLaws.{stored_rows-followed, stored_rows-kept}
use Rattle.book.specs.Books.{CoreView}
use Rattle.book.specs.Lawful.{IsKeepable, HoldsRowsOf, AreClaimsThere, IsLawful}
use Rattle.book.specs.Appending.{IsNext}
use Rattle.book.specs.Marks.{AreSafe}
use Rattle.book.specs.Senders.{AreSenders, sender_of}
use Rattle.book.specs.Sending.{KnowsSame}
use Rattle.book.proofs.LineLaws.{lines-push}
use Rattle.book.proofs.SenderSteps.{senders-claim, senders-same}
use Rattle.book.proofs.MarkSteps.{claims-next, claims-claim, AreSafe-appended, AreSafe-same, told-stored}
use Rattle.run_history.proofs.Fitting.{fits-later}

-- what holds of each row, and of one that is put among them, holds of each then
pub each-put : (P : RowName × Contents → Type 0) (es : List (RowName × Contents)) (k : RowName) (v : Contents)
    → AllByRecursion P es → P (k, v) → AllByRecursion P (insert_entry row_cmp es k v)
each-put P [] k v each new = (new, tt)
each-put P (e ∷ es) k v each new =
    elim (row_cmp k e.0) as (λ r. row_cmp k e.0 ≡ r
    → AllByRecursion P (match_ordering r ((k, v) ∷ e ∷ es) ((e.0, v) ∷ es) (e ∷ insert_entry row_cmp es k v))) [
      | Less ↦ λ _. (new, each)
      | Equal ↦ λ p. (subst (λ (n : RowName). P (n, v)) (same_row k e.0 (ap is_eq p)) new, each.1)
      | Greater ↦ λ _. (each.0, each-put P es k v each.1 new)
    ] refl

-- a history with one more entry has a length of one more
length-push : (history : List Entry) (entry : Entry) → length (history ++ entry ∷ []) ≡ length history + 1
length-push history entry = length-append history (entry ∷ [])

-- a history that can be printed still can with one more entry on a part that is there, with few productions
IsPrintable-push : (shape : Shape) (history : List Entry) (entry : Entry) → IsPrintable shape history → length history < 2 ^ 32
    → IsOnPart shape entry → length (productions_of entry) ≤ 8 → IsPrintable shape (history ++ entry ∷ [])
IsPrintable-push shape history entry printable room part few = record {
  few = omega (arith, room, length-push history entry);
  parts = All-append (IsOnPart shape) history (entry ∷ []) printable.parts (All-from_recursion (IsOnPart shape) (entry ∷ []) (part, tt));
  productions = All-append (λ e. length (productions_of e) ≤ 8) history (entry ∷ []) printable.productions
      (All-from_recursion (λ e. length (productions_of e) ≤ 8) (entry ∷ []) (few, tt));
}

-- rows that can be kept still can after one more entry
kept-later : (case : CaseShape) (n : ℕ) (r : RowName × Contents) → IsKeepable case n r → IsKeepable case (n + 1) r
kept-later case n r kept = record { spelled = kept.spelled; fit = fits-later case n r.0 r.1 kept.fit }

-- what is held after a legal history is held after an entry on a row
HoldsRowsOf-next : (case : CaseShape) (history : List Entry) (rows : Rows) (name : RowName) (entry : Entry) (row : Contents)
    → HoldsRowsOf case history rows
    → row_written entry ≡ Some name → MayFollow case (run_of case.topology history) entry
    → row ≡ row_of case.topology (run_of case.topology (history ++ entry ∷ [])) name
    → IsKeepable case (length history + 1) (name, row)
    → HoldsRowsOf case (history ++ entry ∷ []) (with_row name (spelling_of row) rows)
HoldsRowsOf-next case history rows name entry row held written may is kept =
    let shape = case.topology in
    let run = run_of shape history in
    let push = run_of-push shape history entry in
    let stored : stored_rows (run_of shape (history ++ entry ∷ []))
    ≡ with_row name (spelling_of (row_of shape (run_of shape (history ++ entry ∷ [])) name)) (stored_rows run)
    = subst (λ (r : Run). stored_rows r ≡ with_row name (spelling_of (row_of shape r name)) (stored_rows run)) (sym push)
    (stored_rows-followed shape run entry name written) in
    let made : row ≡ made_row shape run entry name =
    is ∙ ap (λ (r : Run). row_of shape r name) push ∙ row_of-here shape run entry name written in record {
      legal = IsLegal-push case history entry held.legal may;
      stored = ap (with_row name (spelling_of row)) held.stored
          ∙ ap (λ (c : Contents). with_row name (spelling_of c) (stored_rows run)) is ∙ sym stored;
      kept = subst (λ n. AllByRecursion (IsKeepable case n) (run_of shape (history ++ entry ∷ [])).rows) (sym (length-push history entry))
          (subst (λ (r : Run). AllByRecursion (IsKeepable case (length history + 1)) r.rows) (sym push)
          (subst (λ w. AllByRecursion (IsKeepable case (length history + 1))
          (option_map_or (λ (n : RowName). insert_entry row_cmp run.rows n (made_row shape run entry n)) w run.rows)) (sym written)
          (each-put (IsKeepable case (length history + 1)) run.rows name (made_row shape run entry name)
          (each-weaker (IsKeepable case (length history)) (IsKeepable case (length history + 1))
          (kept-later case (length history)) run.rows held.kept)
          (subst (λ (c : Contents). IsKeepable case (length history + 1) (name, c)) made kept))));
    }

-- how much work is left after an entry on a row
unfinished-next : (case : CaseShape) (history : List Entry) (name : RowName) (entry : Entry) (before row : Contents) (old new : ℕ)
    → row_written entry ≡ Some name
    → old ≡ unfinished case (run_of case.topology history) → before ≡ row_of case.topology (run_of case.topology history) name
    → row ≡ row_of case.topology (run_of case.topology (history ++ entry ∷ [])) name
    → new ≡ (old + work_in case name row) - work_in case name before
    → new ≡ unfinished case (run_of case.topology (history ++ entry ∷ []))
unfinished-next case history name entry before row old new written left was is work =
    let shape = case.topology in
    let run = run_of shape history in
    let push = run_of-push shape history entry in
    let step = unfinished-followed case run entry name (rows-in_order shape history) written in
    let first = ap (work_in case name) was in
    let then = ap (work_in case name) (is ∙ ap (λ (r : Run). row_of shape r name) push) in
    let whole = ap (unfinished case) push in
    omega (arith, step, first, then, whole, left, work)

-- a book stays lawful, once an entry that may come next is appended and its row is stored
pub IsLawful-next : (case : CaseShape) (old new : CoreView) (name : RowName) (entry : Entry) (before row : Contents) → IsLawful case old
    → IsNext case old name entry row → IsSpelledRow row
    → IfSome old.rows (λ _. before ≡ row_of case.topology (run_of case.topology old.history) name)
    → new.work ≡ (old.work + work_in case name row) - work_in case name before
    → new.history ≡ old.history ++ entry ∷ [] → new.rows ≡ option_map (with_row name (spelling_of row)) old.rows → new.limit ≡ old.limit
    → AreSenders case.topology (run_of case.topology new.history) new.unacknowledged → new.marks ≡ old.marks
    → IsLawful case new
IsLawful-next case old new name entry before row lawful next spelled was work appended stored limit senders same_marks = record {
  runnable = lawful.runnable;
  limit = subst (λ n. n ≤ 2 ^ 32) (sym limit) lawful.limit;
  few = omega (arith, ap length appended, length-push old.history entry, next.room, limit);
  fenced = subst (IsFenced case.topology) (sym appended) (IsFenced-push case.topology old.history entry lawful.fenced next.under);
  printable = subst (IsPrintable case.topology) (sym appended) (IsPrintable-push case.topology old.history entry lawful.printable
      (omega (arith, next.room, lawful.limit)) (subst (λ w. IfSome w (λ (r : RowName). r.part < parts_of case.topology))
      (sym next.on_row) next.part) next.few);
  lines = subst (All HasLine) (sym appended) (lines-push old.history entry lawful.lines next.line);
  held = held;
  left = subst (λ (h : List Entry). IfSome new.rows (λ _. new.work ≡ unfinished case (run_of case.topology h))) (sym appended)
      (subst (λ o. IfSome o (λ _. new.work ≡ unfinished case (run_of case.topology (old.history ++ entry ∷ [])))) (sym stored)
      (told-left old.rows lawful.left was next.of_history));
  senders = senders;
  claims = subst (AreClaimsThere case.topology) (sym appended) (claims-next case.topology old.history entry name next.on_row lawful.claims);
  marks = ap length same_marks ∙ lawful.marks;
  safe = AreSafe-appended case old new entry lawful.runnable appended same_marks held
      (subst (λ o. IfSome o (λ _. AreSafe case (run_of case.topology old.history) old.marks)) (sym stored)
      (told-stored (AreSafe case (run_of case.topology old.history) old.marks) (with_row name (spelling_of row)) old.rows lawful.safe));
}
  where
    told-left : (o : Option Rows) → IfSome o (λ _. old.work ≡ unfinished case (run_of case.topology old.history))
        → IfSome o (λ _. before ≡ row_of case.topology (run_of case.topology old.history) name)
        → IfSome o (λ _. row ≡ row_of case.topology (run_of case.topology (old.history ++ entry ∷ [])) name)
        → IfSome (option_map (with_row name (spelling_of row)) o)
        (λ _. new.work ≡ unfinished case (run_of case.topology (old.history ++ entry ∷ [])))
    told-left None left was is = tt
    told-left (Some rows) left was is = unfinished-next case old.history name entry before row old.work new.work next.on_row left was is
        work

    told : (o : Option Rows) → IfSome o (HoldsRowsOf case old.history) → IfSome o (λ _. MayFollow case (run_of case.topology old.history) entry)
        → IfSome o (λ _. row ≡ row_of case.topology (run_of case.topology (old.history ++ entry ∷ [])) name)
        → IfSome (option_map (with_row name (spelling_of row)) o) (HoldsRowsOf case (old.history ++ entry ∷ []))
    told None held may is = tt
    told (Some rows) held may is = HoldsRowsOf-next case old.history rows name entry row held next.on_row may is
        (record { spelled = spelled; fit = next.fit })

    held : IfSome new.rows (HoldsRowsOf case new.history)
    held = subst (λ (h : List Entry). IfSome new.rows (HoldsRowsOf case h)) (sym appended)
        (subst (λ o. IfSome o (HoldsRowsOf case (old.history ++ entry ∷ []))) (sym stored) (told old.rows lawful.held next.may next.of_history))

-- what is held after a legal history is held after a claim
HoldsRowsOf-claim : (case : CaseShape) (history : List Entry) (rows : Rows) (worker interval : ℕ) → HoldsRowsOf case history rows
    → MayClaim case worker interval → HoldsRowsOf case (history ++ Claim worker interval ∷ []) rows
HoldsRowsOf-claim case history rows worker interval held may =
    let shape = case.topology in
    let run = run_of shape history in
    let entry = Claim worker interval in
    let push = run_of-push shape history entry in record {
      legal = IsLegal-push case history entry held.legal may;
      stored = held.stored ∙ sym (stored_rows-kept shape run entry refl) ∙ sym (ap stored_rows push);
      kept = subst (λ n. AllByRecursion (IsKeepable case n) (run_of shape (history ++ entry ∷ [])).rows) (sym (length-push history entry))
          (subst (λ (r : Run). AllByRecursion (IsKeepable case (length history + 1)) r.rows) (sym push)
          (each-weaker (IsKeepable case (length history)) (IsKeepable case (length history + 1))
          (kept-later case (length history)) run.rows held.kept));
    }

-- a book stays lawful, once a claim that may come next is appended
pub IsLawful-claimed : (case : CaseShape) (old new : CoreView) (worker interval : ℕ) → IsLawful case old
    → length old.history < old.limit → MayClaim case worker interval
    → new.history ≡ old.history ++ Claim worker interval ∷ [] → new.rows ≡ old.rows → new.limit ≡ old.limit → new.work ≡ old.work
    → new.unacknowledged ≡ old.unacknowledged → new.marks ≡ old.marks → IsLawful case new
IsLawful-claimed case old new worker interval lawful room may appended rows limit work same_senders same_marks = record {
  runnable = lawful.runnable;
  limit = subst (λ n. n ≤ 2 ^ 32) (sym limit) lawful.limit;
  few = omega (arith, ap length appended, length-push old.history (Claim worker interval), room, limit);
  fenced = subst (IsFenced case.topology) (sym appended)
      (IsFenced-push case.topology old.history (Claim worker interval) lawful.fenced
      (claim-under case.topology old.history worker interval));
  printable = subst (IsPrintable case.topology) (sym appended)
      (IsPrintable-push case.topology old.history (Claim worker interval) lawful.printable
      (omega (arith, room, lawful.limit)) tt (omega arith));
  lines = subst (All HasLine) (sym appended) (lines-push old.history (Claim worker interval) lawful.lines tt);
  held = held;
  left = subst (λ (h : List Entry). IfSome new.rows (λ _. new.work ≡ unfinished case (run_of case.topology h))) (sym appended)
      (subst (λ o. IfSome o (λ _. new.work ≡ unfinished case (run_of case.topology (old.history ++ Claim worker interval ∷ []))))
      (sym rows) (told-left old.rows lawful.left));
  senders = subst (λ (h : List Entry). AreSenders case.topology (run_of case.topology h) new.unacknowledged) (sym appended)
      (subst (AreSenders case.topology (run_of case.topology (old.history ++ Claim worker interval ∷ []))) (sym same_senders)
      (senders-claim case.topology old.history worker interval old.unacknowledged lawful.senders));
  claims = subst (AreClaimsThere case.topology) (sym appended) (claims-claim case old.history worker interval may lawful.claims);
  marks = ap length same_marks ∙ lawful.marks;
  safe = AreSafe-appended case old new (Claim worker interval) lawful.runnable appended same_marks held
      (subst (λ o. IfSome o (λ _. AreSafe case (run_of case.topology old.history) old.marks)) (sym rows) lawful.safe);
}
  where
    told-left : (o : Option Rows) → IfSome o (λ _. old.work ≡ unfinished case (run_of case.topology old.history))
        → IfSome o (λ _. new.work ≡ unfinished case (run_of case.topology (old.history ++ Claim worker interval ∷ [])))
    told-left None left = tt
    told-left (Some rows) left =
        work ∙ left ∙ sym (unfinished-kept case (run_of case.topology old.history) (Claim worker interval) refl)
        ∙ sym (ap (unfinished case) (run_of-push case.topology old.history (Claim worker interval)))

    told : (o : Option Rows) → IfSome o (HoldsRowsOf case old.history) → IfSome o (HoldsRowsOf case (old.history ++ Claim worker interval ∷ []))
    told None held = tt
    told (Some rows) held = HoldsRowsOf-claim case old.history rows worker interval held may

    held : IfSome new.rows (HoldsRowsOf case new.history)
    held = subst (λ (h : List Entry). IfSome new.rows (HoldsRowsOf case h)) (sym appended)
        (subst (λ o. IfSome o (HoldsRowsOf case (old.history ++ Claim worker interval ∷ []))) (sym rows) (told old.rows lawful.held))

-- a book stays lawful where its history and its rows stay
pub IsLawful-stays : (case : CaseShape) (old new : CoreView) → IsLawful case old
    → new.history ≡ old.history → new.rows ≡ old.rows → new.limit ≡ old.limit → new.work ≡ old.work
    → KnowsSame old.unacknowledged new.unacknowledged → new.marks ≡ old.marks → IsLawful case new
IsLawful-stays case old new lawful history rows limit work same_senders same_marks = record {
  runnable = lawful.runnable;
  limit = subst (λ n. n ≤ 2 ^ 32) (sym limit) lawful.limit;
  few = omega (arith, ap length history, lawful.few, limit);
  fenced = subst (IsFenced case.topology) (sym history) lawful.fenced;
  printable = subst (IsPrintable case.topology) (sym history) lawful.printable;
  lines = subst (All HasLine) (sym history) lawful.lines;
  held = subst (λ (h : List Entry). IfSome new.rows (HoldsRowsOf case h)) (sym history)
      (subst (λ o. IfSome o (HoldsRowsOf case old.history)) (sym rows) lawful.held);
  left = subst (λ (h : List Entry). IfSome new.rows (λ _. new.work ≡ unfinished case (run_of case.topology h))) (sym history)
      (subst (λ o. IfSome o (λ _. new.work ≡ unfinished case (run_of case.topology old.history))) (sym rows)
      (subst (λ n. IfSome old.rows (λ _. n ≡ unfinished case (run_of case.topology old.history))) (sym work) lawful.left));
  senders = subst (λ (h : List Entry). AreSenders case.topology (run_of case.topology h) new.unacknowledged) (sym history)
      (senders-same case.topology (run_of case.topology old.history) old.unacknowledged new.unacknowledged lawful.senders same_senders);
  claims = subst (AreClaimsThere case.topology) (sym history) lawful.claims;
  marks = ap length same_marks ∙ lawful.marks;
  safe = AreSafe-same case old new history rows same_marks lawful.safe;
}

-- a book stays lawful, whether a claim was appended or not
pub IsLawful-claiming : {T E : Type 0} (case : CaseShape) (old new : CoreView) (worker interval : ℕ) (result : Result T E)
    → IsLawful case old
    → length old.history < old.limit → MayClaim case worker interval
    → OnOk result (new.history ≡ old.history ++ Claim worker interval ∷ []) → OnErr result (new.history ≡ old.history)
    → new.rows ≡ old.rows → new.limit ≡ old.limit → new.work ≡ old.work → new.unacknowledged ≡ old.unacknowledged → new.marks ≡ old.marks
    → IsLawful case new
IsLawful-claiming case old new worker interval (Ok x) lawful room may appended history rows limit work same_senders same_marks =
    IsLawful-claimed case old new worker interval lawful room may appended rows limit work same_senders same_marks
IsLawful-claiming case old new worker interval (Err why) lawful room may appended history rows limit work same_senders same_marks =
    IsLawful-stays case old new lawful history rows limit work (λ id. ap (λ (l : List (RecordId × RowName)). sender_of l id) same_senders)
    same_marks
