-- What an edit of a row's bytes leaves in a keeper.
use Rattle.std.proofs.Common.{◌≡◌, ◌+◌, ◌-◌, ◌++◌, ◌∷◌, [], ◌∙◌, ℕ, List, ap, ap₂, append-nil, arith, length, length-append, refl, sym, take, true≢false}
use Rattle.std.proofs.Math.Seq.{take-append_seam}
use Rattle.std.specs.Prelude.{Option, Some, None, IfSome, IsSome, option_map, unwrap_or}
use Rattle.std.specs.BTreeMap.{is_at}
use Rattle.std.specs.Map.{lookup}
use Rattle.list_lemmas.proofs.Lists.{none_some, some_same}
use Rattle.mw_types.specs.declared.delivery.Delivery.{Delivery}
use Rattle.mw_types.specs.declared.entry.Entry.{Entry}
use Rattle.mw_types.specs.declared.entry.Entry.TheVariants.{Claim, Inject, Handle, Fire, Ack, Purge}
use Rattle.mw_types.specs.declared.record.Record.{Record}
use Rattle.mw_types.specs.declared.state.State.{State}
use Rattle.mw_types.specs.declared.state.State.TheVariants as states
use Rattle.mw_types.specs.declared.identity.RowName.{RowName}
use Rattle.mw_types.specs.Orders.{row_cmp}
use Rattle.row_parts.specs.Contents.{Contents, fresh}
use Rattle.row_parts.specs.Spelling.{spelling_of, state_spelling}
use Rattle.row_keeper.specs.Rows.{IsThere, Rows, edited, with_edit, with_row}
use Rattle.row_keeper.proofs.Edited.{with_edit-there}
use Rattle.record_codec.specs.Edits.{deliveries_spelling}
use Rattle.record_codec.proofs.EditLaws.{head-length, spelling-edited}
use Rattle.run_history.specs.Cases.{CaseShape, fresh_of}
use Rattle.run_history.specs.Made.{deliveries_of, row_written}
use Rattle.run_history.specs.Runs.{Run, advanced, row_in, row_of, run_of, written_row}
use Rattle.run_history.proofs.RunLaws.{next-length, run_of-push}
use Rattle.history_laws.proofs.RowSteps.{row_of-here}
use Rattle.history_laws.proofs.StoredLaws.{stored_rows-at}
use Rattle.book.specs.Appending.{left_row, sent_by}
use Rattle.book.specs.Conditions.{IsRowOf}
use Rattle.book.specs.Lawful.{HoldsRowsOf}
use Rattle.book.specs.Storing.{AreBytesOf, HaveEdited, HaveShorter, grown_by, head_of, row_of_pieces}
use Rattle.book.specs.declared.settling.Settled.{Settled}

-- the rows with a row that is there edited are those with its new bytes
edit-there : (name : RowName) (left : Contents) (front gone new behind : List Delivery) (rows : Rows) (head put : List ℕ) (at cut : ℕ)
    → left.pending ≡ front ++ (new ++ behind) → HaveEdited name front gone behind left rows → IsThere name rows
    → head ≡ head_of left → at ≡ length head + length (deliveries_spelling front) → cut ≡ length (deliveries_spelling gone)
    → put ≡ deliveries_spelling new → with_edit name head at cut put rows ≡ with_row name (spelling_of left) rows
edit-there name left front gone new behind rows head put at cut is held there h a c p =
    found (lookup (is_at (row_cmp name)) rows) refl there
  where
    whole : edited (head_of left) at (length (deliveries_spelling gone)) (deliveries_spelling new) (spelling_of held.0) ≡ spelling_of left
    whole = spelling-edited held.0 left front gone new behind at held.1.1.pending is held.1.1.seen held.1.1.head
        (a ∙ ap (λ l. length l + length (deliveries_spelling front)) h)

    found : (o : Option (List ℕ)) → lookup (is_at (row_cmp name)) rows ≡ o → IsSome o
        → with_edit name head at cut put rows ≡ with_row name (spelling_of left) rows
    found None e some = absurd (true≢false (sym some))
    found (Some bytes) e some =
        let was : bytes ≡ spelling_of held.0 = held.1.0 bytes e in
        with_edit-there name head bytes put at cut rows e
        ∙ (λ i. with_row name (edited (h i) at (c i) (p i) (was i)) rows) ∙ ap (λ l. with_row name l rows) whole

-- the same of a keeper whose rows a contract may see
pub edit-stored : (name : RowName) (left : Contents) (front gone new behind : List Delivery) (old now : Option Rows) (head put : List ℕ)
    (at cut : ℕ) → left.pending ≡ front ++ (new ++ behind) → IfSome old (HaveEdited name front gone behind left) → IfSome old (IsThere name)
    → head ≡ head_of left → at ≡ length head + length (deliveries_spelling front) → cut ≡ length (deliveries_spelling gone)
    → put ≡ deliveries_spelling new → now ≡ option_map (with_edit name head at cut put) old
    → now ≡ option_map (with_row name (spelling_of left)) old
edit-stored name left front gone new behind None now head put at cut is held there h a c p e = e
edit-stored name left front gone new behind (Some rows) now head put at cut is held there h a c p e =
    e ∙ ap Some (edit-there name left front gone new behind rows head put at cut is held there h a c p)

-- the bytes of a row of the history are the spelling of the row
bytes-held : (case : CaseShape) (history : List Entry) (told : Option Rows) (name : RowName) (row : Contents)
    → IfSome told (HoldsRowsOf case history) → IsRowOf case told history name row → IfSome told (AreBytesOf name row)
bytes-held case history None name row held is = tt
bytes-held case history (Some rows) name row held is = λ bytes e.
    found bytes (row_in (run_of case.topology history) name)
    (sym (stored_rows-at (run_of case.topology history) name) ∙ ap (lookup (is_at (row_cmp name))) (sym held.stored) ∙ e) is
  where
    found : (bytes : List ℕ) (o : Option Contents) → option_map spelling_of o ≡ Some bytes
        → row ≡ unwrap_or o (fresh (fresh_of case.topology name.part)) → bytes ≡ spelling_of row
    found bytes None e same = absurd (none_some bytes e)
    found bytes (Some r) e same = sym (some_same (spelling_of r) bytes e) ∙ ap spelling_of (sym same)

-- so is what is held of a row before an id is settled in it
pub settled-held : (settled : Option Settled) (case : CaseShape) (history : List Entry) (told : Option Rows) (name : RowName) (row : Contents)
    → IfSome told (HoldsRowsOf case history) → IfSome settled (λ _. IsRowOf case told history name row)
    → IfSome settled (λ _. IfSome told (AreBytesOf name row))
settled-held None case history told name row held is = tt
settled-held (Some settled) case history told name row held is = bytes-held case history told name row held is

-- the bytes of a row are edited to those of the row without one of its deliveries
pub settled-edit : (told : Option Rows) (name : RowName) (row : Contents) (last : ℕ) (front gone behind : List Delivery)
    → row.pending ≡ front ++ (gone ++ behind) → IfSome told (AreBytesOf name row)
    → IfSome told (HaveEdited name front gone behind (row_of_pieces last front [] behind row))
settled-edit None name row last front gone behind is held = tt
settled-edit (Some rows) name row last front gone behind is held = (
  row,
  (
    held,
    record {
      pending = is;
      seen = refl;
      head = head-length last (length (front ++ behind)) row.last (length row.pending) (row_of_pieces last front [] behind row) row refl refl;
    },
  ),
)

-- one more line keeps the length of what stands for a state
advanced-length : (s : State) → length (state_spelling (advanced s)) ≡ length (state_spelling s)
advanced-length (states.Injector cursor) = refl
advanced-length (states.Count late windows) = refl
advanced-length (states.Spike late held known) = refl
advanced-length (states.Pass late) = refl

-- an injected line puts its deliveries behind those of its row
line-held : (case : CaseShape) (history : List Entry) (told : Option Rows) (name : RowName) (row : Contents) (seq part line : ℕ) (item : Record)
    (sent : ℕ) → let entry = Inject seq part line item in IfSome told (HoldsRowsOf case history) → row_written entry ≡ Some name
    → IsRowOf case told (history ++ entry ∷ []) name row → sent ≡ sent_by case.topology history entry
    → IfSome told (HaveShorter name sent row)
line-held case history None name row seq part line item sent held on is count = tt
line-held case history (Some rows) name row seq part line item sent held on is count =
    let shape = case.topology in
    let entry = Inject seq part line item in
    let run = run_of shape history in
    let before = row_of shape run name in
    let ds = deliveries_of shape run.made run.next entry in
    let made : row ≡ written_row run.next entry ds before =
    is ∙ ap (λ (r : Run). row_of shape r name) (run_of-push shape history entry) ∙ row_of-here shape run entry name on in
    let long : sent ≡ length ds = count ∙ ap (λ n. length (deliveries_of shape run.made n entry)) (sym (next-length shape history)) in
    let pending : row.pending ≡ before.pending ++ ds = ap (λ (r : Contents). r.pending) made in
    let place : length row.pending - sent ≡ length before.pending =
    omega (arith, ap length pending, length-append before.pending ds, long) in
    let front : take (length row.pending - sent) row.pending ≡ before.pending =
    ap₂ take place pending ∙ take-append_seam before.pending ds in (
      before,
      (
        bytes-held case history (Some rows) name before held refl,
        record {
          pending = sym (append-nil (take (length row.pending - sent) row.pending) ∙ front);
          seen = sym (ap (λ (r : Contents). r.seen) made);
          head = head-length row.last (length row.pending) before.last (length before.pending) row before
              (ap (λ (r : Contents). length (state_spelling r.state)) made ∙ advanced-length before.state)
              (ap (λ (r : Contents). r.timers) made);
        },
      ),
    )

-- so is what is held of a row before deliveries come to it
pub grown-held : (settled : Option Settled) (entry : Entry) (sent : ℕ) (case : CaseShape) (history : List Entry) (told : Option Rows)
    (name : RowName) (row : Contents) → IfSome told (HoldsRowsOf case history) → row_written entry ≡ Some name
    → IsRowOf case told (history ++ entry ∷ []) name (left_row settled row) → sent ≡ sent_by case.topology history entry
    → IfSome (grown_by settled entry sent) (λ sent. IfSome told (HaveShorter name sent row))
grown-held (Some s) entry sent case history told name row held on is count = tt
grown-held None (Claim worker interval) sent case history told name row held on is count = tt
grown-held None (Inject seq part line item) sent case history told name row held on is count =
    line-held case history told name row seq part line item sent held on is count
grown-held None (Handle seq at id effects) sent case history told name row held on is count = tt
grown-held None (Fire seq at timer mark effects) sent case history told name row held on is count = tt
grown-held None (Ack seq at id) sent case history told name row held on is count = tt
grown-held None (Purge seq at floor) sent case history told name row held on is count = tt
