-- What a node answers that sends again what is pending, as the scripted world does.
use Rattle.std.proofs.Common.{◌≡◌, ◌∙◌, ℕ, true, false, cond, List, [], ◌∷◌, length, map, refl, sym, ap, subst, inl, inr}
use Rattle.std.specs.Prelude.{IfSome, IsSome, None, Option, Some, slice_get, unwrap_or}
use Rattle.std.specs.Option.{is_some, option_and_then, option_map, option_map_or}
use Rattle.std.specs.List.Sorted.{IsStrictlySortedBy}
use Rattle.std.proofs.lemmas.List.{length-map}
use Rattle.mw_types.specs.Orders.{id_cmp}
use Rattle.mw_types.specs.declared.delivery.Delivery.{Delivery}
use Rattle.mw_types.specs.declared.entry.Entry.{Entry}
use Rattle.mw_types.specs.declared.identity.RowName.{RowName}
use Rattle.mw_types.proofs.OrderLaws.{id_cmp-total}
use Rattle.topology.specs.Shapes.{Shape}
use Rattle.row_parts.specs.Contents.{Contents, fresh, same_id, found_delivery}
use Rattle.run_history.specs.Cases.{CaseShape, fresh_of}
use Rattle.run_history.specs.Fences.{interval_of, known}
use Rattle.run_history.specs.Made.{row_written}
use Rattle.run_history.specs.Runs.{cached, row_in, row_of, run_of}
use Rattle.run_history.proofs.Known.{known-begins}
use Rattle.list_lemmas.proofs.Lists.{none_some, some_same}
use Rattle.history_laws.proofs.IdLaws.{each_found_delivery, made-in_order, same_id-itself}
use Rattle.history_laws.proofs.SeenLaws.{found-more}
use Rattle.history_laws.proofs.SentLaws.{pending-as_made}
use Rattle.book.specs.Books.{BookView, LeaseView}
use Rattle.book.specs.OwnDesks.{own_view}
use Rattle.holdings.specs.Holding.{HeldView, held_at, held_on, row_held}
use Rattle.holdings.specs.declared.pending.Sent.{Sent}
use Rattle.node.specs.Answers.{AnswersSweep, IsPendingHeld, IsSwept}
use Rattle.outbox.specs.Messages.{IsSentFrom, sent_again}
use Rattle.node.specs.Workers.{NodeView, with_outgoing, worker_at}
use Rattle.node.specs.declared.outcome.Outcome.{Outcome}
use Rattle.node.specs.declared.outcome.Outcome.TheVariants as outcomes
use Rattle.node.proofs.SweepLaws.{sent-so}
use Rattle.world.specs.scripts.Acts.{is_pending_in, is_pending_on, pending_known, sender_known}
use Rattle.world.specs.scripts.Worlds.{World, row_known, worker_of}
use Rattle.plans.specs.declared.step.Step.TheVariants as steps
use Rattle.world.proofs.scripts.deeds.Acting.{Acts, IsActing, acting-worker, tells}
use Rattle.world.proofs.scripts.deeds.Ascending.{same-ascending}
use Rattle.world.proofs.scripts.deeds.Held.{held-lies, lease_held, lease_on-held, row-held}
use Rattle.world.proofs.scripts.deeds.Left.{acting-of, becomes-acts, left_world}
use Rattle.world.proofs.scripts.deeds.Members.{IsIn, contained-in, each-in, filter_map-in, found-of, in-contained, in-filter_map}
use Rattle.world.proofs.scripts.deeds.Swept.{by_id, ids-ascend, known-again, known-ascends, passes-where, sent_from, sent_of_known, where-passes}

-- ---- what is pending in a row

-- one that is pending is found by its id
in-found : (d : Delivery) (ds : List Delivery) → IsIn d ds → is_some (found_delivery d.id ds) ≡ true
in-found d [] here = absurd here
in-found d (e ∷ es) (inl same) = ap (λ b. is_some (cond b (Some e) (found_delivery d.id es)))
    (ap (λ (f : Delivery). same_id f.id d.id) (sym same) ∙ same_id-itself d.id)
in-found d (e ∷ es) (inr later) = elim (same_id e.id d.id) as (λ b. is_some (cond b (Some e) (found_delivery d.id es)) ≡ true) [
  | true ↦ refl
  | false ↦ in-found d es later
]

-- a record that was made is the one of its id that is pending, as a row is known
pending-is : (shape : Shape) (history : List Entry) (lease : LeaseView) (name : RowName) (d e : Delivery)
    → IsIn d (run_of shape history).made
    → found_delivery d.id (row_of shape (run_of shape (known lease.interval lease.seq history)) name).pending ≡ Some e → e ≡ d
pending-is shape history lease name d e made found =
    let front = known lease.interval lease.seq history in
    let begins = known-begins lease.interval lease.seq history in
    let whole = subst (λ (h : List Entry). found_delivery d.id (run_of shape h).made ≡ Some e) begins.1
    (found-more shape front begins.0 d.id e (pending-as_made shape front name d.id e found)) in
    let itself = each-in (λ (f : Delivery). found_delivery f.id (run_of shape history).made ≡ Some f) d (run_of shape history).made
    (each_found_delivery (run_of shape history).made (made-in_order shape history).ascending) made in
    some_same e d (sym whole ∙ itself)

-- ---- what is pending in rows that are held

module _ (case : CaseShape) (old : BookView) (world : World) (number : ℕ) (was : NodeView) (acting : IsActing case old world number was)
  where
    -- the row that made a record, where the worker knows the record as pending there
    abbrev sender : Delivery → Option RowName
    sender = sender_known case.topology world (worker_of world number)

    -- all that was made
    abbrev made : List Delivery
    made = (run_of case.topology world.history).made

    -- what is pending in what is held is known as pending
    held-known : (s : Sent) → IsPendingHeld was.held s → IsIn s (sent_of_known sender made)
    held-known s is =
        let shape = case.topology in
        let d = s.delivery in
        let here = acting.fits.held.each is.interval is.held is.there in
        let lies : interval_of shape s.sender ≡ Some is.interval =
        here.rows.within s.sender (subst IsSome (sym is.pending.there) refl) ∙ ap Some here.of_interval in
        let on : held_on shape was.held s.sender ≡ Some is.held = ap (option_and_then (held_at was.held)) lies ∙ is.there in
        let so = subst (λ t. IfSome t (λ _. IsSentFrom case old.history s.sender d)) (tells old.rows acting.told)
        (sent-so case (own_view old) was.held is.interval s acting.fits.held
        (record { held = is.held; there = is.there; pending = is.pending })) in
        let in_made = (found-of (λ (e : Delivery). same_id e.id d.id) d (run_of shape old.history).made so.made).1 in
        let row : row_known shape world is.held.lease s.sender ≡ is.pending.row =
        row-held case old world number was is.held s.sender acting on
        ∙ ap (λ o. unwrap_or o (fresh (fresh_of shape s.sender.part))) is.pending.there in
        let pending : is_pending_on shape world (worker_of world number) d.id s.sender ≡ true =
        ap (λ o. option_map_or (is_pending_in shape world d.id s.sender) o false)
        (lease_on-held case old world number was s.sender acting ∙ ap (option_map lease_held) on)
        ∙ ap (λ (r : Contents). is_some (found_delivery d.id r.pending)) row
        ∙ in-found d is.pending.row.pending (in-contained d is.pending.row.pending is.pending.pending) in
        let of_entry : option_and_then row_written (slice_get world.history d.id.commit) ≡ Some s.sender =
        ap (λ h. option_and_then row_written (slice_get h d.id.commit)) acting.history
        ∙ ap (option_and_then row_written) so.on_sender.numbered ∙ so.on_sender.on_row in
        in-filter_map (λ (e : Delivery). option_map (sent_from e) (sender e)) d made s
        (subst (λ h. IsIn d (run_of shape h).made) (sym acting.history) in_made)
        (ap (option_map (sent_from d)) (passes-where (is_pending_on shape world (worker_of world number) d.id)
        (option_and_then row_written (slice_get world.history d.id.commit)) s.sender of_entry pending))

    -- a record that is found pending in a row that is held is pending there
    found-held : (d : Delivery) (name : RowName) (held : HeldView) → IsIn d made → held_on case.topology was.held name ≡ Some held
        → is_some (found_delivery d.id (row_known case.topology world held.lease name).pending) ≡ true
        → IsPendingHeld was.held (sent_from d name)
    found-held d name held in_made on some =
        let lies = held-lies case.topology was.held name held on in
        by_row lies.0 lies.2 (row_in (cached held.rows) name) refl
        (by_found (found_delivery d.id (row_known case.topology world held.lease name).pending) refl some)
      where
        by_found : (o : Option Delivery) → found_delivery d.id (row_known case.topology world held.lease name).pending ≡ o
            → is_some o ≡ true → IsIn d (row_held case.topology held name).pending
        by_found None is there = absurd (cc)
        by_found (Some e) is there = subst (λ (r : Contents). IsIn d r.pending)
            (row-held case old world number was held name acting on)
            (subst (λ (f : Delivery). IsIn f (row_known case.topology world held.lease name).pending)
            (pending-is case.topology world.history held.lease name d e in_made is)
            (found-of (λ (f : Delivery). same_id f.id d.id) e (row_known case.topology world held.lease name).pending is).1)

        by_row : (i : ℕ) → held_at was.held i ≡ Some held → (o : Option Contents) → row_in (cached held.rows) name ≡ o
            → IsIn d (row_held case.topology held name).pending → IsPendingHeld was.held (sent_from d name)
        by_row i at None is there = absurd (subst (λ o. IsIn d (unwrap_or o (fresh (fresh_of case.topology name.part))).pending) is there)
        by_row i at (Some row) is there = record {
          interval = i;
          held = held;
          there = at;
          pending = record {
            row = row;
            there = is;
            pending = contained-in d row.pending
                (subst (λ o. IsIn d (unwrap_or o (fresh (fresh_of case.topology name.part))).pending) is there);
          };
        }

    -- what is known as pending is pending in what is held
    known-held : (s : Sent) → IsIn s (sent_of_known sender made) → IsPendingHeld was.held s
    known-held s here =
        let one = filter_map-in (λ (e : Delivery). option_map (sent_from e) (sender e)) made s here in
        by_sender one.0 one.1 (sender one.0) refl one.2
      where
        by_held : (d : Delivery) (name : RowName) → IsIn d made → (o : Option HeldView) → held_on case.topology was.held name ≡ o
            → option_map_or (is_pending_in case.topology world d.id name) (option_map lease_held o) false ≡ true
            → IsPendingHeld was.held (sent_from d name)
        by_held d name in_made None on pending = absurd (cc)
        by_held d name in_made (Some held) on pending = found-held d name held in_made on pending

        by_sender : (d : Delivery) → IsIn d made → (o : Option RowName) → sender d ≡ o → option_map (sent_from d) o ≡ Some s
            → IsPendingHeld was.held s
        by_sender d in_made None is same = absurd (none_some s same)
        by_sender d in_made (Some name) is same =
            let passes = where-passes (is_pending_on case.topology world (worker_of world number) d.id)
            (option_and_then row_written (slice_get world.history d.id.commit)) name is in
            subst (IsPendingHeld was.held) (some_same (sent_from d name) s same)
            (by_held d name in_made (held_on case.topology was.held name) refl
            (subst (λ o. option_map_or (is_pending_in case.topology world d.id name) o false ≡ true)
            (lease_on-held case old world number was name acting) passes.1))

    -- what is swept is what is known as pending
    pub swept-known : (node : NodeView) (count : ℕ) → (is : IsSwept (own_view old) was node count)
        → map sent_again is.again ≡ pending_known case.topology world (worker_of world number)
    swept-known node count is =
        let told = subst (λ t. IfSome t (λ _. IsStrictlySortedBy id_cmp (map (λ (s : Sent). s.delivery.id) is.again)))
        (tells old.rows acting.told) is.told in
        ap (map sent_again) (same-ascending by_id (λ s t. id_cmp-total.antisymm s.delivery.id t.delivery.id) is.again
        (sent_of_known sender made) (ids-ascend is.again told)
        (known-ascends sender made (made-in_order case.topology world.history).ascending)
        (λ s here. held-known s ((is.sweep.each s).0 (contained-in s is.again here)))
        (λ s here. in-contained s is.again ((is.sweep.each s).1 (known-held s here))))
        ∙ known-again sender made

-- what is pending is sent again
swept-acts : (case : CaseShape) (old : BookView) (world : World) (number : ℕ) (was node : NodeView) (count : ℕ)
    → IsActing case old world number was → IsSwept (own_view old) was node count
    → Acts case old world number node (steps.Resend number) (outcomes.Queued count)
swept-acts case old world number was node count acting is =
    let shape = case.topology in
    let again = pending_known shape world (worker_of world number) in
    let same = swept-known case old world number was acting node count is in
    let number_is : length again ≡ count = ap length (sym same) ∙ length-map is.again sent_again ∙ sym is.number in
    sym (becomes-acts shape number (own_view old) (own_view old) was node (outcomes.Queued (length again))
    (with_outgoing again (worker_of world number)) world.flight world refl refl (acting-of case old world number was acting)
    (is.left ∙ ap (λ ms. with_outgoing ms (worker_at was)) same
    ∙ ap (with_outgoing again) (sym (acting-worker case old world number was acting)))
    ∙ ap (λ n. (outcomes.Queued n, left_world (own_view old) number node world.flight world)) number_is)

-- a sweep
pub resend-acts : (case : CaseShape) (old : BookView) (world : World) (number : ℕ) (was node : NodeView) (outcome : Outcome)
    → IsActing case old world number was → AnswersSweep (own_view old) was node outcome
    → Acts case old world number node (steps.Resend number) outcome
resend-acts case old world number was node (outcomes.Queued count) acting is =
    swept-acts case old world number was node count acting is
resend-acts case old world number was node _ acting is = absurd is
