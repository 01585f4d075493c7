-- A whole drain, by what its claims and its turns say.
use Rattle.std.proofs.Common.{◌≡◌, ◌<◌, Bool, true, false, List, length, sym, ◌∙◌, subst}
use Rattle.std.specs.Prelude.{Option, Some, None, IsSome, IfSome}
use Rattle.std.specs.Option.{is_some}
use Rattle.std.proofs.lemmas.Bool.{both_ways}
use Rattle.list_lemmas.proofs.Told.{if-there}
use Rattle.mw_types.specs.declared.entry.Entry.{Entry}
use Rattle.mw_types.specs.declared.delivery.Delivery.{Delivery}
use Rattle.mw_types.specs.declared.identity.RecordId.{RecordId}
use Rattle.mw_types.specs.declared.identity.RowName.{RowName}
use Rattle.topology.specs.Shapes.{parts_of}
use Rattle.run_history.specs.Cases.{CaseShape}
use Rattle.run_history.specs.Finished.{IsFinished}
use Rattle.run_history.specs.Legal.{floor_of}
use Rattle.run_history.specs.Runs.{run_of}
use Rattle.book.specs.Senders.{IsLeastSent}
use Rattle.book.specs.Books.{BookView, core_of}
use Rattle.book.specs.Lawful.{IsLawful}
use Rattle.node.specs.Asking.{MayAskForget}
use Rattle.outbox.specs.Messages.{IsComputation}
use Rattle.node.specs.Workers.{NodeView}
use Rattle.world.specs.drains.Drains.{HasEnded}
use Rattle.world.specs.drains.Standings.{IsFound}
use Rattle.world.specs.drains.Turns.{HasAskedOne, HasStepped, HasTurned, WhereTold, is_finished_at, sent_at}
use Rattle.world.proofs.drains.EndLaws.{injected-finished}
use Rattle.world.proofs.drains.LawfulRows.{lawful-rows}
use Rattle.world.proofs.GoLaws.{fact-back, fact-on, stayed-turn, told-on}
use Rattle.world.proofs.drains.LeastWorkLaws.{forget-turned, found-handled, sent-id, sent-to}

-- ---- where the rows are told

-- and what holds of them holds where they are told
rows-told : {X : Type 0} {F : Type 0} (o : Option X) → IsSome o → IfSome o (λ _. F) → F
rows-told None told f = absurd (cc)
rows-told (Some x) told f = f

-- what held where told holds after a step that wrote nothing
pub told-fact-on : (Fact : CaseShape → List Entry → Type 0) (old new : BookView) → HasStepped old new None
    → WhereTold old (Fact old.case old.history) → WhereTold new (Fact new.case new.history)
told-fact-on Fact old new stepped fact = λ told. fact-on Fact old new stepped (fact (sym stepped.tells ∙ told))

-- what holds where told after a step that wrote nothing held before
pub told-fact-back : (Fact : CaseShape → List Entry → Type 0) (old new : BookView) → HasStepped old new None
    → WhereTold new (Fact new.case new.history) → WhereTold old (Fact old.case old.history)
told-fact-back Fact old new stepped fact = λ told. fact-back Fact old new stepped (fact (told-on old new None stepped told))

-- a turn that has more has not come to the end
pub not-ended : {Fact : Type 0} (book : BookView) (more : Bool) → WhereTold book (more ≡ true) → more ≡ false
    → WhereTold book Fact
not-ended book more is none = λ told. absurd (both_ways more none (is told))

-- a turn that had none more wrote nothing
pub no-more : (old new : BookView) (more : Bool) → HasTurned old new more → more ≡ false → HasStepped old new None
no-more old new more turned none = stayed-turn old new (subst (HasTurned old new) none turned)

-- ---- claims and then turns

-- where it has ended no work is left
pub ended-finished : (old new : BookView) → new.case ≡ old.case → is_some new.rows ≡ is_some old.rows
    → IsLawful new.case (core_of new) → IfSome old.rows (λ _. HasEnded old.case (length old.history) new.history)
    → IfSome old.rows (λ _. IsFinished new.case (run_of new.case.topology new.history))
ended-finished old new same tells lawful ended = if-there old.rows (λ told.
    let done = subst (λ (c : CaseShape). HasEnded c (length old.history) new.history) (sym same) (rows-told old.rows told ended) in
    injected-finished new.case (length old.history) new.history lawful.runnable
    (lawful-rows new.case new.history new.rows (tells ∙ told) lawful.held).0 done.earlier)

-- ---- a record that was found

-- a record that was found goes to a computation
pub found-to : (book : BookView) (node : NodeView) (sender : RowName) (d : Delivery) → IsFound book node sender d
    → IsComputation book.case.topology d.to.part
found-to book node sender d is = sent-to book node sender d.id d is.at_work is.part is.sent

-- a record that was found goes to a part that is there
pub found-part : (book : BookView) (node : NodeView) (sender : RowName) (d : Delivery) → IsFound book node sender d
    → d.to.part < parts_of book.case.topology
found-part book node sender d is = (sent-to book node sender d.id d is.at_work is.part is.sent).there

-- a row that forgets before it handles a record is a turn
pub forgot-turned : (old new : BookView) (node : NodeView) (sender : RowName) (d : Delivery) (more : Bool) → IsFound old node sender d
    → is_finished_at old.case.topology node d ≡ false
    → HasAskedOne old new (MayAskForget old.case.topology node 64 (floor_of (run_of old.case.topology old.history)) d.to) more
    → HasTurned old new more
forgot-turned old new node sender d more is left done =
    forget-turned old new node sender d more is.at_work is.sent is.least (found-handled old node sender d is false left) done

-- the least id is that of what was found
pub found-least : (book : BookView) (node : NodeView) (sender : RowName) (id : RecordId) (d : Delivery)
    → sent_at book.case.topology node sender id ≡ Some d
    → IsLeastSent book.case.topology (run_of book.case.topology book.history) id sender
    → IsLeastSent book.case.topology (run_of book.case.topology book.history) d.id sender
found-least book node sender id d sent least =
    subst (λ (i : RecordId). IsLeastSent book.case.topology (run_of book.case.topology book.history) i sender)
    (sym (sent-id book.case.topology node sender id d sent)) least
