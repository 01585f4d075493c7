-- The states of rows that are held, and what handlers make of them.
use Rattle.std.proofs.Common.{◌≡◌, ◌∙◌, ◌&&◌, ℕ, Bool, true, false, List, length, refl, sym, ap}
use Rattle.std.specs.Prelude.{Option, Some, None, if◌then◌else◌, ◌==◌}
use Rattle.std.specs.List.{list_all}
use Rattle.std.specs.Option.{option_map_or}
use Rattle.std.proofs.lemmas.Bool.{le-ltb}
use Rattle.list_lemmas.proofs.Tests.{both_true}
use Rattle.mw_types.specs.declared.identity.RowName.{RowName}
use Rattle.mw_types.specs.declared.kind.Kind.{Kind}
use Rattle.topology.specs.Shapes.{injectors_of, kind_of}
use Rattle.computations.specs.Handlers.{has_kind}
use Rattle.row_parts.specs.Contents.{Contents}
use Rattle.run_history.specs.Cases.{CaseShape, is_injector, source_of}
use Rattle.run_history.specs.Fits.{is_cursor_within, is_sent_before, suits_part}
use Rattle.book.specs.Desks.{DeskView}
use Rattle.holdings.specs.Holding.{AreAllHeld, HeldView, held_on, row_held}
use Rattle.outbox.specs.Messages.{IsComputation}
use Rattle.node.specs.Works.{IsStateThere}
use Rattle.node.proofs.FitLaws.{held-interval}

-- what may be there, and passes a test
some-passes : (test : Kind → Bool) (o : Option Kind) → option_map_or test o false ≡ true → (kind : Kind) × (o ≡ Some kind) × (test kind ≡ true)
some-passes test None is = absurd cc
some-passes test (Some kind) is = (kind, refl, is)

-- a computation's row that suits it has a state of its kind
suits-state : (case : CaseShape) (part : ℕ) (row : Contents) → IsComputation case.topology part → suits_part case part row ≡ true
    → IsStateThere case.topology part row.state
suits-state case part row is suits =
    let no_injector : is_injector case.topology part ≡ false = le-ltb part (injectors_of case.topology) is.no_injector in
    some-passes (λ (kind : Kind). has_kind kind row.state) (kind_of case.topology part)
    (sym (ap (λ b. if b then is_cursor_within (length (source_of case part)) row.state && (length row.timers == 0)
    else option_map_or (λ (kind : Kind). has_kind kind row.state) (kind_of case.topology part) false) no_injector) ∙ suits)

-- a computation's row that is held has a state of its kind
pub state-held : (case : CaseShape) (desk : DeskView) (all : List (Option HeldView)) (name : RowName) (held : HeldView)
    → AreAllHeld case desk all → IsComputation case.topology name.part → held_on case.topology all name ≡ Some held
    → IsStateThere case.topology name.part (row_held case.topology held name).state
state-held case desk all name held fit is there =
    let shape = case.topology in
    let row = row_held shape held name in
    let on = held-interval shape all name held there in
    let here = fit.each on.0 held on.2 in
    let fitting = here.rows.fit name (on.1 ∙ sym (ap Some here.of_interval)) is.there in
    suits-state case name.part row is
    (both_true (suits_part case name.part row) (list_all (is_sent_before shape (length desk.seen)) row.pending) fitting).0
