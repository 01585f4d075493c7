-- Which rows fit which names. Own.
use Rattle.std.specs.Prelude.{ℕ, length, ◌==◌, Bool, false, ◌&&◌, if◌then◌else◌, nat_lt, nat_le}
use Rattle.std.specs.List.{list_all}
use Rattle.std.specs.Option.{option_map_or}
use Rattle.mw_types.specs.declared.identity.RowName.{RowName}
use Rattle.mw_types.specs.declared.delivery.Delivery.{Delivery}
use Rattle.mw_types.specs.declared.kind.Kind.{Kind}
use Rattle.mw_types.specs.declared.state.State.{State}
use Rattle.mw_types.specs.declared.state.State.TheVariants as states
use Rattle.topology.specs.Shapes.{Shape, injectors_of, parts_of, kind_of}
use Rattle.computations.specs.Handlers.{has_kind}
use Rattle.row_parts.specs.Contents.{Contents}
use Rattle.run_history.specs.Cases.{CaseShape, is_injector, source_of}

-- whether a state is an injector's, which has injected no more lines than these
abbrev pub is_cursor_within : ℕ → State → Bool
is_cursor_within lines (states.Injector cursor) = nat_le cursor lines
is_cursor_within lines _ = false

-- whether a delivery's id has a lower commit number than this, and the delivery goes to a computation
abbrev pub is_sent_before : Shape → ℕ → Delivery → Bool
is_sent_before shape number d =
    nat_lt d.id.commit number && nat_le (injectors_of shape) d.to.part && nat_lt d.to.part (parts_of shape)

-- whether a row suits a part: an injector's has no timer, and for its state a cursor within the injector's
-- lines; a computation's has a state of its kind; no row suits a number without a part
abbrev pub suits_part : CaseShape → ℕ → Contents → Bool
suits_part case part row = if is_injector case.topology part
    then is_cursor_within (length (source_of case part)) row.state && (length row.timers == 0)
    else option_map_or (λ (kind : Kind). has_kind kind row.state) (kind_of case.topology part) false

-- whether a row fits a name, after a history of this length: the row suits the part, and each delivery that
-- is pending goes to a computation, under an id whose commit number is below the length
abbrev pub fits : CaseShape → ℕ → RowName → Contents → Bool
fits case number name row =
    suits_part case name.part row && list_all (is_sent_before case.topology number) row.pending
