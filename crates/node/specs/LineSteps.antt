-- The steps by which a node injects the next line of an injector. No public clause cites this module.
use Rattle.std.specs.Prelude.{◌≡◌, ◌<◌, ◌∷◌, ℕ, [], List, Option, Some, None, length, nat_lt, if◌then◌else◌}
use Rattle.mw_types.specs.declared.delivery.Delivery.{Delivery}
use Rattle.mw_types.specs.declared.identity.RowName.{RowName}
use Rattle.mw_types.specs.declared.record.Production.{Production}
use Rattle.mw_types.specs.declared.record.Record.{Record}
use Rattle.topology.specs.Shapes.{Shape, injectors_of}
use Rattle.row_parts.specs.Contents.{cursor_in}
use Rattle.run_history.specs.Cases.{CaseShape, source_of}
use Rattle.run_history.specs.Made.{deliveries_made}
use Rattle.holdings.specs.Holding.{HeldView, held_on, row_held}
use Rattle.node.specs.Asking.{line_asked}
use Rattle.node.specs.Workers.{NodeView}

-- the name of an injector's row
abbrev pub injector_row : ℕ → RowName
injector_row part = record { part = part; key = [] }

-- the next line of an injector's row as it is held, where there is one
abbrev pub line_held : CaseShape → HeldView → RowName → Option ℕ
line_held case held name = let line = cursor_in (row_held case.topology held name).state in
    if nat_lt line (length (source_of case name.part)) then Some line else None

-- a line is the next of an injector, whose row is held
pub record IsLineNext (case : CaseShape) (node : NodeView) (part line : ℕ) : Type 0 where
  pub injector : part < injectors_of case.topology
  pub held : HeldView
  pub there : held_on case.topology node.held (injector_row part) ≡ Some held
  pub next : line ≡ cursor_in (row_held case.topology held (injector_row part)).state
  pub within : line < length (source_of case part)

-- the next line of an injector whose row is held, or none where a node asks for none
abbrev pub IsNextOf : CaseShape → NodeView → ℕ → Option ℕ → Type 0
IsNextOf case node part None = line_asked case node part ≡ None
IsNextOf case node part (Some line) = IsLineNext case node part line

-- ---- a line that is injected

-- the record of a line, as it is produced
abbrev pub production_of : Record → Production
production_of item = record { key = item.key; stamp = item.stamp; value = item.value }

-- what the record of an injected line becomes under a commit number
abbrev pub line_deliveries : Shape → ℕ → Record → ℕ → List Delivery
line_deliveries shape part item commit =
    deliveries_made shape part (production_of item ∷ []) item.late commit
