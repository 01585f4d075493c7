-- What a node answers that injects a line, as the scripted world does.
use Rattle.std.proofs.Common.{◌≡◌, ◌∙◌, ℕ, [], refl, sym, ap}
use Rattle.std.specs.Prelude.{IfSome, None, Option, Some}
use Rattle.std.specs.Option.{option_and_then, option_map, option_map_or}
use Rattle.mw_types.specs.declared.entry.Entry.TheVariants as entries
use Rattle.mw_types.specs.declared.identity.RowName.{RowName}
use Rattle.injector.specs.Sources.{item_at}
use Rattle.injector.specs.declared.item.Item.{Item}
use Rattle.row_parts.specs.Contents.{Contents, cursor_in}
use Rattle.run_history.specs.Cases.{CaseShape, record_of, source_of}
use Rattle.book.specs.Books.{BookView}
use Rattle.book.specs.OwnDesks.{own_view}
use Rattle.holdings.specs.Holding.{HeldView, held_on, row_held}
use Rattle.node.specs.Answers.{AnswersAsked}
use Rattle.node.specs.Asking.{line_asked, next_line}
use Rattle.node.specs.Workers.{NodeView, worker_at}
use Rattle.node.specs.declared.outcome.Outcome.{Outcome}
use Rattle.world.specs.scripts.Acts.{Deed, done, inject, inject_item, inject_next, nothing}
use Rattle.world.specs.scripts.Worlds.{World, worker_of}
use Rattle.plans.specs.declared.step.Step.TheVariants as steps
use Rattle.world.proofs.scripts.deeds.Acting.{Acts, IsActing, acting-worker}
use Rattle.world.proofs.scripts.deeds.Held.{lease_held, lease_on-held, row-held}
use Rattle.world.proofs.scripts.deeds.Left.{IsOnRow, acting-alone, acting-of, asked-kept, deed_asked}

-- the next line of a row as it is held is that of the row as it is known
next-is : (case : CaseShape) (old : BookView) (world : World) (number : ℕ) (was : NodeView) (name : RowName) (held : HeldView)
    → IsActing case old world number was → held_on case.topology was.held name ≡ Some held
    → inject_next case number world name held.lease
    ≡ deed_asked world number (worker_of world number) (next_line case name held)
next-is case old world number was name held acting on =
    ap at_row (row-held case old world number was held name acting on)
    ∙ by_item (cursor_in (row_held case.topology held name).state)
    (item_at (source_of case name.part) (cursor_in (row_held case.topology held name).state))
  where
    at_row : Contents → Deed
    at_row row = option_map_or (inject_item number world name held.lease (cursor_in row.state))
        (item_at (source_of case name.part) (cursor_in row.state)) (nothing world number)

    by_item : (line : ℕ) (o : Option Item) → option_map_or (inject_item number world name held.lease line) o (nothing world number)
        ≡ deed_asked world number (worker_of world number) (option_map (λ (item : Item). record {
          lease = held.lease;
          name = name;
          entry = entries.Inject held.lease.seq name.part line (record_of item);
          late = item.late;
        }) o)
    by_item line None = refl
    by_item line (Some item) = refl

-- so where a row's interval is held, or not
pub inject-is : (case : CaseShape) (old : BookView) (world : World) (number : ℕ) (was : NodeView) (part : ℕ)
    → IsActing case old world number was
    → inject case number part world ≡ deed_asked world number (worker_of world number) (line_asked case was part)
inject-is case old world number was part acting =
    ap (λ o. option_map_or (inject_next case number world name) o (nothing world number))
    (lease_on-held case old world number was name acting)
    ∙ by_held (held_on case.topology was.held name) refl
  where
    name : RowName
    name = record { part = part; key = [] }

    by_held : (o : Option HeldView) → held_on case.topology was.held name ≡ o
        → option_map_or (inject_next case number world name) (option_map lease_held o) (nothing world number)
        ≡ deed_asked world number (worker_of world number) (option_and_then (next_line case name) o)
    by_held None is = refl
    by_held (Some held) is = next-is case old world number was name held acting is

-- a line is on the row of its injector
line-on : (case : CaseShape) (was : NodeView) (part : ℕ) → IfSome (line_asked case was part) IsOnRow
line-on case was part = by_held (held_on case.topology was.held (record { part = part; key = [] }))
  where
    by_item : (held : HeldView) (line : ℕ) (o : Option Item) → IfSome (option_map (λ (item : Item). record {
      lease = held.lease;
      name = record { part = part; key = [] };
      entry = entries.Inject held.lease.seq part line (record_of item);
      late = item.late;
    }) o) IsOnRow
    by_item held line None = tt
    by_item held line (Some item) = refl

    by_held : (o : Option HeldView) → IfSome (option_and_then (next_line case (record { part = part; key = [] })) o) IsOnRow
    by_held None = tt
    by_held (Some held) = let line = cursor_in (row_held case.topology held (record { part = part; key = [] })).state in
        by_item held line (item_at (source_of case part) line)

-- a line
pub inject-acts : (case : CaseShape) (old new : BookView) (world : World) (number : ℕ) (was node : NodeView) (part : ℕ)
    (outcome : Outcome) → IsActing case old world number was → new.marks ≡ old.marks
    → AnswersAsked case.topology (own_view old) (own_view new) (line_asked case was part) (worker_at was) was node outcome
    → Acts case new world number node (steps.Inject number part) outcome
inject-acts case old new world number was node part outcome acting marks is =
    let shape = case.topology in
    let asked = line_asked case was part in
    sym (ap (done shape world) (inject-is case old world number was part acting
    ∙ ap (λ w. deed_asked world number w asked) (acting-worker case old world number was acting))
    ∙ asked-kept shape number (own_view old) (own_view new) asked (worker_at was) was node outcome world
    (acting-alone case old new world number was acting) marks (acting-of case old world number was acting) (line-on case was part) is)
