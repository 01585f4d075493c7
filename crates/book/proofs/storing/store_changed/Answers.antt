use Rattle.std.proofs.Common.{◌≡◌, subst, sym}
use Rattle.std.specs.Prelude.{Option, option_map}
use Rattle.row_parts.specs.Spelling.{spelling_of}
use Rattle.row_keeper.specs.Rows.{with_row}
use Rattle.book.specs.Appending.{left_row}
use Rattle.book.specs.declared.settling.Settled.{Settled}
use Rattle.book.proofs.storing.store_changed.Goals as goal

-- the row without a delivery is stored
pub returns-in-Some-default-clause-stored : goal.returns-in-Some-default-clause-stored
returns-in-Some-default-clause-stored g c = λ done.
    subst (λ (s : Option Settled). g.K.Keeper.rows c.store_settled.new.keeper ≡ option_map (with_row c.args.name.now (spelling_of
    (left_row s c.args.row.now))) (g.K.Keeper.rows c.args.keeper.now)) (sym c.in-Some-default.is-0) (c.store_settled.ensures.stored done)

-- the row with more deliveries is stored
pub returns-in-None-Some-clause-stored : goal.returns-in-None-Some-clause-stored
returns-in-None-Some-clause-stored g c = λ done.
    subst (λ (s : Option Settled). g.K.Keeper.rows c.store_grown.new.keeper ≡ option_map (with_row c.args.name.now (spelling_of
    (left_row s c.args.row.now))) (g.K.Keeper.rows c.args.keeper.now)) (sym c.in-None-Some.is-0) (c.store_grown.ensures.stored done)
