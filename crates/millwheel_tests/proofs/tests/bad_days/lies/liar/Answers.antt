use Rattle.std.proofs.Common.{◌≡◌, ◌∙◌, ◌++◌, ◌∷◌, [], List, map, ap, subst, sym}
use Rattle.std.specs.List.Sorted.{IsStrictlySortedBy}
use Rattle.row_keeper.specs.Rows.{AreInOrder, entry_of}
use Rattle.row_keeper.specs.declared.keeper.KeptRow.{KeptRow}
use Rattle.millwheel_tests.proofs.tests.bad_days.lies.liar.Goals as goal

-- one row stands in order
one_in_order : (rows : List KeptRow) (row : KeptRow) → rows ≡ row ∷ [] → AreInOrder (map entry_of rows)
unfolding IsStrictlySortedBy
one_in_order rows row e = subst (λ (all : List KeptRow). AreInOrder (map entry_of all)) (sym e) (tt, tt)

pub new-requires : goal.new-requires
new-requires c = record {
  ordered = one_in_order _ c.args.row
      (c.in_ok-push.ensures.appended ∙ ap (λ (all : List KeptRow). all ++ c.args.row ∷ []) c.new-rows.ensures.empty);
}
