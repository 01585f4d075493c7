use Rattle.std.proofs.Common.{◌∙◌, sym, ap, ◌∷◌, Some}
use Rattle.atomic_table.specs.Table.{rest}
use Rattle.shared_book.proofs.slots.out.Goals as goal

pub exchange-requires : goal.exchange-requires
exchange-requires g c = let turn = c.requires.turn in
    (c.requires.table, (Some turn.book, turn.places ∙ sym (ap (λ l. (0, Some turn.book) ∷ l) (ap rest turn.places))))
