use Rattle.std.proofs.Common.{List, subst, sym}
use Rattle.book.specs.declared.answers.NamedRow.{NamedRow}
use Rattle.holdings.specs.Slots.{AreWithin}
use Rattle.holdings.proofs.SlotLaws.{each-within}
use Rattle.holdings.proofs.slots.index_beside.Goals as goal

-- each place is one of a row
pub index_places-requires-clause-within : goal.index_places-requires-clause-within
index_places-requires-clause-within c = subst (λ (l : List NamedRow). AreWithin l c.slots.inside.places.entries) (sym c.deref.ensures.value)
    (each-within c.slots.inside.rows.items c.slots.inside.places.entries c.slots.invariant)
