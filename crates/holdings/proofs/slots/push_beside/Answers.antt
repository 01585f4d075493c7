use Rattle.std.proofs.Common.{List, subst, sym}
use Rattle.book.specs.declared.answers.NamedRow.{NamedRow}
use Rattle.holdings.specs.Slots.{AreWithin}
use Rattle.holdings.proofs.SlotLaws.{each-within}
use Rattle.holdings.proofs.slots.push_beside.Goals as goal

-- each place is one of a row
pub push_places-requires : goal.push_places-requires
push_places-requires c = record {
  within = subst (λ (l : List NamedRow). AreWithin l c.slots.inside.places.entries) (sym c.deref.ensures.value)
      (each-within c.slots.inside.rows.items c.slots.inside.places.entries c.slots.invariant);
}
