use Rattle.std.proofs.Common.{◌∙◌, length, ap, refl}
use Rattle.book.specs.Books.{BookView}
use Rattle.book.proofs.SenderFloors.{floor-least, floor-none}
use Rattle.book.proofs.books.Book.floor.Goals as goal

-- the number of the least that is pending is the floor
pub returns-in-Some : goal.returns-in-Some
returns-in-Some g c = record {
  floor = floor-least c.args.self.now.case.topology c.args.self.now.history c.in-Some.id _
      c.in-Some.ensures.least;
}

-- so is the next number where nothing is pending
pub returns-in-None : goal.returns-in-None
returns-in-None g c = record {
  floor = c.len.ensures.count ∙ (λ i. length (c.self-inside.view_is i).core.history)
      ∙ ap (λ (b : BookView). length b.history) c.self.view_is
      ∙ floor-none c.args.self.now.case.topology c.args.self.now.history (c.in-None.ensures.none.0 refl);
}
