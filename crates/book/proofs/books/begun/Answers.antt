use Rattle.book.proofs.Begun.{lawful_begun}
use Rattle.book.proofs.books.begun.Goals as goal

pub invariant_of-result-2 : goal.invariant_of-result-2
invariant_of-result-2 g c = lawful_begun c.args.case.now _ c.requires.runnable c.requires.limit c.new.ensures.empty
    c.requires.empty c.first_work-work.ensures c.new-3.ensures.empty c.requires.marks
