use Rattle.shared_book.proofs.Told.{turn_back}
use Rattle.shared_book.proofs.in_turn.back.Goals as goal

pub returns-else-failed-clause-turn : goal.returns-else-failed-clause-turn
returns-else-failed-clause-turn g c =
    turn_back c.args.place.now.me c.home.new.place.me c.args.core c.home.ensures.view c.requires.out.turn c.requires.core
    c.requires.claimed
