use Rattle.std.proofs.Common.{◌∙◌}
use Rattle.shared_book.proofs.Told.{turn_home}
use Rattle.shared_book.proofs.settling.floor_in.Goals as goal

pub returns-clause-turn : goal.returns-clause-turn
returns-clause-turn g c =
    let o = c.out-core in
    let i = c.into_core-core in
    turn_home c.args.place.now.me o.new.place.me c.home.new.place.me o.result i.result.1 o.ensures.view c.home.ensures.view
    (i.ensures.core ∙ c.of-book.ensures.core) c.requires.turn.turn o.ensures.core c.requires.turn.claimed
