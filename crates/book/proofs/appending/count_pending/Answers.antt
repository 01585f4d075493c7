use Rattle.book.proofs.appending.count_pending.Goals as goal

-- what always holds of a row
pub returns-clause-row : goal.returns-clause-row
returns-clause-row c = record {
  state = c.sound.ensures.state;
  timers = c.sound.ensures.timers;
  pending = c.sound.ensures.pending;
  seen = c.sound.ensures.seen;
  floor = c.sound.ensures.floor;
  last = c.sound.ensures.last;
}
