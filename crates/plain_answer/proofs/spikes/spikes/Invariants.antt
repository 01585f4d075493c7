use Rattle.std.proofs.Common.{◌≡◌, ◌++◌, []}
use Rattle.plain_answer.specs.Spiked.{spikes_along}
use Rattle.plain_answer.proofs.spikes.spikes.Given as goal

-- the records so far, and those of what is left, are those of all
abbrev pub invariant-loop-place : goal.invariant-loop-place
invariant-loop-place l =
    l.records.items ++ spikes_along l.last l.times l.row.key l.row.known.items l.place-iterator
    ≡ spikes_along l.last l.times [] [] l.places.entries
