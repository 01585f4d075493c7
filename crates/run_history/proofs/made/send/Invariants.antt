use Rattle.std.proofs.Common.{◌≡◌, ◌+◌, ◌++◌, map, drop, length}
use Rattle.std.specs.List.{enumerate_from}
use Rattle.run_history.specs.Made.{produced, sends_of, delivery_at}
use Rattle.run_history.proofs.made.send.Given as goal

-- with the deliveries to the consumers that are left, those to all
abbrev pub invariant-loop-consumer : goal.invariant-loop-consumer
invariant-loop-consumer l = record {
  count : length l.deliveries ≡ length l.initial.deliveries + l.consumer-index;
  left : l.deliveries ++ map (delivery_at l.commit)
      (enumerate_from (length l.deliveries) (sends_of (drop l.consumer-index l.consumers) (produced l.late l.production)))
      ≡ l.initial.deliveries ++ map (delivery_at l.commit)
      (enumerate_from (length l.initial.deliveries) (sends_of l.consumers (produced l.late l.production)));
}
