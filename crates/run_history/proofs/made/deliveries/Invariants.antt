use Rattle.std.proofs.Common.{◌≡◌, ◌*◌, ◌≤◌, ◌++◌, map, drop, length}
use Rattle.std.specs.List.{flat_map, enumerate_from}
use Rattle.mw_types.specs.declared.record.Production.{Production}
use Rattle.run_history.specs.Made.{produced, sends_of, delivery_at}
use Rattle.run_history.proofs.made.deliveries.Given as goal

-- with the deliveries of the productions that are left, those of all
abbrev pub invariant-loop-production : goal.invariant-loop-production
invariant-loop-production l = record {
  count : length l.deliveries ≤ 64 * l.production-index;
  left : l.deliveries ++ map (delivery_at l.commit)
      (enumerate_from (length l.deliveries) (flat_map (λ (p : Production). sends_of l.consumers (produced l.late p))
      (drop l.production-index l.productions)))
      ≡ map (delivery_at l.commit) (enumerate_from 0
      (flat_map (λ (p : Production). sends_of l.consumers (produced l.late p)) l.productions));
}
