use Rattle.std.proofs.Common.{◌≡◌, ℕ, ◌+◌, length, sum_by, drop}
use Rattle.mw_types.specs.declared.delivery.Delivery.{Delivery}
use Rattle.mw_types.specs.declared.TheConstants.{END}
use Rattle.audit.specs.Works.{sum_at, wait_of}
use Rattle.audit.proofs.works.note_work.Given as goal

-- there are as many parts, and with those that are left each has as much more as with all
abbrev pub invariant-loop-delivery : goal.invariant-loop-delivery
invariant-loop-delivery l = record {
  many : length l.works.items ≡ length l.fn.works.items;
  added : (part : ℕ) (weigh : ℕ → ℕ) → weigh END ≡ 0 → sum_at weigh part l.works.items
      + sum_by (λ (d : Delivery). weigh (wait_of part d)) (drop l.delivery-index l.sent)
      ≡ sum_at weigh part l.fn.works.items + sum_by (λ (d : Delivery). weigh (wait_of part d)) l.sent;
}
