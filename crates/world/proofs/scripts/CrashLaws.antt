-- A worker that crashes.
use Rattle.std.proofs.Common.{◌≡◌, ◌∙◌, sym, ap}
use Rattle.list_lemmas.proofs.Lists.{none_some}
use Rattle.book.specs.Books.{BookView, core_of}
use Rattle.book.specs.Lawful.{IsLawful}
use Rattle.book.specs.OwnDesks.{own_view}
use Rattle.book.proofs.OwnLaws.{sound}
use Rattle.node.specs.Workers.{NodeView, Worker, idle, worker_at}
use Rattle.node.proofs.FitLaws.{grown_looked, looked_not}
use Rattle.world.specs.scripts.Standing.{FitsOwn}
use Rattle.world.specs.scripts.WorkerCalls.{HasCalled, HasLeases}

-- it has no lease
crash-leases : (book : BookView) (was node : NodeView) → worker_at node ≡ idle → HasLeases book was node
crash-leases book was node nothing interval seq is = absurd (none_some seq (sym (ap (λ (w : Worker). w.leases interval) nothing) ∙ is))

-- its book is as it was
pub crash-called : (book : BookView) (was node : NodeView) → IsLawful book.case (core_of book) → node.number ≡ was.number
    → worker_at node ≡ idle → FitsOwn book node → HasCalled book book was node
crash-called book was node lawful number nothing fits = record {
  grown = grown_looked was.held (own_view book) (own_view book) (looked_not (own_view book));
  leases = crash-leases book was node nothing;
  fits = fits;
  number = number;
  was_sound = sound book lawful;
  sound = sound book lawful;
}
