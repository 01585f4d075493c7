use Rattle.std.specs.Prelude.{slice_index_or}
use Rattle.std.proofs.lemmas.List.{get_or-set_other}
use Rattle.workers.specs.Crews.{desk_of}
use Rattle.workers.proofs.Doing.{is-itself, claims-set, done-set, faulty-set, healthy-set, healthy-there, keeps-set, leases-set, workers-set}
use Rattle.std.proofs.Common.{◌∙◌}
use Rattle.workers.proofs.claiming.claim_one.Goals as goal

pub returns-clause-workers : goal.returns-clause-workers
returns-clause-workers g c = workers-set c.args.shared.now.table.shared.table_id c.args.case.now c.args.crew.now c.args.at
    (slice_index_or c.args.crew.now c.args.at c.index-crew-at.result) c.claim.new.self c.requires.at (is-itself c.args.crew.now c.args.at c.index-crew-at.result c.requires.at) c.claim.ensures.stepped.number c.claim.ensures.worker
    c.requires.workers

pub returns-clause-done : goal.returns-clause-done
returns-clause-done g c = done-set 1 c.args.crew.now c.args.at (slice_index_or c.args.crew.now c.args.at c.index-crew-at.result) c.claim.new.self c.requires.at (is-itself c.args.crew.now c.args.at c.index-crew-at.result c.requires.at)
    c.claim.ensures.stepped c.claim.ensures.few

pub returns-clause-passes : goal.returns-clause-passes
returns-clause-passes g c = keeps-set (λ w. w.passes) c.args.crew.now c.args.at (slice_index_or c.args.crew.now c.args.at c.index-crew-at.result) c.claim.new.self c.requires.at
    (is-itself c.args.crew.now c.args.at c.index-crew-at.result c.requires.at) c.claim.ensures.passes

pub returns-clause-orders : goal.returns-clause-orders
returns-clause-orders g c = keeps-set (λ w. w.orders) c.args.crew.now c.args.at (slice_index_or c.args.crew.now c.args.at c.index-crew-at.result) c.claim.new.self c.requires.at
    (is-itself c.args.crew.now c.args.at c.index-crew-at.result c.requires.at) c.claim.ensures.orders

pub returns-clause-others : goal.returns-clause-others
returns-clause-others g c k d other = get_or-set_other c.args.crew.now c.args.at k c.claim.new.self d other

pub returns-clause-claimed : goal.returns-clause-claimed
returns-clause-claimed g c ok = claims-set c.args.crew.now c.args.at c.args.interval (slice_index_or c.args.crew.now c.args.at c.index-crew-at.result) c.claim.new.self c.requires.at
    (is-itself c.args.crew.now c.args.at c.index-crew-at.result c.requires.at) c.requires.workers.numbered (c.claim.ensures.claimed ok)

pub returns-clause-leased : goal.returns-clause-leased
returns-clause-leased g c ok = leases-set c.args.crew.now c.args.at c.args.interval (slice_index_or c.args.crew.now c.args.at c.index-crew-at.result) c.claim.new.self c.requires.at
    (is-itself c.args.crew.now c.args.at c.index-crew-at.result c.requires.at) (c.claim.ensures.leased ok)

pub returns-clause-healthy : goal.returns-clause-healthy
returns-clause-healthy g c ok healthy = healthy-set c.args.crew.now c.args.at c.claim.new.self c.requires.at healthy
    (c.claim.ensures.same_fault ok
    ∙ healthy-there c.args.crew.now c.args.at (slice_index_or c.args.crew.now c.args.at c.index-crew-at.result) c.requires.at (is-itself c.args.crew.now c.args.at c.index-crew-at.result c.requires.at) healthy)

pub returns-clause-own : goal.returns-clause-own
returns-clause-own g c failed = keeps-set (λ w. (desk_of w).own) c.args.crew.now c.args.at (slice_index_or c.args.crew.now c.args.at c.index-crew-at.result) c.claim.new.self
    c.requires.at (is-itself c.args.crew.now c.args.at c.index-crew-at.result c.requires.at) (c.claim.ensures.own failed)

pub returns-clause-faulty : goal.returns-clause-faulty
returns-clause-faulty g c failed = faulty-set c.args.crew.now c.args.at c.claim.new.self c.requires.at (c.claim.ensures.faulty failed)
