use Rattle.std.proofs.Common.{rules, ℕ, List, Ok, subst, sym}
use Rattle.mw_ports.specs.Readers.{ReadsAll}
use Rattle.mw_ports.proofs.Takings.{ReadsFile-all, ReadsFile-refused, Consumes-moves, TakesMoreThan-all, TakesAtMost-all}
use Rattle.mw_ports.proofs.opened.rest_of.Goals as goal

pub returns-in_err-count-clause-told : goal.returns-in_err-count-clause-told
returns-in_err-count-clause-told g c =
    let kept = c.loop-left.invariant in
    let refused = c.in_err-count.ensures in
    ReadsFile-refused _ _ _ _ c.from_residual.ensures.0 (λ came. refused.not_missing (search rules))
    (λ came. TakesMoreThan-all _ _ _ _ _ _ kept.0 kept.1 (refused.too_long (search rules)))

pub returns-in_err-count-clause-most : goal.returns-in_err-count-clause-most
returns-in_err-count-clause-most g c =
    let kept = c.loop-left.invariant in
    TakesAtMost-all _ _ _ _ _ _ kept.0 kept.1 c.in_err-count.ensures.most

pub returns-then-count-eq0-clause-told : goal.returns-then-count-eq0-clause-told
returns-then-count-eq0-clause-told g c =
    let kept = c.loop-left.invariant in
    let given = c.in_ok-count.ensures in
    subst (λ (l : List ℕ). ReadsAll (g.F.Read.remaining c.args.file.now) c.args.limit (Ok l)) (sym c.from_vec.ensures)
    (ReadsFile-all _ _ _ _ (Consumes-moves _ _ _ _ _ _ kept.1 given.moved) (given.end (search rules)))

pub returns-then-count-eq0-clause-most : goal.returns-then-count-eq0-clause-most
returns-then-count-eq0-clause-most g c =
    let kept = c.loop-left.invariant in
    TakesAtMost-all _ _ _ _ _ _ kept.0 kept.1 c.in_ok-count.ensures.most
