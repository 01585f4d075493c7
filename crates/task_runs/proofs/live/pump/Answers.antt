use Rattle.std.proofs.Common.{◌∙◌, List, length, ap, subst}
use Rattle.mw_types.specs.declared.entry.Entry.{Entry}
use Rattle.run_history.specs.Cases.{CaseShape}
use Rattle.book.specs.Books.{BookView}
use Rattle.live_outlet.specs.Outlets.{IsPumpedFrom, StopsAt, WritesTo}
use Rattle.list_lemmas.proofs.Told.{on_err-anyway}
use Rattle.task_runs.proofs.Living.{pumped-cut, pumped-on}
use Rattle.task_runs.proofs.live.pump.Goals as goal

-- a fault of the pump cuts the text off
pub returns-in_err-pump-clause-cut : goal.returns-in_err-pump-clause-cut
returns-in_err-pump-clause-cut g c =
    let book = c.args.world.now.book in
    let same_case = c.case.ensures.case ∙ ap (λ (b : BookView). b.case) c.book-book.ensures.book in
    let same = c.history.ensures.history ∙ ap (λ (b : BookView). b.history) c.book-book.ensures.book in
    let old = c.args.outlet.now in
    let new = c.pump.new.self in
    let some = g.O.Sink.text c.args.out.now in
    let grown = g.O.Sink.text c.pump.new.out in
    let stops = subst (λ (k : CaseShape). StopsAt k.topology book.history old new some grown) same_case
    (subst (λ (h : List Entry). StopsAt c.case.result.now.topology h old new some grown) same c.in_err-pump.ensures.stopped) in
    on_err-anyway _ (pumped-cut book.case.topology book.history old new some grown stops)

-- else the lines from its place on are written
pub returns-clause-wrote : goal.returns-clause-wrote
returns-clause-wrote g c =
    let book = c.args.world.now.book in
    let same_case = c.case.ensures.case ∙ ap (λ (b : BookView). b.case) c.book-book.ensures.book in
    let same = c.history.ensures.history ∙ ap (λ (b : BookView). b.history) c.book-book.ensures.book in
    let old = c.args.outlet.now in
    let new = c.pump.new.self in
    let some = g.O.Sink.text c.args.out.now in
    let grown = g.O.Sink.text c.pump.new.out in
    subst (λ (k : CaseShape). WritesTo k.topology book.history old new some grown) same_case
    (subst (λ (h : List Entry). WritesTo c.case.result.now.topology h old new some grown) same c.in_ok-pump.ensures.written)

-- and all results
pub returns-clause-pumped : goal.returns-clause-pumped
returns-clause-pumped g c =
    let book = c.args.world.now.book in
    let same_case = c.case.ensures.case ∙ ap (λ (b : BookView). b.case) c.book-book.ensures.book in
    let same = c.history.ensures.history ∙ ap (λ (b : BookView). b.history) c.book-book.ensures.book in
    let old = c.args.outlet.now in
    let new = c.pump.new.self in
    let some = g.O.Sink.text c.args.out.now in
    let grown = g.O.Sink.text c.pump.new.out in
    let extends = subst (λ (k : CaseShape). IsPumpedFrom k.topology new book.history) same_case
    (subst (λ (h : List Entry). IsPumpedFrom c.case.result.now.topology new h) same c.pump.ensures.extends) in
    let wrote = subst (λ (k : CaseShape). WritesTo k.topology book.history old new some grown) same_case
    (subst (λ (h : List Entry). WritesTo c.case.result.now.topology h old new some grown) same c.in_ok-pump.ensures.written) in
    pumped-on book.case.topology book.history old new some grown extends (c.in_ok-pump.ensures.place ∙ ap length same) wrote
