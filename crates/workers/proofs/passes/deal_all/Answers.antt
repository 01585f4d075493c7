use Rattle.std.proofs.Common.{◌∙◌, ◌<◌, ℕ, ap, arith}
use Rattle.workers.specs.declared.hand.Hand.{Hand}
use Rattle.workers.specs.declared.passes.MailPass.{MailPass}
use Rattle.workers.specs.PassLists.{IsNewPass}
use Rattle.workers.proofs.PassLists.{dealt, first-of}
use Rattle.workers.proofs.passes.deal_all.Goals as goal

-- one pass more was made of the first
pub loop-place-preserved : goal.loop-place-preserved
loop-place-preserved g c =
    let all = c.loop-place.all.items in
    let fact : ℕ → MailPass g.row.N.Denot g.row.J.Denot → Type 0 =
    λ place p. IsNewPass c.args.line.now place p.pass p.place in
    let some : 0 < c.loop-place.place = grind arith in
    let was = first-of fact 0 all c.index_mut.result.now (let many = c.loop-place.invariant.many in omega (arith, many, some))
    c.index_mut.ensures.value c.loop-place.invariant.passes in
    let first : fact 0 c.deal-next.new.first = record {
      of_line = c.deal-next.ensures.pass;
      at_place = c.deal-next.ensures.same_place ∙ was.at_place;
      no_puts = ap (λ (h : Hand). h.puts) c.deal-next.ensures.beside ∙ was.no_puts;
      no_takes = ap (λ (h : Hand). h.takes) c.deal-next.ensures.beside ∙ was.no_takes;
    } in
    let both = dealt fact all c.push-in-loop-place.new.self.items c.deal-next.new.first c.deal-next.result c.loop-place.place
    c.loop-place.invariant.many some first c.deal-next.ensures.new c.loop-place.invariant.passes c.in_ok-push-2.ensures.items in
    record { passes = both.0; many = both.1 }
