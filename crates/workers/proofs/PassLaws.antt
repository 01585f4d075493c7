-- The passes of a worker, and what it sends.
use Rattle.std.proofs.Common.{◌≡◌, ◌∙◌, ◌<◌, ℕ, List, length, sym, ap, subst, arith, set, inl, inr}
use Rattle.std.specs.Prelude.{Some, slice_index_or, slice_set}
use Rattle.std.proofs.lemmas.Bool.{cases_eq}
use Rattle.std.proofs.lemmas.Grind.{get_or-set_at}
use Rattle.std.proofs.lemmas.List.{get_or_default, get_or-set_other, length-set}
use Rattle.std.proofs.lemmas.Option.{slice_get_within}
use Rattle.crossbeam_queue.specs.Passes.{IsPassOf}
use Rattle.mw_types.specs.declared.identity.RowName.{RowName}
use Rattle.topology.specs.Shapes.{Shape}
use Rattle.run_history.specs.Cases.{CaseShape, intervals_of}
use Rattle.run_history.specs.Fences.{interval_of}
use Rattle.run_history.proofs.IntervalLaws.{interval_of-has}
use Rattle.book.specs.Desks.{DeskView, HasLooked}
use Rattle.workers.specs.declared.mailbox.Mailbox.{Mailbox}
use Rattle.workers.specs.declared.passes.MailPass.{MailPass}
use Rattle.node.specs.Fits.{Fits}
use Rattle.node.specs.Workers.{NodeView, leases_of}
use Rattle.workers.specs.Passing.{ArePasses}
use Rattle.workers.specs.Serving.{HasServed}
use Rattle.workers.proofs.FewLines.{few-not}
use Rattle.workers.proofs.Leases.{leases-same}
use Rattle.workers.proofs.Serving.{served-looked}
use Rattle.workers.proofs.Working.{worked-not}

-- the interval of a row is one of the intervals
pub interval-below : (shape : Shape) (i : ℕ) (name : RowName) → interval_of shape name ≡ Some i → i < length (intervals_of shape)
interval-below shape i name lies =
    let at = interval_of-has shape i name lies in slice_get_within (intervals_of shape) i at.0 at.1

-- one pass more of a mailbox stands in the place of the one that was used
pub passes-set : {N J : Type 0} (count i : ℕ) (boxes : List (Mailbox N J)) (passes : List (MailPass N J)) (box : Mailbox N J)
    (pass : MailPass N J) → i < count → box ≡ slice_index_or boxes i box → IsPassOf box.line pass.pass
    → ArePasses count boxes passes → ArePasses count boxes (slice_set passes i pass)
passes-set {N} {J} count i boxes passes box pass within is of are = record {
  many_boxes = are.many_boxes;
  many_passes = length-set passes i pass ∙ are.many_passes;
  each = λ at b p below. elim (cases_eq at i) [
    | inl same ↦
        let here : slice_index_or (set passes i pass) at p ≡ pass = get_or-set_at passes i at pass p same
        (let many = are.many_passes in omega (arith, within, many)) in
        let there : slice_index_or boxes at b ≡ box = ap (λ (k : ℕ). slice_index_or boxes k b) same
        ∙ get_or_default boxes i b box (let many = are.many_boxes in omega (arith, within, many)) ∙ sym is in
        subst (λ (q : MailPass N J). IsPassOf (slice_index_or boxes at b).line q.pass) (sym here)
        (subst (λ (x : Mailbox N J). IsPassOf x.line pass.pass) (sym there) of)
    | inr other ↦ subst (λ (q : MailPass N J). IsPassOf (slice_index_or boxes at b).line q.pass)
        (sym (get_or-set_other passes i at pass p other)) (are.each at b p below)
  ];
}

-- ---- what is sent

-- only what is to be sent changed
pub served-rest : (case : CaseShape) (desk : DeskView) (was node : NodeView) → Fits case desk node
    → node ≡ record was { outbox = node.outbox } → HasServed case 0 desk desk was node
served-rest case desk was node fits rest = record {
  fits = fits;
  number = ap (λ (n : NodeView). n.number) rest;
  worked = worked-not desk;
  kept = leases-same desk.seen was node (ap (λ (n : NodeView). leases_of n.held) rest);
  few = few-not case desk was;
}

-- only what is to be sent changed, and the desk looked
pub served-sent : (case : CaseShape) (old new : DeskView) (was node : NodeView) → old.case ≡ case → Fits old.case new node
    → node ≡ record was { outbox = node.outbox } → HasLooked old new → HasServed case 0 old new was node
served-sent case old new was node of_case fits rest looked = served-looked case old new was node
    (subst (λ (k : CaseShape). Fits k new node) of_case fits) (ap (λ (n : NodeView). n.number) rest) looked
    (ap (λ (n : NodeView). leases_of n.held) rest)
