-- What a node makes of a message that comes.
use Rattle.std.proofs.Common.{◌≡◌, ◌∙◌, Bool, true, false, List, [], ◌∷◌, ◌++◌, refl, sym, subst}
use Rattle.std.specs.Prelude.{IfSome, IsSome, Option, Some, None}
use Rattle.std.proofs.lemmas.List.Elements.{All-append, All-from_recursion}
use Rattle.std.specs.Option.{option_map_or}
use Rattle.list_lemmas.proofs.Told.{if-anyway, if-same}
use Rattle.mw_types.specs.Outcomes.{EffectsView}
use Rattle.mw_types.specs.declared.delivery.Delivery.{Delivery}
use Rattle.mw_types.specs.declared.entry.Entry.{Entry}
use Rattle.mw_types.specs.declared.identity.RowName.{RowName}
use Rattle.topology.specs.Shapes.{Shape}
use Rattle.row_parts.specs.Contents.{is_finished}
use Rattle.run_history.specs.Cases.{CaseShape}
use Rattle.computations.specs.Handlers.{OfRecord}
use Rattle.run_history.specs.Legal.{outcome_of}
use Rattle.book.specs.Desks.{DeskView, HasLooked, HasMet, Sight, TellsUnlessAlone}
use Rattle.book.specs.declared.proposal.Proposal.TheVariants as proposals
use Rattle.holdings.specs.Holding.{HeldView, held_on, row_held}
use Rattle.node.specs.Answers.{received}
use Rattle.node.specs.Fits.{Fits}
use Rattle.outbox.specs.Messages.{IsDeliverable, IsOutgoing, IsSoBy, IsSoIn, IsVouchedFor}
use Rattle.node.specs.Workers.{NodeView, Worker, worker_at}
use Rattle.node.specs.declared.outcome.Outcome.{Outcome}
use Rattle.node.specs.declared.outcome.Outcome.TheVariants as outcomes
use Rattle.outbox.specs.declared.outgoing.Outgoing.{Outgoing}
use Rattle.outbox.specs.declared.outgoing.Outgoing.TheVariants as outgoing
use Rattle.node.proofs.FitLaws.{so-more}

-- ---- what a message says, once its note was met

-- what is vouched for at a desk that is alone is so: at another a note that tells nothing says that nothing is told
vouched-told : (case : CaseShape) (desk : DeskView) (message : Outgoing) → IsVouchedFor case desk None message
    → TellsUnlessAlone desk None → IfSome desk.told (λ _. IsSoIn case desk.seen message)
vouched-told case desk message vouched tells = by_alone desk.alone refl
  where
    by_told : (o : Option Unit) (sight : Option Sight) → sight ≡ None → (IsSome o → IsSome sight)
        → IfSome o (λ _. IsSoIn case desk.seen message)
    by_told None sight none tell = tt
    by_told (Some x) None none tell = absurd (let there = tell refl in cc)
    by_told (Some x) (Some told) none tell = absurd cc

    by_alone : (b : Bool) → desk.alone ≡ b → IfSome desk.told (λ _. IsSoIn case desk.seen message)
    by_alone true is = vouched is
    by_alone false is = by_told desk.told None refl (tells is)

-- what a message says is so in what the reader has seen then
pub so_met : (case : CaseShape) (old new : DeskView) (sight : Option Sight) (message : Outgoing) → old.case ≡ case
    → IsSoBy sight message → IsVouchedFor case old sight message → TellsUnlessAlone old sight → HasMet sight new → HasLooked old new
    → IfSome new.told (λ _. IsSoIn case new.seen message)
so_met case old new None message same so vouched tells met looked =
    if-same old.told new.told (IsSoIn case old.seen message) (IsSoIn case new.seen message) looked.told
    (λ was. subst (λ (h : List Entry). IsSoIn case h message) (sym looked.more) (so-more case old.seen looked.others message was))
    (vouched-told case old message vouched tells)
so_met case old new (Some sight) message same so vouched tells met looked =
    let here : IsSoIn case sight.seen message =
    subst (λ (k : CaseShape). IsSoIn k sight.seen message) (met.0 ∙ looked.case ∙ same) so in
    if-anyway new.told (IsSoIn case new.seen message)
    (subst (λ (h : List Entry). IsSoIn case h message) met.1.1 (so-more case sight.seen met.1.0 message here))

-- ---- what a node answers to a record

-- what it answers where nothing is prepared
abbrev where_free : Shape → NodeView → Delivery → RowName → Option HeldView → Outcome × Worker
where_free shape node d sender here = option_map_or (received shape node d sender) here (outcomes.NotMine, worker_at node)

-- ---- and whether it fits then

-- a node that has prepared a record fits
pub Fits-new : (case : CaseShape) (desk : DeskView) (node : NodeView) (d : Delivery) (sender : RowName) (effects : EffectsView) (held : HeldView)
    → held_on case.topology node.held d.to ≡ Some held → is_finished d.id (row_held case.topology held d.to) ≡ false
    → outcome_of case d.to (row_held case.topology held d.to) (OfRecord d.item) ≡ Some effects → IsDeliverable case.topology d sender
    → Fits case desk node → IsOutgoing case desk (outgoing.Deliver d sender)
    → Fits case desk (record node { prepared = Some (record { sender = sender; proposal = proposals.Handle d effects }) })
Fits-new case desk node d sender effects held there new does is fits sent = record {
  of_case = fits.of_case;
  held = fits.held;
  work = record {
    sent = sent;
    held = held;
    there = there;
    handling = record { id = is.id; to_row = refl; new = new; does = does };
  };
  outbox = fits.outbox;
}

-- a node that has acknowledged a record once more fits
pub Fits-again : (case : CaseShape) (desk : DeskView) (node : NodeView) (d : Delivery) (sender : RowName)
    → IsOutgoing case desk (outgoing.Ack sender d.id) → Fits case desk node
    → Fits case desk (record node { outbox = node.outbox ++ outgoing.Ack sender d.id ∷ [] })
Fits-again case desk node d sender ack fits = record {
  of_case = fits.of_case;
  held = fits.held;
  work = fits.work;
  outbox = All-append (IsOutgoing case desk) node.outbox (outgoing.Ack sender d.id ∷ []) fits.outbox
      (All-from_recursion (IsOutgoing case desk) (outgoing.Ack sender d.id ∷ []) (ack, tt));
}
