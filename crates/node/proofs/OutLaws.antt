-- What a node sends is so by what its desk has seen.
use Rattle.std.proofs.Common.{◌≡◌, ◌∙◌, List, [], ◌∷◌, ◌++◌, false, refl, sym, subst, true≢false}
use Rattle.std.specs.Prelude.{All, IfSome, IsSome, Option, Some, None, option_to_list, slice_get}
use Rattle.std.specs.Option.{option_and_then}
use Rattle.std.proofs.lemmas.List.Elements.{All-head, All-tail}
use Rattle.mw_types.specs.declared.entry.Entry.{Entry}
use Rattle.run_history.specs.Cases.{CaseShape}
use Rattle.list_lemmas.proofs.Lists.{none_some, some_same}
use Rattle.book.specs.Desks.{DeskView, HasLooked, IsNoteOf, IsSound, Sight}
use Rattle.holdings.proofs.HeldSteps.{AreAllHeld-looked}
use Rattle.node.specs.Fits.{Fits}
use Rattle.outbox.specs.Messages.{IsOutgoing, IsSoBy, IsSoIn, IsVouchedFor}
use Rattle.node.specs.Received.{where_record}
use Rattle.node.specs.Workers.{NodeView}
use Rattle.outbox.specs.declared.outgoing.Outgoing.{Outgoing}
use Rattle.outbox.specs.declared.outgoing.Outgoing.TheVariants as outgoing
use Rattle.node.proofs.FitLaws.{Fits-kept, more-looked, keeps-same}

-- ---- a desk that looked

-- a node fits a desk that has looked
pub Fits-looked : (case : CaseShape) (old new : DeskView) (node : NodeView) → IsSound old → IsSound new → HasLooked old new
    → Fits case old node → Fits case new node
Fits-looked case old new node was is looked fits =
    Fits-kept case old new node node (more-looked old new looked)
    (AreAllHeld-looked case old new node.held node.held fits.of_case was is looked (λ i. refl) fits.held)
    (keeps-same case.topology node.held) refl refl fits

-- a node fits with less to send
pub Fits-less : (case : CaseShape) (desk : DeskView) (node : NodeView) (first : Option Outgoing) (rest : List Outgoing)
    → node.outbox ≡ option_to_list first ++ rest → Fits case desk node → Fits case desk (record node { outbox = rest })
Fits-less case desk node None rest is fits = record {
  of_case = fits.of_case;
  held = fits.held;
  work = fits.work;
  outbox = subst (All (IsOutgoing case desk)) is fits.outbox;
}
Fits-less case desk node (Some message) rest is fits = record {
  of_case = fits.of_case;
  held = fits.held;
  work = fits.work;
  outbox = All-tail (IsOutgoing case desk) message rest (subst (All (IsOutgoing case desk)) is fits.outbox);
}

-- ---- what is sent

-- the first of what a node has to send may be sent
pub first-outgoing : (case : CaseShape) (desk : DeskView) (node : NodeView) (message : Outgoing) (rest : List Outgoing)
    → node.outbox ≡ message ∷ rest → Fits case desk node → IsOutgoing case desk message
first-outgoing case desk node message rest is fits = All-head (IsOutgoing case desk) message rest (subst (All
    (IsOutgoing case desk)) is fits.outbox)

-- also where it is asked for by its place
pub first-at : (case : CaseShape) (desk : DeskView) (node : NodeView) (message : Outgoing) → slice_get node.outbox 0 ≡ Some message
    → Fits case desk node → IsOutgoing case desk message
first-at case desk node message at fits = by_list node.outbox at fits.outbox
  where
    by_list : (l : List Outgoing) → slice_get l 0 ≡ Some message → All (IsOutgoing case desk) l → IsOutgoing case desk message
    by_list [] at all = absurd (none_some message at)
    by_list (m ∷ ms) at all = subst (IsOutgoing case desk) (some_same m message at) (All-head (IsOutgoing case desk) m ms all)

-- a record that is sent again is the one that stands first
pub first-again : (messages : List Outgoing) (again : Outgoing) → option_and_then where_record (slice_get messages 0) ≡ Some again
    → slice_get messages 0 ≡ Some again
first-again [] again is = absurd (none_some again is)
first-again (outgoing.Deliver delivery sender ∷ ms) again is = is
first-again (outgoing.Ack to id ∷ ms) again is = absurd (none_some again is)

-- what is there holds
told-some : {X : Type 0} (o : Option X) (P : Type 0) → IsSome o → IfSome o (λ _. P) → P
told-some None P there is = absurd cc
told-some (Some x) P there is = is

-- a message is so by a note
pub so-by-note : (case : CaseShape) (desk : DeskView) (sight : Option Sight) (message : Outgoing) → desk.case ≡ case
    → IsNoteOf desk sight → IsOutgoing case desk message → IsSoBy sight message
so-by-note case desk None message same note is = tt
so-by-note case desk (Some told) message same note is =
    subst (λ (c : CaseShape). IsSoIn c told.seen message) (sym (note.0 ∙ same))
    (subst (λ (h : List Entry). IsSoIn case h message) (sym note.1)
    (told-some desk.told (IsSoIn case desk.seen message) note.2 is.so))

-- a message is vouched for by what its sender has seen
pub vouched-by : (case : CaseShape) (desk : DeskView) (sight : Option Sight) (message : Outgoing)
    → IsOutgoing case desk message → IsVouchedFor case desk sight message
vouched-by case desk None message is = λ alone. is.so
vouched-by case desk (Some told) message is = tt

-- a desk that is not alone needs nobody to vouch
pub vouched-beside : (case : CaseShape) (desk : DeskView) (sight : Option Sight) (message : Outgoing) → desk.alone ≡ false
    → IsVouchedFor case desk sight message
vouched-beside case desk None message beside = λ alone. absurd (true≢false (sym alone ∙ beside))
vouched-beside case desk (Some told) message beside = tt
