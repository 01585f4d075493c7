-- What a proposal may change of its row.
use Rattle.std.proofs.Common.{◌≡◌, ◌≤◌, ◌<◌, ◌^◌, ◌++◌, ℕ, List, length, Bool, true, arith, subst, sym}
use Rattle.std.specs.Prelude.{All, IfSome, false}
use Rattle.std.specs.List.Sorted.{IsStrictlySortedBy}
use Rattle.mw_types.specs.declared.TheConstants.{MAX_STAMP}
use Rattle.mw_types.specs.declared.delivery.Delivery.{Delivery}
use Rattle.mw_types.specs.declared.identity.RowName.{RowName}
use Rattle.mw_types.specs.declared.record.Production.{Production}
use Rattle.topology.specs.Rules.{IsTopology}
use Rattle.topology.specs.Shapes.{consumers_of, stream_of, injectors_of}
use Rattle.row_parts.specs.Contents.{ArePending, Contents, IsId, delivery_cmp, is_finished}
use Rattle.run_history.specs.Cases.{CaseShape}
use Rattle.run_history.specs.Fits.{fits}
use Rattle.run_history.specs.Made.{deliveries_made}
use Rattle.run_history.proofs.Fitting.{fits-parts}
use Rattle.run_history.proofs.Making.{consumers_few}
use Rattle.book.specs.Drafts.{AreOwn, MayDraft}
use Rattle.book.specs.declared.drafts.Draft.{Draft}
use Rattle.book.proofs.SentLaws.{sent-ids, sent-stamps, pending-sent}

-- a draft may be put into a row, whose deliveries are those that an entry makes
pub may-send : (case : CaseShape) (commit : ℕ) (name : RowName) (row : Contents) (draft : Draft) (productions : List Production)
    (late : Bool)
    → ArePending row.pending → fits case commit name row ≡ true → commit < 2 ^ 32 → IsTopology case.topology
    → AreOwn draft.own → IfSome draft.id IsId → IfSome draft.id (λ id. is_finished id row ≡ false)
    → length productions ≤ 8 → All (λ (p : Production). p.stamp ≤ MAX_STAMP) productions
    → draft.sent ≡ deliveries_made case.topology name.part productions late commit
    → MayDraft row draft
may-send case commit name row draft productions late is fit small rules own id new few stamps sent =
    let shape = case.topology in
    let readers : length (consumers_of shape name.part) ≤ 64 =
    omega (
      arith,
      consumers_few (stream_of shape name.part) (injectors_of shape) shape.computations,
      rules.few_readings,
    ) in record {
      own = own;
      id = id;
      new = new;
      ids = subst (All (λ (d : Delivery). IsId d.id)) (sym sent) (sent-ids shape name.part productions late commit readers few small);
      stamps = subst (All (λ (d : Delivery). d.item.stamp ≤ MAX_STAMP)) (sym sent)
          (sent-stamps shape name.part productions late commit stamps);
      ascending = subst (λ (l : List Delivery). IsStrictlySortedBy delivery_cmp (row.pending ++ l)) (sym sent)
          (pending-sent shape name.part productions late commit row.pending is.ascending (fits-parts case commit name row fit).1);
    }
