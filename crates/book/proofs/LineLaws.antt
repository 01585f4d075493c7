-- The history of a book can be printed line by line.
use Rattle.std.proofs.Common.{◌≡◌, List, [], ◌∷◌, ◌++◌, refl, subst}
use Rattle.std.specs.Prelude.{All, IsSome, Option, Some, None}
use Rattle.std.proofs.lemmas.List.Elements.{All-append, All-from_recursion, recursion_from_All}
use Rattle.mw_types.specs.declared.identity.RecordId.{RecordId}
use Rattle.mw_types.specs.declared.delivery.Delivery.{Delivery}
use Rattle.mw_types.specs.declared.entry.Entry.{Entry}
use Rattle.row_parts.specs.Contents.{IsId, IsDelivery, same_id, found_delivery}
use Rattle.run_history.specs.HistoryLines.{HasLine}
use Rattle.list_lemmas.proofs.Lists.{find-passes, find-each}
use Rattle.history_laws.proofs.IdLaws.{same_id-true}

-- each entry of a history has a line, where one more that has one is appended
pub lines-push : (history : List Entry) (entry : Entry) → All HasLine history → HasLine entry → All HasLine (history ++ entry ∷ [])
lines-push history entry lines line =
    All-append HasLine history (entry ∷ []) lines (All-from_recursion HasLine (entry ∷ []) (line, tt))

-- an id that is found among deliveries that can be kept can be printed
pub found-id : (id : RecordId) (ds : List Delivery) → All IsDelivery ds → IsSome (found_delivery id ds) → IsId id
found-id id ds each found = by_found (found_delivery id ds) refl found
  where
    by_found : (o : Option Delivery) → found_delivery id ds ≡ o → IsSome o → IsId id
    by_found None at is = absurd (cc)
    by_found (Some d) at is =
        subst IsId (same_id-true d.id id (find-passes (λ (e : Delivery). same_id e.id id) ds d at))
        (find-each IsDelivery (λ (e : Delivery). same_id e.id id) ds d (recursion_from_All IsDelivery ds each) at).id
