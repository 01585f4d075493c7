-- The bytes of a row by its parts: those before its deliveries, its deliveries, and the ids that it handled.
use Rattle.std.proofs.Common.{◌≡◌, ◌+◌, ◌++◌, ◌∙◌, List, ℕ, [], ◌∷◌, ap₂, append_assoc, append-nil, length, length-append, sym}
use Rattle.std.specs.Int.{w32, w64, to_be_bytes}
use Rattle.std.proofs.lemmas.List.Concat.{flat_map-append}
use Rattle.mw_types.specs.declared.delivery.Delivery.{Delivery}
use Rattle.row_parts.specs.Contents.{Contents}
use Rattle.row_parts.specs.Spelling.{delivery_spelling, id_spelling, list_spelling, spelling_of, state_spelling, timer_spelling}
use Rattle.record_codec.specs.Edits.{deliveries_spelling, head_spelling, row_sending}

-- parts of which each stands behind the one before, in one order
regrouped : (v l f s t n a b i : List ℕ) → ((v ++ (l ++ (f ++ (s ++ (t ++ (n ++ [])))))) ++ a ++ b) ++ i
    ≡ v ++ (l ++ (f ++ (s ++ (t ++ ((n ++ ((a ++ b) ++ [])) ++ (i ++ []))))))
regrouped v l f s t n a b i = simp (append_assoc, append-nil)

-- the deliveries of two lists stand behind one another
pub sending-spelled : (last : ℕ) (front behind : List Delivery) (row : Contents)
    → ((head_spelling last (length front + length behind) row ++ deliveries_spelling front) ++ deliveries_spelling behind)
    ++ list_spelling id_spelling row.seen ≡ spelling_of (row_sending last (front ++ behind) row)
sending-spelled last front behind row =
    let ids = list_spelling id_spelling row.seen in
    let whole : ℕ → List ℕ → List ℕ = λ count ds. (1 ∷ []) ++ (to_be_bytes w64 last ++ (to_be_bytes w64 row.floor ++ (state_spelling row.state
    ++ (list_spelling timer_spelling row.timers ++ ((to_be_bytes w32 count ++ (ds ++ [])) ++ (ids ++ [])))))) in
    regrouped (1 ∷ []) (to_be_bytes w64 last) (to_be_bytes w64 row.floor) (state_spelling row.state) (list_spelling timer_spelling row.timers)
    (to_be_bytes w32 (length front + length behind)) (deliveries_spelling front) (deliveries_spelling behind) ids
    ∙ ap₂ whole (sym (length-append front behind)) (sym (flat_map-append delivery_spelling front behind))
