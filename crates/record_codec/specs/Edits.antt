-- What of a row's bytes an edit changes: those before its deliveries, and some of its deliveries. Own.
use Rattle.std.specs.Prelude.{ℕ, List, [], ◌∷◌}
use Rattle.std.specs.List.{concat, flat_map}
use Rattle.std.specs.Int.{w32, w64, to_be_bytes}
use Rattle.mw_types.specs.declared.delivery.Delivery.{Delivery}
use Rattle.row_parts.specs.Contents.{Contents}
use Rattle.row_parts.specs.Spelling.{state_spelling, timer_spelling, delivery_spelling, list_spelling}

-- a row with this last entry and these deliveries in the place of its own
abbrev pub row_sending : ℕ → List Delivery → Contents → Contents
row_sending last pending row = record row { pending = pending; last = last }

-- the bytes of deliveries, one after another
abbrev pub deliveries_spelling : List Delivery → List ℕ
deliveries_spelling = flat_map delivery_spelling

-- the bytes of a row before its deliveries, with this last entry and so many deliveries
abbrev pub head_spelling : ℕ → ℕ → Contents → List ℕ
head_spelling last count row = concat ((1 ∷ []) ∷ to_be_bytes w64 last ∷ to_be_bytes w64 row.floor ∷ state_spelling row.state
    ∷ list_spelling timer_spelling row.timers ∷ to_be_bytes w32 count ∷ [])
