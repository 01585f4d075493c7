-- No entry is printed with a float.
use Rattle.std.proofs.Common.{◌≡◌, ℕ, ℤ, pos, negsuc, false, List, [], ◌∷◌, map, refl}
use Rattle.std.specs.Fmt.{signed_decimal}
use Rattle.mw_types.specs.declared.record.Production.{Production}
use Rattle.mw_types.specs.declared.timer.Timer.{Timer}
use Rattle.mw_types.specs.declared.entry.Entry.{Entry}
use Rattle.mw_types.specs.declared.entry.Entry.TheVariants.{Inject, Handle, Fire}
use Rattle.run_history.specs.HistoryLines.{production_data, timer_data, entry_data}
use Rattle.serde_json.specs.Data.{Data}
use Rattle.serde_json.specs.Find.{is_float, of_integer}
use Rattle.serde_json.specs.View.{items_of}
use Rattle.serde_json.specs.Written.{has_float, items_have_float, number_text}

-- an integer is none
pub is_float-of_integer : (z : ℤ) → is_float (of_integer z) ≡ false
is_float-of_integer (pos n) = refl
is_float-of_integer (negsuc n) = refl

-- the digits of an integer are those that are written of it as a number
pub signed_decimal-of_integer : (z : ℤ) → signed_decimal z ≡ number_text (of_integer z)
signed_decimal-of_integer (pos n) = refl
signed_decimal-of_integer (negsuc n) = refl

-- an array has none where no element has one
pub items_have_float-map : {X : Type 0} (shown : X → Data) (xs : List X) → ((x : X) → has_float (shown x) ≡ false)
    → items_have_float (items_of (map shown xs)) ≡ false
items_have_float-map shown [] each = refl
items_have_float-map shown (x ∷ xs) each = rw (each x) (items_have_float-map shown xs each)

-- a production has none
pub has_float-production_data : (p : Production) → has_float (production_data p) ≡ false
has_float-production_data p = rw (is_float-of_integer p.value)

-- a timer has none
pub has_float-timer_data : (t : Timer) → has_float (timer_data t) ≡ false
has_float-timer_data t = refl

-- an entry has none
pub entry_has_no_float : (n : ℕ) (entry : Entry) → has_float (entry_data n entry) ≡ false
entry_has_no_float n (Inject seq part line item) = rw (is_float-of_integer item.value)
entry_has_no_float n (Handle seq row id effects) =
    rw (items_have_float-map production_data effects.productions has_float-production_data)
    (rw (items_have_float-map timer_data effects.timers has_float-timer_data))
entry_has_no_float n (Fire seq row timer mark effects) =
    rw (items_have_float-map production_data effects.productions has_float-production_data)
entry_has_no_float n _ = refl
