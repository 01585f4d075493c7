-- How a text is collected line by line. No public clause cites this module. Own.
use Rattle.std.specs.Prelude.{◌≡◌, ℕ, ◌+◌, nat_eq, if◌then◌else◌, List, [], ◌∷◌, Option, Some, None, Result, Ok, Err}
use Rattle.std.specs.BTreeMap.{insert_entry}
use Rattle.std.specs.Cmp.Lexicographic.{pointwise}
use Rattle.mw_types.specs.declared.identity.RecordId.{RecordId}
use Rattle.mw_types.specs.Orders.{id_cmp}
use Rattle.live_outlet.specs.declared.held.Held.{Held}
use Rattle.live_outlet.specs.declared.refusal.CollectRefusal.{CollectRefusal}
use Rattle.live_outlet.specs.declared.refusal.CollectRefusal.TheVariants.{Differs, NoMemory}
use Rattle.live_outlet.specs.Collecting.{Telling, told_id, first_with}

-- what was found so far: the first live line of each id, ascending by id, and how many other lines there were
pub record Found : Type 0 where
  pub firsts : List Telling
  pub other : ℕ

-- a live line with the id of one that was found, or of none
abbrev pub kept_beside : Option Held → Found → ℕ → RecordId → List ℕ → Result Found CollectRefusal
kept_beside None found n id text =
    Ok (record found { firsts = insert_entry id_cmp found.firsts id (record { line = n; text = text }) })
kept_beside (Some held) found n id text =
    if pointwise nat_eq held.text text then Ok found else Err (Differs n held.line)

-- one more line that is not empty
abbrev pub taken_as : Option RecordId → Found → ℕ → List ℕ → Result Found CollectRefusal
taken_as None found n text = Ok (record found { other = found.other + 1 })
taken_as (Some id) found n text = kept_beside (first_with id found.firsts) found n id text

-- one more line
abbrev pub line_taken : Found → ℕ → List ℕ → Result Found CollectRefusal
line_taken found n [] = Ok found
line_taken found n (b ∷ bs) = taken_as (told_id (b ∷ bs)) found n (b ∷ bs)

-- what is taken next, where what was taken before was not refused
abbrev pub and_then : (Found → Result Found CollectRefusal) → Result Found CollectRefusal → Result Found CollectRefusal
and_then next (Ok found) = next found
and_then next (Err why) = Err why

-- the lines from this number on
abbrev pub lines_taken : Found → ℕ → List (List ℕ) → Result Found CollectRefusal
lines_taken found n [] = Ok found
lines_taken found n (text ∷ texts) = and_then (λ after. lines_taken after (n + 1) texts) (line_taken found n text)

-- why a taking was refused; want of memory says nothing
abbrev pub IsRefusalOf : Result Found CollectRefusal → CollectRefusal → Type 0
IsRefusalOf taking (Differs line first) = taking ≡ Err (Differs line first)
IsRefusalOf taking NoMemory = Unit {0}
