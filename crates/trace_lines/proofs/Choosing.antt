-- The line of an entry tells its choice.
use Rattle.std.proofs.Common.{◌≡◌, ℕ, ◌<◌, ◌≤◌, ◌^◌, List, length, false, cond, Some, None, option_map, option_and_then, nat_lt, refl, sym, ap, ◌∙◌, lt-ltb, arith}
use Rattle.std.proofs.lemmas.Bool.Decides.{nat_tests}
use Rattle.list_lemmas.proofs.Lists.{some_same}
use Rattle.mw_types.specs.declared.identity.RowName.{RowName}
use Rattle.mw_types.specs.declared.entry.Entry.{Entry}
use Rattle.mw_types.specs.declared.entry.Entry.TheVariants.{Claim, Inject, Handle, Fire, Ack, Purge}
use Rattle.mw_types.specs.Bounds.{IsKey}
use Rattle.live_outlet.specs.Guesses.{key_of}
use Rattle.live_outlet.proofs.IdLaws.{print-own}
use Rattle.run_history.specs.HistoryLines.{entry_data}
use Rattle.trace_lines.specs.declared.choice.Choice.TheVariants as choices
use Rattle.trace_lines.specs.Lines.{text_of_entry}
use Rattle.trace_lines.specs.Entries.{IsRowName, IsEntry}
use Rattle.trace_lines.specs.Choices.{choice_of, short_of, row_with, choice_in, choice_at}
use Rattle.trace_lines.proofs.Writing.{entry-json}

-- a number of 32 bits is one
pub short-own : (n : ℕ) → n < 2 ^ 32 → short_of n ≡ Some n
short-own n small = rw (lt-ltb n (2 ^ 32) small) refl

-- a key is one
pub key-own : (key : List ℕ) → IsKey key → key_of key ≡ Some key
key-own key is = by_length (length key) is.short
  where
    by_length : (n : ℕ) → n ≤ 256 → cond (nat_lt 256 n) None (Some key) ≡ Some key
    by_length n at_most = let none : nat_lt 256 n ≡ false = grind (arith, nat_tests) in rw none refl

-- a row's name is one
pub row-own : (row : RowName) → IsRowName row
    → option_and_then (λ part. option_map (row_with part) (key_of row.key)) (short_of row.part) ≡ Some row
row-own row is =
    ap (option_and_then (λ part. option_map (row_with part) (key_of row.key))) (short-own row.part is.part)
    ∙ ap (option_map (row_with row.part)) (key-own row.key is.key)

-- the object of an entry tells its choice
pub choice_in-entry : (n : ℕ) (e : Entry) → IsEntry e → choice_in (entry_data n e) ≡ Some (choice_of e)
choice_in-entry n (Claim worker interval) is =
    ap (option_and_then (λ w. option_map (choices.Claim w) (short_of interval))) (short-own worker is.0)
    ∙ ap (option_map (choices.Claim worker)) (short-own interval is.1)
choice_in-entry n (Inject seq part line item) is = ap (option_map choices.Inject) (short-own part is.1)
choice_in-entry n (Handle seq row id effects) is = ap (option_map choices.Handle) (print-own id is.2)
choice_in-entry n (Fire seq row timer mark effects) is = ap (option_map (λ r. choices.Fire r mark)) (row-own row is.1)
choice_in-entry n (Ack seq row id) is =
    ap (option_and_then (λ i. option_map (λ r. choices.Ack r i)
    (option_and_then (λ part. option_map (row_with part) (key_of row.key)) (short_of row.part)))) (print-own id is.2)
    ∙ ap (option_map (λ r. choices.Ack r id)) (row-own row is.1)
choice_in-entry n (Purge seq row floor) is = ap (option_map (λ r. choices.Purge r floor)) (row-own row is.1)

-- so does its line
pub choice_at-entry : (n : ℕ) (e : Entry) → n < 2 ^ 64 → IsEntry e → choice_at (text_of_entry n e) ≡ Some (choice_of e)
choice_at-entry n e small is = ap (option_and_then choice_in) (entry-json n e small is) ∙ choice_in-entry n e is

-- entries with one line have one choice
pub choice_of-same : (n : ℕ) (one other : Entry) → n < 2 ^ 64 → IsEntry one → IsEntry other
    → text_of_entry n one ≡ text_of_entry n other → choice_of one ≡ choice_of other
choice_of-same n one other small is_one is_other same =
    some_same (choice_of one) (choice_of other)
    (sym (choice_at-entry n one small is_one) ∙ ap choice_at same ∙ choice_at-entry n other small is_other)
