-- A row's bytes edited where they lie, by the parts in which it is done.
use Rattle.std.proofs.Common.{◌≡◌, ◌≤◌, ◌+◌, ◌++◌, ◌∙◌, List, ℕ, Some, ap, ap₂, arith, drop, drop-drop, length, length-append, length-take-le, sym, take, append_assoc}
use Rattle.std.proofs.lemmas.List.{drop-append-le}
use Rattle.std.proofs.Math.Seq.{take-append_seam, drop-append-add}
use Rattle.std.specs.Prelude.{option_map}
use Rattle.std.specs.Option.{unwrap_or}
use Rattle.std.specs.Map.{lookup}
use Rattle.std.specs.BTreeMap.{is_at}
use Rattle.mw_types.specs.Orders.{row_cmp}
use Rattle.mw_types.specs.declared.identity.RowName.{RowName}
use Rattle.row_keeper.specs.Rows.{Rows, edited, with_edit, with_row}

-- bytes put in at a place, as many cut out behind them, and others set at the front
pub edited-by_parts : (head bytes put mid cut : List ℕ) (at gone : ℕ) → length head ≤ at → at + gone ≤ length bytes
    → mid ≡ take at bytes ++ (put ++ drop at bytes) → cut ≡ take (at + length put) mid ++ drop (at + length put + gone) mid
    → head ++ drop (length head) cut ≡ edited head at gone put bytes
edited-by_parts head bytes put mid cut at gone front within m c =
    let before = take at bytes in
    let long : length before ≡ at = length-take-le at bytes (omega (arith, within)) in
    let joined : length (before ++ put) ≡ at + length put = length-append before put ∙ ap (λ n. n + length put) long in
    let whole : mid ≡ (before ++ put) ++ drop at bytes = m ∙ sym (append_assoc before put (drop at bytes)) in
    let taken : take (at + length put) mid ≡ before ++ put =
    ap (λ n. take n mid) (sym joined) ∙ ap (take (length (before ++ put))) whole ∙ take-append_seam (before ++ put) (drop at bytes) in
    let left : drop (at + length put + gone) mid ≡ drop (at + gone) bytes =
    ap (λ n. drop (n + gone) mid) (sym joined) ∙ ap (drop (length (before ++ put) + gone)) whole
    ∙ drop-append-add (before ++ put) (drop at bytes) gone ∙ drop-drop gone at bytes in
    let whole_cut : cut ≡ before ++ (put ++ drop (at + gone) bytes) =
    c ∙ ap₂ (λ xs ys. xs ++ ys) taken left ∙ append_assoc before put (drop (at + gone) bytes) in
    ap (λ xs. head ++ xs)
    (ap (drop (length head)) whole_cut ∙ drop-append-le (length head) before (put ++ drop (at + gone) bytes) (omega (arith, front, long)))

-- the rows with an edit of a row that is there
pub with_edit-there : (name : RowName) (head bytes put : List ℕ) (at gone : ℕ) (rows : Rows) → lookup (is_at (row_cmp name)) rows ≡ Some bytes
    → with_edit name head at gone put rows ≡ with_row name (edited head at gone put bytes) rows
with_edit-there name head bytes put at gone rows there =
    ap (λ found. unwrap_or (option_map (λ bytes. with_row name (edited head at gone put bytes) rows) found) rows) there
