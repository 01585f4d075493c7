use Rattle.std.proofs.Common.{◌≡◌, ◌+◌, ◌-◌, ◌++◌, ◌∙◌, ap, ap₂, append-nil, arith, drop, drop-drop, length, length-drop, refl, suc, sym, take, take_all}
use Rattle.std.proofs.lemmas.List.{take-append-drop}
use Rattle.std.specs.Prelude.{remove}
use Rattle.list_lemmas.proofs.Places.{slice_get-some}
use Rattle.row_parts.proofs.RowLemmas.{delivery_kept, delivery_removed}
use Rattle.book.proofs.settling.parted.Goals as goal

-- all but the one at the place
pub returns-in-Ok-clause-left : goal.returns-in-Ok-clause-left
returns-in-Ok-clause-left c =
    let ds = c.args.deliveries.now in
    let at = c.in-Ok.at in
    let next : at + 1 ≡ suc at = omega arith in
    let rest : take (length ds - (at + 1)) (drop (at + 1) ds) ≡ drop (suc at) ds
    = take_all (length ds - (at + 1)) (drop (at + 1) ds) (omega (arith, length-drop (at + 1) ds)) ∙ ap (λ n. drop n ds) next in
    ap (λ behind. take at ds ++ behind) rest
    ∙ (delivery_removed c.args.id (slice_get-some ds at c.in-Ok.ensures.within).0 ds ds (remove ds at) at
    refl c.requires c.in-Ok.ensures refl).1

-- all, where the id is not there
pub returns-in-Err-clause-left : goal.returns-in-Err-clause-left
returns-in-Err-clause-left c =
    let ds = c.args.deliveries.now in
    append-nil ds ∙ (delivery_kept c.args.id ds ds c.in-Err.field-0 refl c.in-Err.ensures).1

-- with that one they are all
pub returns-in-Ok-clause-whole : goal.returns-in-Ok-clause-whole
returns-in-Ok-clause-whole c =
    let ds = c.args.deliveries.now in
    let at = c.in-Ok.at in
    let one : (at + 1) - at ≡ 1 = omega arith in
    let rest : take (length ds - (at + 1)) (drop (at + 1) ds) ≡ drop 1 (drop at ds)
    = take_all (length ds - (at + 1)) (drop (at + 1) ds) (omega (arith, length-drop (at + 1) ds)) ∙ sym (drop-drop 1 at ds) in
    sym (ap₂ (λ n behind. take at ds ++ (take n (drop at ds) ++ behind)) one rest
    ∙ ap (λ l. take at ds ++ l) (take-append-drop 1 (drop at ds)) ∙ take-append-drop at ds)

pub returns-in-Err-clause-whole : goal.returns-in-Err-clause-whole
returns-in-Err-clause-whole c = sym (append-nil c.args.deliveries.now)
