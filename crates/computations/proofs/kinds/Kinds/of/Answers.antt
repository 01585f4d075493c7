use Rattle.std.proofs.Common.{◌≡◌, ◌+◌, ◌∷◌, ◌++◌, ◌-◌, [], ℕ, List, Some, slice_get, take, ap, sym, subst, ◌∙◌, arith, All}
use Rattle.std.proofs.lemmas.List.{take_more}
use Rattle.std.proofs.lemmas.List.Elements.{All-push}
use Rattle.std.proofs.lemmas.Option.{slice_get_within, get_or_from_slice_get}
use Rattle.mw_types.specs.Kinds.{IsKind}
use Rattle.computations.proofs.kinds.Kinds.of.Goals as goal

-- one more element of a list after the first ones
taken_more : {X : Type 0} (xs : List X) (i n : ℕ) (x : X) → slice_get xs i ≡ Some x → n ≡ i + 1 → take i xs ++ x ∷ [] ≡ take n xs
taken_more xs i n x read next =
    sym (ap (λ m. take m xs) next ∙ take_more xs i x (slice_get_within xs i x read) ∙ ap (λ y. take i xs ++ y ∷ []) (get_or_from_slice_get xs i x x read))

-- one kind more was taken
pub loop-part-preserved : goal.loop-part-preserved
loop-part-preserved g c =
    let kinds = g.T.KindTable.kinds c.args.table.now in
    let first = c.injectors-injectors.result in
    let part = c.loop-part.part in
    let pushed = c.in_ok-push.ensures.appended in
    let read = subst (λ n. slice_get kinds (part - n) ≡ Some c.kind.result) (sym c.injectors-injectors.ensures) c.kind.ensures.kind in
    record {
      begun = omega arith;
      taken = pushed ∙ ap (λ l. l ++ c.kind.result ∷ []) c.loop-part.invariant.taken ∙ taken_more kinds (part - first) (part + 1 - first) c.kind.result read (omega (arith, c.loop-part.invariant.begun));
      within = subst (All IsKind) (sym pushed) (All-push IsKind c.loop-part.kinds c.kind.result c.loop-part.invariant.within c.kind.ensures.within);
    }
