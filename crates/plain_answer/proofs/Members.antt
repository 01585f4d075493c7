-- What an entry adds to the stream of one part.
use Rattle.std.proofs.Common.{◌≡◌, ℕ, ◌==◌, Bool, true, false, cond, List, [], ◌∷◌, ◌++◌, map, filter, Some, refl, ◌∙◌, ap, subst, arith}
use Rattle.std.specs.Option.{option_map_or}
use Rattle.std.proofs.lemmas.Bool.Decides.{nat_tests}
use Rattle.std.proofs.lemmas.List.Elements.{filter-append}
use Rattle.mw_types.specs.declared.identity.RowName.{RowName}
use Rattle.mw_types.specs.declared.record.Record.{Record}
use Rattle.mw_types.specs.declared.record.Production.{Production}
use Rattle.mw_types.specs.declared.kind.Kind.{Kind}
use Rattle.mw_types.specs.declared.entry.Entry.{Entry}
use Rattle.topology.specs.Shapes.{Shape, kind_of}
use Rattle.run_history.specs.Made.{row_written, productions_of, late_cause, produced}
use Rattle.run_history.specs.Runs.{Run}
use Rattle.run_history.specs.Cases.{is_injector}
use Rattle.history_laws.proofs.FeedLaws.{injector-no_kind}
use Rattle.list_lemmas.proofs.Totals.{total, when, total-map, total-filter}
use Rattle.plain_answer.specs.Stories.{Member, member_of, added_by}

-- a sum over the members of one part's stream
abbrev pub part_total : (Record → ℕ) → ℕ → List Member → ℕ
part_total g part members = total (λ (o : Member). when (o.0 == part) (g o.1)) members

-- the members of one part's stream
abbrev pub out_at : ℕ → List Member → List Record
out_at part members = map (λ (o : Member). o.1) (filter (λ (o : Member). o.0 == part) members)

-- a sum over the members of a part's stream
pub out_at-total : (g : Record → ℕ) (part : ℕ) (members : List Member) → total g (out_at part members) ≡ part_total g part members
out_at-total g part members = total-map g (λ (o : Member). o.1) (filter (λ (o : Member). o.0 == part) members)
    ∙ total-filter (λ (o : Member). g o.1) (λ (o : Member). o.0 == part) members

-- an image of two lists
pub map-append : {X Y : Type 0} (f : X → Y) (xs ys : List X) → map f (xs ++ ys) ≡ map f xs ++ map f ys
map-append f [] ys = refl
map-append f (x ∷ xs) ys = ap (λ l. f x ∷ l) (map-append f xs ys)

-- what is in the stream of a part of two lists
pub out_at-append : (part : ℕ) (one other : List Member) → out_at part (one ++ other) ≡ out_at part one ++ out_at part other
out_at-append part one other = ap (map (λ (o : Member). o.1)) (filter-append (λ (o : Member). o.0 == part) one other)
    ∙ map-append (λ (o : Member). o.1) (filter (λ (o : Member). o.0 == part) one) (filter (λ (o : Member). o.0 == part) other)

-- what productions of a part are in its stream
out_at-here : (part own : ℕ) (late : Bool) (ps : List Production) → (own == part) ≡ true
    → out_at part (map (member_of own late) ps) ≡ map (produced late) ps
out_at-here part own late [] same = refl
out_at-here part own late (p ∷ ps) same =
    ap (λ b. map (λ (o : Member). o.1) (cond b (member_of own late p ∷ filter (λ (o : Member). o.0 == part) (map (member_of own late) ps))
    (filter (λ (o : Member). o.0 == part) (map (member_of own late) ps)))) same
    ∙ ap (λ l. produced late p ∷ l) (out_at-here part own late ps same)

-- and in that of another
out_at-other : (part own : ℕ) (late : Bool) (ps : List Production) → (own == part) ≡ false → out_at part (map (member_of own late) ps) ≡ []
out_at-other part own late [] other = refl
out_at-other part own late (p ∷ ps) other =
    ap (λ b. map (λ (o : Member). o.1) (cond b (member_of own late p ∷ filter (λ (o : Member). o.0 == part) (map (member_of own late) ps))
    (filter (λ (o : Member). o.0 == part) (map (member_of own late) ps)))) other
    ∙ out_at-other part own late ps other

-- an entry on a row of the part
pub added-here : (part : ℕ) (run : Run) (entry : Entry) (row : RowName) → row_written entry ≡ Some row → (row.part == part) ≡ true
    → out_at part (added_by run entry) ≡ map (produced (late_cause run.made entry)) (productions_of entry)
added-here part run entry row written same =
    ap (λ o. out_at part (option_map_or (λ (row : RowName). map (member_of row.part (late_cause run.made entry))
    (productions_of entry)) o [])) written
    ∙ out_at-here part row.part (late_cause run.made entry) (productions_of entry) same

-- and of another
pub added-other : (part : ℕ) (run : Run) (entry : Entry) (row : RowName) → row_written entry ≡ Some row → (row.part == part) ≡ false
    → out_at part (added_by run entry) ≡ []
added-other part run entry row written other =
    ap (λ o. out_at part (option_map_or (λ (row : RowName). map (member_of row.part (late_cause run.made entry))
    (productions_of entry)) o [])) written
    ∙ out_at-other part row.part (late_cause run.made entry) (productions_of entry) other

-- an injector is no computation
pub injector-apart : (shape : Shape) (part own : ℕ) (kind : Kind) → is_injector shape part ≡ true → kind_of shape own ≡ Some kind
    → (own == part) ≡ false
injector-apart shape part own kind is of = elim (own == part) as (λ b. (own == part) ≡ b → b ≡ false) [
  | true ↦ λ e. let same : part ≡ own = grind (arith, nat_tests) in
      absurd (injector-no_kind shape own kind (subst (λ p. is_injector shape p ≡ true) same is) of)
  | false ↦ λ e. refl
] refl

-- and back
pub computation-apart : (shape : Shape) (part own : ℕ) (kind : Kind) → kind_of shape part ≡ Some kind → is_injector shape own ≡ true
    → (own == part) ≡ false
computation-apart shape part own kind of is = elim (own == part) as (λ b. (own == part) ≡ b → b ≡ false) [
  | true ↦ λ e. let same : own ≡ part = grind (arith, nat_tests) in
      absurd (injector-no_kind shape part kind (subst (λ p. is_injector shape p ≡ true) same is) of)
  | false ↦ λ e. refl
] refl
