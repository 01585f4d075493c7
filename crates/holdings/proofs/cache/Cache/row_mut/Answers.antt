use Rattle.std.proofs.Common.{◌≡◌, ◌∙◌, ap, sym, subst, refl, List, map, get_or, Some}
use Rattle.std.specs.Prelude.{IsSome, None, slice_set}
use Rattle.std.specs.List.{AllByRecursion}
use Rattle.std.specs.List.Sorted.{IsStrictlySortedBy}
use Rattle.std.specs.Map.{lookup}
use Rattle.std.specs.BTreeMap.{insert_entry, is_at}
use Rattle.mw_types.specs.Orders.{row_cmp}
use Rattle.mw_types.specs.declared.identity.RowName.{RowName}
use Rattle.mw_types.proofs.OrderLaws.{row_cmp-total}
use Rattle.run_history.proofs.Lookups.{sorted-insert_entry}
use Rattle.row_parts.specs.Contents.{Contents}
use Rattle.row_parts.specs.Places.{IsGap, IsHit}
use Rattle.book.specs.Claims.{named}
use Rattle.book.specs.declared.answers.NamedRow.{NamedRow}
use Rattle.holdings.specs.Caching.{merged}
use Rattle.holdings.proofs.CacheLaws.{apart-add, lookup-behind, lookup-gap, lookup-hit, lookup-merged, merged-insert, merged-set, names-each_set, names-set}
use Rattle.holdings.proofs.cache.Cache.row_mut.Goals as goal

-- another row at a place keeps the names
pub invariant_of-self-lent : goal.invariant_of-self-lent
invariant_of-self-lent c w =
    let name = c.args.name.now in
    let answered = c.self.inside.answered.items in
    let place = c.index_mut-place.result.now in
    let hit : IsHit (λ (r : NamedRow). row_cmp r.name name) answered c.in-Ok.at =
    subst (λ (l : List NamedRow). IsHit (λ (r : NamedRow). row_cmp r.name name) l c.in-Ok.at) c.deref.ensures.value c.in-Ok.ensures in
    let put : record place { row = w } ≡ record (get_or answered c.in-Ok.at place) { row = w } =
    ap (λ (r : NamedRow). record r { row = w }) c.index_mut-place.ensures.value in record {
      answered_ordered = subst (IsStrictlySortedBy row_cmp)
          (sym (ap (λ (r : NamedRow). map (λ (x : NamedRow). x.name) (slice_set answered c.in-Ok.at r)) put
          ∙ names-set answered c.in-Ok.at w place hit.within)) c.self.invariant.answered_ordered;
      others_ordered = c.self.invariant.others_ordered;
      apart = subst (λ (x : NamedRow). AllByRecursion (λ (r : NamedRow). lookup (is_at (row_cmp r.name)) c.self.inside.others ≡ None)
          (slice_set answered c.in-Ok.at x)) (sym put)
          (names-each_set (λ n. lookup (is_at (row_cmp n)) c.self.inside.others ≡ None) answered c.in-Ok.at w
          place hit.within c.self.invariant.apart);
    }

-- another row at the place of its name is put among all
pub returns-in-Ok : goal.returns-in-Ok
returns-in-Ok c =
    let name = c.args.name.now in
    let answered = c.self.inside.answered.items in
    let others = c.self.inside.others in
    let place = c.index_mut-place.result.now in
    let hit : IsHit (λ (r : NamedRow). row_cmp r.name name) answered c.in-Ok.at =
    subst (λ (l : List NamedRow). IsHit (λ (r : NamedRow). row_cmp r.name name) l c.in-Ok.at) c.deref.ensures.value c.in-Ok.ensures in (
      (
        refl,
        λ w. ap (λ (r : NamedRow). merged (slice_set answered c.in-Ok.at r) others)
            (ap (λ (r : NamedRow). record r { row = w }) c.index_mut-place.ensures.value)
            ∙ merged-set answered others name w c.in-Ok.at place c.self.invariant.others_ordered hit
            ∙ ap (λ (l : List (RowName × Contents)). insert_entry row_cmp l name w) c.self.view_is,
      ),
      record {
        lends = tt;
        row = sym (ap (λ (l : List (RowName × Contents)). lookup (is_at (row_cmp name)) l) c.self.view_is)
            ∙ lookup-merged name answered others ∙ lookup-hit name answered others c.in-Ok.at place hit
            ∙ ap (λ (r : NamedRow). Some r.row) (sym c.index_mut-place.ensures.value);
      },
    )

-- a row that is not in the list is beside it
pub row_mut-requires : goal.row_mut-requires
row_mut-requires c =
    let name = c.args.name.now in
    let answered = c.self.inside.answered.items in
    let others = c.self.inside.others in
    let gap : IsGap (λ (r : NamedRow). row_cmp r.name name) answered c.in-Err.field-0 =
    subst (λ (l : List NamedRow). IsGap (λ (r : NamedRow). row_cmp r.name name) l c.in-Err.field-0) c.deref.ensures.value c.in-Err.ensures in record {
      there = subst IsSome (ap (λ (l : List (RowName × Contents)). lookup (is_at (row_cmp name)) l) (sym c.self.view_is)
          ∙ lookup-merged name answered others
          ∙ lookup-behind name (map named answered) others (lookup-gap name answered c.in-Err.field-0 gap)) c.requires.there;
    }

-- another row beside the list keeps the names
pub invariant_of-self-lent-in-Err : goal.invariant_of-self-lent-in-Err
invariant_of-self-lent-in-Err c w =
    let name = c.args.name.now in
    let answered = c.self.inside.answered.items in
    let others = c.self.inside.others in
    let gap : IsGap (λ (r : NamedRow). row_cmp r.name name) answered c.in-Err.field-0 =
    subst (λ (l : List NamedRow). IsGap (λ (r : NamedRow). row_cmp r.name name) l c.in-Err.field-0) c.deref.ensures.value c.in-Err.ensures in record {
      answered_ordered = c.self.invariant.answered_ordered;
      others_ordered = sorted-insert_entry row_cmp-total others name w c.self.invariant.others_ordered;
      apart = apart-add answered others name w (lookup-gap name answered c.in-Err.field-0 gap) c.self.invariant.apart;
    }

-- another row beside the list is put among all
pub returns-in-Err : goal.returns-in-Err
returns-in-Err c =
    let name = c.args.name.now in
    let answered = c.self.inside.answered.items in
    let others = c.self.inside.others in
    let gap : IsGap (λ (r : NamedRow). row_cmp r.name name) answered c.in-Err.field-0 =
    subst (λ (l : List NamedRow). IsGap (λ (r : NamedRow). row_cmp r.name name) l c.in-Err.field-0) c.deref.ensures.value c.in-Err.ensures in (
      (
        refl,
        λ w. merged-insert answered others name w c.self.invariant.others_ordered (lookup-gap name answered c.in-Err.field-0 gap)
            ∙ ap (λ (l : List (RowName × Contents)). insert_entry row_cmp l name w) c.self.view_is,
      ),
      record {
        lends = tt;
        row = sym (ap (λ (l : List (RowName × Contents)). lookup (is_at (row_cmp name)) l) c.self.view_is)
            ∙ lookup-merged name answered others
            ∙ lookup-behind name (map named answered) others (lookup-gap name answered c.in-Err.field-0 gap)
            ∙ c.row_mut.ensures.row;
      },
    )
