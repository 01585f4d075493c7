use Rattle.std.proofs.Common.{◌≡◌, [], map, rules, ap, sym, subst, false, true}
use Rattle.std.specs.Map.Iter.{deref_pair}
use Rattle.std.proofs.lemmas.Map.Iter.{rest_more}
use Rattle.std.specs.BTreeMap.Range.{entries_between}
use Rattle.std.specs.declared.ops.Bound.TheVariants.{Included, Unbounded}
use Rattle.mw_types.specs.Orders.{row_cmp}
use Rattle.key_intervals.specs.Intervals.{covers, start_of}
use Rattle.row_keeper.specs.Rows.{entry_of}
use Rattle.row_keeper.proofs.Within.{IsRest, IsRest-begin, IsRest-end, IsRest-more}
use Rattle.row_keeper.proofs.mem_keeper.found_within.Goals as goal

pub loop-name-init : goal.loop-name-init
loop-name-init c =
    let found : map entry_of c.new-found.result ≡ [] = ap (map entry_of) c.new-found.ensures.empty in
    let from : c.into_iter-name-iterator.result ≡ entries_between row_cmp (Included (start_of c.args.bounds.now)) Unbounded c.args.rows.now.entries = search rules in
    IsRest-begin _ _ _ _ found from c.range-name-items.ensures.ordered

pub returns-then-not-covers : goal.returns-then-not-covers
returns-then-not-covers c =
    let step = rest_more deref_pair _ _ _ _ c.in-Some.is c.next.ensures.steps in
    let out : covers c.args.bounds.now c.in-Some.name.now ≡ false = search rules in
    IsRest-end _ _ _ _ _ _ c.loop-name.invariant step out

pub loop-name-preserved : goal.loop-name-preserved
loop-name-preserved c =
    let step = rest_more deref_pair _ _ _ _ c.in-Some.is c.next.ensures.steps in
    let has : covers c.args.bounds.now c.in-Some.name.now ≡ true = search rules in
    let more = IsRest-more _ _ _ _ _ _ c.loop-name.invariant step has in
    subst (λ found. IsRest c.args.bounds.now found c.next.new.self c.args.rows.now.entries) (sym c.in_ok-push_copied.ensures) more
