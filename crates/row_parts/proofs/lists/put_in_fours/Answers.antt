use Rattle.std.proofs.Common.{arith, ◌++◌, ◌∷◌, [], List, ℕ, ap, ◌-◌, take, drop, length}
use Rattle.std.specs.List.{flat_map}
use Rattle.std.specs.Int.{w32, to_be_bytes}
use Rattle.std.proofs.lemmas.Result.{on_ok_weaker}
use Rattle.row_parts.proofs.Gathered.{parted, wrote_four, typed_four, whole_list}
use Rattle.row_parts.proofs.lists.put_in_fours.Goals as goal

pub loop-rest-init : goal.loop-rest-init
loop-rest-init g c = (ap (λ (l : List ℕ). l ++ flat_map g.X.Spelled.spelling c.args.xs.now) c.in_ok-put.ensures.written, λ all. all)

pub loop-rest-smaller : goal.loop-rest-smaller
loop-rest-smaller g c = omega arith

pub loop-rest-preserved : goal.loop-rest-preserved
loop-rest-preserved g c =
    let a = c.first-item.result in let b = c.second-item.result in let third = c.third-item.result in let d = c.fourth-item.result in
    let rest = c.loop-rest.rest.now in
    let four = a ∷ b ∷ third ∷ d ∷ [] in
    let after = take (length rest - 4) (drop 4 rest) in
    let total = (c.args.out.now.items ++ to_be_bytes w32 (length c.args.xs.now)) ++ flat_map g.X.Spelled.spelling c.args.xs.now in
    let is = parted rest a b third d c.in-len4-up.len_at_least c.first-item.is c.second-item.is c.third-item.is c.fourth-item.is in (
      wrote_four g.X.Spelled.spelling four after rest c.loop-rest.out.items c.put_four.new.out.items total is
          c.in_ok-put_four.ensures.written c.loop-rest.invariant.0,
      typed_four g.X.Spelled.typed four after rest c.args.xs.now is c.in_ok-put_four.ensures.typed c.loop-rest.invariant.1,
    )

pub returns-clause-written : goal.returns-clause-written
returns-clause-written g c = on_ok_weaker c.put_each.result (λ written. whole_list g.X.Spelled.spelling c.args.xs.now
    c.loop-rest.rest.now c.args.out.now.items c.loop-rest.out.items _ written c.loop-rest.invariant.0) c.put_each.ensures.written

pub returns-clause-typed : goal.returns-clause-typed
returns-clause-typed g c = on_ok_weaker c.put_each.result (λ left. c.loop-rest.invariant.1 left) c.put_each.ensures.typed
