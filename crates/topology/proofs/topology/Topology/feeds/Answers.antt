use Rattle.std.proofs.Common.{◌≡◌, ◌∙◌, sym, subst}
use Rattle.std.specs.List.Sorted.{IsStrictlySortedBy}
use Rattle.std.specs.Ordering.{nat_cmp}
use Rattle.topology.specs.Shapes.{feeds_of}
use Rattle.topology.proofs.ByPart.{by_part_covers, by_part_at}
use Rattle.topology.proofs.Feeds.{feeds_of-ascending}
use Rattle.topology.proofs.topology.Topology.feeds.Goals as goal

pub bounds-as_slice-part : goal.bounds-as_slice-part
bounds-as_slice-part c = by_part_covers feeds_of _ _ _ _ _ c.self.view_is c.self.invariant.fed c.as_slice.ensures.elements c.requires

pub returns : goal.returns
returns c =
    let is : c.as_slice-2.result.now ≡ feeds_of c.args.self.now c.args.part =
    c.as_slice-2.ensures.elements
    ∙ c.index-as_slice-part.is
    ∙ by_part_at feeds_of _ _ _ _ _ _ c.self.view_is c.self.invariant.fed c.as_slice.ensures.elements c.requires in
    record { fed = is; ascending = subst (IsStrictlySortedBy nat_cmp) (sym is) (feeds_of-ascending c.args.self.now c.args.part) }
