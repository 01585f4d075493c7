use Rattle.std.proofs.Common.{◌∙◌}
use Rattle.topology.specs.Shapes.{consumers_of}
use Rattle.topology.proofs.ByPart.{by_part_covers, by_part_at}
use Rattle.topology.proofs.topology.Topology.consumers.Goals as goal

pub bounds-as_slice-part : goal.bounds-as_slice-part
bounds-as_slice-part c = by_part_covers consumers_of _ _ _ _ _ c.self.view_is c.self.invariant.subscribed c.as_slice.ensures.elements c.requires

pub returns : goal.returns
returns c = record { subscribed = c.as_slice-2.ensures.elements ∙ c.index-as_slice-part.is ∙ by_part_at consumers_of _ _ _ _ _ _ c.self.view_is c.self.invariant.subscribed c.as_slice.ensures.elements c.requires }
