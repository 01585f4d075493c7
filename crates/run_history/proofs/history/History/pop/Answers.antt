use Rattle.std.proofs.Common.{◌∷◌, ◌++◌, [], ap, map, sym, ◌∙◌}
use Rattle.mw_types.specs.declared.entry.Entry.{Entry}
use Rattle.run_history.specs.Packing.{unpacked}
use Rattle.run_history.proofs.Packings.{all_but_last, last_packed, rest_packed, unpacked_rest}
use Rattle.run_history.proofs.history.History.pop.Goals as goal

pub unpack-requires-clause-last : goal.unpack-requires-clause-last
unpack-requires-clause-last c =
    (last_packed c.self.inside.details c.self.inside.entries c.pop.new.self c.in-Some.packed c.in-Some.ensures.last c.self.invariant).1

pub invariant_of-self : goal.invariant_of-self
invariant_of-self c = rest_packed _ c.unpack.new.self _ c.pop.new.self _ c.in-Some.ensures.last c.unpack.ensures.names
    c.unpack.ensures.counted c.self.invariant

pub returns-in-Some-clause-last : goal.returns-in-Some-clause-last
returns-in-Some-clause-last c =
    let are = rest_packed c.self.inside.details c.unpack.new.self c.self.inside.entries c.pop.new.self c.in-Some.packed
    c.in-Some.ensures.last c.unpack.ensures.names c.unpack.ensures.counted c.self.invariant in
    let rest = map (unpacked c.unpack.new.self) c.pop.new.self in
    sym c.self.view_is
    ∙ unpacked_rest c.self.inside.details c.unpack.new.self c.self.inside.entries c.pop.new.self c.in-Some.packed
    c.in-Some.ensures.last c.unpack.ensures.kept are
    ∙ ap (λ (e : Entry). rest ++ e ∷ []) (sym c.unpack.ensures.entry)

pub returns-in-Some-clause-rest : goal.returns-in-Some-clause-rest
returns-in-Some-clause-rest c =
    let are = rest_packed c.self.inside.details c.unpack.new.self c.self.inside.entries c.pop.new.self c.in-Some.packed
    c.in-Some.ensures.last c.unpack.ensures.names c.unpack.ensures.counted c.self.invariant in
    let rest = map (unpacked c.unpack.new.self) c.pop.new.self in
    all_but_last rest c.args.self.now (unpacked c.self.inside.details c.in-Some.packed) (sym c.self.view_is
    ∙ unpacked_rest c.self.inside.details c.unpack.new.self c.self.inside.entries c.pop.new.self c.in-Some.packed
    c.in-Some.ensures.last c.unpack.ensures.kept are)
