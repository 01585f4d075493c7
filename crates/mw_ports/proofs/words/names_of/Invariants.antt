use Rattle.std.proofs.Common.{◌≡◌, ◌++◌, map}
use Rattle.std.specs.String.{string_bytes}
use Rattle.std.specs.Vec.Iter.{into_iter_items}
use Rattle.mw_ports.proofs.words.names_of.Given as goal

-- the names so far and those of the texts that are left are all
abbrev pub invariant-loop-text : goal.invariant-loop-text
invariant-loop-text l =
    l.names ++ map string_bytes (into_iter_items l.text-iterator) ≡ map string_bytes (into_iter_items l.fn.texts)
