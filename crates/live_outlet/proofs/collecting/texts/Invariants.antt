use Rattle.std.proofs.Common.{◌≡◌, ◌++◌, map, length}
use Rattle.live_outlet.specs.Collecting.{Telling}
use Rattle.live_outlet.proofs.collecting.texts.Given as goal

-- the texts so far, and those of the lines that are left
abbrev pub invariant-loop-held : goal.invariant-loop-held
invariant-loop-held l =
    l.texts ++ map (λ (one : Telling). one.1.text) l.firsts.entries
    ≡ map (λ (one : Telling). one.1.text) l.initial.firsts.entries

abbrev pub decreases-loop-held : goal.decreases-loop-held
decreases-loop-held l = length l.firsts.entries
