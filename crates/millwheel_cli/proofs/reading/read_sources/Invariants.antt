use Rattle.std.proofs.Common.{◌≡◌, ◌≤◌, ◌++◌, ℕ, List, length, drop}
use Rattle.injector.specs.Sources.{Source}
use Rattle.task_runs.specs.declared.status.Status.{Status}
use Rattle.millwheel_cli.specs.Limits.{lines_limit}
use Rattle.millwheel_cli.specs.Files.{HoldsSources}
use Rattle.millwheel_cli.specs.Reasons.{IsSourceRefused}
use Rattle.millwheel_cli.proofs.Reasons.{seen_of}
use Rattle.millwheel_cli.proofs.reading.read_sources.Given as goal

-- what the files that are left hold is the rest of what all hold, and the first of them that is refused is the first of all
abbrev pub invariant-loop-name : goal.invariant-loop-name
invariant-loop-name g l = record {
  number : l.file ≡ l.name-index;
  count : length l.sources ≡ l.name-index;
  files : g.S.Shelf.files l.shelf ≡ g.S.Shelf.files l.initial.shelf;
  faults : g.S.Shelf.faults l.initial.shelf ≤ g.S.Shelf.faults l.shelf;
  lacks : g.S.Shelf.lacks l.initial.shelf ≤ g.S.Shelf.lacks l.shelf;
  taken : (rest : List Source)
      → HoldsSources (g.S.Shelf.files l.initial.shelf) l.file l.room (drop l.name-index l.names) rest
      → HoldsSources (g.S.Shelf.files l.initial.shelf) 0 lines_limit l.names (l.sources ++ rest);
  refused : (f0 f1 l0 l1 : ℕ) (s : Status)
      → IsSourceRefused (seen_of (g.S.Shelf.files l.initial.shelf) f0 f1 l0 l1) l.file l.room (drop l.name-index l.names) s
      → IsSourceRefused (seen_of (g.S.Shelf.files l.initial.shelf) f0 f1 l0 l1) 0 lines_limit l.names s;
}
