-- How long files may be. Own.
use Rattle.std.specs.Prelude.{ℕ, ◌^◌}
use Rattle.text_lines.specs.declared.TheConstants.{LINES_MAX}

-- how many bytes a topology may have
abbrev pub topology_limit : ℕ
topology_limit = 2 ^ 20

-- how many bytes a plan may have
abbrev pub plan_limit : ℕ
plan_limit = 2 ^ 20

-- how many bytes an event file may have
abbrev pub events_limit : ℕ
events_limit = 2 ^ 25

-- how many bytes a text of live lines may have
abbrev pub collect_limit : ℕ
collect_limit = 2 ^ 28

-- how many bytes a printed history may have, with its result behind it
abbrev pub trace_limit : ℕ
trace_limit = 2 ^ 28

-- how many record lines there may be in all event files
abbrev pub lines_limit : ℕ
lines_limit = LINES_MAX
