-- The low watermarks of all parts, made in one pass over them. Own, of what Watermarks.antt says of each part.
use Rattle.std.specs.Prelude.{ℕ, zero, suc, if◌then◌else◌, List, [], ◌∷◌, ◌++◌, map, get_or}
use Rattle.mw_types.specs.declared.TheConstants.{END}
use Rattle.topology.specs.Shapes.{feeds_of}
use Rattle.run_history.specs.Cases.{CaseShape, is_injector}
use Rattle.run_history.specs.Runs.{Run}
use Rattle.run_history.specs.Watermarks.{least, oldest_work, source_mark}

-- what a feeding part has, by the low watermarks of the parts before
abbrev pub fed_mark : CaseShape → Run → List ℕ → ℕ → ℕ
fed_mark case run lows feeding =
    if is_injector case.topology feeding then source_mark case run feeding else get_or lows feeding END

-- the next low watermark, by those of the parts before
abbrev pub low_after : CaseShape → Run → List ℕ → ℕ → ℕ
low_after case run lows part =
    least (oldest_work run part ∷ map (fed_mark case run lows) (feeds_of case.topology part))

-- the low watermarks of the first so many parts
abbrev pub lows_of : CaseShape → Run → ℕ → List ℕ
lows_of case run zero = []
lows_of case run (suc parts) =
    lows_of case run parts ++ low_after case run (lows_of case run parts) parts ∷ []
