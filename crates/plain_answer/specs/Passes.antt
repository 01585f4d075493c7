-- The case whose weak computations stand as plain passes, and the case without them. Own.
use Rattle.std.specs.Prelude.{◌≡◌, ℕ, false, List, ◌++◌, map}
use Rattle.std.specs.List.{flat_map}
use Rattle.std.specs.List.Sorted.{IsPermutation, IsSorted}
use Rattle.topology.specs.Shapes.{Shape, ComputationShape}
use Rattle.topology.specs.Folding.{folded}
use Rattle.run_history.specs.Cases.{CaseShape}
use Rattle.run_history.specs.Texts.{ResultLine, line_cmp, as_line, line_data}
use Rattle.plain_answer.specs.Plain.{plain_lines}
use Rattle.serde_json.specs.Data.{Data}

-- a computation that is as it was, and not weak
abbrev pub as_pass : ComputationShape → ComputationShape
as_pass c = record c { weak = false }

-- a topology whose weak computations stand as plain passes
abbrev pub as_passes : Shape → Shape
as_passes shape = record shape { computations = map as_pass shape.computations }

-- a case whose weak computations stand as plain passes
abbrev pub with_passes : CaseShape → CaseShape
with_passes case = record case { topology = as_passes case.topology }

-- a case without its weak computations
abbrev pub without_weak : CaseShape → CaseShape
without_weak case = record case { topology = folded case.topology }

-- the text has the lines of the streams that nothing reads, each once and in their order, and one line behind
-- them, which may say anything
pub record HasLinesOf (case : CaseShape) (text : List ℕ) : Type 0 where
  pub lines : List ResultLine
  pub last : Data
  pub each_once : IsPermutation (plain_lines case) lines
  pub in_order : IsSorted line_cmp lines
  pub spelled : text ≡ flat_map (λ line. as_line (line_data line)) lines ++ as_line last
