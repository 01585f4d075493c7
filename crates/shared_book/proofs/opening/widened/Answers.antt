use Rattle.std.proofs.Common.{◌∙◌, ◌++◌, ℕ, List, ap, drop, length, length-append, replicate, arith}
use Rattle.std.proofs.lemmas.List.{length-drop, length-take-le}
use Rattle.watermark.specs.Marks.{mark_of}
use Rattle.shared_book.proofs.Filling.{mark-widened}
use Rattle.shared_book.proofs.opening.widened.Goals as goal

pub copy_from_slice-requires : goal.copy_from_slice-requires
copy_from_slice-requires c = length-take-le (length c.args.given.now) (replicate 61 0) c.requires

pub returns-clause-long : goal.returns-clause-long
returns-clause-long c =
    let n = length c.args.given.now in
    let few = c.requires in
    let front = ap length c.copy_from_slice.ensures.after in
    let zeros : List ℕ = replicate 61 0 in
    let back = length-drop n zeros in
    let whole = length-append c.copy_from_slice.new.self (drop n zeros) in
    omega (arith, few, front, back, whole)

pub returns-clause-marks : goal.returns-clause-marks
returns-clause-marks c k =
    ap (λ (l : List ℕ). mark_of (l ++ drop (length c.args.given.now) (replicate 61 0)) k) c.copy_from_slice.ensures.after
    ∙ mark-widened c.args.given.now 61 (length c.args.given.now) k
