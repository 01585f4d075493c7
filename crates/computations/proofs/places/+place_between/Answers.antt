use Rattle.std.proofs.Common.{rules, arith, ◌≡◌, ◌<◌, ◌+◌, ◌-◌, ◌/◌}
use Rattle.computations.proofs.Searching.{IsBetween-after, IsBetween-before, IsPlace-middle}
use Rattle.computations.proofs.places.+place_between.Goals as goal

-- the number in the middle is smaller
pub place_between-requires : goal.place_between-requires
place_between-requires g t c =
    let middle = c.args.low + (c.args.high - c.args.low) / 2 in
    let lt : c.args.low < c.args.high = search rules in
    let smaller : g.X.Numbered.number c.element_at.result < c.args.n = search rules in
    let rest = IsBetween-after g.X.Numbered.number c.args.xs.now c.args.n c.requires.ascending c.args.low
    c.args.high middle c.element_at.result c.requires.between (omega arith) (omega (arith, lt))
    c.element_at.ensures smaller in
    search rules

-- it is greater
pub place_between-requires-then-n-number : goal.place_between-requires-then-n-number
place_between-requires-then-n-number g t c =
    let middle = c.args.low + (c.args.high - c.args.low) / 2 in
    let lt : c.args.low < c.args.high = search rules in
    let greater : c.args.n < g.X.Numbered.number c.element_at.result = search rules in
    let rest = IsBetween-before g.X.Numbered.number c.args.xs.now c.args.n c.requires.ascending c.args.low
    c.args.high middle c.element_at.result c.requires.between (omega arith) (omega (arith, lt))
    c.element_at.ensures greater in
    search rules

-- it is the one
pub returns-else-n-number-clause-found : goal.returns-else-n-number-clause-found
returns-else-n-number-clause-found g t c =
    let middle = c.args.low + (c.args.high - c.args.low) / 2 in
    let lt : c.args.low < c.args.high = search rules in
    let same : g.X.Numbered.number c.element_at.result ≡ c.args.n = search rules in
    IsPlace-middle g.X.Numbered.number c.args.xs.now c.args.n c.requires.ascending c.args.low c.args.high
    middle c.element_at.result c.requires.between (omega arith) (omega (arith, lt)) c.element_at.ensures same
