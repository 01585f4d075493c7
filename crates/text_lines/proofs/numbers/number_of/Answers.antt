use Rattle.std.proofs.Common.{◌∙◌, get_or, arith, rules}
use Rattle.text_lines.proofs.Digits.{one_more_digit, few_digits, digit_range, made_of-first}
use Rattle.text_lines.proofs.numbers.number_of.Goals as goal

pub overflow_mul-number : goal.overflow_mul-number
overflow_mul-number c =
    let few = few_digits c.loop-digit.number c.loop-digit.digit-index c.loop-digit.invariant.low
    (omega (arith, c.loop-digit-test.true, c.if-word-gt10.false)) in
    omega (arith, few)

pub overflow_add-number : goal.overflow_add-number
overflow_add-number c =
    let few = few_digits c.loop-digit.number c.loop-digit.digit-index c.loop-digit.invariant.low
    (omega (arith, c.loop-digit-test.true, c.if-word-gt10.false)) in
    let range = digit_range (get_or c.args.word.now c.loop-digit.digit-index 0) (search rules) in
    omega (arith, few, range.0, range.1, c.from.ensures)

pub loop-digit-preserved : goal.loop-digit-preserved
loop-digit-preserved c =
    let loop = c.loop-digit in
    let word = c.args.word.now in
    let range = digit_range (get_or word loop.digit-index 0) (search rules) in record {
      same = loop.invariant.same
          ∙ rw c.from.ensures (made_of-first loop.number word loop.digit-index c.loop-digit-test.true (search rules));
      low = one_more_digit loop.number c.from.result loop.digit-index loop.invariant.low
          (omega (arith, range.0, range.1, c.from.ensures));
    }
