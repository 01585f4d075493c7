use Rattle.std.proofs.Common.{◌≡◌, ◌<◌, ◌^◌, ◌*◌, drop}
use Rattle.text_lines.specs.Numbers.{number_of}
use Rattle.text_lines.proofs.Digits.{made_of}
use Rattle.text_lines.proofs.numbers.number_of.Given as goal

-- the word's number is what the digits that are left make of the number so far
abbrev pub invariant-loop-digit : goal.invariant-loop-digit
invariant-loop-digit l = record {
  same : number_of l.word ≡ made_of l.number (drop l.digit-index l.word);
  low : l.number < 2 ^ (4 * l.digit-index);
}
