use Rattle.millwheel_cli.proofs.Loading.{drawn_next, load_text_next}
use Rattle.millwheel_cli.proofs.load.load_lines.Goals as goal

pub loop-line-preserved : goal.loop-line-preserved
loop-line-preserved c =
    let l = c.loop-line in
    let draws = drawn_next c.args.seed l.line l.number _ l.invariant.number c.drawn_after-number.ensures.drawn in
    record {
      number = draws;
      range = c.drawn_after-number.ensures.range;
      text = load_text_next c.args.seed l.line _ l.text.items _ _ draws l.invariant.text c.in_ok-write_record.ensures
          c.in_ok-write_mark.ensures;
    }
