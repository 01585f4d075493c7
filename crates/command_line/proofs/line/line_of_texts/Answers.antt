use Rattle.std.proofs.Common.{◌∙◌, List, map}
use Rattle.clap.specs.Walk.{Text}
use Rattle.clap.specs.Simple.{app_of}
use Rattle.command_line.proofs.Found.{flags_there, line_refused, line_taken}
use Rattle.command_line.proofs.line.line_of_texts.Goals as goal

pub line_in-requires : goal.line_in-requires
line_in-requires c =
    let texts : List Text = map (λ text. text.now) c.args.texts.now in record {
      read = flags_there texts (app_of c.in_ok-parser.field-0) c.in-Ok.matches c.in_ok-parser.ensures.app c.requires.long
          c.in-Ok.ensures.kinds c.in-Ok.ensures.matches;
    }

pub returns-in_ok-line_in-in-Ok : goal.returns-in_ok-line_in-in-Ok
returns-in_ok-line_in-in-Ok c =
    let texts : List Text = map (λ text. text.now) c.args.texts.now in record {
      line = line_taken texts (app_of c.in_ok-parser.field-0) c.in-Ok.matches c.in_ok-line_in-in-Ok.field-0
          c.in_ok-parser.ensures.app c.requires.long c.in-Ok.ensures.kinds c.in-Ok.ensures.matches c.in_ok-line_in-in-Ok.ensures.line;
    }

pub returns-in-Err : goal.returns-in-Err
returns-in-Err c = record {
  line = λ is_usage.
      let texts : List Text = map (λ text. text.now) c.args.texts.now in
      line_refused texts (app_of c.in_ok-parser.field-0) c.in-Err.error c.in_ok-parser.ensures.app c.requires.long
      c.in-Err.ensures.kinds (λ want. c.refusal_of.ensures.usage is_usage (c.kind.ensures ∙ want));
}
