use Rattle.std.proofs.Common.{◌≡◌, ◌∙◌, Bool, true, false, Some, codes, subst, sym}
use Rattle.clap.specs.Matches.{found_of, one_text}
use Rattle.clap.specs.Walk.{Text, rows_of}
use Rattle.clap.specs.declared.parser.matches.Found.{Found}
use Rattle.clap.proofs.WalkLemmas.{one_text-rows}
use Rattle.command_line.specs.Clap.{IsFlagIn}
use Rattle.command_line.proofs.line.has_flag.Goals as goal

flag_read : (f : Found) (id : Text) (read : Bool) → (one_text f id ≡ Some (codes "true") → read ≡ true)
    → (one_text f id ≡ Some (codes "false") → read ≡ false)
    → (flag : Bool) → IsFlagIn (rows_of f) id flag → read ≡ flag
flag_read f id read given left_out true is = given (one_text-rows f id ∙ is)
flag_read f id read given left_out false is = left_out (one_text-rows f id ∙ is)

pub returns : goal.returns
returns c =
    let found = found_of c.args.matches.now in
    let known = c.requires.read in record {
      flag = subst (IsFlagIn (rows_of found) c.args.id.now)
          (sym (flag_read found c.args.id.now c.get_flag.result c.get_flag.ensures.value c.get_flag.ensures.other known.0 known.1))
          known.1;
    }
