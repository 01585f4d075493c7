use Rattle.std.proofs.Common.{◌≡◌, ◌∙◌, ◌++◌, [], List, Option, OnOk, ap, append-nil, map, subst, sym}
use Rattle.std.specs.Option.{unwrap_or}
use Rattle.clap.specs.Matches.{found_of}
use Rattle.clap.specs.Walk.{Text, rows_of}
use Rattle.clap.proofs.WalkLemmas.{raw_values-rows}
use Rattle.command_line.specs.Clap.{values_in}
use Rattle.command_line.proofs.line.add_values.Goals as goal

pub returns-in-Some : goal.returns-in-Some
returns-in-Some c =
    let found = found_of c.args.matches.now in
    let read : map (λ text. text.now) c.in-Some.texts.now ≡ values_in (rows_of found) c.args.id.now =
    ap (λ (o : Option (List Text)). unwrap_or o []) (c.in-Some.ensures ∙ raw_values-rows found c.args.id.now) in
    record {
      added = subst (λ (values : List Text). OnOk c.add_all.result (c.add_all.new.names ≡ c.args.names.now ++ values)) read c.add_all.ensures.added;
    }

pub returns-in-None : goal.returns-in-None
returns-in-None c =
    let found = found_of c.args.matches.now in
    record {
      added = sym (append-nil c.args.names.now)
          ∙ ap (λ (o : Option (List Text)). c.args.names.now ++ unwrap_or o []) (c.in-None.ensures ∙ raw_values-rows found c.args.id.now);
    }
