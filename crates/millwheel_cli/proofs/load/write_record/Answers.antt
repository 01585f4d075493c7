use Rattle.std.proofs.Common.{◌≡◌, ◌∙◌, ◌++◌, rules}
use Rattle.std.specs.Prelude.{codes}
use Rattle.millwheel_cli.proofs.Loading.{record_written}
use Rattle.millwheel_cli.proofs.load.write_record.Goals as goal

pub returns : goal.returns
returns c =
    let first : c.extend_from_slice.new.self.items ≡ c.args.text.now.items ++ codes "{\"key\":\"" = search rules in
    record_written c.args.text.now.items _ _ _ _ c.args.line c.args.number _ _ first
    c.in_ok-push.ensures.items c.in_ok-extend_from_slice-2.ensures.items (c.as_bytes.ensures.value ∙ c.in_ok-rest.ensures.ok)
    c.letter_of.ensures c.stamp_of-stamp.ensures
