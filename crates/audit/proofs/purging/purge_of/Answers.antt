use Rattle.std.proofs.Common.{◌≡◌, ◌∙◌, true, nat_lt, rules, sym}
use Rattle.run_history.specs.Runs.{cached, row_of}
use Rattle.audit.proofs.FoundLaws.{there-part}
use Rattle.audit.proofs.purging.purge_of.Goals as goal

-- a row that is there is of a part that is there
pub sequencer-requires : goal.sequencer-requires
sequencer-requires c =
    let yes : c.may_rise.result ≡ true = search rules in record {
      part = there-part c.args.case.now c.args.history.now c.args.kept.now c.args.name.now
          (nat_lt (row_of c.args.case.now.topology (cached c.args.kept.now.rows.entries) c.args.name.now).floor c.args.floor)
          c.requires.followed c.requires.kept (sym c.may_rise.ensures ∙ yes);
    }
