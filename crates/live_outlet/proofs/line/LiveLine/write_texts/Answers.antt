use Rattle.std.proofs.Common.{rules}
use Rattle.live_outlet.proofs.LiveTokens.{texts_written}
use Rattle.live_outlet.proofs.line.LiveLine.write_texts.Goals as goal

pub returns-clause-members : goal.returns-clause-members
returns-clause-members c =
    texts_written c.args.self.now _ _ _ c.args.writer.now.tokens _ _ _
    (search rules) (search rules) (search rules)
    c.in_ok-write_id.ensures.member c.in_ok-write_text.ensures.member c.in_ok-write_text-2.ensures.member
