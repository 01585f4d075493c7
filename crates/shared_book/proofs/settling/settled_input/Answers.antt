use Rattle.std.proofs.Common.{◌∙◌, sym}
use Rattle.shared_book.proofs.Filling.{last-some, input-unclaimed}
use Rattle.shared_book.proofs.settling.settled_input.Goals as goal

-- without a claim the input mark stays
pub returns-then-claim-eq0-clause-input : goal.returns-then-claim-eq0-clause-input
returns-then-claim-eq0-clause-input g c =
    input-unclaimed c.args.book.now.case.topology c.args.book.now.history c.args.marks.now c.args.interval c.args.claim c.args.input
    c.if-claim-eq0.true

-- an interval that was claimed is there
pub fed_by-fed-requires-clause-there : goal.fed_by-fed-requires-clause-there
fed_by-fed-requires-clause-there g c =
    let last = last-some c.last_claim.result c.args.claim (sym c.is_last.ensures ∙ c.if-is_last.true) in
    c.sound.ensures.lawful.claims c.args.interval last.0 (sym c.last_claim.ensures.last ∙ last.1)
