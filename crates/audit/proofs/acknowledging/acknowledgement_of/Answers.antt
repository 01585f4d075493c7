use Rattle.std.proofs.Common.{◌≡◌, ◌∙◌, false, true, Some, rules, subst, sym}
use Rattle.std.specs.Prelude.{is_none, is_some}
use Rattle.std.proofs.lemmas.Bool.{both_ways}
use Rattle.list_lemmas.proofs.Tests.{both_true}
use Rattle.mw_types.specs.declared.identity.RowName.{RowName}
use Rattle.mw_types.specs.declared.entry.Entry.TheVariants.{Ack}
use Rattle.row_parts.specs.Contents.{found_delivery}
use Rattle.run_history.specs.Runs.{row_of, run_of}
use Rattle.trace_lines.specs.declared.choice.Choice.TheVariants as choices
use Rattle.audit.specs.Choices.{IsChosen}
use Rattle.audit.proofs.ChoiceLaws.{acknowledgement-chosen, acknowledgement-none}
use Rattle.audit.proofs.FoundLaws.{claimed-kept, none-there, settled-found, settled-part, settled-true}
use Rattle.audit.proofs.acknowledging.acknowledgement_of.Goals as goal

-- an id that is not pending, or waits, is not settled
pub returns-then-not-is_settled : goal.returns-then-not-is_settled
returns-then-not-is_settled c =
    let no : c.is_settled.result ≡ false = search rules in
    acknowledgement-none c.args.case.now c.args.history.now c.args.name.now c.args.id
    (λ may. both_ways c.is_settled.result no
    (c.is_settled.ensures ∙ settled-true c.args.case.now c.args.history.now c.args.kept.now c.args.name.now c.args.id
    c.requires.kept may))

-- a row in which an id is pending is of a part that is there
pub sequencer-requires : goal.sequencer-requires
sequencer-requires c =
    let yes : c.is_settled.result ≡ true = search rules in record {
      part = settled-part c.args.case.now c.args.history.now c.args.kept.now c.args.name.now c.args.id c.requires.followed c.requires.kept
          (sym c.is_settled.ensures ∙ yes);
    }

-- the entry is the one that the row may write
pub returns-in_ok-row-in-Some : goal.returns-in_ok-row-in-Some
returns-in_ok-row-in-Some c =
    let case = c.args.case.now in
    let history = c.args.history.now in
    let yes : c.is_settled.result ≡ true = search rules in
    let run = run_of case.topology history in
    let both = both_true (is_some (found_delivery c.args.id (row_of case.topology run c.args.name.now).pending))
    (is_none (found_delivery c.args.id run.unhandled))
    (sym (settled-found case history c.args.kept.now c.args.name.now c.args.id c.requires.kept) ∙ sym c.is_settled.ensures ∙ yes) in
    subst (λ (n : RowName). IsChosen case history (choices.Ack c.args.name.now c.args.id) (Some (Ack c.in-Some.seq n c.args.id)))
    (sym c.in_ok-row-in-Some.ensures.copied)
    (acknowledgement-chosen case history c.args.name.now c.args.id c.in-Some.seq both.0 (none-there
    (found_delivery c.args.id run.unhandled) both.1)
    (sym (claimed-kept case history c.args.kept.now c.args.name.now c.requires.kept) ∙ sym c.sequencer.ensures ∙ c.in-Some.is))
