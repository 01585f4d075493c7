use Rattle.std.proofs.Common.{ℕ, List, refl, inl, inr, subst}
use Rattle.millwheel_cli.specs.Answers.{IsTextOf}
use Rattle.task_runs.specs.Inside.{IsWritten}
use Rattle.task_runs.proofs.Leaving.{text_written, unbegun_of}
use Rattle.millwheel_cli.proofs.unkept.write_text.Goals as goal

-- the text was written, or a beginning of it
pub returns-in-Ok-clause-ended : goal.returns-in-Ok-clause-ended
returns-in-Ok-clause-ended g c = λ left unrun same. inl
    (text_written (IsTextOf (g.S.Shelf.files c.args.shelf.now) c.args.call.now) c.in-Ok.text left
    (g.O.Sink.text c.args.out.now) (g.O.Sink.text c.written.new.out) c.written.result c.in-Ok.ensures.text unrun same
    (subst (λ (t : List ℕ). IsWritten t (g.O.Sink.text c.args.out.now) (g.O.Sink.text c.written.new.out) c.written.result)
    c.as_slice.ensures.elements c.written.ensures.written))

-- or the files were refused
pub returns-in-Err-clause-ended : goal.returns-in-Err-clause-ended
returns-in-Err-clause-ended g c = λ left unrun same. inr (record {
  refusal = c.in-Err.refusal;
  same = c.status_of.ensures;
  why = c.in-Err.ensures.refused;
  unbegun = unbegun_of left _ _ unrun same refl;
})
