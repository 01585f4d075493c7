use Rattle.std.proofs.Common.{◌≡◌, ◌++◌, ◌∷◌, [], ◌∙◌, ap, length, map, sym, arith, ◌+◌}
use Rattle.std.specs.List.{range_with_len}
use Rattle.topology.specs.Shapes.{consumers_of}
use Rattle.run_history.specs.Cases.{CaseShape, source_of}
use Rattle.plain_answer.specs.Plain.{injected_of}
use Rattle.plain_answer.specs.Sends.{sent_along}
use Rattle.plain_answer.proofs.Making.{injected-length, injected-push}
use Rattle.plain_answer.proofs.Sending.{read-begin, read-next}
use Rattle.plain_answer.proofs.streams.inject.Goals as goal

-- no stream is there
pub loop-part-init : goal.loop-part-init
loop-part-init c = record {
  streams = c.requires.none;
  read = read-begin c.args.case.now.topology c.args.all.now.streams.items c.args.all.now.reads.items c.requires.none c.requires.empty;
}

-- one more
pub loop-part-preserved : goal.loop-part-preserved
loop-part-preserved c =
    let case = c.args.case.now in
    let part = c.loop-part.part in
    let was = c.loop-part.invariant in
    let same : 0 + part ≡ part = omega arith in
    let long = ap length was.streams ∙ injected-length case 0 part in
    record {
      streams = c.in_ok-put.ensures.streams ∙ (λ i. was.streams i ++ c.in_ok-stream.ensures i ∷ [])
          ∙ ap (λ k. map injected_of (map (source_of case) (range_with_len 0 part)) ++ injected_of (source_of case k) ∷ []) (sym same)
          ∙ sym (injected-push case 0 part);
      read = read-next case.topology part c.loop-part.all.streams.items _ c.loop-part.all.reads.items _ _ long c.in_ok-put.ensures.streams
          (c.in_ok-put.ensures.reads ∙ ap (λ s. sent_along s c.loop-part.all.reads.items c.in_ok-stream.stream) (c.consumers.ensures.subscribed ∙ ap (λ (k : CaseShape). consumers_of k.topology part) c.case.view_is)) was.read;
    }
