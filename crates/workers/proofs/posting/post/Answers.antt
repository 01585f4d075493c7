use Rattle.std.proofs.Common.{length}
use Rattle.run_history.specs.Cases.{intervals_of}
use Rattle.workers.proofs.PassLaws.{passes-set}
use Rattle.workers.proofs.posting.post.Goals as goal

-- the pass that was used stands in its place again
pub returns : goal.returns
returns g c = record {
  passes = passes-set (length (intervals_of c.args.case.now.topology)) c.address-interval.result c.args.boxes.now c.args.passes.now
      c.index-boxes-interval.result c.put.new.pass c.address-interval.ensures.there c.index-boxes-interval.is
      c.put.ensures.pass c.requires.passes;
}
