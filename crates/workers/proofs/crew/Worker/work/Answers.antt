use Rattle.std.proofs.Common.{◌∙◌, ◌∷◌, [], ℕ, ap, refl, sym}
use Rattle.workers.specs.Crews.{desk_of}
use Rattle.workers.proofs.Sitting.{fault-caused, fault-none}
use Rattle.workers.proofs.crew.Worker.work.Goals as goal

pub returns : goal.returns
returns g c =
    let e = c.work_with-done.ensures in
    let fault = c.err.ensures.value in
    record {
      worked = record {
        worker = record {
          seated = e.seated;
          numbers = e.numbers ∙ c.requires.worker.numbers ∙ ap (λ (n : ℕ). n ∷ []) (sym e.number);
          fits = e.fits;
          cause = fault-caused (desk_of c.args.self.now) _ c.work_with-done.result c.err.result fault e.fault;
        };
        number = e.number;
        orders = refl;
        worked = e.worked;
        passes = e.passes;
        kept = e.kept;
        injected = fault-none c.work_with-done.result c.err.result fault e.injected;
      };
    }
