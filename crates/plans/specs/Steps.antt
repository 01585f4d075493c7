-- Which steps a script over a topology may have. Own.
use Rattle.std.specs.Prelude.{ℕ, ◌<◌, ◌≤◌, ◌^◌}
use Rattle.topology.specs.Shapes.{Shape, injectors_of, parts_of}
use Rattle.topology.specs.Rules.{interval_count}
use Rattle.plans.specs.declared.step.Step.{Step}
use Rattle.plans.specs.declared.step.Step.TheVariants as steps

-- workers have the numbers of sixteen
abbrev pub IsWorker : ℕ → Type 0
IsWorker worker = worker < 16

-- and messages 32 bits
abbrev pub IsMessage : ℕ → Type 0
IsMessage message = message < 2 ^ 32

-- there is such an interval
abbrev pub IsInterval : Shape → ℕ → Type 0
IsInterval shape interval = interval < interval_count shape

-- whoever and whatever a step names is there, over this topology and so many relays: what is injected is of an
-- injector, and what is fired of a computation
abbrev pub IsStep : Shape → ℕ → Step → Type 0
IsStep shape relays (steps.Claim worker interval) = IsWorker worker × IsInterval shape interval
IsStep shape relays (steps.Report worker interval) = IsWorker worker × IsInterval shape interval
IsStep shape relays (steps.Purge worker interval) = IsWorker worker × IsInterval shape interval
IsStep shape relays (steps.Inject worker injector) = IsWorker worker × (injector < injectors_of shape)
IsStep shape relays (steps.Fire worker part) = IsWorker worker × (injectors_of shape ≤ part) × (part < parts_of shape)
IsStep shape relays (steps.Take worker message) = IsWorker worker × IsMessage message
IsStep shape relays (steps.Send worker) = IsWorker worker
IsStep shape relays (steps.Write worker) = IsWorker worker
IsStep shape relays (steps.Resend worker) = IsWorker worker
IsStep shape relays (steps.Crash worker) = IsWorker worker
IsStep shape relays (steps.Repeat message) = IsMessage message
IsStep shape relays (steps.Lose message) = IsMessage message
IsStep shape relays (steps.Relay relay message) = (relay < relays) × IsMessage message
IsStep shape relays (steps.Forget relay) = relay < relays
