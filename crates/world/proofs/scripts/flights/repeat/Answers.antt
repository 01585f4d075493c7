use Rattle.std.proofs.Common.{◌≡◌, ◌∙◌, ◌+◌, ◌^◌, true, false, length, inl, refl, ap, subst, sym, rules}
use Rattle.std.specs.Prelude.{None, Some, All, nat_le, slice_get, unwrap_or}
use Rattle.node.specs.declared.outcome.Outcome.TheVariants as outcomes
use Rattle.world.specs.scripts.Standing.{IsFlying}
use Rattle.world.specs.scripts.WorkerCalls.{CopiesOn, HasCopied}
use Rattle.world.specs.scripts.WorldStates.{flight_of}
use Rattle.world.proofs.scripts.FlightLaws.{copied-behind, flying-put, repeat-full, repeat-more, repeat-not}
use Rattle.world.proofs.scripts.WorkerLaws.{by-either, ok-with}
use Rattle.world.proofs.Results.{ok-then}
use Rattle.world.specs.scripts.Stepping.{NamesNone}
use Rattle.world.proofs.scripts.flights.repeat.Goals as goal

-- no message is there
pub returns-in_default-clause-acted : goal.returns-in_default-clause-acted
returns-in_default-clause-acted c =
    let at : unwrap_or (slice_get c.args.flight.now.items c.args.message) None ≡ None = search rules in
    repeat-not c.args.message c.args.flight.now.items at

-- nothing came
pub returns-in_default-clause-copied : goal.returns-in_default-clause-copied
returns-in_default-clause-copied c = inl refl

-- there is no number for it
pub returns-then-not-has_numbers-clause-acted : goal.returns-then-not-has_numbers-clause-acted
returns-then-not-has_numbers-clause-acted c =
    let flight = c.args.flight.now.items in
    let at : unwrap_or (slice_get flight c.args.message) None ≡ Some c.in-Some.found.now = search rules in
    let full : nat_le (length flight + 1) (2 ^ 32) ≡ false = search rules in
    repeat-full c.args.message flight c.in-Some.found.now at full

-- nothing came
pub returns-then-not-has_numbers-clause-copied : goal.returns-then-not-has_numbers-clause-copied
returns-then-not-has_numbers-clause-copied c = inl refl

-- a message is copied
pub returns-clause-acted : goal.returns-clause-acted
returns-clause-acted c =
    let flight = c.args.flight.now.items in
    let at : unwrap_or (slice_get flight c.args.message) None ≡ Some c.in-Some.found.now = search rules in
    let room : nat_le (length flight + 1) (2 ^ 32) ≡ true = search rules in
    ok-with c.put.result (λ outcome number put.
    subst (λ o. CopiesOn c.args.message (flight_of flight) (flight_of c.put.new.flight.items) o) (sym number)
    (subst (λ f. CopiesOn c.args.message (flight_of flight) (flight_of f) (outcomes.Copied (length flight))) (sym put)
    (repeat-more c.args.message flight c.in_ok-copied.copied (at ∙ ap Some (sym c.in_ok-copied.ensures)) room)))
    c.put.ensures.number c.put.ensures.put

-- it came behind what was in flight, or nothing did
pub returns-clause-copied : goal.returns-clause-copied
returns-clause-copied c =
    let flight = c.args.flight.now.items in
    let at : unwrap_or (slice_get flight c.args.message) None ≡ Some c.in-Some.found.now = search rules in
    by-either c.put.result (λ put. subst (λ f. HasCopied c.args.message (flight_of flight) (flight_of f)) (sym put)
    (copied-behind c.args.message flight c.in_ok-copied.copied (at ∙ ap Some (sym c.in_ok-copied.ensures))))
    (λ unchanged. inl (ap (λ f. flight_of f) unchanged)) c.put.ensures.put c.put.ensures.unchanged

-- what is in flight then may have been sent
pub returns-clause-flying : goal.returns-clause-flying
returns-clause-flying c = λ book each.
    let flight = c.args.flight.now.items in
    let at : unwrap_or (slice_get flight c.args.message) None ≡ Some c.in-Some.found.now = search rules in
    by-either c.put.result (λ put. subst (λ f. All (IsFlying book) (flight_of f)) (sym put)
    (flying-put book flight c.args.message c.in_ok-copied.copied (at ∙ ap Some (sym c.in_ok-copied.ensures)) each))
    (λ unchanged. subst (λ f. All (IsFlying book) (flight_of f)) (sym unchanged) each) c.put.ensures.put c.put.ensures.unchanged

-- its answer names no number that wants a cause
pub returns-clause-cause : goal.returns-clause-cause
returns-clause-cause c =
    ok-then c.put.result (λ outcome number. subst NamesNone (sym number) (λ worker old new. tt)) c.put.ensures.number
