use Rattle.std.proofs.Common.{◌≡◌, ◌^◌, List, true, refl, sym, ◌∙◌, ap}
use Rattle.std.proofs.lemmas.Bool.{lt-ltb, le-leb}
use Rattle.mw_types.specs.declared.identity.RecordId.{RecordId}
use Rattle.record_codec.specs.Reading.{kept_from, Lists, are_within}
use Rattle.record_codec.proofs.decode.take_rest.Goals as goal

pub invariant_of-row : goal.invariant_of-row
invariant_of-row c =
    let lists : Lists = (c.in_ok-timers.timers, (c.in_ok-timers.pending, c.in_ok-timers.seen)) in
    let kept : kept_from c.args.floor lists.1.1 ≡ true =
    ap (λ (ids : List RecordId). kept_from c.args.floor ids) (sym c.as_slice.ensures.elements)
    ∙ sym c.is_kept_from.ensures ∙ c.if-is_kept_from.true in
    let within : are_within c.args.last c.args.floor lists ≡ true =
    rw (lt-ltb c.args.last (2 ^ 32) c.if-last-lt-ENTRIES.true, le-leb c.args.floor (2 ^ 32) c.if-floor-le-ENTRIES.true, kept) refl in
    c.requires lists c.in_ok-timers.rest.now c.in_ok-timers.ensures within
