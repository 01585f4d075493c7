use Rattle.std.proofs.Common.{◌≡◌, ◌∙◌, ◌∷◌, ◌+◌, ap, drop, sym}
use Rattle.std.proofs.lemmas.List.{drop_more}
use Rattle.mw_types.specs.declared.delivery.Delivery.{Delivery}
use Rattle.std.proofs.Common.{List}
use Rattle.audit.specs.Keeping.{found_then}
use Rattle.audit.specs.Waits.{waiting_in}
use Rattle.audit.proofs.WaitingLaws.{noted-one}
use Rattle.audit.proofs.waiting.note_sent.Goals as goal

-- one more is noted, and one less is left
pub loop-delivery-preserved : goal.loop-delivery-preserved
loop-delivery-preserved c id =
    let rest = drop (c.loop-delivery.delivery-index + 1) c.args.sent.now in
    let step : drop c.loop-delivery.delivery-index c.args.sent.now ≡ c.delivery-item.result ∷ rest =
    drop_more c.args.sent.now c.loop-delivery.delivery-index c.delivery-item.result c.loop-delivery-test.true
    ∙ ap (λ (d : Delivery). d ∷ rest) (sym c.delivery-item.is) in
    noted-one c.delivery-item.result rest c.loop-delivery.waiting.entries c.note_one.new.waiting.entries id c.in_ok-note_one.ensures
    ∙ ap (λ (l : List Delivery). found_then id l (waiting_in c.loop-delivery.waiting.entries id)) (sym step)
    ∙ c.loop-delivery.invariant id
