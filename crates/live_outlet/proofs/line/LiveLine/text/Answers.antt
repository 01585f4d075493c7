use Rattle.std.proofs.Common.{◌≡◌, ◌++◌, [], ◌∙◌, ap}
use Rattle.json.specs.Print.{print}
use Rattle.live_outlet.specs.LiveLines.{live_data}
use Rattle.run_history.specs.Printing.{tokens_of}
use Rattle.serde_json.proofs.Texts.{print-outline}
use Rattle.live_outlet.proofs.line.LiveLine.text.Goals as goal

pub returns : goal.returns
returns c =
    let value = live_data c.args.self.now in
    let tokens : c.write.new.writer.tokens ≡ tokens_of value =
    c.in_ok-write.ensures.object ∙ ap (λ l. l ++ tokens_of value) c.new-writer.ensures.tokens in
    let none : c.write.new.writer.before ≡ [] =
    c.in_ok-write.ensures.before ∙ c.new-writer.ensures.before ∙ c.in_ok-with_capacity.ensures.items in
    c.into_inner.ensures.items
    ∙ ap (λ l. l ++ print c.write.new.writer.tokens) none
    ∙ ap print tokens
    ∙ print-outline value
