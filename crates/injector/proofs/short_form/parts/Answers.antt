use Rattle.std.proofs.Common.{codes}
use Rattle.injector.proofs.ShortForms.{prefix-is, suffix-is, split-is, short_line-parts}
use Rattle.injector.proofs.short_form.parts.Goals as goal

pub returns : goal.returns
returns c =
    short_line-parts _ _ _ _ _ _
    (prefix-is _ (codes "{\"key\":\"") _ c.in_ok-rest.ensures.cases.0 c.in_ok-rest.ensures.cases.1)
    (split-is _ _ _ _ c.split_at.ensures.front c.split_at.ensures.back)
    (prefix-is _ (codes "\",\"ts\":") _ c.in_ok-rest-2.ensures.cases.0 c.in_ok-rest-2.ensures.cases.1)
    (suffix-is _ (codes "}") _ c.in_ok-digits.ensures.cases.0 c.in_ok-digits.ensures.cases.1)
