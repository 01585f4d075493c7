use Rattle.injector.proofs.ShortForms.{short_reading-is}
use Rattle.injector.proofs.short_form.short_reading.Goals as goal

pub returns-in-Ok-clause-reading : goal.returns-in-Ok-clause-reading
returns-in-Ok-clause-reading c =
    short_reading-is _ _ _ _ _ _
    c.in-Some.ensures
    c.in-Some-stamp_of.ensures.spelt
    c.in-Some-text_of.ensures.same
    c.in-Some-text_of.ensures.unescaped
    c.in-Some-text_of.ensures.utf8
    c.in-Ok.ensures.held
    c.in-Ok.ensures.within
    c.in-Some-stamp_of.ensures.bounded
