use Rattle.std.proofs.Common.{◌≡◌, ◌∙◌, ◌+◌, ◌-◌, ◌++◌, ℕ, List, [], ◌∷◌, length, drop, Option, refl, sym, ap, subst, rules, arith}
use Rattle.std.proofs.lemmas.List.{append-nil, drop_all, drop_more, length-append}
use Rattle.mw_ports.specs.Shelves.{Files}
use Rattle.injector.specs.Sources.{Source}
use Rattle.millwheel_cli.specs.Limits.{lines_limit}
use Rattle.millwheel_cli.specs.Files.{HoldsSource, HoldsSources}
use Rattle.millwheel_cli.specs.Reasons.{IsSourceRefused}
use Rattle.millwheel_cli.proofs.Reasons.{seen_of}
use Rattle.millwheel_cli.proofs.Sources.{taken_next, refused_next}
use Rattle.millwheel_cli.proofs.reading.read_sources.Goals as goal

pub loop-name-preserved : goal.loop-name-preserved
loop-name-preserved g c =
    let l = c.loop-name in
    let i = l.invariant in
    let files = g.S.Shelf.files c.args.shelf.now in
    let names = c.args.names.now in
    let name = c.name-item.result in
    let more = drop (l.name-index + 1) names in
    let source = c.in_ok-items.items in
    let left : drop l.name-index names ≡ name ∷ more =
    drop_more names l.name-index name (omega (arith, c.loop-name-test.true)) ∙ ap (λ n. n ∷ more) (sym c.name-item.is) in
    let room : c.saturating_sub-room.result ≡ l.room - length source =
    c.saturating_sub-room.ensures ∙ ap (λ n. l.room - n) c.count.ensures.count in
    let holds : HoldsSource files l.file l.room name source =
    subst (λ (fs : Option Files). HoldsSource fs l.file l.room name source) i.files c.in_ok-items.ensures.source in
    record {
      number = search rules;
      count = ap length c.in_ok-push.ensures.appended ∙ length-append l.sources (source ∷ []) ∙ ap (λ n. n + 1) i.count;
      files = c.in_ok-items.ensures.files ∙ i.files;
      faults = search rules;
      lacks = search rules;
      taken = λ rest after. subst (λ (s : List Source). HoldsSources files 0 lines_limit names (s ++ rest))
          (sym c.in_ok-push.ensures.appended)
          (taken_next files l.file l.room names _ more name source l.sources left i.taken holds rest
          (subst (λ n. HoldsSources files (l.file + 1) n more rest) room after));
      refused = λ f0 f1 l0 l1 s after. refused_next (seen_of files f0 f1 l0 l1) l.file l.room names _ more name source s left
          (i.refused f0 f1 l0 l1 s) holds
          (subst (λ n. IsSourceRefused (seen_of files f0 f1 l0 l1) (l.file + 1) n more s) room after);
    }

pub returns-clause-sources : goal.returns-clause-sources
returns-clause-sources g c =
    let l = c.loop-name in
    let files = g.S.Shelf.files c.args.shelf.now in
    let names = c.args.names.now in
    let none : drop l.name-index names ≡ [] = drop_all l.name-index names (search rules) in
    subst (HoldsSources files 0 lines_limit names) (append-nil l.sources)
    (l.invariant.taken [] (subst (λ (ns : List (List ℕ)). HoldsSources files l.file l.room ns []) (sym none) refl))
