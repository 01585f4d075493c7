use Rattle.std.proofs.Common.{◌∷◌, [], sym, ap, subst, ◌∙◌, arith}
use Rattle.std.specs.Prelude.{All}
use Rattle.std.proofs.lemmas.List.Elements.{All-from_recursion}
use Rattle.mw_types.specs.Kinds.{IsKind}
use Rattle.mw_types.specs.declared.kind.Kind.TheVariants.{Count}
use Rattle.run_history.specs.Cases.{CaseShape}
use Rattle.node.proofs.KindLaws.{kinds_work}
use Rattle.engine_tests.specs.TestKinds.{kinds_of}
use Rattle.engine_tests.proofs.tests.desks.example.Example.work.Goals as goal

-- the parts are those of the case's topology, whose one kind is in range
pub returns : goal.returns
returns c =
    let given = c.args.self.now in
    let one = given.kinds ∙ ap (λ (case : CaseShape). kinds_of case.topology) given.two_lines in
    let within = subst (All IsKind) (sym one) (All-from_recursion IsKind (Count 60 ∷ []) ((omega arith, omega arith), tt)) in
    kinds_work given.case.topology given.work given.injectors given.kinds within
