use Rattle.std.proofs.Common.{subst, sym, rules}
use Rattle.std.specs.Prelude.{nat_le}
use Rattle.std.proofs.lemmas.Fn.{filter_same}
use Rattle.mw_types.specs.declared.identity.RecordId.{RecordId}
use Rattle.row_parts.specs.Contents.{AreSeen}
use Rattle.row_parts.proofs.RowLemmas.{seen_from}
use Rattle.row_parts.proofs.ids.forget_below.Goals as goal

pub returns-clause-rest : goal.returns-clause-rest
returns-clause-rest c = filter_same _ (λ (id : RecordId). nat_le c.args.floor id.commit) _ (λ x b f' k. search rules) _ _ c.retain.ensures

pub returns-clause-ids : goal.returns-clause-ids
returns-clause-ids c = subst (AreSeen c.args.floor) (sym (returns-clause-rest c))
    (seen_from c.args.old c.args.floor c.args.ids.now c.requires.ids)
