use Rattle.std.proofs.Common.{◌∙◌, ap, sym, nat_eq, false}
use Rattle.std.specs.Option.{option_map_or}
use Rattle.topology.specs.Grammar.{member_count}
use Rattle.topology.proofs.Texts.{member_count-members_view}
use Rattle.topology.proofs.grammar.has_members.Goals as goal

pub returns-in-Some : goal.returns-in-Some
returns-in-Some c =
    let count = c.args.count in
    ap (λ n. nat_eq n count) (c.len.ensures.len ∙ sym (member_count-members_view c.in-Some.members.now.entries))
    ∙ ap (λ o. option_map_or (λ members. nat_eq (member_count members) count) o false) c.in-Some.ensures
