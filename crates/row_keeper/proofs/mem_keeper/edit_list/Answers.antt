use Rattle.std.proofs.Common.{◌≡◌, ◌++◌, ◌∙◌, ap, drop, length, rules}
use Rattle.std.proofs.lemmas.List.{take_at}
use Rattle.row_keeper.proofs.Edited.{edited-by_parts}
use Rattle.row_keeper.proofs.mem_keeper.edit_list.Goals as goal

-- the parts make the edit
pub returns-clause-edited : goal.returns-clause-edited
returns-clause-edited c =
    let head = c.args.head.now in
    let long : length c.set_front.new.bytes ≡ c.cut_out.new.list.len = search rules in
    take_at c.set_front.new.bytes _ c.cut_out.new.list.len long ∙ c.set_front.ensures.set
    ∙ ap (λ bytes. head ++ drop (length head) bytes) c.as_mut_slice.ensures.value
    ∙ edited-by_parts head c.args.list.now.items c.args.put.now c.put_in.new.list.items c.cut_out.new.list.items c.args.at c.args.gone
    c.requires.head c.requires.within c.in_ok-put_in.ensures.put c.cut_out.ensures
