use Rattle.std.proofs.Common.{◌≡◌, ◌≢◌, ◌∙◌, ap, subst, sym, List}
use Rattle.std.specs.Prelude.{Contains, Ok, Some, length, nat_lt, option_copied}
use Rattle.std.specs.BTreeMap.{insert_entry}
use Rattle.std.specs.Option.{option_map}
use Rattle.mw_types.specs.Orders.{row_cmp}
use Rattle.mw_types.specs.declared.TheConstants.{END}
use Rattle.mw_types.specs.declared.identity.RowName.{RowName}
use Rattle.list_lemmas.proofs.Lists.{some_same}
use Rattle.row_parts.specs.Contents.{Contents}
use Rattle.history_laws.proofs.RowSteps.{same_row}
use Rattle.holdings.specs.Dues.{due_at, due_name, due_of, due_order}
use Rattle.holdings.specs.Indexes.{HasRestamped, IsIndexOf, work_of}
use Rattle.holdings.specs.Keyed.{HasRekeyed, IsThere}
use Rattle.holdings.specs.Seens.{name_if, own_name, seen_of}
use Rattle.holdings.specs.Timers.{timer_of}
use Rattle.holdings.specs.Writing.{IsBefore}
use Rattle.holdings.specs.declared.index.Before.{Before}
use Rattle.holdings.proofs.DueLaws.{due_placed, due_tie}
use Rattle.holdings.proofs.KeyLaws.{keys-there}
use Rattle.holdings.proofs.SeenLaws.{seen_placed}
use Rattle.holdings.proofs.StampLaws.{index-put, index-there, stamp-held}
use Rattle.holdings.proofs.index.rekeyed.Goals as goal

-- what was noted of a row
before-is : (row : Contents) (before : Before) → IsBefore row before
    → record { work = work_of row; timer = timer_of row; seen = nat_lt 0 (length row.seen) } ≡ before
before-is row before has = λ i. record { work = sym has.work i; timer = sym has.timer i; seen = sym has.seen i }

-- the stamp of the row that was there is kept
pub rekey-requires-clause-held : goal.rekey-requires-clause-held
rekey-requires-clause-held c =
    let n = c.requires.noted in
    let index : IsIndexOf n.old c.deref_mut.result.now = subst (IsIndexOf n.old) (sym c.deref_mut.ensures.value)
    (index-there n.old c.args.index c.in-Some.index c.in-Some.is n.noted.kept) in
    subst (λ (b : Before). END ≢ b.work → Contains c.deref_mut.result.now.work b.work) (before-is n.noted.row c.args.before n.noted.has)
    (stamp-held n.old c.args.name.now (Some n.noted.row) c.deref_mut.result.now.work index.work (sym n.noted.was))

-- and so is its first timer
pub rekey-requires-clause-due : goal.rekey-requires-clause-due
rekey-requires-clause-due c =
    let n = c.requires.noted in
    let index : IsIndexOf n.old c.deref_mut.result.now = subst (IsIndexOf n.old) (sym c.deref_mut.ensures.value)
    (index-there n.old c.args.index c.in-Some.index c.in-Some.is n.noted.kept) in
    subst (λ (b : Before). IsThere due_order (option_map (due_at c.args.name.now) b.timer) c.deref_mut.result.now.dues.entries)
    (before-is n.noted.row c.args.before n.noted.has)
    (keys-there due_order due_name due_of due_placed due_tie n.old c.args.name.now (Some n.noted.row)
    c.deref_mut.result.now.dues.entries index.dues (sym n.noted.was))

-- and its name, where it had seen ids
pub rekey-requires-clause-named : goal.rekey-requires-clause-named
rekey-requires-clause-named c =
    let n = c.requires.noted in
    let index : IsIndexOf n.old c.deref_mut.result.now = subst (IsIndexOf n.old) (sym c.deref_mut.ensures.value)
    (index-there n.old c.args.index c.in-Some.index c.in-Some.is n.noted.kept) in
    subst (λ (b : Before). IsThere row_cmp (name_if b.seen c.args.name.now) c.deref_mut.result.now.seen.entries)
    (before-is n.noted.row c.args.before n.noted.has)
    (keys-there row_cmp own_name seen_of seen_placed same_row n.old c.args.name.now (Some n.noted.row)
    c.deref_mut.result.now.seen.entries index.seen (sym n.noted.was))

-- the index is that of the rows, once the row was changed
pub returns-in-Ok : goal.returns-in-Ok
returns-in-Ok c =
    let n = c.requires.noted in
    let name = c.args.name.now in
    let row = c.unwrap.result.now in
    let index : IsIndexOf n.old c.deref_mut.result.now = subst (IsIndexOf n.old) (sym c.deref_mut.ensures.value)
    (index-there n.old c.args.index c.in-Some.index c.in-Some.is n.noted.kept) in
    let back = sym (before-is n.noted.row c.args.before n.noted.has) in
    let same : row ≡ n.row = some_same row n.row (sym (ap option_copied c.unwrap.ensures) ∙ c.get.ensures ∙ n.now) in
    subst (λ (l : List (RowName × Contents)). IsIndexOf l c.rekey.new.self) (sym n.is)
    (subst (λ (r : Contents). IsIndexOf (insert_entry row_cmp n.old name r) c.rekey.new.self) same
    (index-put n.old name row (Some n.noted.row) c.deref_mut.result.now (Ok c.rekey.new.self) n.noted.ordered index (sym n.noted.was)
    (subst (λ (b : Before). HasRestamped (Some b.work) (work_of row) c.deref_mut.result.now.work c.rekey.new.self.work) back
    c.in-Ok.ensures.work)
    (subst (λ (b : Before). HasRekeyed due_order (option_map (due_at name) b.timer) (due_of name row)
    c.deref_mut.result.now.dues.entries c.rekey.new.self.dues.entries) back c.in-Ok.ensures.dues)
    (subst (λ (b : Before). HasRekeyed row_cmp (name_if b.seen name) (seen_of name row)
    c.deref_mut.result.now.seen.entries c.rekey.new.self.seen.entries) back c.in-Ok.ensures.seen)))
