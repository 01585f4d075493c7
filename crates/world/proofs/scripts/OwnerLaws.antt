-- What a deed under a lease comes to, by whether the lease was overtaken.
use Rattle.std.proofs.Common.{◌≡◌, ◌∙◌, ◌<◌, ℕ, true, false, List, ap, arith}
use Rattle.std.specs.Prelude.{if◌then◌else◌, nat_lt, Option, None, Some}
use Rattle.std.specs.Option.{option_map}
use Rattle.mw_types.specs.declared.entry.Entry.{Entry}
use Rattle.topology.specs.Shapes.{Shape}
use Rattle.run_history.specs.Fences.{IsCurrent, IsOvertakenBy}
use Rattle.book.specs.Books.{LeaseView}
use Rattle.node.specs.Workers.{where_passes}
use Rattle.node.specs.declared.outcome.Outcome.TheVariants as outcomes
use Rattle.world.specs.scripts.Acts.{Deed, changed_by, done, done_unless, lost, stale_in}
use Rattle.world.specs.scripts.Worlds.{World, overtaken_by}

-- a number is not below itself
below-itself : (n : ℕ) → nat_lt n n ≡ false
below-itself n = grind arith

-- one number is below another
below-other : (n m : ℕ) → n < m → nat_lt n m ≡ true
below-other n m less = grind (arith, less)

-- the last claim was not overtaken
current-stays : (history : List Entry) (lease : LeaseView) → IsCurrent lease.interval lease.seq history
    → overtaken_by history lease ≡ None
current-stays history lease last = ap (where_passes (nat_lt lease.seq)) last
    ∙ ap (λ b. if b then Some lease.seq else None) (below-itself lease.seq)

-- a later claim has overtaken a lease
pub later-overtakes : (history : List Entry) (lease : LeaseView) (newer : ℕ) → IsOvertakenBy newer lease.interval lease.seq history
    → overtaken_by history lease ≡ Some newer
later-overtakes history lease newer later = ap (where_passes (nat_lt lease.seq)) later.0
    ∙ ap (λ b. if b then Some newer else None) (below-other lease.seq newer later.1)

-- a deed under a lease, by the claim that has overtaken the lease, if one has
done-under : (shape : Shape) (world : World) (deed : Deed) (lease : LeaseView) (newer : Option ℕ) → deed.under ≡ Some lease
    → overtaken_by world.history lease ≡ newer
    → done shape world deed ≡ done_unless shape world deed (option_map (λ (n : ℕ). (lease, n)) newer)
done-under shape world deed lease newer under is =
    ap (λ o. done_unless shape world deed (stale_in world.history o)) under
    ∙ ap (λ o. done_unless shape world deed (option_map (λ (n : ℕ). (lease, n)) o)) is

-- a deed under the last claim is done
pub done-current : (shape : Shape) (world : World) (deed : Deed) (lease : LeaseView) → deed.under ≡ Some lease
    → IsCurrent lease.interval lease.seq world.history → done shape world deed ≡ (deed.answer, changed_by shape world deed)
done-current shape world deed lease under last =
    done-under shape world deed lease None under (current-stays world.history lease last)

-- a deed under a lease that was overtaken is not done
pub done-overtaken : (shape : Shape) (world : World) (deed : Deed) (lease : LeaseView) (newer : ℕ) → deed.under ≡ Some lease
    → IsOvertakenBy newer lease.interval lease.seq world.history
    → done shape world deed ≡ (outcomes.Stale newer, lost shape world deed lease)
done-overtaken shape world deed lease newer under later =
    done-under shape world deed lease (Some newer) under (later-overtakes world.history lease newer later)
