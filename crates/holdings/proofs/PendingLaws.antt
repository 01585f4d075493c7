-- What is pending in rows, gone through one after another.
use Rattle.std.proofs.Common.{◌≡◌, ◌<◌, zero, suc, true, false, cond, List, [], ◌∷◌, ◌++◌, length, map, refl, sym, ◌∙◌, ap, subst, arith}
use Rattle.std.specs.Prelude.{Contains, Some}
use Rattle.std.specs.List.{AllByRecursion, flat_map}
use Rattle.std.specs.Map.{lookup}
use Rattle.std.specs.BTreeMap.{is_at}
use Rattle.std.proofs.lemmas.List.Concat.{flat_map-append}
use Rattle.std.proofs.lemmas.List.Elements.{All-contains_itself, All-from_recursion, Contains-append_left, Contains-append_right, recursion_from_All}
use Rattle.mw_types.specs.Orders.{row_cmp}
use Rattle.mw_types.specs.declared.identity.RowName.{RowName}
use Rattle.mw_types.specs.declared.delivery.Delivery.{Delivery}
use Rattle.row_parts.specs.Contents.{Contents}
use Rattle.list_lemmas.proofs.Lists.{each-append, each-map, each-weaker, none_some, some_same}
use Rattle.history_laws.proofs.RowSteps.{same_row}
use Rattle.book.specs.Claims.{named}
use Rattle.book.specs.declared.answers.NamedRow.{NamedRow}
use Rattle.holdings.specs.Caching.{AreOrdered, merged}
use Rattle.holdings.specs.Pendings.{ArePendingAmong, IsPendingAmong, sent_in, sent_of}
use Rattle.holdings.specs.declared.pending.Sent.{Sent}
use Rattle.holdings.proofs.CacheLaws.{lookup-merged}
use Rattle.holdings.proofs.FirstLaws.{each-merged}

-- the image of what a list contains is contained in the images
contains-map : {X Y : Type 0} (f : X → Y) (xs : List X) (x : X) → Contains xs x → Contains (map f xs) (f x)
contains-map f [] x (k, within, at) = absurd (omega (arith, within))
contains-map f (y ∷ ys) x (zero, within, at) = (zero, (let w : zero < length (map f (y ∷ ys)) = omega arith in w), ap f at)
contains-map f (y ∷ ys) x (suc k, within, at) =
    let rest = contains-map f ys x (k, omega (arith, within), at) in
    (suc rest.0, (let w : suc rest.0 < length (map f (y ∷ ys)) = omega (arith, rest.1) in w), rest.2)

-- what is pending in rows that are found is pending
sent-each : (rows es : List (RowName × Contents)) → AllByRecursion (λ (e : RowName × Contents). lookup (is_at (row_cmp e.0)) rows ≡ Some e.1) es
    → AllByRecursion (IsPendingAmong rows) (flat_map sent_in es)
sent-each rows [] each = tt
sent-each rows (e ∷ es) each = each-append (IsPendingAmong rows) (sent_in e) (flat_map sent_in es)
    (each-map (IsPendingAmong rows) (sent_of e.0) e.1.pending
    (each-weaker (Contains e.1.pending) (λ (d : Delivery). IsPendingAmong rows (sent_of e.0 d))
    (λ d has. record { row = e.1; there = each.0; pending = has }) e.1.pending
    (recursion_from_All (Contains e.1.pending) e.1.pending (All-contains_itself e.1.pending))))
    (sent-each rows es each.1)

-- what is pending in a row that is found is there
sent-all : (es : List (RowName × Contents)) (one : Sent) (row : Contents) → lookup (is_at (row_cmp one.sender)) es ≡ Some row
    → Contains row.pending one.delivery → Contains (flat_map sent_in es) one
sent-all [] one row found has = absurd (none_some row found)
sent-all (e ∷ es) one row found has =
    elim (is_at (row_cmp one.sender) e.0) as (λ b. is_at (row_cmp one.sender) e.0 ≡ b
    → cond b (Some e.1) (lookup (is_at (row_cmp one.sender)) es) ≡ Some row → Contains (sent_in e ++ flat_map sent_in es) one) [
      | true ↦ λ tie here. Contains-append_left (sent_in e) (flat_map sent_in es) one
          (subst (λ (n : RowName). Contains (sent_in (n, e.1)) one) (same_row one.sender e.0 tie)
          (subst (λ (r : Contents). Contains (sent_in (one.sender, r)) one) (sym (some_same e.1 row here))
          (contains-map (sent_of one.sender) row.pending one.delivery has)))
      | false ↦ λ _ rest. Contains-append_right (sent_in e) (flat_map sent_in es) one (sent-all es one row rest has)
    ] refl found

-- all that is pending in the rows of a list and in those beside it
pub pending-merged : (answered : List NamedRow) (others : List (RowName × Contents)) (sent : List Sent) → AreOrdered answered others
    → sent ≡ flat_map sent_in (map named answered) ++ flat_map sent_in others → ArePendingAmong (merged answered others) sent
pending-merged answered others sent are is = subst (ArePendingAmong (merged answered others))
    (sym (is ∙ sym (flat_map-append sent_in (map named answered) others))) (record {
      each = All-from_recursion (IsPendingAmong (merged answered others)) (flat_map sent_in (map named answered ++ others))
          (sent-each (merged answered others) (map named answered ++ others) (each-merged answered others are));
      all = λ one has. sent-all (map named answered ++ others) one has.row (sym (lookup-merged one.sender answered others) ∙ has.there) has.pending;
    })
