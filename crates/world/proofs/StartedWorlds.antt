-- New workers, and the world in which a script begins.
use Rattle.std.proofs.Common.{◌≡◌, ◌∙◌, ◌+◌, ◌<◌, ◌++◌, ◌∷◌, ℕ, List, [], length, get_or, refl, sym, ap, subst, arith, inl, inr, length-append}
use Rattle.std.specs.Prelude.{All, Bool, Err, IfErr, IfOk, Ok, OnOk, Result, Some, map, replicate, slice_get, slice_set, take}
use Rattle.std.proofs.lemmas.Bool.{cases_eq, cases_lt}
use Rattle.std.proofs.lemmas.List.{get_or-set_other, get_or-set_same, get_or_append_left, length-replicate, length-set, map-append, replicate-append-replicate, take_all, take_more_set}
use Rattle.std.proofs.lemmas.List.FromFn.{length-map-range_with_len}
use Rattle.std.proofs.lemmas.List.Elements.{All-from_recursion, All-push}
use Rattle.std.proofs.lemmas.Option.{get_or_from_slice_get, slice_get-get_or, slice_get_within}
use Rattle.std.proofs.Math.Seq.{get_or-append_seam, take-append_seam}
use Rattle.topology.specs.Folding.{RoutesView, folded, routes_to, strong_from}
use Rattle.topology.specs.Shapes.{Shape, parts_of, stream_of}
use Rattle.run_history.specs.Cases.{CaseShape}
use Rattle.book.specs.Books.{BookView}
use Rattle.book.specs.Desks.{DeskView}
use Rattle.book.specs.OwnDesks.{own_view}
use Rattle.node.specs.Fits.{Fits}
use Rattle.node.specs.Workers.{NodeView, Worker, idle, worker_at}
use Rattle.node.specs.declared.outcome.NodeFault.{NodeFault}
use Rattle.world.specs.scripts.Keeping.{AreClaimed}
use Rattle.world.specs.scripts.Worlds.{World, world_on}
use Rattle.world.proofs.scripts.Leases.{AreClaimed-first}
use Rattle.world.specs.scripts.Standing.{IsFlying, IsWorld}
use Rattle.world.specs.scripts.WorkerCalls.{AreNewTo}
use Rattle.world.specs.WorldDrains.{AreNew, HasDrain}
use Rattle.world.specs.scripts.WorldStates.{IsFolding, WorldState, world_of}
use Rattle.world.specs.drains.DrainTurns.{DrainView, HasDrained, IsUnderWay}
use Rattle.world.specs.drains.Turns.{HasFailed}

-- one worker more
pub new-more : (count : ℕ) (nodes : List NodeView) (node : NodeView) → AreNew count nodes → node.number ≡ count
    → worker_at node ≡ idle → ((case : CaseShape) (desk : DeskView) → desk.case ≡ case → Fits case desk node)
    → AreNew (count + 1) (nodes ++ node ∷ [])
new-more count nodes node new number nothing fits = record {
  all = size;
  numbered = λ n x found. elim (cases_lt n (length nodes)) [
    | inl less ↦ new.numbered n x (slice_get-get_or nodes n node less
        ∙ ap Some (sym (get_or_append_left nodes (node ∷ []) node n less)
        ∙ get_or_from_slice_get (nodes ++ node ∷ []) n x node found))
    | inr past ↦
        let within = slice_get_within (nodes ++ node ∷ []) n x found in
        let all = new.all in
        let last : n ≡ length nodes = omega (arith, within, size, past, all) in
        let is_node : node ≡ x = sym (get_or-append_seam nodes node [] node)
        ∙ ap (λ k. get_or (nodes ++ node ∷ []) k node) (sym last)
        ∙ get_or_from_slice_get (nodes ++ node ∷ []) n x node found in
        sym (ap (λ (m : NodeView). m.number) is_node) ∙ number ∙ sym all ∙ sym last
  ];
  have_nothing = map-append worker_at nodes (node ∷ []) ∙ ap (λ (ws : List Worker). ws ++ worker_at node ∷ []) new.have_nothing
      ∙ ap (λ w. replicate count idle ++ w ∷ []) nothing ∙ replicate-append-replicate count 1 idle;
  fit = λ case desk same. All-push (Fits case desk) nodes node (new.fit case desk same) (fits case desk same);
}
  where
    size : length (nodes ++ node ∷ []) ≡ count + 1
    size = length-append nodes (node ∷ []) ∙ ap (λ k. k + 1) new.all

-- a world of these workers, in which nothing is in flight and relays hold nothing
abbrev pub world_of_new : RoutesView → BookView → List NodeView → WorldState
world_of_new routes book nodes = record {
  book = book;
  nodes = nodes;
  flight = [];
  left = [];
  relays = replicate routes.weaks [];
  routes = routes;
}

-- where the workers are new it is the one in which a script begins
pub begun : (routes : RoutesView) (book : BookView) (nodes : List NodeView) → AreNew 16 nodes
    → world_of (world_of_new routes book nodes) ≡ world_on routes book.history book.marks
begun routes book nodes new =
    ap (λ (ws : List Worker). let w : World = record (world_on routes book.history book.marks) { workers = ws } in w) new.have_nothing

-- and it is a world
pub started : (routes : RoutesView) (book : BookView) (nodes : List NodeView) → AreNew 16 nodes
    → length routes.by_part ≡ parts_of book.case.topology → IsWorld (world_of_new routes book nodes)
started routes book nodes new routed = record {
  sixteen = new.all;
  numbered = new.numbered;
  fit = new.fit book.case (own_view book) refl;
  claimed = subst AreClaimed (sym (begun routes book nodes new)) (AreClaimed-first routes book.history book.marks);
  flying = All-from_recursion (IsFlying book) [] tt;
  few = omega arith;
  on_way = tt;
  relays = length-replicate routes.weaks [];
  routed = routed;
}

-- what folding leaves has routes for each of its parts
pub routed-folded : (shape : Shape) (routes : RoutesView) → IsFolding shape routes → length routes.by_part ≡ parts_of shape
routed-folded shape routes is =
    ap (λ (r : RoutesView). length r.by_part) is.ways
    ∙ length-map-range_with_len (λ part. routes_to (strong_from 0 is.file.computations) (stream_of (folded is.file) part)) 0
    (parts_of (folded is.file))
    ∙ ap parts_of (sym is.left)

-- ---- workers that crash one after another

-- none of them has crashed yet
pub crashed-none : (nodes : List NodeView) → length nodes ≡ 16
    → ((number : ℕ) (node : NodeView) → slice_get nodes number ≡ Some node → node.number ≡ number) → AreNewTo 0 nodes
crashed-none nodes all numbered = record {
  all = all;
  numbered = numbered;
  have_nothing = refl;
  fit = λ case desk same. All-from_recursion (Fits case desk) [] tt;
}

-- one more has
pub crashed-more : (count : ℕ) (nodes : List NodeView) (was node : NodeView) → AreNewTo count nodes → count < 16
    → slice_get nodes count ≡ Some was → node.number ≡ was.number → worker_at node ≡ idle
    → ((case : CaseShape) (desk : DeskView) → desk.case ≡ case → Fits case desk node)
    → AreNewTo (count + 1) (slice_set nodes count node)
crashed-more count nodes was node new less at number nothing fits = record {
  all = size ∙ new.all;
  numbered = λ n x found. elim (cases_eq n count) [
    | inl same ↦
        let is_node : node ≡ x = sym (ap (λ k. get_or (slice_set nodes count node) k node) same
        ∙ get_or-set_same nodes count node node within) ∙ get_or_from_slice_get (slice_set nodes count node) n x node found in
        sym (ap (λ (m : NodeView). m.number) is_node) ∙ number ∙ new.numbered count was at ∙ sym same
    | inr apart ↦
        let there = slice_get_within (slice_set nodes count node) n x found in
        let long = size in
        new.numbered n x (slice_get-get_or nodes n node (omega (arith, there, long))
        ∙ ap Some (sym (get_or-set_other nodes count n node node apart)
        ∙ get_or_from_slice_get (slice_set nodes count node) n x node found))
  ];
  have_nothing = ap (map worker_at) taken ∙ map-append worker_at (take count nodes) (node ∷ [])
      ∙ ap (λ (ws : List Worker). ws ++ worker_at node ∷ []) new.have_nothing
      ∙ ap (λ w. replicate count idle ++ w ∷ []) nothing ∙ replicate-append-replicate count 1 idle;
  fit = λ case desk same. subst (All (Fits case desk)) (sym taken)
      (All-push (Fits case desk) (take count nodes) node (new.fit case desk same) (fits case desk same));
}
  where
    within : count < length nodes
    within = let all = new.all in omega (arith, all, less)

    size : length (slice_set nodes count node) ≡ length nodes
    size = length-set nodes count node

    taken : take (count + 1) (slice_set nodes count node) ≡ take count nodes ++ node ∷ []
    taken = take_more_set nodes count node within

-- all have
pub crashed-all : (nodes : List NodeView) → AreNewTo 16 nodes → AreNew 16 nodes
crashed-all nodes new = record {
  all = new.all;
  numbered = new.numbered;
  have_nothing = ap (map worker_at) (sym whole) ∙ new.have_nothing;
  fit = λ case desk same. subst (All (Fits case desk)) whole (new.fit case desk same);
}
  where
    whole : take 16 nodes ≡ nodes
    whole = take_all 16 nodes (let all = new.all in omega (arith, all))

-- and stand in the vector whose slice they are
pub crashed-whole : (len : ℕ) (new rest : List NodeView) → len ≡ 16 → AreNew 16 new → AreNew 16 (take len (new ++ rest))
crashed-whole len new rest size is =
    subst (AreNew 16) (sym (ap (λ n. take n (new ++ rest)) (size ∙ sym is.all) ∙ take-append_seam new rest)) is

-- ---- a drain of a world

-- a world of new workers, in which nothing is in flight and no relay holds anything
pub record IsIdle (world : WorldState) : Type 0 where
  pub new : AreNew 16 world.nodes
  pub none : world.flight ≡ []
  pub none_left : world.left ≡ []
  pub forgot : world.relays ≡ replicate world.routes.weaks []

-- so it is in a drain
pub idle-drain : (world : WorldState) (drain : DrainView) → HasDrain world drain → IsIdle world
idle-drain world drain has = record { new = has.idle; none = has.none; none_left = has.none_left; forgot = has.forgot }

-- over each book it is a world of new workers
idle-is : (book : BookView) (world : WorldState) → IsIdle world
    → record world { book = book } ≡ world_of_new world.routes book world.nodes
idle-is book world is =
    let flies = is.none in
    let goes = is.none_left in
    let held = is.forgot in
    λ i. record world { book = book; flight = flies i; left = goes i; relays = held i }

-- workers that are new stand in a world over each book
pub draining-world : (book : BookView) (world : WorldState) → IsIdle world → length world.routes.by_part ≡ parts_of book.case.topology
    → IsWorld (record world { book = book })
draining-world book world is routed =
    subst IsWorld (sym (idle-is book world is)) (started world.routes book world.nodes is.new routed)

-- a drain is under way over the book that its turn leaves
pub drain-on : (old : WorldState) (book : BookView) (was drain : DrainView) → HasDrain old was → IsUnderWay book drain
    → HasDrain (record old { book = book }) drain
drain-on old book was drain has under = record {
  under_way = under;
  idle = has.idle;
  none = has.none;
  none_left = has.none_left;
  forgot = has.forgot;
}

-- a turn keeps the case, however it ends
pub turned-case : (r : Result Bool NodeFault) (from : ℕ) (old new : BookView) → IfOk r (HasDrained from old new)
    → IfErr r (HasFailed old new) → new.case ≡ old.case
turned-case (Ok more) from old new drained failed = drained.stepped.case
turned-case (Err why) from old new drained failed = failed.stepped.case

-- of what is left where a turn did not fail
pub ok-left : {T E : Type 0} {Q S : Type 0} (r : Result T E) → (Q → S) → OnOk r Q → OnOk r S
ok-left (Ok x) f one = f one
ok-left (Err e) f one = tt

-- the workers of a world that is drained have nothing, and no message is in flight
pub drained-world : (book : BookView) (world : WorldState) → IsIdle world
    → world_of (record world { book = book }) ≡ world_on world.routes book.history book.marks
drained-world book world is = ap world_of (idle-is book world is) ∙ begun world.routes book world.nodes is.new
