-- Workers that get their seats one by one.
use Rattle.std.proofs.Common.{◌≡◌, ◌∙◌, ◌<◌, ◌+◌, ◌++◌, ◌∷◌, ℕ, zero, suc, Bool, true, false, List, [], length, refl, sym, ap, subst, arith, inl, inr, length-append}
use Rattle.std.specs.Prelude.{All, slice_index_or}
use Rattle.std.proofs.lemmas.Bool.{cases_eq}
use Rattle.std.proofs.lemmas.List.{get_or_append_left, get_or_at}
use Rattle.row_keeper.specs.declared.keeper.Keeper.{Ghosts}
use Rattle.atomic_table.specs.Seated.{TableId}
use Rattle.run_history.specs.Cases.{CaseShape}
use Rattle.workers.specs.declared.mailbox.Mailbox.{Mailbox}
use Rattle.workers.specs.declared.passes.MailPass.{MailPass}
use Rattle.shared_book.specs.Opening.{span}
use Rattle.shared_book.specs.declared.seats.Note.{Note}
use Rattle.shared_book.specs.declared.views.Basis.{Basis}
use Rattle.shared_book.specs.declared.views.View.{View}
use Rattle.workers.specs.Passing.{ArePasses}
use Rattle.workers.specs.Boxes.{HavePasses}
use Rattle.workers.specs.Crews.{AreCalm, AreWorkers, IsWorker, desk_of, stall_of}
use Rattle.workers.specs.Runs.{HasDealt, IsHired, passes_in}
use Rattle.workers.specs.declared.crew.Worker.{Worker}

-- ---- numbers

-- two numbers at least, where there is one more
pub span-two : (from left : ℕ) → 0 < left → (rest : List ℕ) × (span from (left + 1) ≡ from ∷ suc from ∷ rest)
span-two from zero some = absurd (omega (arith, some))
span-two from (suc left) some =
    let many : suc left + 1 ≡ suc (suc left) = omega arith in
    (span (suc (suc from)) left, ap (span from) many)

-- ---- seats

-- one seat more was dealt
pub dealt-more : (old mid new : View) → HasDealt old mid → HasDealt mid new → HasDealt old new
dealt-more old mid new one two = record {
  basis = two.basis ∙ one.basis;
  front = two.front ∙ one.front;
  own = two.own ∙ one.own;
  faults = two.faults ∙ one.faults;
}

-- a worker that was hired since was hired
pub hired-since : {K J : Type 0} {g : Ghosts K} (old mid : View) (worker : Worker K J g) → HasDealt old mid → IsHired mid worker
    → IsHired old worker
hired-since old mid worker dealt hired = record {
  own = hired.own;
  limit = hired.limit ∙ ap (λ (b : Basis). b.limit) dealt.basis;
  told = hired.told ∙ ap (λ (b : Basis). b.told) dealt.basis;
  fault = hired.fault;
  calm = hired.calm;
}

calm-none : (own : ℕ) (stall : Bool) → own + stall_of stall ≡ 0 → stall ≡ false
calm-none own true none = absurd (omega (arith, none))
calm-none own false none = refl

-- who was just hired does not stall
pub hired-calm : {K J : Type 0} {g : Ghosts K} (v : View) (crew : List (Worker K J g)) → All (IsHired v) crew → AreCalm crew
hired-calm {K} {J} {g} v crew hired k d below =
    let w : Worker K J g = slice_index_or crew k d in
    calm-none (length (desk_of w).own) w.orders.stall (hired k d below).calm

-- ---- all workers

-- a fact of each worker holds, where it holds of one that comes behind the others
pub all-push : {W : Type 0} (fact : W → Type 0) (crew : List W) (w : W) → All fact crew → fact w → All fact (crew ++ w ∷ [])
all-push {W} fact crew w all is k d below = elim (cases_eq k (length crew)) [
  | inl same ↦ subst fact (sym (get_or_at crew w [] d k (sym same))) is
  | inr other ↦
      let inside : k < length crew = (let long = length-append crew (w ∷ []) in omega (arith, below, long, other)) in
      subst fact (sym (get_or_append_left crew (w ∷ []) d k inside)) (all k d inside)
]

-- one worker more, who has the next number
pub workers-push : {K J : Type 0} {g : Ghosts K} (id : TableId) (case : CaseShape) (crew : List (Worker K J g)) (w : Worker K J g)
    → AreWorkers id case crew → IsWorker id case w → w.node.number ≡ length crew → AreWorkers id case (crew ++ w ∷ [])
workers-push {K} {J} {g} id case crew w are is number = record {
  each = all-push (IsWorker id case) crew w are.each is;
  numbered = λ k d below. elim (cases_eq k (length crew)) [
    | inl same ↦
        subst (λ (v : Worker K J g). v.node.number ≡ k) (sym (get_or_at crew w [] d k (sym same))) (number ∙ sym same)
    | inr other ↦
        let inside : k < length crew = (let long = length-append crew (w ∷ []) in omega (arith, below, long, other)) in
        subst (λ (v : Worker K J g). v.node.number ≡ k) (sym (get_or_append_left crew (w ∷ []) d k inside)) (are.numbered k d inside)
  ];
}

-- the passes of one worker more
pub passes-push : {K J : Type 0} {g : Ghosts K} (crew : List (Worker K J g)) (w : Worker K J g)
    → passes_in (crew ++ w ∷ []) ≡ passes_in crew ++ w.passes ∷ []
passes-push [] w = refl
passes-push {K} {J} {g} (v ∷ crew) w = ap (λ (l : List (List (MailPass (Note K g) J))). v.passes ∷ l) (passes-push crew w)

-- the passes of a worker at its place
passes-at : {K J : Type 0} {g : Ghosts K} (crew : List (Worker K J g)) (k : ℕ) (d : Worker K J g) → k < length crew
    → slice_index_or (passes_in crew) k d.passes ≡ (slice_index_or crew k d).passes
passes-at [] k d below = absurd (omega (arith, below))
passes-at (w ∷ crew) zero d below = refl
passes-at (w ∷ crew) (suc k) d below = passes-at crew k d (omega (arith, below))

passes-long : {K J : Type 0} {g : Ghosts K} (crew : List (Worker K J g)) → length (passes_in crew) ≡ length crew
passes-long [] = refl
passes-long (w ∷ crew) = ap suc (passes-long crew)

-- who got passes of all mailboxes has them
pub passes-have : {K J : Type 0} {g : Ghosts K} (count : ℕ) (boxes : List (Mailbox (Note K g) J)) (crew : List (Worker K J g))
    (all : List (List (MailPass (Note K g) J))) → passes_in crew ≡ all → HavePasses count boxes all
    → All (λ (w : Worker K J g). ArePasses count boxes w.passes) crew
passes-have {K} {J} {g} count boxes crew all same have k d below =
    let there : k < length all = (let long = ap length same in let many = passes-long crew in omega (arith, below, long, many)) in
    subst (λ (l : List (MailPass (Note K g) J)). ArePasses count boxes l)
    (ap (λ (l : List (List (MailPass (Note K g) J))). slice_index_or l k d.passes) (sym same) ∙ passes-at crew k d below)
    (have k d.passes there)
