-- How many lines a worker's calls injected: at least so many, and so exactly.
use Rattle.std.proofs.Common.{◌≡◌, ◌<◌, ◌≤◌, ◌+◌, ◌∷◌, ◌∙◌, ℕ, List, [], length, refl, sym, ap, subst, arith, inl, inr, ⊎_elim}
use Rattle.std.specs.Prelude.{◌⊎◌, Option, Some, None, IfOk, IfSome, IsSome, Result, Ok, Err}
use Rattle.std.specs.Option.{option_and_then, option_map}
use Rattle.std.proofs.lemmas.Bool.{cases_lt, lt-ltb}
use Rattle.list_lemmas.proofs.Lists.{none_some, some_same}
use Rattle.list_lemmas.proofs.Told.{if-anyway, if-same}
use Rattle.mw_types.specs.declared.entry.Entry.{Entry}
use Rattle.mw_types.specs.declared.entry.Entry.TheVariants as entries
use Rattle.mw_types.specs.declared.identity.RowName.{RowName}
use Rattle.injector.specs.Sources.{item_at}
use Rattle.injector.specs.declared.item.Item.{Item}
use Rattle.topology.specs.Shapes.{injectors_of}
use Rattle.row_parts.specs.Contents.{Contents, cursor_in}
use Rattle.run_history.specs.Cases.{CaseShape, record_of, source_of}
use Rattle.run_history.specs.Fences.{IsClaimed, IsFenced, IsOvertakenBy, interval_of}
use Rattle.run_history.specs.Legal.{IsLegal}
use Rattle.book.specs.Desks.{DeskView, IsSound}
use Rattle.holdings.specs.Holding.{HeldView, held_at, row_held}
use Rattle.node.specs.Answers.{AnswersAsked, AnswersWrite}
use Rattle.node.specs.Asking.{line_asked, next_line}
use Rattle.node.specs.Fits.{Fits}
use Rattle.node.specs.Workers.{NodeView, leases_of, worker_at}
use Rattle.node.specs.declared.outcome.NodeFault.{NodeFault}
use Rattle.node.specs.declared.outcome.Outcome.{Outcome}
use Rattle.node.specs.declared.outcome.Outcome.TheVariants as outcomes
use Rattle.workers.specs.Serving.{HasInjectedLeast, HasLeastLines, HasLeastLinesOf, HasServedLines, IsBusy, lines_each, lines_told}
use Rattle.workers.specs.Slices.{HasInjected, HasLines, IsOvertaken, injected}
use Rattle.workers.proofs.InjectedLaws.{cursor-known, injected-append, injected-line, injected-more, injected-within, line-past}
use Rattle.workers.proofs.Leases.{lease-held, overtaken-more}

-- ---- lines are added up

-- the lines of an injector whose interval a worker held, at least so many
abbrev LinesHeld : ℕ → CaseShape → ℕ → NodeView → List Entry → List Entry → Type 0
LinesHeld many case part was old new = (interval seq : ℕ) →
    interval_of case.topology (record { part = part; key = [] }) ≡ Some interval →
    leases_of was.held interval ≡ Some seq → IsOvertaken interval seq new ⊎ HasLeastLines many case part old new

-- what follows from two facts that are told
both-told : {X : Type 0} (one two : Option X) (P Q R : Type 0) → two ≡ one → (P → Q → R) → IfSome one (λ _. P) → IfSome two (λ _. Q)
    → IfSome one (λ _. R)
both-told None two P Q R same step p q = tt
both-told (Some x) two P Q R same step p q = step p (subst (λ o. IfSome o (λ _. Q)) same q)

-- what is told, where something is
told-there : {X : Type 0} {P : Type 0} (o : Option X) → IsSome o → IfSome o (λ _. P) → P
told-there None there told = absurd cc
told-there (Some x) there told = told

-- calls that are done injected no lines less
pub lines-none : {case : CaseShape} {old new : DeskView} {was node : NodeView} {n : ℕ} {f : ℕ → ℕ} (part : ℕ) → HasServedLines case n f old new was node
    → HasLeastLinesOf 0 case part was old new
lines-none {case = case} {old = old} {new = new} {was = was} part served =
    if-anyway old.told (LinesHeld 0 case part was old.seen new.seen) (λ interval seq lies holds.
    inr (let more = injected-more part old.seen served.worked.rest new.seen served.worked.more in omega (arith, more)))

-- lines after lines, of which so many are asked for
pub lines-then : {case : CaseShape} {old mid new : DeskView} {was between node : NodeView} {a b : ℕ} {f g : ℕ → ℕ} (part m n k : ℕ) → k ≤ m + n
    → HasServedLines case a f old mid was between → HasServedLines case b g mid new between node
    → HasLeastLinesOf m case part was old mid → HasLeastLinesOf n case part between mid new → HasLeastLinesOf k case part was old new
lines-then {case} {old} {mid} {new} {was} {between} part m n k less one two first second =
    both-told old.told mid.told (LinesHeld m case part was old.seen mid.seen) (LinesHeld n case part between mid.seen new.seen)
    (LinesHeld k case part was old.seen new.seen) one.worked.told step first second
  where
    overtaken : (interval seq : ℕ) → IsOvertaken interval seq mid.seen → IsOvertaken interval seq new.seen
    overtaken interval seq gone = subst (IsOvertaken interval seq) (sym two.worked.more)
        (overtaken-more interval seq mid.seen two.worked.rest gone)

    added : HasLeastLines m case part old.seen mid.seen → HasLeastLines n case part mid.seen new.seen → HasLeastLines k case part old.seen new.seen
    added here there =
        let before = injected-more part old.seen one.worked.rest mid.seen one.worked.more in
        let after = injected-more part mid.seen two.worked.rest new.seen two.worked.more in
        omega (arith, less, here, there, before, after)

    step : LinesHeld m case part was old.seen mid.seen → LinesHeld n case part between mid.seen new.seen
        → LinesHeld k case part was old.seen new.seen
    step here there interval seq lies holds = ⊎_elim
        (λ gone. inl (overtaken interval seq gone))
        (λ lines. ⊎_elim
        (λ held. ⊎_elim (λ gone. inl gone) (λ rest. inr (added lines rest)) (there interval seq lies held))
        (λ gone. inl (overtaken interval seq gone))
        (one.kept interval seq holds))
        (here interval seq lies holds)

-- so many lines of those that were injected
pub lines-less : (case : CaseShape) (part m k : ℕ) (old new : DeskView) (was : NodeView) → k ≤ m → HasLeastLinesOf m case part was old new
    → HasLeastLinesOf k case part was old new
lines-less case part m k old new was less lines = if-same old.told old.told (LinesHeld m case part was old.seen new.seen)
    (LinesHeld k case part was old.seen new.seen) refl (λ held interval seq lies holds. ⊎_elim
    (λ gone. inl gone) (λ more. inr (omega (arith, less, more))) (held interval seq lies holds)) lines

-- the lines of one injector more
pub lines-more : {case : CaseShape} {old mid new : DeskView} {was between node : NodeView} {a b : ℕ} {f g : ℕ → ℕ} (parts : ℕ)
    → HasServedLines case a f old mid was between → HasServedLines case b g mid new between node
    → ((part : ℕ) → part < parts → HasLeastLinesOf 16 case part was old mid) → HasLeastLinesOf 16 case parts between mid new
    → (part : ℕ) → part < parts + 1 → HasLeastLinesOf 16 case part was old new
lines-more {case} {old} {mid} {new} {was} parts one two each last part less = elim (cases_lt part parts) [
  | inl before ↦ lines-then part 16 0 16 (omega arith) one two (each part before) (lines-none part two)
  | inr past ↦ let same : parts ≡ part = omega (arith, less, past) in
      subst (λ (p : ℕ). HasLeastLinesOf 16 case p was old new) same
      (lines-then parts 0 16 16 (omega arith) one two (lines-none parts one) last)
]

-- each injector's lines, behind other calls
pub injected-behind : {case : CaseShape} {old mid new : DeskView} {was between node : NodeView} {a b : ℕ} {f g : ℕ → ℕ}
    → HasServedLines case a f old mid was between → HasServedLines case b g mid new between node → HasInjectedLeast case between mid new
    → HasInjectedLeast case was old new
injected-behind one two injects part less = lines-then part 0 16 16 (omega arith) one two (lines-none part one) (injects part less)

-- and before others
pub injected-before : {case : CaseShape} {old mid new : DeskView} {was between node : NodeView} {a b : ℕ} {f g : ℕ → ℕ}
    → HasServedLines case a f old mid was between → HasServedLines case b g mid new between node → HasInjectedLeast case was old mid
    → HasInjectedLeast case was old new
injected-before one two injects part less = lines-then part 16 0 16 (omega arith) one two (injects part less) (lines-none part two)

-- each answer tells of a line
pub told-some : (outcome : Outcome) → 1 ≤ lines_told outcome
told-some outcomes.Nothing = omega arith
told-some _ = omega arith

-- ---- the next line of an injector

-- a worker that asked for the next line of an injector, and was not turned away
inject-lines : (case : CaseShape) (old new : DeskView) (part : ℕ) (was node : NodeView) (outcome : Outcome) → IsSound old
    → Fits case old was → part < injectors_of case.topology → (IsBusy (Ok outcome) → ⊥)
    → AnswersAsked case.topology old new (line_asked case was part) (worker_at was) was node outcome
    → HasLeastLinesOf (lines_told outcome) case part was old new
inject-lines case old new part was node outcome sound fits injector not_busy is = by_told old.told refl
  where
    name : RowName
    name = record { part = part; key = [] }

    Lines : Type 0
    Lines = LinesHeld (lines_told outcome) case part was old.seen new.seen

    -- what the worker holds of the injector's interval
    lines_of : (interval seq : ℕ) (held : HeldView) → IsSome old.told → interval_of case.topology name ≡ Some interval
        → held_at was.held interval ≡ Some held → held.lease.seq ≡ seq
        → IsOvertaken interval seq new.seen ⊎ HasLeastLines (lines_told outcome) case part old.seen new.seen
    lines_of interval seq held told lies at same = by_item (item_at (source_of case part) line) refl
        (subst (λ o. AnswersAsked case.topology old new o (worker_at was) was node outcome) asked is)
      where
        line : ℕ
        line = cursor_in (row_held case.topology held name).state

        asked : line_asked case was part ≡ next_line case name held
        asked = ap (option_and_then (next_line case name)) (ap (option_and_then (held_at was.held)) lies ∙ at)

        of_interval : held.lease.interval ≡ interval
        of_interval = (fits.held.each interval held at).of_interval

        legal : IsLegal case old.seen
        legal = subst (λ (k : CaseShape). IsLegal k old.seen) fits.of_case (told-there old.told told sound.legal)

        few : line ≤ injected part old.seen
        few =
            let row = told-there old.told told (fits.held.each interval held at).rows.known name (lies ∙ ap Some (sym of_interval)) in
            let cursor = cursor-known case part held.lease.interval held.lease.seq old.seen
            (lt-ltb part (injectors_of case.topology) injector) legal in
            let here = ap (λ (c : Contents). cursor_in c.state) row in omega (arith, cursor, here)

        by_outcome : (item : Item) (o : Outcome) → (IsBusy (Ok o) → ⊥)
            → AnswersWrite case.topology old new (record {
              lease = held.lease;
              name = name;
              entry = entries.Inject held.lease.seq part line (record_of item);
              late = item.late;
            }) (worker_at was) was node o
            → IsOvertaken interval seq new.seen ⊎ HasLeastLines (lines_told o) case part old.seen new.seen
        by_outcome item (outcomes.Committed commit) free is =
            let before = injected-more part old.seen is.moved.others is.before is.moved.more in
            let all = ap (injected part) is.appended
            ∙ injected-append part is.before (entries.Inject held.lease.seq part line (record_of item) ∷ []) in
            let one = injected-line part held.lease.seq line (record_of item) in
            inr (omega (arith, before, all, one))
        by_outcome item (outcomes.Stale newer) free is = inl (
          newer,
          subst (λ i. IsOvertakenBy newer i seq new.seen) of_interval
              (subst (λ s. IsOvertakenBy newer held.lease.interval s new.seen) same is.claim),
        )
        by_outcome item (outcomes.Busy found) free is = absurd (free tt)
        by_outcome item _ free is = absurd is

        by_item : (o : Option Item) → item_at (source_of case part) line ≡ o
            → AnswersAsked case.topology old new (option_map (λ (item : Item). record {
              lease = held.lease;
              name = name;
              entry = entries.Inject held.lease.seq part line (record_of item);
              late = item.late;
            }) o) (worker_at was) was node outcome
            → IsOvertaken interval seq new.seen ⊎ HasLeastLines (lines_told outcome) case part old.seen new.seen
        by_item None none is =
            let past = line-past (source_of case part) line none in
            let more = injected-more part old.seen is.1.looked.others new.seen is.1.looked.more in
            inr (omega (arith, past, few, more))
        by_item (Some item) there is = by_outcome item outcome not_busy is

    held_of : (interval seq : ℕ) → IsSome old.told → interval_of case.topology name ≡ Some interval → (o : Option HeldView)
        → held_at was.held interval ≡ o → option_map (λ (held : HeldView). held.lease.seq) o ≡ Some seq
        → IsOvertaken interval seq new.seen ⊎ HasLeastLines (lines_told outcome) case part old.seen new.seen
    held_of interval seq told lies None at holds = absurd (none_some seq holds)
    held_of interval seq told lies (Some held) at holds = lines_of interval seq held told lies at (some_same held.lease.seq seq holds)

    by_told : (o : Option Unit) → old.told ≡ o → IfSome o (λ _. Lines)
    by_told None told = tt
    by_told (Some unit) told = λ interval seq lies holds.
        held_of interval seq (subst IsSome (sym told) refl) lies (held_at was.held interval) refl holds

-- and so where it answered
pub lines-answered : (case : CaseShape) (old new : DeskView) (part : ℕ) (was node : NodeView) (answer : Result Outcome NodeFault)
    → IsSound old → Fits case old was → part < injectors_of case.topology → (IsBusy answer → ⊥)
    → IfOk answer (AnswersAsked case.topology old new (line_asked case was part) (worker_at was) was node)
    → IfOk answer (λ outcome. HasLeastLinesOf (lines_told outcome) case part was old new)
lines-answered case old new part was node (Ok outcome) sound fits injector not_busy is =
    inject-lines case old new part was node outcome sound fits injector not_busy is
lines-answered case old new part was node (Err why) sound fits injector not_busy is = tt

-- the last try's lines are those of all tries
pub lines-last : {case : CaseShape} {old mid new : DeskView} {was between node : NodeView} {a b : ℕ} {f g : ℕ → ℕ} (injector : Option ℕ)
    (answer : Result Outcome NodeFault) → HasServedLines case a f old mid was between → HasServedLines case b g mid new between node
    → IfSome injector (λ part. IfOk answer (λ outcome. HasLeastLinesOf (lines_told outcome) case part between mid new))
    → IfSome injector (λ part. IfOk answer (λ outcome. HasLeastLinesOf (lines_told outcome) case part was old new))
lines-last None answer one two lines = tt
lines-last (Some part) (Ok outcome) one two lines =
    lines-then part 0 (lines_told outcome) (lines_told outcome) (omega arith) one two (lines-none part one) lines
lines-last (Some part) (Err why) one two lines = tt

-- ---- exactly so many lines

-- at least so many lines, or all, and at most so many are exactly so many, or all that were left
pub injected-exactly : {case : CaseShape} {old new : DeskView} {was node : NodeView} {most : ℕ} → IsSound old → IsSound new
    → Fits case old was → HasServedLines case most (lines_each 16) old new was node → HasInjectedLeast case was old new
    → HasInjected case was old new
injected-exactly {case} {old} {new} {was} {node} {most} sound later fits served least part below = by_told old.told refl (least part below)
  where
    fenced : IsFenced case.topology new.seen
    fenced = subst (λ (k : CaseShape). IsFenced k.topology new.seen) served.fits.of_case later.fenced

    claimed : (interval seq : ℕ) → leases_of was.held interval ≡ Some seq → IsClaimed interval seq old.seen
    claimed interval seq holds =
        let here = lease-held was.held interval seq holds in
        let held = fits.held.each interval here.0 here.1 in
        subst (λ (s : ℕ). IsClaimed interval s old.seen) here.2
        (subst (λ (i : ℕ). IsClaimed i here.0.lease.seq old.seen) held.of_interval (sound.claimed here.0.lease held.may_use))

    within : IsSome old.told → injected part new.seen ≤ length (source_of case part)
    within told = injected-within case part new.seen (lt-ltb part (injectors_of case.topology) below)
        (subst (λ (k : CaseShape). IsLegal k new.seen) served.fits.of_case
        (told-there new.told (subst IsSome (sym served.worked.told) told) later.legal))

    by_told : (o : Option Unit) → old.told ≡ o → IfSome o (λ _. LinesHeld 16 case part was old.seen new.seen)
        → IfSome o (λ _. (interval seq : ℕ) → interval_of case.topology (record { part = part; key = [] }) ≡ Some interval
        → leases_of was.held interval ≡ Some seq
        → IsOvertaken interval seq new.seen ⊎ HasLines 16 case part old.seen new.seen)
    by_told None told lines = tt
    by_told (Some unit) told lines = λ interval seq lies holds. ⊎_elim
        (λ gone. inl gone)
        (λ some. ⊎_elim
        (λ gone. inl gone)
        (λ few. inr (let all = within (subst IsSome (sym told) refl) in omega (arith, some, few, all)))
        (served.few fits fenced part interval seq (record { lies = lies; holds = holds; claimed = claimed interval seq holds })))
        (lines interval seq lies holds)
