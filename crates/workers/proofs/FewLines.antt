-- How few lines a worker's calls injected: nobody else injects lines of an injector under a lease that is not overtaken.
use Rattle.std.proofs.Common.{◌≡◌, ◌≢◌, ◌≤◌, ◌+◌, ◌++◌, ◌∷◌, ◌∙◌, ℕ, Bool, true, false, cond, List, [], filter, length, refl, sym, ap, subst, arith, append_assoc, inl, inr, ⊎_elim}
use Rattle.std.specs.Prelude.{◌⊎◌, Some}
use Rattle.std.specs.List.{AllByRecursion}
use Rattle.std.proofs.lemmas.Bool.{cases_lt, eqb-true}
use Rattle.std.proofs.lemmas.List.Elements.{recursion_from_All}
use Rattle.mw_types.specs.declared.entry.Entry.{Entry}
use Rattle.mw_types.specs.declared.entry.Entry.TheVariants as entries
use Rattle.mw_types.specs.declared.identity.RowName.{RowName}
use Rattle.topology.specs.Shapes.{Shape}
use Rattle.run_history.specs.Cases.{CaseShape}
use Rattle.run_history.specs.Fences.{CarryNot, IsClaimed, IsFenced, interval_of, sequencer_of}
use Rattle.run_history.specs.Made.{row_written}
use Rattle.run_history.proofs.Beginnings.{slice_get-more}
use Rattle.run_history.proofs.Claims.{last_claim-latest}
use Rattle.run_history.proofs.Fenced.{IsFenced-begins, carried}
use Rattle.book.specs.Desks.{DeskView, HasLooked, HasMoved}
use Rattle.node.specs.Fits.{Fits}
use Rattle.node.specs.Workers.{NodeView}
use Rattle.workers.specs.Serving.{HasFewLines, HoldsInjector, lines_each}
use Rattle.workers.specs.Slices.{HasWorked, IsOvertaken, KeepsLeases, injected, is_line}
use Rattle.workers.proofs.InjectedLaws.{injected-append, injected-one}
use Rattle.workers.proofs.Leases.{lease-held, overtaken-more}

-- ---- what others appended

-- the row of an injector
abbrev row_at : ℕ → RowName
row_at part = record { part = part; key = [] }

-- a line of an injector is on its row
line-written : (part : ℕ) (entry : Entry) → is_line part entry ≡ true → row_written entry ≡ Some (row_at part)
line-written part (entries.Inject seq injector line item) is = ap (λ (p : ℕ). Some (row_at p)) (eqb-true injector part is)
line-written part (entries.Claim worker interval) is = absurd cc
line-written part (entries.Handle seq name id effects) is = absurd cc
line-written part (entries.Fire seq name timer mark effects) is = absurd cc
line-written part (entries.Ack seq name id) is = absurd cc
line-written part (entries.Purge seq name floor) is = absurd cc

-- a line that does not carry the sequencer of a claim of its interval is behind a later claim
line-overtaken : (shape : Shape) (part interval seq : ℕ) (front : List Entry) (entry : Entry) (rest : List Entry)
    → interval_of shape (row_at part) ≡ Some interval → IsClaimed interval seq front → IsFenced shape (front ++ entry ∷ rest)
    → (sequencer_of entry ≢ Some seq) → is_line part entry ≡ true → IsOvertaken interval seq front
line-overtaken shape part interval seq front entry rest lies claimed fenced other is =
    let last = last_claim-latest interval seq claimed.0 front claimed.1 in
    let carries : sequencer_of entry ≡ Some last.0 = carried shape front entry (row_at part) interval last.0
    (fenced front entry (rest, append_assoc front (entry ∷ []) rest)) (line-written part entry is) lies last.2 in
    elim (cases_lt seq last.0) [
      | inl later ↦ (last.0, (last.2, later))
      | inr not_later ↦ absurd (other (carries ∙ ap Some (let high = last.1 in omega (arith, high, not_later))))
    ]

-- others inject no line of an injector, unless a later claim of its interval is there
others-none : (shape : Shape) (part interval seq : ℕ) (front others : List Entry) → interval_of shape (row_at part) ≡ Some interval
    → IsClaimed interval seq front → IsFenced shape (front ++ others) → AllByRecursion (λ e. sequencer_of e ≢ Some seq) others
    → IsOvertaken interval seq (front ++ others) ⊎ (injected part others ≡ 0)
others-none shape part interval seq front [] lies claimed fenced none = inr refl
others-none shape part interval seq front (e ∷ es) lies claimed fenced none = by_line (is_line part e) refl
    (others-none shape part interval seq (front ++ e ∷ []) es lies (claimed.0, slice_get-more front seq _ (e ∷ []) claimed.1)
    (subst (IsFenced shape) (sym (append_assoc front (e ∷ []) es)) fenced) none.1)
  where
    by_line : (b : Bool) → is_line part e ≡ b
        → IsOvertaken interval seq ((front ++ e ∷ []) ++ es) ⊎ (injected part es ≡ 0)
        → IsOvertaken interval seq (front ++ e ∷ es) ⊎ (injected part (e ∷ es) ≡ 0)
    by_line true is rest = inl (overtaken-more interval seq front (e ∷ es)
        (line-overtaken shape part interval seq front e es lies claimed fenced none.0 is))
    by_line false is rest = ⊎_elim
        (λ gone. inl (subst (IsOvertaken interval seq) (append_assoc front (e ∷ []) es) gone))
        (λ same. inr (ap (λ b. length (cond b (e ∷ filter (is_line part) es) (filter (is_line part) es))) is ∙ same))
        rest

-- so it is of what others appended before a desk's own entry
others-moved : (case : CaseShape) (old new : DeskView) (before : List Entry) (was : NodeView) (part interval seq : ℕ)
    → HasMoved old new before → Fits case old was → IsFenced case.topology before → HoldsInjector case part interval seq old was
    → IsOvertaken interval seq before ⊎ (injected part before ≡ injected part old.seen)
others-moved case old new before was part interval seq moved fits fenced holds =
    let here = lease-held was.held interval seq holds.holds in
    let carry : CarryNot seq moved.others = subst (λ (s : ℕ). CarryNot s moved.others) here.2
    (moved.foreign here.0.lease (fits.held.each interval here.0 here.1).may_use) in
    ⊎_elim
    (λ gone. inl (subst (IsOvertaken interval seq) (sym moved.more) gone))
    (λ none. inr (let all = ap (injected part) moved.more ∙ injected-append part old.seen moved.others in omega (arith, all, none)))
    (others-none case.topology part interval seq old.seen moved.others holds.lies holds.claimed
    (subst (IsFenced case.topology) moved.more fenced)
    (recursion_from_All (λ (e : Entry). sequencer_of e ≢ Some seq) moved.others carry))

-- ---- what a worker appended

-- nothing
pub few-not : (case : CaseShape) (desk : DeskView) (was : NodeView) → HasFewLines 0 (lines_each 0) case desk desk was
few-not case desk was = λ fits fenced part interval seq holds. inr (omega arith)

-- nor by a look
pub few-looked : (case : CaseShape) (old new : DeskView) (was : NodeView) → HasLooked old new
    → HasFewLines 0 (lines_each 0) case old new was
few-looked case old new was looked = λ fits fenced part interval seq holds. ⊎_elim
    (λ gone. inl gone)
    (λ same. inr (omega (arith, same)))
    (others-moved case old new new.seen was part interval seq looked fits fenced holds)

-- an entry
pub few-written : (case : CaseShape) (old new : DeskView) (before : List Entry) (entry : Entry) (lines : ℕ → ℕ) (was : NodeView)
    → HasMoved old new before → new.seen ≡ before ++ entry ∷ [] → ((part : ℕ) → injected part (entry ∷ []) ≤ lines part)
    → HasFewLines 1 lines case old new was
few-written case old new before entry lines was moved appended own = λ fits fenced part interval seq holds. ⊎_elim
    (λ gone. inl (subst (IsOvertaken interval seq) (sym appended) (overtaken-more interval seq before (entry ∷ []) gone)))
    (λ same. inr (
    let all = ap (injected part) appended ∙ injected-append part before (entry ∷ []) in
    let few = own part in
    let one = injected-one part entry in
    omega (arith, same, all, few, one)))
    (others-moved case old new before was part interval seq moved fits
    (IsFenced-begins case.topology before new.seen (entry ∷ [], sym appended) fenced) holds)

-- at most so many is at most more
pub few-within : (case : CaseShape) (old new : DeskView) (was : NodeView) (f g : ℕ → ℕ) (m n : ℕ) → m ≤ n
    → ((part : ℕ) → f part ≤ g part) → HasFewLines m f case old new was → HasFewLines n g case old new was
few-within case old new was f g m n less fewer few = λ fits fenced part interval seq holds. ⊎_elim
    (λ gone. inl gone)
    (λ lines. inr (let here = fewer part in omega (arith, less, here, lines)))
    (few fits fenced part interval seq holds)

-- who appended nothing injected nothing
pub few-idle : (case : CaseShape) (old new : DeskView) (was : NodeView) (f : ℕ → ℕ) (m : ℕ) → m ≡ 0
    → HasFewLines m f case old new was → HasFewLines 0 (lines_each 0) case old new was
few-idle case old new was f m none few = λ fits fenced part interval seq holds. ⊎_elim
    (λ gone. inl gone)
    (λ lines. inr (omega (arith, none, lines)))
    (few fits fenced part interval seq holds)

-- lines after lines
pub few-then : (case : CaseShape) (old mid new : DeskView) (was between : NodeView) (f g h : ℕ → ℕ) (m n k : ℕ) → m + n ≤ k
    → ((part : ℕ) → f part + g part ≤ h part) → Fits case mid between → HasWorked m old mid → HasWorked n mid new
    → KeepsLeases mid.seen was between → HasFewLines m f case old mid was → HasFewLines n g case mid new between
    → HasFewLines k h case old new was
few-then case old mid new was between f g h m n k less fewer fits one two kept first second =
    λ before fenced part interval seq holds. ⊎_elim
    (λ gone. inl (later interval seq gone))
    (λ lines. ⊎_elim
    (λ held. ⊎_elim
    (λ gone. inl gone)
    (λ rest. inr (let here = fewer part in omega (arith, less, here, lines, rest)))
    (second fits fenced part interval seq (record { lies = holds.lies; holds = held; claimed = claimed interval seq holds.claimed })))
    (λ gone. inl (later interval seq gone))
    (kept interval seq holds.holds))
    (first before (IsFenced-begins case.topology mid.seen new.seen (two.rest, sym two.more) fenced) part interval seq holds)
  where
    later : (interval seq : ℕ) → IsOvertaken interval seq mid.seen → IsOvertaken interval seq new.seen
    later interval seq gone = subst (IsOvertaken interval seq) (sym two.more) (overtaken-more interval seq mid.seen two.rest gone)

    claimed : (interval seq : ℕ) → IsClaimed interval seq old.seen → IsClaimed interval seq mid.seen
    claimed interval seq is = subst (IsClaimed interval seq) (sym one.more) (is.0, slice_get-more old.seen seq _ one.rest is.1)
