-- A row that was read under the last claim of its interval is the row of the whole history.
use Rattle.std.proofs.Common.{◌≡◌, ◌≢◌, ℕ, ◌+◌, ◌<◌, ◌≤◌, Bool, true, false, List, [], ◌∷◌, ◌++◌, length, take, drop, refl, sym, ◌∙◌, ap, subst, arith, append_assoc, length-append, inl, inr}
use Rattle.std.specs.Prelude.{Some, All, ◌⊎◌, not, unwrap_or, slice_get}
use Rattle.std.proofs.lemmas.Option.{slice_get_within, get_or_from_slice_get}
use Rattle.std.specs.List.{AllByRecursion, take_while}
use Rattle.std.proofs.lemmas.List.{append-nil, take-append-drop, take-append-le, drop-append-le, length-take, take_more}
use Rattle.std.proofs.lemmas.List.Elements.{recursion_from_All}
use Rattle.mw_types.specs.declared.identity.RowName.{RowName}
use Rattle.mw_types.specs.declared.entry.Entry.{Entry}
use Rattle.mw_types.specs.declared.entry.Entry.TheVariants.{Claim}
use Rattle.topology.specs.Shapes.{Shape}
use Rattle.row_parts.specs.Contents.{fresh}
use Rattle.run_history.specs.Cases.{fresh_of}
use Rattle.run_history.specs.Runs.{Run, run_of, row_in, row_of}
use Rattle.run_history.specs.Fences.{interval_of, sequencer_of, is_claim, last_claim, IsFenced, HasSeen, HasSeenAll, known}
use Rattle.run_history.proofs.RunLaws.{run_of-push}
use Rattle.list_lemmas.proofs.Lists.{each-append, each-weaker}
use Rattle.run_history.proofs.Beginnings.{each-begins}
use Rattle.run_history.proofs.Claims.{last_claim-front, last_claim-at}
use Rattle.run_history.proofs.Fenced.{IsFenced-begins, carried}
use Rattle.run_history.proofs.Known.{take_while-front, take_while-passes, take_while-all, take_while-append, known-begins}
use Rattle.history_laws.proofs.RowSteps.{row_in-elsewhere}

-- a row is found by a beginning of a fenced history as by the whole, where the last claim of its interval is in the beginning, and
-- nothing after it carries the claim's number
pub rows_as_seen : (shape : Shape) (interval s : ℕ) (name : RowName) (rest front : List Entry) → interval_of shape name ≡ Some interval
    → IsFenced shape (front ++ rest) → last_claim interval (front ++ rest) ≡ Some s → s < length front
    → AllByRecursion (λ e. sequencer_of e ≢ Some s) rest
    → row_in (run_of shape (front ++ rest)) name ≡ row_in (run_of shape front) name
rows_as_seen shape interval s name [] front lies fenced last within none = ap (λ (h : List Entry). row_in (run_of shape h) name)
    (append-nil front)
rows_as_seen shape interval s name (e ∷ es) front lies fenced last within none =
    let again : (front ++ e ∷ []) ++ es ≡ front ++ e ∷ es = append_assoc front (e ∷ []) es in
    sym (ap (λ (h : List Entry). row_in (run_of shape h) name) again)
    ∙ rows_as_seen shape interval s name es (front ++ e ∷ []) lies
    (subst (IsFenced shape) (sym again) fenced)
    (ap (last_claim interval) again ∙ last)
    (omega (arith, within, length-append front (e ∷ [])))
    none.1
    ∙ ap (λ (r : Run). row_in r name) (run_of-push shape front e)
    ∙ row_in-elsewhere shape (run_of shape front) e name
    (λ written. none.0 (carried shape front e name interval s (fenced front e (es, again)) written lies
    (last_claim-front interval s front (e ∷ es) last within)))

-- a claim that was seen stands within what was seen
pub claim-within : (interval seq : ℕ) (seen rest : List Entry) → HasSeenAll interval seq seen rest → seq < length seen
claim-within interval seq seen rest all = slice_get_within seen seq (Claim all.claimed.0 interval) all.claimed.1

-- a row of an interval is found by a beginning that has seen the interval's last claim as by the whole
pub row_in-seen : (shape : Shape) (interval seq : ℕ) (front rest : List Entry) → IsFenced shape (front ++ rest)
    → HasSeen interval seq front rest
    → (name : RowName) → interval_of shape name ≡ Some interval
    → row_in (run_of shape (front ++ rest)) name ≡ row_in (run_of shape front) name
row_in-seen shape interval seq front rest fenced seen name lies =
    rows_as_seen shape interval seq name rest front lies fenced seen.last (claim-within interval seq front rest seen.all)
    (recursion_from_All (λ (e : Entry). sequencer_of e ≢ Some seq) rest seen.all.own)

-- and so is the row, there or fresh
pub row_of-seen : (shape : Shape) (interval seq : ℕ) (front rest : List Entry) → IsFenced shape (front ++ rest)
    → HasSeen interval seq front rest
    → (name : RowName) → interval_of shape name ≡ Some interval
    → row_of shape (run_of shape (front ++ rest)) name ≡ row_of shape (run_of shape front) name
row_of-seen shape interval seq front rest fenced seen name lies =
    ap (λ o. unwrap_or o (fresh (fresh_of shape name.part))) (row_in-seen shape interval seq front rest fenced seen name lies)

-- a row of an interval, as it is known under a claim of the interval, is the same by a beginning of a fenced history
-- as by the whole, where the beginning
-- has the claim and all that carries its number; the claim may have been overtaken
pub row_in-known : (shape : Shape) (interval seq worker : ℕ) (front rest : List Entry) → IsFenced shape (front ++ rest)
    → slice_get front seq ≡ Some (Claim worker interval) → All (λ (e : Entry). sequencer_of e ≢ Some seq) rest
    → (name : RowName) → interval_of shape name ≡ Some interval
    → row_in (run_of shape (known interval seq (front ++ rest))) name ≡ row_in (run_of shape (known interval seq front)) name
row_in-known shape interval seq worker front rest fenced claimed none name lies = by_case (take_while-append test behind rest)
  where
    test : Entry → Bool
    test = λ (e : Entry). not (is_claim interval e)

    behind : List Entry
    behind = drop (seq + 1) front

    within : seq < length front
    within = slice_get_within front seq (Claim worker interval) claimed

    -- the history up to the claim is that of the beginning
    known-whole : known interval seq (front ++ rest) ≡ take (seq + 1) front ++ take_while test (behind ++ rest)
    known-whole =
        let inside : seq + 1 ≤ length front = omega (arith, within) in
        ap (λ l. l ++ take_while test (drop (seq + 1) (front ++ rest))) (take-append-le (seq + 1) front rest inside)
        ∙ ap (λ l. take (seq + 1) front ++ take_while test l) (drop-append-le (seq + 1) front rest inside)

    up_to : take (seq + 1) front ≡ take seq front ++ Claim worker interval ∷ []
    up_to = take_more front seq (Claim worker interval) within
        ∙ ap (λ e. take seq front ++ e ∷ []) (get_or_from_slice_get front seq (Claim worker interval) (Claim worker interval) claimed)

    off : (b : Bool) → not b ≡ true → b ≡ false
    off true e = cc
    off false e = refl

    by_case : (AllByRecursion (λ e. test e ≡ true) behind × (take_while test (behind ++ rest) ≡ behind ++ take_while test rest)) ⊎
        (take_while test (behind ++ rest) ≡ take_while test behind)
        → row_in (run_of shape (known interval seq (front ++ rest))) name ≡ row_in (run_of shape (known interval seq front)) name
    by_case (inr same) = ap (λ (h : List Entry). row_in (run_of shape h) name) (known-whole ∙ ap (λ l. take (seq + 1) front ++ l) same)
    by_case (inl whole) =
        let more = take_while test rest in
        let goes_on : known interval seq (front ++ rest) ≡ front ++ more =
        known-whole ∙ ap (λ l. take (seq + 1) front ++ l) whole.1 ∙ sym (append_assoc (take (seq + 1) front) behind more)
        ∙ ap (λ l. l ++ more) (take-append-drop (seq + 1) front) in
        let all : known interval seq front ≡ front = ap (λ l. take (seq + 1) front ++ l) (take_while-all test behind whole.0)
        ∙ take-append-drop (seq + 1) front in
        let no_claim : AllByRecursion (λ e. is_claim interval e ≡ false) (behind ++ more) = each-append
        (λ e. is_claim interval e ≡ false) behind more
        (each-weaker (λ e. test e ≡ true) (λ e. is_claim interval e ≡ false) (λ e passes. off (is_claim interval e) passes) behind whole.0)
        (each-weaker (λ e. test e ≡ true) (λ e. is_claim interval e ≡ false) (λ e passes. off (is_claim interval e) passes) more
        (take_while-passes test rest)) in
        let last : last_claim interval (front ++ more) ≡ Some seq =
        ap (last_claim interval) (ap (λ l. l ++ more) (sym (take-append-drop (seq + 1) front))
        ∙ append_assoc (take (seq + 1) front) behind more ∙ ap (λ l. l ++ (behind ++ more)) up_to)
        ∙ last_claim-at interval worker (take seq front) (behind ++ more) no_claim
        ∙ ap Some (let len = length-take seq front in omega (arith, len, within)) in
        ap (λ (h : List Entry). row_in (run_of shape h) name) goes_on
        ∙ rows_as_seen shape interval seq name more front lies
        (subst (IsFenced shape) goes_on (IsFenced-begins shape (known interval seq (front ++ rest)) (front ++ rest)
        (known-begins interval seq (front ++ rest)) fenced))
        last within (each-begins (λ e. sequencer_of e ≢ Some seq) more rest (take_while-front test rest)
        (recursion_from_All (λ (e : Entry). sequencer_of e ≢ Some seq) rest none))
        ∙ sym (ap (λ (h : List Entry). row_in (run_of shape h) name) all)
