-- Beginnings of a history, and which of its entries carry a sequencer.
use Rattle.std.proofs.Common.{inl, inr, ◌≡◌, ◌≢◌, ◌⊎◌, ℕ, zero, suc, ◌<◌, ◌≤◌, false, cond, List, [], ◌∷◌, ◌++◌, drop, length, take, refl, sym, ap, ◌∙◌, subst, ⊎_elim, arith, append_assoc, length-append}
use Rattle.std.specs.Prelude.{Option, Some, None, slice_get}
use Rattle.std.specs.Option.{option_and_then}
use Rattle.std.specs.List.{AllByRecursion}
use Rattle.std.proofs.lemmas.Option.{slice_get_within}
use Rattle.std.proofs.lemmas.List.{length-take}
use Rattle.std.proofs.lemmas.List.Elements.{All-from_recursion}
use Rattle.mw_types.specs.declared.identity.RowName.{RowName}
use Rattle.mw_types.specs.declared.entry.Entry.{Entry}
use Rattle.mw_types.specs.declared.entry.Entry.TheVariants.{Claim, Inject, Handle, Fire, Ack, Purge}
use Rattle.topology.specs.Shapes.{Shape}
use Rattle.run_history.specs.Made.{row_written}
use Rattle.run_history.specs.Cases.{CaseShape}
use Rattle.run_history.specs.Runs.{Run, empty_run, followed}
use Rattle.run_history.specs.Legal.{IsLegal, AreLegal}
use Rattle.run_history.specs.Fences.{Begins, IsClaimed, IsFenced, CarryNot, HasSeenAll, interval_of, is_claim, last_claim, sequencer_of}
use Rattle.list_lemmas.proofs.Lists.{some_same, none_some}
use Rattle.run_history.proofs.Claims.{last_claim-push, last_claim-within}
use Rattle.run_history.proofs.Fenced.{IsFenced-at}
use Rattle.run_history.proofs.Beginnings.{Begins-at, slice_get-more, slice_get-last}
use Rattle.book.specs.Books.{LeaseView}
use Rattle.shared_book.specs.FenceLaw.{CarriesBelow, sequencers}
use Rattle.shared_book.specs.Lists.{IsIn}

-- a history is a beginning of itself with one more entry
pub begins_more : (history : List Entry) (entry : Entry) → Begins history (history ++ entry ∷ [])
begins_more history entry = (entry ∷ [], refl)

-- a claim stays where more entries follow
pub claim_kept : (front history : List Entry) (interval seq : ℕ) → Begins front history → IsClaimed interval seq front
    → IsClaimed interval seq history
claim_kept front history interval seq begins claimed = (claimed.0, Begins-at front history seq _ begins claimed.1)

-- a claim is an entry
pub claim_within : (front : List Entry) (interval seq : ℕ) → IsClaimed interval seq front → seq < length front
claim_within front interval seq claimed = slice_get_within front seq _ claimed.1

-- an entry of a history with one more is the one more, or stood there before
pub entry_at_end : (history : List Entry) (last entry : Entry) (at : ℕ) → slice_get (history ++ last ∷ []) at ≡ Some entry
    → (slice_get history at ≡ Some entry) ⊎ ((at ≡ length history) × (last ≡ entry))
entry_at_end [] last entry zero e = inr (refl, some_same last entry e)
entry_at_end [] last entry (suc at) e = absurd (none_some entry e)
entry_at_end (x ∷ xs) last entry zero e = inl e
entry_at_end (x ∷ xs) last entry (suc at) e = ⊎_elim (λ p. inl p) (λ p. inr (ap suc p.0, p.1)) (entry_at_end xs last entry at e)

-- each entry stands within the history
pub all_below : (history front : List Entry) (seq : ℕ) → front ≡ history → CarriesBelow history seq (length front)
all_below history front seq same at entry there carries =
    subst (λ (l : List Entry). at < length l) (sym same) (slice_get_within history at entry there)

-- what was seen stays all under a sequencer where an entry follows that does not carry it
pub below_push : (history : List Entry) (last : Entry) (seq number : ℕ) → CarriesBelow history seq number
    → (sequencer_of last ≡ Some seq → ⊥) → CarriesBelow (history ++ last ∷ []) seq number
below_push history last seq number below other at entry there carries = ⊎_elim
    (λ p. below at entry p carries)
    (λ p. absurd (other (ap sequencer_of p.1 ∙ carries)))
    (entry_at_end history last entry at there)

-- an entry that carries a sequencer is on a row
pub on_row : (entry : Entry) (seq : ℕ) → sequencer_of entry ≡ Some seq → (name : RowName) × (row_written entry ≡ Some name)
on_row (Claim worker interval) seq carries = absurd (none_some seq carries)
on_row (Inject q part line item) seq carries = (_, refl)
on_row (Handle q row id effects) seq carries = (_, refl)
on_row (Fire q row timer mark effects) seq carries = (_, refl)
on_row (Ack q row id) seq carries = (_, refl)
on_row (Purge q row floor) seq carries = (_, refl)

-- and leaves each last claim
pub last_claim-carried : (i seq : ℕ) (history : List Entry) (entry : Entry) → sequencer_of entry ≡ Some seq
    → last_claim i (history ++ entry ∷ []) ≡ last_claim i history
last_claim-carried i seq history entry carries =
    last_claim-push i history entry ∙ ap (λ b. cond b (Some (length history)) (last_claim i history)) (no_claim entry carries)
  where
    no_claim : (e : Entry) → sequencer_of e ≡ Some seq → is_claim i e ≡ false
    no_claim (Claim worker interval) is = absurd (none_some seq is)
    no_claim (Inject s part line item) is = refl
    no_claim (Handle s row id effects) is = refl
    no_claim (Fire s row timer mark effects) is = refl
    no_claim (Ack s row id) is = refl
    no_claim (Purge s row floor) is = refl

-- a sequencer is below the number of each entry of a fenced history that carries it
pub carried_below : (shape : Shape) (history : List Entry) (at seq : ℕ) (entry : Entry) → IsFenced shape history
    → slice_get history at ≡ Some entry → sequencer_of entry ≡ Some seq → seq < at
carried_below shape history at seq entry fenced there carries =
    let on = on_row entry seq carries in
    by_interval (interval_of shape on.0) (IsFenced-at shape history at entry fenced there on.0 on.1 ∙ carries)
  where
    by_interval : (o : Option ℕ) → option_and_then (λ (i : ℕ). last_claim i (take at history)) o ≡ Some seq → seq < at
    by_interval None is = absurd (none_some seq is)
    by_interval (Some i) is =
        let within = last_claim-within i seq (take at history) is in
        let short = length-take at history in
        let there = slice_get_within history at entry there in omega (arith, within, short, there)

-- entries behind what was seen do not carry a sequencer all of whose entries were seen
rest_carry_not : (seq number : ℕ) (rest front : List Entry) → number ≤ length front → CarriesBelow (front ++ rest) seq number
    → AllByRecursion (λ (e : Entry). sequencer_of e ≢ Some seq) rest
rest_carry_not seq number [] front few below = tt
rest_carry_not seq number (e ∷ rest) front few below =
    let again : (front ++ e ∷ []) ++ rest ≡ front ++ e ∷ rest = append_assoc front (e ∷ []) rest in (
      (λ carries.
          let at = subst (λ (l : List Entry). slice_get l (length front) ≡ Some e) again
          (slice_get-more (front ++ e ∷ []) (length front) e rest (slice_get-last front e)) in
          let less = below (length front) e at carries in omega (arith, less, few)),
      rest_carry_not seq number rest (front ++ e ∷ [])
          (omega (arith, few, length-append front (e ∷ []))) (subst (λ (l : List Entry). CarriesBelow l seq number) (sym again) below),
    )

-- all that was written under a claim was seen
pub seen_all : (front history : List Entry) (interval seq : ℕ) (begins : Begins front history) → IsClaimed interval seq front
    → CarriesBelow history seq (length front) → HasSeenAll interval seq front begins.0
seen_all front history interval seq begins claimed below = record {
  claimed = claimed;
  own = All-from_recursion (λ (e : Entry). sequencer_of e ≢ Some seq) begins.0 (rest_carry_not seq (length front) begins.0 front (omega arith)
      (subst (λ (l : List Entry). CarriesBelow l seq (length front)) (sym begins.1) below));
}

-- a beginning of legal entries is legal
legal_front : (case : CaseShape) (run : Run) (front rest : List Entry) → AreLegal case run (front ++ rest) → AreLegal case run front
legal_front case run [] rest legal = tt
legal_front case run (e ∷ front) rest legal = (legal.0, legal_front case (followed case.topology run e) front rest legal.1)

-- a beginning of a legal history is legal
pub legal_begins : (case : CaseShape) (front history : List Entry) → Begins front history → IsLegal case history → IsLegal case front
legal_begins case front history begins legal =
    legal_front case empty_run front begins.0 (subst (IsLegal case) (sym begins.1) legal)

-- a lease has its sequencer among theirs
pub seq_of_lease : (l : LeaseView) (ls : List LeaseView) → IsIn l ls → IsIn l.seq (sequencers ls)
seq_of_lease l [] p = absurd p
seq_of_lease l (x ∷ xs) p = ⊎_elim (λ e. inl (ap (λ (y : LeaseView). y.seq) e)) (λ q. inr (seq_of_lease l xs q)) p

-- where each entry that carries a sequencer is among the first so many, none of the others carries it
pub carry-not : (history : List Entry) (seq number : ℕ) → CarriesBelow history seq number → CarryNot seq (drop number history)
carry-not history seq number below = All-from_recursion (λ (e : Entry). sequencer_of e ≢ Some seq) (drop number history)
    (each history number (λ at entry there carries past. let less = below at entry there carries in omega (arith, less, past)))
  where
    each : (h : List Entry) (n : ℕ)
        → ((at : ℕ) (entry : Entry) → slice_get h at ≡ Some entry → sequencer_of entry ≡ Some seq → n ≤ at → ⊥)
        → AllByRecursion (λ (e : Entry). sequencer_of e ≢ Some seq) (drop n h)
    each [] zero none = tt
    each [] (suc n) none = tt
    each (e ∷ es) zero none = (
      (λ carries. none 0 e refl carries (omega arith)),
      each es zero (λ at entry there carries past. none (suc at) entry there carries (omega arith)),
    )
    each (e ∷ es) (suc n) none = each es n (λ at entry there carries past. none (suc at) entry there carries (omega (arith, past)))
