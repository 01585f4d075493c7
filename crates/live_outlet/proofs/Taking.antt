-- What is found of lines that are taken one after another.
use Rattle.std.proofs.Common.{◌≡◌, ℕ, ◌+◌, List, [], ◌∷◌, ◌++◌, map, length, Bool, true, false, cond, Option, Some, None, nat_eq, refl, sym, ap, ◌∙◌, subst, append_assoc, append-nil, add_assoc, zero-add, add-zero}
use Rattle.std.specs.Prelude.{Result, Ok, Err, count_by, is_none, if◌then◌else◌}
use Rattle.std.specs.Option.{option_map_or}
use Rattle.std.specs.List.Sorted.{IsStrictlySortedBy}
use Rattle.std.proofs.lemmas.List.Sums.{sum_by-cons}
use Rattle.text_lines.specs.Lines.{lines_of}
use Rattle.std.specs.BTreeMap.{insert_entry}
use Rattle.std.specs.Cmp.Lexicographic.{pointwise, bytes_decides}
use Rattle.mw_types.specs.declared.identity.RecordId.{RecordId}
use Rattle.mw_types.specs.Orders.{id_cmp}
use Rattle.live_outlet.specs.declared.held.Held.{Held}
use Rattle.live_outlet.specs.declared.refusal.CollectRefusal.{CollectRefusal}
use Rattle.live_outlet.specs.declared.refusal.CollectRefusal.TheVariants.{Differs, NoMemory}
use Rattle.live_outlet.specs.LiveLines.{live_text}
use Rattle.live_outlet.specs.Collecting.{IsCollected, WhyNot, tellings, Telling, told_id, is_other, tellings_from, first_with, IsFirstToDiffer}
use Rattle.live_outlet.specs.Progress.{IsRefusalOf, Found, and_then, kept_beside, taken_as, line_taken, lines_taken}
use Rattle.live_outlet.proofs.Spelling.{told_id-is}
use Rattle.live_outlet.proofs.Finding.{IsFound, found-new, found-same}

-- ---- steps of the loop

-- a line that is not empty and tells an id is kept beside what was found
pub line_taken-told : (found : Found) (n : ℕ) (text : List ℕ) (id : RecordId) → (length text ≡ 0 → ⊥) → Some id ≡ told_id text
    → line_taken found n text ≡ kept_beside (first_with id found.firsts) found n id text
line_taken-told found n [] id some told = absurd (some refl)
line_taken-told found n (b ∷ bs) id some told = sym (ap (λ (o : Option RecordId). taken_as o found n (b ∷ bs)) told)

-- one more line was taken
pub lines_taken-step : (found found' : Found) (n : ℕ) (lines : List (List ℕ)) (text : List ℕ) (texts : List (List ℕ))
    → lines ≡ text ∷ texts → line_taken found n text ≡ Ok found' → lines_taken found n lines ≡ lines_taken found' (n + 1) texts
lines_taken-step found found' n lines text texts is taken =
    ap (lines_taken found n) is ∙ ap (and_then (λ after. lines_taken after (n + 1) texts)) taken

-- or was refused
pub lines_taken-refused : (found : Found) (n : ℕ) (lines : List (List ℕ)) (text : List ℕ) (texts : List (List ℕ)) (why : CollectRefusal)
    → lines ≡ text ∷ texts → line_taken found n text ≡ Err why → lines_taken found n lines ≡ Err why
lines_taken-refused found n lines text texts why is refused =
    ap (lines_taken found n) is ∙ ap (and_then (λ after. lines_taken after (n + 1) texts)) refused

-- ---- what the lines come to

-- an empty line tells nothing
told_id-empty : told_id [] ≡ None
told_id-empty = by_told (told_id []) refl
  where
    by_told : (o : Option RecordId) → told_id [] ≡ o → o ≡ None
    by_told None is = refl
    by_told (Some id) is = let told = told_id-is [] id is in absurd (let never : live_text told.0 ≡ [] = told.3 in cc)

-- what a taking must come to, beside what was done before: what was found of all, or a first difference
abbrev pub ComesTo : List Telling → ℕ → ℕ → Result Found CollectRefusal → Type 0
ComesTo told before more (Ok found) = IsFound told found.firsts × (found.other ≡ before + more)
ComesTo told before more (Err (Differs line first)) = IsFirstToDiffer told line first
ComesTo told before more (Err NoMemory) = Unit {0}

-- how many others a line is
abbrev other_of : Option RecordId → ℕ
other_of None = 1
other_of (Some id) = 0

-- the live lines, where the first line tells this
abbrev told_as : ℕ → List ℕ → Option RecordId → List Telling → List Telling
told_as n text o rest = option_map_or (λ (id : RecordId). (id, record { line = n; text = text }) ∷ rest) o rest

-- what comes behind a line
abbrev Behind : List (List ℕ) → ℕ → Type 0
Behind texts n = (found : Found) (done : List Telling) → IsFound done found.firsts
    → ComesTo (done ++ tellings_from n texts) found.other (count_by is_other texts) (lines_taken found n texts)

-- a live line of an id that was found: its text is the first's, or it differs
beside_same : (texts : List (List ℕ)) (n : ℕ) (text : List ℕ) (id : RecordId) (found : Found) (done : List Telling) (first : Held)
    → Behind texts (n + 1) → IsFound done found.firsts → first_with id found.firsts ≡ Some first
    → ComesTo (done ++ (id, record { line = n; text = text }) ∷ tellings_from (n + 1) texts) found.other (count_by is_other texts)
    (and_then (λ after. lines_taken after (n + 1) texts) (kept_beside (Some first) found n id text))
beside_same texts n text id found done first behind is at = by_test (pointwise nat_eq first.text text) refl
  where
    by_test : (b : Bool) → pointwise nat_eq first.text text ≡ b
        → ComesTo (done ++ (id, record { line = n; text = text }) ∷ tellings_from (n + 1) texts) found.other (count_by is_other texts)
        (and_then (λ after. lines_taken after (n + 1) texts) (cond b (Ok found) (Err (Differs n first.line))))
    by_test true same =
        subst (λ (l : List Telling). ComesTo l found.other (count_by is_other texts) (lines_taken found (n + 1) texts))
        (append_assoc done ((id, record { line = n; text = text }) ∷ []) (tellings_from (n + 1) texts))
        (behind found (done ++ (id, record { line = n; text = text }) ∷ [])
        (found-same done found.firsts id (record { line = n; text = text }) first is at ((bytes_decides first.text text).0 same)))
    by_test false other = record {
      before = done;
      after = tellings_from (n + 1) texts;
      id = id;
      text = text;
      held = first.text;
      stands = refl;
      agree = is.agree;
      found = sym (is.each id) ∙ at;
      differs = λ e. let yes = (bytes_decides first.text text).1 e in cc;
    }

-- a live line
beside : (texts : List (List ℕ)) (n : ℕ) (text : List ℕ) (id : RecordId) (found : Found) (done : List Telling)
    → Behind texts (n + 1) → IsFound done found.firsts → (o : Option Held) → first_with id found.firsts ≡ o
    → ComesTo (done ++ (id, record { line = n; text = text }) ∷ tellings_from (n + 1) texts) found.other (count_by is_other texts)
    (and_then (λ after. lines_taken after (n + 1) texts) (kept_beside o found n id text))
beside texts n text id found done behind is None at =
    let held : Held = record { line = n; text = text } in
    let more : Found = record found { firsts = insert_entry id_cmp found.firsts id held } in
    subst (λ (l : List Telling). ComesTo l found.other (count_by is_other texts) (lines_taken more (n + 1) texts))
    (append_assoc done ((id, held) ∷ []) (tellings_from (n + 1) texts))
    (behind more (done ++ (id, held) ∷ []) (found-new done found.firsts id held is at))
beside texts n text id found done behind is (Some first) at = beside_same texts n text id found done first behind is at

-- what is counted before is counted
counted : (told : List Telling) (before more : ℕ) (taking : Result Found CollectRefusal) → ComesTo told (before + 1) more taking
    → ComesTo told before (1 + more) taking
counted told before more (Ok found) comes = (comes.0, comes.1 ∙ add_assoc before 1 more)
counted told before more (Err (Differs line first)) comes = comes
counted told before more (Err NoMemory) comes = tt

-- a line that is not empty
some_line : (texts : List (List ℕ)) (n : ℕ) (text : List ℕ) (found : Found) (done : List Telling) → Behind texts (n + 1)
    → IsFound done found.firsts → (o : Option RecordId)
    → ComesTo (done ++ told_as n text o (tellings_from (n + 1) texts)) found.other (other_of o + count_by is_other texts)
    (and_then (λ after. lines_taken after (n + 1) texts) (taken_as o found n text))
some_line texts n text found done behind is None =
    counted (done ++ tellings_from (n + 1) texts) found.other (count_by is_other texts) (lines_taken (record found { other = found.other + 1 }) (n + 1) texts)
    (behind (record found { other = found.other + 1 }) done is)
some_line texts n text found done behind is (Some id) =
    subst (λ (k : ℕ). ComesTo (done ++ (id, record { line = n; text = text }) ∷ tellings_from (n + 1) texts) found.other k
    (and_then (λ after. lines_taken after (n + 1) texts) (taken_as (Some id) found n text))) (sym (zero-add (count_by is_other texts)))
    (beside texts n text id found done behind is (first_with id found.firsts) refl)

-- the lines that are taken come to it
pub lines_taken-comes : (texts : List (List ℕ)) (n : ℕ) → Behind texts n
lines_taken-comes [] n found done is = (subst (λ (l : List Telling). IsFound l found.firsts) (sym (append-nil done)) is, sym (add-zero found.other))
lines_taken-comes (text ∷ texts) n found done is = by_text text (lines_taken-comes texts (n + 1))
  where
    other_at : List ℕ → ℕ
    other_at x = cond (is_other x) 1 0

    other_counts : (o : Option RecordId)
        → other_of o + count_by is_other texts ≡ (if is_none o then 1 else 0) + count_by is_other texts
    other_counts None = refl
    other_counts (Some id) = refl

    by_text : (text : List ℕ) → Behind texts (n + 1)
        → ComesTo (done ++ tellings_from n (text ∷ texts)) found.other (count_by is_other (text ∷ texts)) (lines_taken found n (text ∷ texts))
    by_text [] behind =
        subst (λ (o : Option RecordId). ComesTo (done ++ told_as n [] o (tellings_from (n + 1) texts)) found.other (count_by is_other ([] ∷ texts))
        (lines_taken found (n + 1) texts)) (sym told_id-empty)
        (subst (λ (k : ℕ). ComesTo (done ++ tellings_from (n + 1) texts) found.other k (lines_taken found (n + 1) texts))
        (sym (sum_by-cons other_at [] texts ∙ zero-add (count_by is_other texts))) (behind found done is))
    by_text (b ∷ bs) behind =
        subst (λ (k : ℕ). ComesTo (done ++ tellings_from n ((b ∷ bs) ∷ texts)) found.other k (lines_taken found n ((b ∷ bs) ∷ texts)))
        (other_counts (told_id (b ∷ bs)) ∙ sym (sum_by-cons other_at (b ∷ bs) texts))
        (some_line texts n (b ∷ bs) found done behind is (told_id (b ∷ bs)))

-- ---- a whole text

-- nothing was found of no line
found-none : IsFound [] []
found-none = record { each = λ id. refl; agree = tt }

-- what its lines come to
text-comes : (bytes : List ℕ) → ComesTo (tellings bytes) 0 (count_by is_other (lines_of bytes)) (lines_taken (record { firsts = []; other = 0 }) 1 (lines_of bytes))
text-comes bytes = lines_taken-comes (lines_of bytes) 1 (record { firsts = []; other = 0 }) [] found-none

-- a line that is refused is the first to differ
pub text-refused : (bytes : List ℕ) (found : Found) (n : ℕ) (lines : List (List ℕ)) (text : List ℕ) (texts : List (List ℕ)) (why : CollectRefusal)
    → lines_taken (record { firsts = []; other = 0 }) 1 (lines_of bytes) ≡ lines_taken found n lines
    → lines ≡ text ∷ texts → IsRefusalOf (line_taken found n text) why → WhyNot bytes why
text-refused bytes found n lines text texts (Differs line first) same is refused =
    subst (ComesTo (tellings bytes) 0 (count_by is_other (lines_of bytes)))
    (same ∙ lines_taken-refused found n lines text texts (Differs line first) is refused) (text-comes bytes)
text-refused bytes found n lines text texts NoMemory same is refused = tt

-- where no line is left, all is collected
pub text-collected : (bytes : List ℕ) (found : Found) (n : ℕ) (rest : List ℕ) (texts : List (List ℕ))
    → lines_taken (record { firsts = []; other = 0 }) 1 (lines_of bytes) ≡ lines_taken found n (lines_of rest)
    → length rest ≡ 0 → texts ≡ map (λ (one : Telling). one.1.text) found.firsts
    → IsStrictlySortedBy id_cmp (map (λ (one : Telling). one.0) found.firsts)
    → IsCollected bytes texts found.other
text-collected bytes found n [] texts same none is ascending =
    let comes : ComesTo (tellings bytes) 0 (count_by is_other (lines_of bytes)) (Ok found) =
    subst (ComesTo (tellings bytes) 0 (count_by is_other (lines_of bytes))) same (text-comes bytes) in record {
      agree = comes.0.agree;
      found = found.firsts;
      texts_of = is;
      ascending = ascending;
      each = comes.0.each;
      count = comes.1 ∙ zero-add (count_by is_other (lines_of bytes));
    }
text-collected bytes found n (b ∷ bs) texts same none is ascending = absurd (cc)
