-- What is written of a text of live lines, and why one is refused.
use Rattle.std.proofs.Common.{◌≡◌, ◌≢◌, ◌∙◌, ◌++◌, ℕ, List, ◌∷◌, Bool, true, false, not, cond, nat_eq, find, Option, Some, None, Result, Ok, Err, refl, ap}
use Rattle.std.specs.Option.{option_map, option_map_or}
use Rattle.std.specs.List.{AllByRecursion}
use Rattle.std.specs.Cmp.Lexicographic.{pointwise, bytes_decides}
use Rattle.std.specs.BTreeMap.{is_at}
use Rattle.list_lemmas.proofs.Lists.{none_some, some_same, each-weaker, find-none, find-behind}
use Rattle.mw_types.specs.Orders.{id_cmp}
use Rattle.live_outlet.specs.declared.held.Held.{Held}
use Rattle.live_outlet.specs.declared.refusal.CollectRefusal.{CollectRefusal}
use Rattle.live_outlet.specs.declared.refusal.CollectRefusal.TheVariants as collects
use Rattle.live_outlet.specs.Collecting.{Agrees, IsFirstToDiffer, Telling, WhyNot, first_with, tellings}
use Rattle.live_outlet.proofs.Finding.{lookup-kept}
use Rattle.task_runs.specs.declared.status.Status.{Status}
use Rattle.task_runs.specs.declared.status.Status.TheVariants as status
use Rattle.millwheel_cli.specs.Collects.{collect_taken, differs, first_line}
use Rattle.millwheel_cli.specs.Inside.{UnlessWant, of_collect}

-- ---- lines that differ

-- the status of a text, by the first line that differs, where there is one
abbrev taken_by : List Telling → List ℕ → Option Telling → Result (List ℕ) Status
taken_by told bytes o =
    option_map_or (λ (one : Telling). Err (status.CollectRefused one.1.line (first_line told one.0))) o (Ok bytes)

-- a line that has the text of the first with its id does not differ
agrees-not : (told : List Telling) (one : Telling) → Agrees told one → differs told one ≡ false
agrees-not told one agrees = by_found (first_with one.0 told) refl agrees
  where
    by_found : (o : Option Held) → first_with one.0 told ≡ o → option_map (λ (h : Held). h.text) o ≡ Some one.1.text
        → differs told one ≡ false
    by_found None is agrees = absurd (none_some one.1.text agrees)
    by_found (Some h) is agrees =
        ap (λ (o : Option Held). option_map_or (λ (h : Held). not (pointwise nat_eq h.text one.1.text)) o true) is
        ∙ ap not ((bytes_decides h.text one.1.text).1 (some_same h.text one.1.text agrees))

-- where no line differs a text is taken
pub taken-agreed : (bytes : List ℕ) → AllByRecursion (Agrees (tellings bytes)) (tellings bytes) → collect_taken bytes ≡ Ok bytes
taken-agreed bytes agree =
    let told = tellings bytes in
    ap (taken_by told bytes) (find-none (differs told) told
    (each-weaker (Agrees told) (λ (one : Telling). differs told one ≡ false) (agrees-not told) told agree))

-- what agrees in a beginning agrees in the whole
agrees-before : (before rest : List Telling) (one : Telling) → Agrees before one → Agrees (before ++ rest) one
agrees-before before rest one agrees = by_found (first_with one.0 before) refl agrees
  where
    by_found : (o : Option Held) → first_with one.0 before ≡ o → option_map (λ (h : Held). h.text) o ≡ Some one.1.text
        → Agrees (before ++ rest) one
    by_found None is agrees = absurd (none_some one.1.text agrees)
    by_found (Some h) is agrees =
        ap (option_map (λ (h : Held). h.text)) (lookup-kept (is_at (id_cmp one.0)) before rest h is) ∙ agrees

-- texts that are not the same do not test so
apart : (one other : List ℕ) → one ≢ other → pointwise nat_eq one other ≡ false
apart one other not_same = by_test (pointwise nat_eq one other) refl
  where
    by_test : (b : Bool) → pointwise nat_eq one other ≡ b → b ≡ false
    by_test true same = absurd (not_same ((bytes_decides one other).0 same))
    by_test false other = refl

-- a text is refused by its first line that differs
pub taken-differs : (bytes : List ℕ) (line first : ℕ) → IsFirstToDiffer (tellings bytes) line first
    → collect_taken bytes ≡ Err (status.CollectRefused line first)
taken-differs bytes line first is =
    let told = tellings bytes in
    let one : Telling = (is.id, record { line = line; text = is.text }) in
    let whole = is.before ++ one ∷ is.after in
    let held : Held = record { line = first; text = is.held } in
    let there : first_with is.id whole ≡ Some held = lookup-kept (is_at (id_cmp is.id)) is.before (one ∷ is.after) held is.found in
    let none : find (differs whole) is.before ≡ None = find-none (differs whole) is.before
    (each-weaker (Agrees is.before) (λ (x : Telling). differs whole x ≡ false)
    (λ x agrees. agrees-not whole x (agrees-before is.before (one ∷ is.after) x agrees)) is.before is.agree) in
    let this : differs whole one ≡ true =
    ap (λ (o : Option Held). option_map_or (λ (h : Held). not (pointwise nat_eq h.text is.text)) o true) there
    ∙ ap not (apart is.held is.text is.differs) in
    let found : find (differs whole) whole ≡ Some one =
    find-behind (differs whole) is.before (one ∷ is.after) none
    ∙ ap (λ b. cond b (Some one) (find (differs whole) is.after)) this in
    ap (λ (l : List Telling). taken_by l bytes (find (differs l) l)) is.stands
    ∙ ap (taken_by whole bytes) found
    ∙ ap (λ (o : Option Held). Err (status.CollectRefused line (option_map_or (λ (h : Held). h.line) o 0))) there

-- why a text is refused is why it is not taken
pub why-refused : (bytes : List ℕ) (why : CollectRefusal) → WhyNot bytes why
    → UnlessWant (λ s. collect_taken bytes ≡ Err s) (of_collect why)
why-refused bytes (collects.Differs line first) is = taken-differs bytes line first is
why-refused bytes collects.NoMemory is = tt
