-- What was found of some live lines, and one more line.
use Rattle.std.proofs.Common.{◌≡◌, List, [], ◌∷◌, ◌++◌, Bool, true, false, cond, Option, Some, None, refl, sym, ap, ◌∙◌}
use Rattle.std.specs.Option.{option_map}
use Rattle.std.specs.List.{AllByRecursion}
use Rattle.std.specs.Map.{lookup}
use Rattle.std.specs.BTreeMap.{is_at, insert_entry}
use Rattle.std.specs.declared.cmp.Ordering.{Ordering}
use Rattle.std.specs.declared.cmp.Ordering.TheVariants.{Less, Equal, Greater}
use Rattle.std.specs.Ordering.{is_eq, ordering_then}
use Rattle.std.specs.Cmp.{tied_itself}
use Rattle.mw_types.specs.declared.identity.RecordId.{RecordId}
use Rattle.mw_types.specs.Orders.{id_cmp}
use Rattle.std.proofs.lemmas.Map.Lookups.{exact_unsigned}
use Rattle.mw_types.proofs.OrderLaws.{id_cmp-total}
use Rattle.list_lemmas.proofs.Lists.{none_some, each-append, each-weaker}
use Rattle.list_lemmas.proofs.Tests.{equal_from_test}
use Rattle.run_history.proofs.Lookups.{lookup-insert_entry}
use Rattle.live_outlet.specs.declared.held.Held.{Held}
use Rattle.live_outlet.specs.Collecting.{Telling, first_with, Agrees}

-- ---- ids

both_Equal : (a b : Ordering) → ordering_then a b ≡ Equal → (a ≡ Equal) × (b ≡ Equal)
both_Equal Less b e = absurd (cc)
both_Equal Equal b e = (refl, e)
both_Equal Greater b e = absurd (cc)

-- an id that is found under another is that id
pub same_found : (q id : RecordId) → is_at (id_cmp q) id ≡ true → q ≡ id
same_found q id at =
    let both = both_Equal _ _ (equal_from_test (id_cmp q id) at) in
    let commit = exact_unsigned q.commit id.commit both.0 in
    let index = exact_unsigned q.index id.index both.1 in
    λ i. record { commit = commit i; index = index i }

-- ---- look-ups in a list that grows

-- what is found stays
pub lookup-kept : (test : RecordId → Bool) (xs ys : List Telling) (h : Held) → lookup test xs ≡ Some h → lookup test (xs ++ ys) ≡ Some h
lookup-kept test [] ys h is = absurd (none_some h is)
lookup-kept test (x ∷ xs) ys h is = by_test (test x.0) (lookup-kept test xs ys h) is
  where
    by_test : (b : Bool) → (lookup test xs ≡ Some h → lookup test (xs ++ ys) ≡ Some h)
        → cond b (Some x.1) (lookup test xs) ≡ Some h → cond b (Some x.1) (lookup test (xs ++ ys)) ≡ Some h
    by_test true rest is = is
    by_test false rest is = rest is

-- what is not found is looked up in what comes behind
pub lookup-behind : (test : RecordId → Bool) (xs ys : List Telling) → lookup test xs ≡ None → lookup test (xs ++ ys) ≡ lookup test ys
lookup-behind test [] ys is = refl
lookup-behind test (x ∷ xs) ys is = by_test (test x.0) (lookup-behind test xs ys) is
  where
    by_test : (b : Bool) → (lookup test xs ≡ None → lookup test (xs ++ ys) ≡ lookup test ys)
        → cond b (Some x.1) (lookup test xs) ≡ None → cond b (Some x.1) (lookup test (xs ++ ys)) ≡ lookup test ys
    by_test true rest is = absurd (none_some x.1 (sym is))
    by_test false rest is = rest is

-- ---- what was found of some live lines

-- the first line of each id was found, and all lines of one id are equal
pub record IsFound (done firsts : List Telling) : Type 0 where
  pub each : (id : RecordId) → first_with id firsts ≡ first_with id done
  pub agree : AllByRecursion (Agrees done) done

-- what agrees goes on to agree
agrees-kept : (done more : List Telling) (one : Telling) → Agrees done one → Agrees (done ++ more) one
agrees-kept done more one agrees = by_found (first_with one.0 done) refl agrees
  where
    by_found : (o : Option Held) → first_with one.0 done ≡ o → option_map (λ (h : Held). h.text) o ≡ Some one.1.text
        → Agrees (done ++ more) one
    by_found None is agrees = absurd (none_some one.1.text agrees)
    by_found (Some h) is agrees =
        ap (option_map (λ (h : Held). h.text)) (lookup-kept (is_at (id_cmp one.0)) done more h is) ∙ agrees

-- one more line of an id that was not found
pub found-new : (done firsts : List Telling) (id : RecordId) (held : Held) → IsFound done firsts → first_with id firsts ≡ None
    → IsFound (done ++ (id, held) ∷ []) (insert_entry id_cmp firsts id held)
found-new done firsts id held is none =
    let none_done : first_with id done ≡ None = sym (is.each id) ∙ none in record {
      each = λ q. lookup-insert_entry id_cmp-total firsts id held q ∙ by_tie q (is_at (id_cmp q) id) refl;
      agree = each-append (Agrees (done ++ (id, held) ∷ [])) done ((id, held) ∷ [])
          (each-weaker (Agrees done) (Agrees (done ++ (id, held) ∷ [])) (agrees-kept done ((id, held) ∷ [])) done is.agree) (
            ap (option_map (λ (h : Held). h.text))
                (lookup-behind (is_at (id_cmp id)) done ((id, held) ∷ []) none_done
                ∙ ap (λ o. cond (is_eq o) (Some held) None) (tied_itself id_cmp-total id)),
            tt,
          );
    }
  where
    by_found : (q : RecordId) (o : Option Held) → first_with q done ≡ o → is_at (id_cmp q) id ≡ false
        → first_with q firsts ≡ first_with q (done ++ (id, held) ∷ [])
    by_found q None at other = is.each q ∙ at
        ∙ sym (lookup-behind (is_at (id_cmp q)) done ((id, held) ∷ []) at ∙ ap (λ b. cond b (Some held) None) other)
    by_found q (Some h) at other = is.each q ∙ at ∙ sym (lookup-kept (is_at (id_cmp q)) done ((id, held) ∷ []) h at)

    by_tie : (q : RecordId) (b : Bool) → is_at (id_cmp q) id ≡ b
        → cond b (Some held) (first_with q firsts) ≡ first_with q (done ++ (id, held) ∷ [])
    by_tie q true tie =
        let none_q : first_with q done ≡ None = ap (λ i. first_with i done) (same_found q id tie) ∙ sym (is.each id) ∙ none in
        sym (lookup-behind (is_at (id_cmp q)) done ((id, held) ∷ []) none_q ∙ ap (λ b. cond b (Some held) None) tie)
    by_tie q false tie = by_found q (first_with q done) refl tie

-- one more line of an id that was found, with the first one's text
pub found-same : (done firsts : List Telling) (id : RecordId) (held first : Held) → IsFound done firsts → first_with id firsts ≡ Some first
    → first.text ≡ held.text → IsFound (done ++ (id, held) ∷ []) firsts
found-same done firsts id held first is found same =
    let found_done : first_with id done ≡ Some first = sym (is.each id) ∙ found in record {
      each = λ q. is.each q ∙ by_found q (first_with q done) refl;
      agree = each-append (Agrees (done ++ (id, held) ∷ [])) done ((id, held) ∷ [])
          (each-weaker (Agrees done) (Agrees (done ++ (id, held) ∷ [])) (agrees-kept done ((id, held) ∷ [])) done is.agree) (
            ap (option_map (λ (h : Held). h.text)) (lookup-kept (is_at (id_cmp id)) done ((id, held) ∷ []) first found_done)
                ∙ ap Some same,
            tt,
          );
    }
  where
    by_tie : (q : RecordId) (b : Bool) → is_at (id_cmp q) id ≡ b → first_with q done ≡ None
        → None ≡ cond b (Some held) None
    by_tie q true tie at =
        absurd (none_some first (sym at ∙ ap (λ i. first_with i done) (same_found q id tie) ∙ sym (is.each id) ∙ found))
    by_tie q false tie at = refl

    by_found : (q : RecordId) (o : Option Held) → first_with q done ≡ o → first_with q done ≡ first_with q (done ++ (id, held) ∷ [])
    by_found q None at = at ∙ by_tie q (is_at (id_cmp q) id) refl at ∙ sym (lookup-behind (is_at (id_cmp q)) done ((id, held) ∷ []) at)
    by_found q (Some h) at = at ∙ sym (lookup-kept (is_at (id_cmp q)) done ((id, held) ∷ []) h at)
