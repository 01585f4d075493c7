-- Passes that are handed out, and the mailboxes that they are of.
use Rattle.std.proofs.Common.{inl, inr, ◌≡◌, ◌∙◌, ◌<◌, ◌+◌, ◌++◌, ◌∷◌, ℕ, zero, suc, List, [], length, refl, sym, subst, arith, length-append}
use Rattle.std.specs.Prelude.{slice_index_or}
use Rattle.std.proofs.lemmas.Bool.{cases_eq}
use Rattle.std.proofs.lemmas.List.{get_or_append_left, get_or_at}
use Rattle.crossbeam_queue.specs.Passes.{IsPassOf}
use Rattle.workers.specs.PassLists.{AllFrom, IsNewPass}
use Rattle.workers.specs.declared.mailbox.Mailbox.{Mailbox}
use Rattle.workers.specs.declared.passes.MailPass.{MailPass}
use Rattle.workers.specs.Passing.{ArePasses}
use Rattle.workers.specs.Boxes.{AreHandedOut, HavePasses}

-- nothing is handed out yet
pub handed-not : {X : Type 0} (made : List X) (old : List (List X)) → AreHandedOut made 0 old old
handed-not made old = record {
  long = refl;
  got = λ at d x below. absurd (omega (arith, below));
  rest = λ at d from. refl;
}

-- ---- passes of mailboxes

-- a worker gets a pass of one mailbox more
pass-more : {N J : Type 0} (count : ℕ) (boxes : List (Mailbox N J)) (box : Mailbox N J) (passes : List (MailPass N J)) (pass : MailPass N J)
    → IsPassOf box.line pass.pass → ArePasses count boxes passes → ArePasses (count + 1) (boxes ++ box ∷ []) (passes ++ pass ∷ [])
pass-more {N} {J} count boxes box passes pass is are = record {
  many_boxes = let long = length-append boxes (box ∷ []) in let many = are.many_boxes in omega (arith, long, many);
  many_passes = let long = length-append passes (pass ∷ []) in let many = are.many_passes in omega (arith, long, many);
  each = each;
}
  where
    each : (at : ℕ) (b : Mailbox N J) (p : MailPass N J) → at < count + 1
        → IsPassOf (slice_index_or (boxes ++ box ∷ []) at b).line (slice_index_or (passes ++ pass ∷ []) at p).pass
    each at b p below = elim (cases_eq at count) [
      | inl same ↦
          let last : slice_index_or (boxes ++ box ∷ []) at b ≡ box = get_or_at boxes box [] b at (are.many_boxes ∙ sym same) in
          let its : slice_index_or (passes ++ pass ∷ []) at p ≡ pass = get_or_at passes pass [] p at (are.many_passes ∙ sym same) in
          subst (λ (x : Mailbox N J). IsPassOf x.line (slice_index_or (passes ++ pass ∷ []) at p).pass) (sym last)
          (subst (λ (y : MailPass N J). IsPassOf box.line y.pass) (sym its) is)
      | inr other ↦
          let inside : at < count = omega (arith, below, other) in
          let same_box : slice_index_or (boxes ++ box ∷ []) at b ≡ slice_index_or boxes at b =
          get_or_append_left boxes (box ∷ []) b at (let many = are.many_boxes in omega (arith, inside, many)) in
          let same_pass : slice_index_or (passes ++ pass ∷ []) at p ≡ slice_index_or passes at p =
          get_or_append_left passes (pass ∷ []) p at (let many = are.many_passes in omega (arith, inside, many)) in
          subst (λ (x : Mailbox N J). IsPassOf x.line (slice_index_or (passes ++ pass ∷ []) at p).pass) (sym same_box)
          (subst (λ (y : MailPass N J). IsPassOf (slice_index_or boxes at b).line y.pass) (sym same_pass) (are.each at b p inside))
    ]

-- a fact of each in a list and of its number, at one place
from-at : {X : Type 0} (fact : ℕ → X → Type 0) (from : ℕ) (xs : List X) (k : ℕ) (d : X) → k < length xs → AllFrom fact from xs
    → fact (from + k) (slice_index_or xs k d)
from-at fact from [] k d below all = absurd (omega (arith, below))
from-at fact from (x ∷ xs) zero d below all = subst (λ (n : ℕ). fact n x) (omega arith) all.0
from-at {X} fact from (x ∷ xs) (suc k) d below all =
    subst (λ (n : ℕ). fact n (slice_index_or xs k d)) (omega arith) (from-at fact (suc from) xs k d (omega (arith, below)) all.1)

-- each worker gets a pass of one mailbox more, where one is told that stands for what is not there
boxes-given : {N J : Type 0} (x : MailPass N J) (boxes : List (Mailbox N J)) (box : Mailbox N J) (made : List (MailPass N J))
    (old new : List (List (MailPass N J))) → length made ≡ length old
    → AllFrom (λ place (p : MailPass N J). IsNewPass box.line place p.pass p.place) 0 made → AreHandedOut made (length made) old new
    → HavePasses (length boxes) boxes old → HavePasses (length boxes + 1) (boxes ++ box ∷ []) new
boxes-given {N} {J} x boxes box made old new long fresh handed have k d within =
    let inside : k < length made = (let same = handed.long in omega (arith, within, same, long)) in
    subst (λ (l : List (MailPass N J)). ArePasses (length boxes + 1) (boxes ++ box ∷ []) l) (sym (handed.got k d x inside))
    (pass-more (length boxes) boxes box (slice_index_or old k d) (slice_index_or made k x)
    (from-at (λ place (p : MailPass N J). IsNewPass box.line place p.pass p.place) 0 made k x inside fresh).of_line
    (have k d (omega (arith, inside, long))))

-- each worker gets a pass of one mailbox more
pub boxes-more : {N J : Type 0} (boxes : List (Mailbox N J)) (box : Mailbox N J) (made : List (MailPass N J))
    (old new : List (List (MailPass N J))) → length made ≡ length old
    → AllFrom (λ place (p : MailPass N J). IsNewPass box.line place p.pass p.place) 0 made → AreHandedOut made (length made) old new
    → HavePasses (length boxes) boxes old → HavePasses (length boxes + 1) (boxes ++ box ∷ []) new
boxes-more boxes box [] old new long fresh handed have =
    λ k d within. absurd (let same = handed.long in omega (arith, within, same, long))
boxes-more boxes box (x ∷ xs) old new long fresh handed have = boxes-given x boxes box (x ∷ xs) old new long fresh handed have
