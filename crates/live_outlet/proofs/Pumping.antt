-- What an outlet remembers and writes, entry by entry.
use Rattle.std.proofs.Common.{◌≡◌, ℕ, ◌+◌, ◌<◌, ◌≤◌, Bool, true, false, List, [], ◌∷◌, ◌++◌, length, get_or, take, drop, All, Option, Some, None, refl, sym, ◌∙◌, ap, subst, arith, append_assoc, append-nil, length-append}
use Rattle.std.proofs.lemmas.List.{at_drop_more, take_more, length-take-le, take-append-le}
use Rattle.mw_types.specs.declared.delivery.Emission.{Emission}
use Rattle.mw_types.specs.declared.entry.Entry.{Entry}
use Rattle.topology.specs.Shapes.{Shape, parts_of}
use Rattle.row_parts.specs.Contents.{IsId}
use Rattle.run_history.specs.Made.{emissions_of}
use Rattle.run_history.specs.Runs.{run_of}
use Rattle.run_history.specs.Printing.{HasFollowed}
use Rattle.run_history.proofs.Reaching.{emissions-push}
use Rattle.list_lemmas.proofs.Lists.{each-append}
use Rattle.list_lemmas.proofs.Places.{slice_get-some}
use Rattle.std.proofs.lemmas.Option.{get_or_from_slice_get}
use Rattle.std.specs.Io.KnownBytes.{append_known}
use Rattle.live_outlet.specs.LiveLines.{live_of, live_line_of, IsLive}
use Rattle.live_outlet.specs.Outlets.{OutletView, emitted_by, AreBetween, live_lines, AreLive, piece_of, owed, owes_behind, AreNext, Remembers, IsPumpedFrom, WritesTo, WritesPart, PutsPart}

-- ---- what is remembered

-- an outlet that has followed nothing was pumped from a beginning of any history
pub pumped-none : (shape : Shape) (history : List Entry) (owes : Bool) (late : List ℕ) (es : List Emission) → HasFollowed shape [] late
    → IsPumpedFrom shape (record { place = 0; owes = owes; followed = late; ready = false; waiting = es }) history
pumped-none shape history owes late es none = record { place = omega arith; known = none }

-- where the next entry was not followed, the entries before it were
pub followed-before : (shape : Shape) (history : List Entry) (o : OutletView) → IsPumpedFrom shape o history → o.ready ≡ false
    → HasFollowed shape (take o.place history) o.followed
followed-before shape history o is fresh = by_ready o.ready fresh is.known
  where
    by_ready : (b : Bool) → b ≡ false → Remembers shape history o.place o.followed b o.waiting → HasFollowed shape (take o.place history) o.followed
    by_ready true fresh known = absurd (cc)
    by_ready false fresh known = known

-- the next entry is followed
pub followed-next : (shape : Shape) (history : List Entry) (place : ℕ) (entry : Entry) (late late' : List ℕ) (es : List Emission)
    → place < length history → entry ≡ get_or history place entry → HasFollowed shape (take place history) late
    → ((before : List Entry) → HasFollowed shape before late → HasFollowed shape (before ++ entry ∷ []) late')
    → ((before : List Entry) → HasFollowed shape before late → es ≡ emissions_of shape (run_of shape before).made place entry)
    → All (λ (e : Emission). e.part < parts_of shape) es → All (λ (e : Emission). IsId e.id) es
    → Remembers shape history place late' true es
followed-next shape history place entry late late' es next is followed learnt emitted parts ids =
    let front = take place history in
    let more : front ++ entry ∷ [] ≡ take (place + 1) history =
    ap (λ (e : Entry). front ++ e ∷ []) is ∙ sym (take_more history place entry next) in
    let long : length front ≡ place = length-take-le place history (omega (arith, next)) in (
      subst (λ (h : List Entry). HasFollowed shape h late') more (learnt front followed),
      record {
        next = next;
        between = ap (λ l. (run_of shape front).emissions ++ l) (emitted front followed)
            ∙ ap (λ n. (run_of shape front).emissions ++ emissions_of shape (run_of shape front).made n entry) (sym long)
            ∙ sym (emissions-push shape front entry)
            ∙ ap (λ (h : List Entry). (run_of shape h).emissions) more;
        parts = parts;
        ids = ids;
      },
    )

-- ---- lines

-- one more line
pub lines-step : (shape : Shape) (es : List Emission) (i : ℕ) (e : Emission) (old new whole : List ℕ)
    → i < length es → e ≡ get_or es i e → new ≡ old ++ live_line_of shape e
    → old ++ live_lines shape (drop i es) ≡ whole → new ++ live_lines shape (drop (i + 1) es) ≡ whole
lines-step shape es i e old new whole within is grown left =
    let rest = live_lines shape (drop (i + 1) es) in
    ap (λ l. l ++ rest) grown
    ∙ append_assoc old (live_line_of shape e) rest
    ∙ ap (λ (d : Emission). old ++ (live_line_of shape d ++ rest)) is
    ∙ sym (ap (λ l. old ++ l) (at_drop_more (λ l. live_lines shape l) es i e within))
    ∙ left

-- and one more emission that is live
pub live-step : (shape : Shape) (es : List Emission) (i : ℕ) (e : Emission) → i < length es → e ≡ get_or es i e → IsLive (live_of shape e)
    → AreLive shape (take i es) → AreLive shape (take (i + 1) es)
live-step shape es i e within is one live =
    subst (AreLive shape) (ap (λ (d : Emission). take i es ++ d ∷ []) is ∙ sym (take_more es i e within))
    (each-append (λ (e : Emission). IsLive (live_of shape e)) (take i es) (e ∷ []) live (one, tt))

-- some lines behind an LF that is owed are a piece
pub owed-piece : (shape : Shape) (owes : Bool) (es : List Emission) → 0 < length es
    → owed owes ++ live_lines shape es ≡ piece_of owes (live_lines shape es)
owed-piece shape owes [] some = absurd (omega (arith, some))
owed-piece shape true (e ∷ es) some = refl
owed-piece shape false (e ∷ es) some = refl

-- ---- steps

-- nothing more
pub append_known-none : (text : Option (List ℕ)) → append_known text [] ≡ text
append_known-none None = refl
append_known-none (Some xs) = ap Some (append-nil xs)

-- more, and more again
append_known-more : (text : Option (List ℕ)) (xs ys : List ℕ) → append_known (append_known text xs) ys ≡ append_known text (xs ++ ys)
append_known-more None xs ys = refl
append_known-more (Some zs) xs ys = ap Some (append_assoc zs xs ys)

-- a piece of more lines
piece_of-append : (owes : Bool) (xs ys : List ℕ) → piece_of owes (xs ++ ys) ≡ piece_of owes xs ++ piece_of (owes_behind owes xs) ys
piece_of-append owes [] ys = refl
piece_of-append true (x ∷ xs) [] = ap (λ l. 10 ∷ x ∷ l) refl
piece_of-append true (x ∷ xs) (y ∷ ys) = refl
piece_of-append false (x ∷ xs) [] = refl
piece_of-append false (x ∷ xs) (y ∷ ys) = refl

owes_behind-append : (owes : Bool) (xs ys : List ℕ) → owes_behind owes (xs ++ ys) ≡ owes_behind (owes_behind owes xs) ys
owes_behind-append owes [] ys = refl
owes_behind-append owes (x ∷ xs) [] = refl
owes_behind-append owes (x ∷ xs) (y ∷ ys) = refl

live_lines-append : (shape : Shape) (xs ys : List Emission) → live_lines shape (xs ++ ys) ≡ live_lines shape xs ++ live_lines shape ys
live_lines-append shape [] ys = refl
live_lines-append shape (e ∷ xs) ys =
    ap (λ l. live_line_of shape e ++ l) (live_lines-append shape xs ys)
    ∙ sym (append_assoc (live_line_of shape e) (live_lines shape xs) (live_lines shape ys))

-- further lines
pub writes-more : (shape : Shape) (history : List Entry) (old mid new : OutletView) (text some grown : Option (List ℕ))
    → WritesTo shape history old mid text some → WritesTo shape history mid new some grown → WritesTo shape history old new text grown
writes-more shape history old mid new text some grown first after =
    let a = live_lines shape first.es in
    let b = live_lines shape after.es in
    let both : live_lines shape (first.es ++ after.es) ≡ a ++ b = live_lines-append shape first.es after.es in record {
      es = first.es ++ after.es;
      between = sym (append_assoc (emitted_by shape history old.place) first.es after.es)
          ∙ ap (λ l. l ++ after.es) first.between ∙ after.between;
      live = each-append (λ (e : Emission). IsLive (live_of shape e)) first.es after.es first.live after.live;
      wrote = after.wrote
          ∙ ap (λ t. append_known t (piece_of mid.owes b)) first.wrote
          ∙ append_known-more text (piece_of old.owes a) (piece_of mid.owes b)
          ∙ ap (λ o. append_known text (piece_of old.owes a ++ piece_of o b)) first.owes
          ∙ ap (append_known text) (sym (piece_of-append old.owes a b))
          ∙ ap (λ l. append_known text (piece_of old.owes l)) (sym both);
      owes = after.owes ∙ ap (λ o. owes_behind o b) first.owes ∙ sym (owes_behind-append old.owes a b)
          ∙ ap (owes_behind old.owes) (sym both);
    }

-- nothing of some emissions was written
pub part-none : (shape : Shape) (owes : Bool) (es : List Emission) (text : Option (List ℕ)) → WritesPart shape owes es text text
part-none shape owes es text = record {
  begun = [];
  left = es;
  whole = refl;
  live = tt;
  part = (0, omega arith, sym (append_known-none text));
}

-- an entry that is there has emissions
between-some : (shape : Shape) (history : List Entry) (place : ℕ) → place < length history
    → (es : List Emission) × AreBetween shape history place (place + 1) es
between-some shape history place next =
    let there = slice_get-some history place next in
    let entry : Entry = there.0 in
    let is : get_or history place entry ≡ entry = get_or_from_slice_get history place entry entry there.1 in
    let front = take place history in (
      emissions_of shape (run_of shape front).made (length front) entry,
      sym (emissions-push shape front entry)
          ∙ ap (λ (h : List Entry). (run_of shape h).emissions)
          (ap (λ (e : Entry). front ++ e ∷ []) (sym is) ∙ sym (take_more history place entry next)),
    )

-- nothing of the next entry was written
pub puts-none : (shape : Shape) (history : List Entry) (o : OutletView) (text : Option (List ℕ)) → o.place < length history
    → PutsPart shape history o text text
puts-none shape history o text next =
    let some = between-some shape history o.place next in
    record { es = some.0; next = some.1; part = part-none shape o.owes some.0 text }

-- behind some lines nothing is owed
pub owes-nothing : (shape : Shape) (owes : Bool) (es : List Emission) → (length es ≡ 0 → ⊥) → false ≡ owes_behind owes (live_lines shape es)
owes-nothing shape owes [] some = absurd (some refl)
owes-nothing shape owes (e ∷ es) some = refl

-- ---- histories that grow

-- a beginning of a history is one of each that extends it
front-grown : (history more : List Entry) (n : ℕ) → n ≤ length history → take n (history ++ more) ≡ take n history
front-grown history more n within = take-append-le n history more within

next-grown : (shape : Shape) (history more : List Entry) (place : ℕ) (es : List Emission) → AreNext shape history place es
    → AreNext shape (history ++ more) place es
next-grown shape history more place es is =
    let next : place < length history = is.next in
    let here = front-grown history more place (omega (arith, next)) in
    let there = front-grown history more (place + 1) (omega (arith, next)) in
    let long : length (history ++ more) ≡ length history + length more = length-append history more in record {
      next = omega (arith, next, long);
      between = ap (λ (h : List Entry). (run_of shape h).emissions ++ es) here ∙ is.between
          ∙ sym (ap (λ (h : List Entry). (run_of shape h).emissions) there);
      parts = is.parts;
      ids = is.ids;
    }

-- an outlet that was pumped from a beginning of a history was so of each that extends it
pub pumped-grown : (shape : Shape) (history more : List Entry) (o : OutletView) → IsPumpedFrom shape o history
    → IsPumpedFrom shape o (history ++ more)
pumped-grown shape history more o is = record {
  place = let within : o.place ≤ length history = is.place in
      let long : length (history ++ more) ≡ length history + length more = length-append history more in
      omega (arith, within, long);
  known = by_ready o.ready is.known;
}
  where
    by_ready : (b : Bool) → Remembers shape history o.place o.followed b o.waiting
        → Remembers shape (history ++ more) o.place o.followed b o.waiting
    by_ready false known = subst (λ (h : List Entry). HasFollowed shape h o.followed) (sym (front-grown history more o.place is.place)) known
    by_ready true known =
        let next : o.place < length history = known.1.next in (
          subst (λ (h : List Entry). HasFollowed shape h o.followed)
              (sym (front-grown history more (o.place + 1) (omega (arith, next)))) known.0,
          next-grown shape history more o.place o.waiting known.1,
        )
