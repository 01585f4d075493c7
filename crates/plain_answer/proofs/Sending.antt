-- What is sent to each part is what it reads.
use Rattle.std.proofs.Common.{◌≡◌, ℕ, zero, suc, ◌+◌, ◌<◌, ◌==◌, Bool, true, false, cond, List, [], ◌∷◌, ◌++◌, length, map, filter, fold, get_or, refl, sym, ◌∙◌, ap, subst, arith, append_assoc}
use Rattle.std.specs.Prelude.{slice_set, replicate}
use Rattle.std.specs.List.{flat_map, enumerate_from}
use Rattle.std.proofs.lemmas.Bool.Decides.{nat_tests}
use Rattle.std.proofs.lemmas.List.{append-nil, length-set}
use Rattle.std.proofs.lemmas.List.Elements.{filter-append}
use Rattle.mw_types.specs.declared.identity.RowName.{RowName}
use Rattle.mw_types.specs.declared.record.Record.{Record}
use Rattle.topology.specs.Shapes.{Shape, consumers_of, parts_of}
use Rattle.run_history.specs.Made.{sends_of}
use Rattle.plain_answer.specs.Plain.{Keyed, members_read}
use Rattle.plain_answer.specs.Sends.{sent_to, sent_along, AreRead}
use Rattle.plain_answer.proofs.Members.{map-append}

-- what is sent to one part
abbrev keyed_to : ℕ → List (RowName × Record) → List Keyed
keyed_to part sends = map (λ (r : RowName × Record). (r.0.key, r.1)) (filter (λ (r : RowName × Record). r.0.part == part) sends)

-- as many lists as before
sent-length : (sends : List (RowName × Record)) (reads : List (List Keyed)) → length (fold sent_to reads sends) ≡ length reads
sent-length [] reads = refl
sent-length (s ∷ sends) reads = sent-length sends (sent_to reads s)
    ∙ length-set reads s.0.part (get_or reads s.0.part [] ++ (s.0.key, s.1) ∷ [])

-- a list at a place that is there, where another comes to a place
set-at : {X : Type 0} (xs : List (List X)) (i j : ℕ) (x : X) → j < length xs
    → get_or (slice_set xs i (get_or xs i [] ++ x ∷ [])) j [] ≡ get_or xs j [] ++ cond (i == j) (x ∷ []) []
set-at [] i j x within = absurd (omega (arith, within))
set-at (y ∷ ys) zero zero x within = refl
set-at (y ∷ ys) zero (suc j) x within =
    let other : (0 == suc j) ≡ false = grind (arith, nat_tests) in
    sym (append-nil (get_or ys j [])) ∙ ap (λ b. get_or ys j [] ++ cond b (x ∷ []) []) (sym other)
set-at (y ∷ ys) (suc i) zero x within =
    let other : (suc i == 0) ≡ false = grind (arith, nat_tests) in
    sym (append-nil y) ∙ ap (λ b. y ++ cond b (x ∷ []) []) (sym other)
set-at (y ∷ ys) (suc i) (suc j) x within =
    set-at ys i j x (omega (arith, within)) ∙ ap (λ b. get_or ys j [] ++ cond b (x ∷ []) []) (sym (next i j))
  where
    next : (i j : ℕ) → (suc i == suc j) ≡ (i == j)
    next i j = elim (i == j) as (λ b. (i == j) ≡ b → (suc i == suc j) ≡ b) [
      | true ↦ λ e. grind (arith, nat_tests)
      | false ↦ λ e. grind (arith, nat_tests)
    ] refl

-- what is sent to a part stands behind what was
pub sent-at : (sends : List (RowName × Record)) (reads : List (List Keyed)) (part : ℕ) → part < length reads
    → get_or (fold sent_to reads sends) part [] ≡ get_or reads part [] ++ keyed_to part sends
sent-at [] reads part within = sym (append-nil (get_or reads part []))
sent-at (s ∷ sends) reads part within =
    let long : part < length (sent_to reads s) = omega (
      arith,
      within,
      length-set reads s.0.part (get_or reads s.0.part [] ++ (s.0.key, s.1) ∷ []),
    ) in
    sent-at sends (sent_to reads s) part long
    ∙ ap (λ l. l ++ keyed_to part sends) (set-at reads s.0.part part (s.0.key, s.1) within)
    ∙ append_assoc (get_or reads part []) (cond (s.0.part == part) ((s.0.key, s.1) ∷ []) []) (keyed_to part sends)
    ∙ ap (λ l. get_or reads part [] ++ l) (one (s.0.part == part))
  where
    one : (b : Bool) → cond b ((s.0.key, s.1) ∷ []) [] ++ keyed_to part sends
        ≡ map (λ (r : RowName × Record). (r.0.key, r.1)) (cond b (s ∷ filter (λ (r : RowName × Record). r.0.part == part) sends)
        (filter (λ (r : RowName × Record). r.0.part == part) sends))
    one true = refl
    one false = refl

-- all that streams send, from a part on
abbrev all_sends : Shape → ℕ → List (List Record) → List (RowName × Record)
all_sends shape n streams =
    flat_map (λ (s : ℕ × List Record). flat_map (sends_of (consumers_of shape s.0)) s.1) (enumerate_from n streams)

-- with one more stream
all_sends-push : (shape : Shape) (n : ℕ) (streams : List (List Record)) (x : List Record)
    → all_sends shape n (streams ++ x ∷ [])
    ≡ all_sends shape n streams ++ flat_map (sends_of (consumers_of shape (n + length streams))) x
all_sends-push shape n [] x =
    let same : n ≡ n + 0 = omega arith in
    append-nil (flat_map (sends_of (consumers_of shape n)) x) ∙ ap (λ k. flat_map (sends_of (consumers_of shape k)) x) same
all_sends-push shape n (y ∷ ys) x =
    let same : n + 1 + length ys ≡ n + length (y ∷ ys) = omega arith in
    let mine : List (RowName × Record) = flat_map (sends_of (consumers_of shape n)) y in
    ap (λ l. mine ++ l) (all_sends-push shape (n + 1) ys x
    ∙ ap (λ k. all_sends shape (n + 1) ys ++ flat_map (sends_of (consumers_of shape k)) x) same)
    ∙ sym (append_assoc mine (all_sends shape (n + 1) ys) (flat_map (sends_of (consumers_of shape (n + length (y ∷ ys)))) x))

-- what a part reads of one more stream
pub members-push : (shape : Shape) (streams : List (List Record)) (x : List Record) (part : ℕ)
    → members_read shape (streams ++ x ∷ []) part
    ≡ members_read shape streams part ++ keyed_to part (flat_map (sends_of (consumers_of shape (length streams))) x)
members-push shape streams x part =
    let same : 0 + length streams ≡ length streams = omega arith in
    ap (keyed_to part) (all_sends-push shape 0 streams x
    ∙ ap (λ k. all_sends shape 0 streams ++ flat_map (sends_of (consumers_of shape k)) x) same)
    ∙ ap (map (λ (r : RowName × Record). (r.0.key, r.1))) (filter-append (λ (r : RowName × Record). r.0.part == part)
    (all_sends shape 0 streams) (flat_map (sends_of (consumers_of shape (length streams))) x))
    ∙ map-append (λ (r : RowName × Record). (r.0.key, r.1)) (filter (λ (r : RowName × Record). r.0.part == part) (all_sends shape 0 streams))
    (filter (λ (r : RowName × Record). r.0.part == part) (flat_map (sends_of (consumers_of shape (length streams))) x))

-- one more stream is sent on
pub read-push : (shape : Shape) (streams : List (List Record)) (reads : List (List Keyed)) (x : List Record)
    → AreRead shape streams reads
    → AreRead shape (streams ++ x ∷ []) (sent_along (consumers_of shape (length streams)) reads x)
read-push shape streams reads x read =
    let sends : List (RowName × Record) = flat_map (sends_of (consumers_of shape (length streams))) x in
    record {
      parts = sent-length sends reads ∙ read.parts;
      each = λ part within.
          sent-at sends reads part (omega (arith, within, read.parts)) ∙ ap (λ l. l ++ keyed_to part sends) (read.each part within)
          ∙ sym (members-push shape streams x part);
    }

-- of no stream nothing is read
pub read-none : (shape : Shape) → AreRead shape [] (replicate (parts_of shape) [])
read-none shape = record {
  parts = long (parts_of shape) [];
  each = λ part within. none (parts_of shape) part [];
}
  where
    long : {X : Type 0} (n : ℕ) (x : X) → length (replicate n x) ≡ n
    long zero x = refl
    long (suc n) x = ap suc (long n x)

    none : {X : Type 0} (n part : ℕ) (x : X) → get_or (replicate n x) part x ≡ x
    none zero part x = refl
    none (suc n) zero x = refl
    none (suc n) (suc part) x = none n part x

-- the same, of lists that are these
pub read-begin : (shape : Shape) (streams : List (List Record)) (reads : List (List Keyed)) → streams ≡ []
    → reads ≡ replicate (parts_of shape) [] → AreRead shape streams reads
read-begin shape streams reads none empty = subst (λ s. AreRead shape s reads) (sym none) (subst (AreRead shape []) (sym empty) (read-none shape))

-- one more stream is sent on, of a part of this number
pub read-next : (shape : Shape) (part : ℕ) (streams more : List (List Record)) (reads sent : List (List Keyed)) (x : List Record)
    → length streams ≡ part → more ≡ streams ++ x ∷ [] → sent ≡ sent_along (consumers_of shape part) reads x
    → AreRead shape streams reads → AreRead shape more sent
read-next shape part streams more reads sent x long is on read =
    let there : sent ≡ sent_along (consumers_of shape (length streams)) reads x =
    on ∙ ap (λ n. sent_along (consumers_of shape n) reads x) (sym long) in
    subst (λ s. AreRead shape s sent) (sym is) (subst (AreRead shape (streams ++ x ∷ [])) (sym there) (read-push shape streams reads x read))
