-- Details that are kept, and what their entries are then.
use Rattle.std.proofs.Common.{◌≡◌, ◌-◌, ◌<◌, ◌≤◌, List, [], ◌∷◌, ◌++◌, length, get_or, take, map, All, refl, sym, ◌∙◌, ap, subst, arith, length-append}
use Rattle.std.specs.List.{AllByRecursion}
use Rattle.std.specs.Prelude.{Result, Ok, Err, OnErr, OnOk}
use Rattle.std.proofs.lemmas.Grind.{common_steps}
use Rattle.std.proofs.lemmas.List.{get_or_append_left, get_or_push, map-append}
use Rattle.std.proofs.lemmas.List.Elements.{All-append, All-from_recursion, recursion_from_All}
use Rattle.mw_types.specs.declared.entry.Entry.{Entry}
use Rattle.mw_types.specs.declared.entry.Entry.TheVariants as entries
use Rattle.run_history.specs.declared.details.Details.{Details}
use Rattle.run_history.specs.declared.details.Fired.{Fired}
use Rattle.run_history.specs.declared.details.Handled.{Handled}
use Rattle.run_history.specs.declared.packed.Packed.{Packed}
use Rattle.run_history.specs.declared.packed.Packed.TheVariants.{Claim, Inject, Handle, Fire, Ack, Purge, Whole}
use Rattle.run_history.specs.Naming.{Keeps, name_at, no_name}
use Rattle.run_history.specs.Packing.{ArePacked, AreNumbered, Counts, HasDetail, HasName, IsLast, IsNext, IsPacked, IsWithout, KeepsDetails, counts_of, no_entry, no_fired, no_handled, no_item, none_yet, unpacked, with_entry}

-- ---- kept details

-- what keeps what keeps it
keeps_on : {X : Type 0} (a b c : List X) → Keeps a b → Keeps b c → Keeps a c
keeps_on a b c one two number none within =
    let first = one number none within in
    let second = two number none first.0 in
    (second.0, second.1 ∙ first.1)

-- two lists of one length that a third keeps keep each other
keeps_beside : {X : Type 0} (a b c : List X) → Keeps a c → Keeps b c → length a ≡ length b → Keeps a b
keeps_beside a b c one two long number none within =
    let there : number < length b = subst (λ n. number < n) long within in
    (there, sym (two number none there).1 ∙ (one number none within).1)

-- details that keep what keeps them
pub details_on : (a b c : Details) → KeepsDetails a b → KeepsDetails b c → KeepsDetails a c
details_on a b c one two = record {
  names = keeps_on a.names b.names c.names one.names two.names;
  items = keeps_on a.items b.items c.items one.items two.items;
  handled = keeps_on a.handled b.handled c.handled one.handled two.handled;
  fired = keeps_on a.fired b.fired c.fired one.fired two.fired;
  wholes = keeps_on a.wholes b.wholes c.wholes one.wholes two.wholes;
}

-- details of one number that others keep keep each other, where the names do
pub details_beside : (a b c : Details) → Keeps a.names b.names → KeepsDetails a c → KeepsDetails b c
    → counts_of a ≡ counts_of b → KeepsDetails a b
details_beside a b c names one two counts = record {
  names = names;
  items = keeps_beside a.items b.items c.items one.items two.items (ap (λ (n : Counts). n.items) counts);
  handled = keeps_beside a.handled b.handled c.handled one.handled two.handled (ap (λ (n : Counts). n.handled) counts);
  fired = keeps_beside a.fired b.fired c.fired one.fired two.fired (ap (λ (n : Counts). n.fired) counts);
  wholes = keeps_beside a.wholes b.wholes c.wholes one.wholes two.wholes (ap (λ (n : Counts). n.wholes) counts);
}

-- ---- entries over kept details

-- an entry is packed still
pub packed_kept : (old new : Details) (p : Packed) → KeepsDetails old new → IsPacked old p → IsPacked new p
packed_kept old new (Claim worker interval) keeps is = is
packed_kept old new (Inject seq part line item) keeps is = (tt, (keeps.items item no_item is.1).0)
packed_kept old new (Handle seq row commit handled) keeps is =
    ((keeps.names row no_name is.0).0, (keeps.handled handled no_handled is.1).0)
packed_kept old new (Fire seq row fired) keeps is =
    ((keeps.names row no_name is.0).0, (keeps.fired fired no_fired is.1).0)
packed_kept old new (Ack seq row commit index) keeps is = ((keeps.names row no_name is.0).0, tt)
packed_kept old new (Purge seq row floor) keeps is = ((keeps.names row no_name is.0).0, tt)
packed_kept old new (Whole whole) keeps is = (tt, (keeps.wholes whole no_entry is.1).0)

-- and it is the same entry
pub unpacked_kept : (old new : Details) (p : Packed) → KeepsDetails old new → IsPacked old p
    → unpacked new p ≡ unpacked old p
unpacked_kept old new (Claim worker interval) keeps is = refl
unpacked_kept old new (Inject seq part line item) keeps is =
    ap (λ it. entries.Inject seq part line it) (keeps.items item no_item is.1).1
unpacked_kept old new (Handle seq row commit handled) keeps is =
    ap (λ (h : Handled). entries.Handle seq (name_at new.names row) (record { commit = commit; index = h.index }) h.effects)
    (keeps.handled handled no_handled is.1).1
    ∙ ap (λ name. entries.Handle seq name
    (record { commit = commit; index = (get_or old.handled handled no_handled).index })
    (get_or old.handled handled no_handled).effects) (keeps.names row no_name is.0).1
unpacked_kept old new (Fire seq row fired) keeps is =
    ap (λ (f : Fired). entries.Fire seq (name_at new.names row) f.timer f.mark f.effects) (keeps.fired fired no_fired is.1).1
    ∙ ap (λ name. entries.Fire seq name (get_or old.fired fired no_fired).timer (get_or old.fired fired no_fired).mark
    (get_or old.fired fired no_fired).effects) (keeps.names row no_name is.0).1
unpacked_kept old new (Ack seq row commit index) keeps is =
    ap (λ name. entries.Ack seq name (record { commit = commit; index = index })) (keeps.names row no_name is.0).1
unpacked_kept old new (Purge seq row floor) keeps is =
    ap (λ name. entries.Purge seq name floor) (keeps.names row no_name is.0).1
unpacked_kept old new (Whole whole) keeps is = (keeps.wholes whole no_entry is.1).1

-- so is each of some
all_kept : (old new : Details) (ps : List Packed) → KeepsDetails old new → AllByRecursion (IsPacked old) ps
    → AllByRecursion (IsPacked new) ps × (map (unpacked new) ps ≡ map (unpacked old) ps)
all_kept old new [] keeps each = (tt, refl)
all_kept old new (p ∷ ps) keeps each =
    let rest = all_kept old new ps keeps each.1 in (
      (packed_kept old new p keeps each.0, rest.0),
      ap (λ e. e ∷ map (unpacked new) ps) (unpacked_kept old new p keeps each.0)
          ∙ ap (λ l. unpacked old p ∷ l) rest.1,
    )

pub each_kept : (old new : Details) (ps : List Packed) → KeepsDetails old new → All (IsPacked old) ps
    → All (IsPacked new) ps
each_kept old new ps keeps each =
    All-from_recursion (IsPacked new) ps (all_kept old new ps keeps (recursion_from_All (IsPacked old) ps each)).0

pub map_kept : (old new : Details) (ps : List Packed) → KeepsDetails old new → All (IsPacked old) ps
    → map (unpacked new) ps ≡ map (unpacked old) ps
map_kept old new ps keeps each = (all_kept old new ps keeps (recursion_from_All (IsPacked old) ps each)).1

-- ---- details in the order of the entries

-- one entry more
pub numbered_more : (c end : Counts) (ps : List Packed) (p : Packed) → AreNumbered c ps end → IsNext end p
    → AreNumbered c (ps ++ p ∷ []) (with_entry p end)
numbered_more c end [] p all next = subst (λ (n : Counts). IsNext n p × (with_entry p n ≡ with_entry p end)) (sym all) (next, refl)
numbered_more c end (q ∷ ps) p all next = (all.0, numbered_more (with_entry q c) end ps p all.1 next)

-- one entry less, which has the last details
pub numbered_less : (c end : Counts) (ps : List Packed) (p : Packed) → AreNumbered c (ps ++ p ∷ []) end
    → (before : Counts) × AreNumbered c ps before × IsNext before p × (with_entry p before ≡ end)
numbered_less c end [] p all = (c, refl, all.0, all.1)
numbered_less c end (q ∷ ps) p all =
    let rest = numbered_less (with_entry q c) end ps p all.1 in
    (rest.0, (all.0, rest.1), rest.2, rest.3)

-- counts that are not above others
record AreUpTo (c end : Counts) : Type 0 where
  pub items : c.items ≤ end.items
  pub handled : c.handled ≤ end.handled
  pub fired : c.fired ≤ end.fired
  pub wholes : c.wholes ≤ end.wholes

-- those of entries go up
numbered_up : (c end : Counts) (ps : List Packed) → AreNumbered c ps end
    → AreUpTo c end × AllByRecursion (HasDetail end) ps
numbered_up c end [] all = (
  subst (AreUpTo c) all
      (record { items = omega arith; handled = omega arith; fired = omega arith; wholes = omega arith }),
  tt,
)
numbered_up c end (p ∷ ps) all =
    let rest = numbered_up (with_entry p c) end ps all.1 in
    by_entry p all.0 rest.0 rest.1
  where
    by_entry : (p : Packed) → IsNext c p → AreUpTo (with_entry p c) end → AllByRecursion (HasDetail end) ps
        → AreUpTo c end × AllByRecursion (HasDetail end) (p ∷ ps)
    by_entry (Claim worker interval) next up each = (up, (tt, each))
    by_entry (Inject seq part line item) next up each = (
      record { items = omega (arith, up.items); handled = up.handled; fired = up.fired; wholes = up.wholes },
      (omega (arith, next, up.items), each),
    )
    by_entry (Handle seq row commit handled) next up each = (
      record { items = up.items; handled = omega (arith, up.handled); fired = up.fired; wholes = up.wholes },
      (omega (arith, next, up.handled), each),
    )
    by_entry (Fire seq row fired) next up each = (
      record { items = up.items; handled = up.handled; fired = omega (arith, up.fired); wholes = up.wholes },
      (omega (arith, next, up.fired), each),
    )
    by_entry (Ack seq row commit index) next up each = (up, (tt, each))
    by_entry (Purge seq row floor) next up each = (up, (tt, each))
    by_entry (Whole whole) next up each = (
      record { items = up.items; handled = up.handled; fired = up.fired; wholes = omega (arith, up.wholes) },
      (omega (arith, next, up.wholes), each),
    )

-- counts with one entry less
abbrev less_entry : Packed → Counts → Counts
less_entry (Claim worker interval) c = c
less_entry (Inject seq part line item) c = record c { items = c.items - 1 }
less_entry (Handle seq row commit handled) c = record c { handled = c.handled - 1 }
less_entry (Fire seq row fired) c = record c { fired = c.fired - 1 }
less_entry (Ack seq row commit index) c = c
less_entry (Purge seq row floor) c = c
less_entry (Whole whole) c = record c { wholes = c.wholes - 1 }

less_of_more : (p : Packed) (c : Counts) → less_entry p (with_entry p c) ≡ c
less_of_more (Claim worker interval) c = refl
less_of_more (Inject seq part line item) c = ap (λ n. record c { items = n }) (omega arith)
less_of_more (Handle seq row commit handled) c = ap (λ n. record c { handled = n }) (omega arith)
less_of_more (Fire seq row fired) c = ap (λ n. record c { fired = n }) (omega arith)
less_of_more (Ack seq row commit index) c = refl
less_of_more (Purge seq row floor) c = refl
less_of_more (Whole whole) c = ap (λ n. record c { wholes = n }) (omega arith)

-- one entry more tells what was before
same_before : (p : Packed) (a b : Counts) → with_entry p a ≡ with_entry p b → a ≡ b
same_before p a b same = sym (less_of_more p a) ∙ ap (less_entry p) same ∙ less_of_more p b

-- ---- the entries of a history

-- one entry more
pub packed_more : (old new : Details) (ps : List Packed) (p : Packed) → KeepsDetails old new → IsPacked new p
    → IsNext (counts_of old) p → counts_of new ≡ with_entry p (counts_of old) → ArePacked old ps
    → ArePacked new (ps ++ p ∷ [])
packed_more old new ps p keeps is next counts are = record {
  each = All-append (IsPacked new) ps (p ∷ []) (each_kept old new ps keeps are.each)
      (All-from_recursion (IsPacked new) (p ∷ []) (is, tt));
  numbered = subst (AreNumbered none_yet (ps ++ p ∷ [])) (sym counts)
      (numbered_more none_yet (counts_of old) ps p are.numbered next);
}

-- it has that entry at its end
pub unpacked_more : (old new : Details) (ps : List Packed) (p : Packed) (entry : Entry) → KeepsDetails old new
    → unpacked new p ≡ entry → ArePacked old ps → map (unpacked new) (ps ++ p ∷ []) ≡ map (unpacked old) ps ++ entry ∷ []
unpacked_more old new ps p entry keeps is are =
    map-append (unpacked new) ps (p ∷ [])
    ∙ ap (λ l. l ++ unpacked new p ∷ []) (map_kept old new ps keeps are.each)
    ∙ ap (λ e. map (unpacked old) ps ++ e ∷ []) is

-- the last entry has its name, and the last details
pub last_packed : (d : Details) (all ps : List Packed) (p : Packed) → all ≡ ps ++ p ∷ [] → ArePacked d all
    → HasName d.names p × IsLast (counts_of d) p
last_packed d all ps p is are =
    let less = numbered_less none_yet (counts_of d) ps p (subst (λ l. AreNumbered none_yet l (counts_of d)) is are.numbered) in
    let each : All (IsPacked d) (ps ++ p ∷ []) = subst (All (IsPacked d)) is are.each in
    let named : IsPacked d p = subst (IsPacked d) (get_or_push ps p p (length ps) refl)
    (each (length ps) p (omega (arith, length-append ps (p ∷ [])))) in
    (named.0, (less.0, less.2, less.3))

-- the entries before it are packed without its details
pub rest_packed : (old new : Details) (all ps : List Packed) (p : Packed) → all ≡ ps ++ p ∷ [] → new.names ≡ old.names
    → counts_of old ≡ with_entry p (counts_of new) → ArePacked old all → ArePacked new ps
rest_packed old new all ps p is names counts are =
    let less = numbered_less none_yet (counts_of old) ps p (subst (λ l. AreNumbered none_yet l (counts_of old)) is are.numbered) in
    let before : less.0 ≡ counts_of new = same_before p less.0 (counts_of new) (less.3 ∙ counts) in
    let numbered : AreNumbered none_yet ps (counts_of new) = subst (AreNumbered none_yet ps) before less.1 in
    let details : All (HasDetail (counts_of new)) ps =
    All-from_recursion (HasDetail (counts_of new)) ps (numbered_up none_yet (counts_of new) ps numbered).1 in
    let each : All (IsPacked old) (ps ++ p ∷ []) = subst (All (IsPacked old)) is are.each in
    record {
      each = λ k x below. (
        subst (λ l. HasName l (get_or ps k x)) (sym names)
            (subst (λ q. HasName old.names q) (get_or_append_left ps (p ∷ []) x k below)
            (each k x (omega (arith, length-append ps (p ∷ []), below))).0),
        details k x below,
      );
      numbered = numbered;
    }

-- and they are the same entries
pub unpacked_rest : (old new : Details) (all ps : List Packed) (p : Packed) → all ≡ ps ++ p ∷ [] → KeepsDetails new old
    → ArePacked new ps → map (unpacked old) all ≡ map (unpacked new) ps ++ unpacked old p ∷ []
unpacked_rest old new all ps p is keeps are =
    ap (map (unpacked old)) is
    ∙ map-append (unpacked old) ps (p ∷ [])
    ∙ ap (λ l. l ++ unpacked old p ∷ []) (map_kept new old ps keeps are.each)

-- all but the last
pub all_but_last : {X : Type 0} (rest all : List X) (x : X) → all ≡ rest ++ x ∷ [] → rest ≡ take (length all - 1) all
all_but_last rest all x is = grind (arith, common_steps)

-- details that took an entry's and gave them back are as before, but for names
pub put_back : (old mid new : Details) (p : Packed) → KeepsDetails old mid → KeepsDetails new mid → new.names ≡ mid.names
    → counts_of mid ≡ with_entry p (counts_of old) → counts_of mid ≡ with_entry p (counts_of new)
    → KeepsDetails old new × (counts_of new ≡ counts_of old)
put_back old mid new p one two names before after =
    let same : counts_of old ≡ counts_of new = same_before p (counts_of old) (counts_of new) (sym before ∙ after) in
    (details_beside old new mid (subst (Keeps old.names) (sym names) one.names) one two same, sym same)

-- ---- an entry that is appended, or whose details are taken away

-- the entries are packed then
pub packed_appended : {T E : Type 0} (result : Result T E) (old mid new : Details) (ps qs : List Packed) (p : Packed)
    → KeepsDetails old mid → IsPacked mid p → IsNext (counts_of old) p × (counts_of mid ≡ with_entry p (counts_of old))
    → ArePacked old ps → OnOk result ((new ≡ mid) × (qs ≡ ps ++ p ∷ []))
    → OnErr result (IsWithout p mid new × (qs ≡ ps)) → ArePacked new qs
packed_appended (Ok x) old mid new ps qs p keeps is next are ok err =
    subst (λ d. ArePacked d qs) (sym ok.0) (subst (ArePacked mid) (sym ok.1)
    (packed_more old mid ps p keeps is next.0 next.1 are))
packed_appended (Err why) old mid new ps qs p keeps is next are ok err =
    let back = put_back old mid new p keeps err.0.kept err.0.names next.1 err.0.counted in
    subst (ArePacked new) (sym err.1) (record {
      each = each_kept old new ps back.0 are.each;
      numbered = subst (AreNumbered none_yet ps) (sym back.1) are.numbered;
    })

-- it is one entry more
pub unpacked_appended : {T E : Type 0} (result : Result T E) (old mid new : Details) (ps qs : List Packed) (p : Packed)
    (entry : Entry) (held : List Entry) → KeepsDetails old mid → unpacked mid p ≡ entry → ArePacked old ps
    → map (unpacked old) ps ≡ held → OnOk result ((new ≡ mid) × (qs ≡ ps ++ p ∷ []))
    → OnOk result (map (unpacked new) qs ≡ held ++ entry ∷ [])
unpacked_appended (Ok x) old mid new ps qs p entry held keeps is are was ok =
    ap (λ d. map (unpacked d) qs) ok.0
    ∙ ap (map (unpacked mid)) ok.1
    ∙ unpacked_more old mid ps p entry keeps is are
    ∙ ap (λ l. l ++ entry ∷ []) was
unpacked_appended (Err why) old mid new ps qs p entry held keeps is are was ok = tt

-- or they are the same entries
pub unpacked_taken_back : {T E : Type 0} (result : Result T E) (old mid new : Details) (ps qs : List Packed) (p : Packed)
    (held : List Entry) → KeepsDetails old mid → counts_of mid ≡ with_entry p (counts_of old) → ArePacked old ps
    → map (unpacked old) ps ≡ held → OnErr result (IsWithout p mid new × (qs ≡ ps))
    → OnErr result (map (unpacked new) qs ≡ held)
unpacked_taken_back (Ok x) old mid new ps qs p held keeps counts are was err = tt
unpacked_taken_back (Err why) old mid new ps qs p held keeps counts are was err =
    ap (map (unpacked new)) err.1
    ∙ map_kept old new ps (put_back old mid new p keeps err.0.kept err.0.names counts err.0.counted).0 are.each
    ∙ was
