-- What the code of a split and of a merge makes, step by step.
use Rattle.std.proofs.Common.{◌≡◌, ◌<◌, ◌≤◌, ◌-◌, ◌+◌, ◌∙◌, ◌++◌, ◌∷◌, [], ℕ, zero, suc, List, false, Some, length, get_or, set, arith, refl, sym, ap, append_assoc, length-append, map, drop, drop-cons}
use Rattle.std.specs.Prelude.{Option}
use Rattle.std.specs.Option.{option_map, option_map_or}
use Rattle.std.specs.List.{range_with_len}
use Rattle.std.proofs.lemmas.Option.{slice_get_read}
use Rattle.std.proofs.lemmas.List.{length-map}
use Rattle.mw_types.specs.declared.key.PartCuts.{PartCuts}
use Rattle.key_intervals.specs.declared.bounds.Bounds.{Bounds}
use Rattle.key_intervals.specs.declared.given.Given.{Given}
use Rattle.key_intervals.specs.Intervals.{bounds_of, part_bounds_of}
use Rattle.key_intervals.specs.Division.{bounds_at, fresh, joined, lower_of, once_ended, once_merged, once_split, upper_of}
use Rattle.key_intervals.proofs.GivenLists.{ended-append, length-ended}

-- numbers from one on are that one and the ones after it
pub range-more : (n end : ℕ) → n < end → range_with_len n (end - n) ≡ n ∷ range_with_len (n + 1) (end - (n + 1))
range-more n end less =
    let one : end - n ≡ suc (end - (n + 1)) = omega (arith, less) in ap (range_with_len n) one

-- an interval that is made live no more has ended
pub set-ended : (n : ℕ) (gs : List Given) (g : Given) → n < length gs → g ≡ get_or gs n g
    → set gs n (record g { live = false }) ≡ once_ended n gs
set-ended n [] g less at = absurd (omega (arith, less))
set-ended zero (h ∷ gs) g less at = ap (λ (k : Given). record k { live = false } ∷ gs) at
set-ended (suc n) (h ∷ gs) g less at = ap (λ all. h ∷ all) (set-ended n gs g (omega (arith, less)) at)

-- what stands at a number's place has its bounds
bounds-there : (n : ℕ) (gs : List Given) (g : Given) → n < length gs → g ≡ get_or gs n g → bounds_at gs n ≡ Some g.bounds
bounds-there n gs g less at = ap (option_map (λ (h : Given). h.bounds)) (slice_get_read gs (length gs) n g refl less at)

-- both halves are appended, and then the whole ends
pub split-made : (interval : ℕ) (cut : List ℕ) (given roomy one two made : List Given) (g low_given high_given : Given)
    (lower upper : Bounds)
    → interval < length given → roomy ≡ given → g ≡ get_or roomy interval g → lower ≡ lower_of cut g.bounds → upper ≡ upper_of cut g.bounds
    → low_given ≡ fresh lower → one ≡ roomy ++ low_given ∷ [] → high_given ≡ fresh upper → two ≡ one ++ high_given ∷ []
    → made ≡ once_ended interval two → made ≡ once_split interval cut given
split-made interval cut given roomy one two made g low_given high_given lower upper less same at low high low_is first high_is next ends =
    let there : bounds_at given interval ≡ Some g.bounds =
    bounds-there interval given g less (at ∙ ap (λ all. get_or all interval g) same) in
    let both : two ≡ given ++ low_given ∷ high_given ∷ [] =
    next ∙ ap (λ all. all ++ high_given ∷ []) (first ∙ ap (λ all. all ++ low_given ∷ []) same)
    ∙ append_assoc given (low_given ∷ []) (high_given ∷ []) in
    let halves : low_given ∷ high_given ∷ [] ≡ fresh (lower_of cut g.bounds) ∷ fresh (upper_of cut g.bounds) ∷ [] =
    ap (λ (h : Given). h ∷ high_given ∷ []) (low_is ∙ ap fresh low)
    ∙ ap (λ (h : Given). fresh (lower_of cut g.bounds) ∷ h ∷ []) (high_is ∙ ap fresh high) in
    ends ∙ ap (once_ended interval) both ∙ ended-append interval given (low_given ∷ high_given ∷ []) less
    ∙ ap (λ two. once_ended interval given ++ two) halves
    ∙ sym (ap (λ (o : Option Bounds). option_map_or
    (λ (b : Bounds). once_ended interval given ++ fresh (lower_of cut b) ∷ fresh (upper_of cut b) ∷ []) o given) there)

-- a number is still given once another interval is appended and one has ended
pub still-within : (low high : ℕ) (given roomy more ended : List Given) (g : Given) → high < length given → roomy ≡ given
    → more ≡ roomy ++ g ∷ [] → ended ≡ once_ended low more → high < length ended
still-within low high given roomy more ended g less same first ends =
    omega (arith, less, ap length same, ap length first, length-append roomy (g ∷ []), ap length ends, length-ended low more)

-- what the two have together is appended, and then both end
pub merge-made : (low high : ℕ) (given roomy more one made : List Given) (g h new : Given) (b : Bounds)
    → low < length given → high < length given → roomy ≡ given → g ≡ get_or roomy low g → h ≡ get_or roomy high h
    → b ≡ joined g.bounds h.bounds → new ≡ fresh b → more ≡ roomy ++ new ∷ [] → one ≡ once_ended low more → made ≡ once_ended high one
    → made ≡ once_merged low high given
merge-made low high given roomy more one made g h new b low_less high_less same low_at high_at is new_is first next ends =
    let low_there : bounds_at given low ≡ Some g.bounds =
    bounds-there low given g low_less (low_at ∙ ap (λ all. get_or all low g) same) in
    let high_there : bounds_at given high ≡ Some h.bounds =
    bounds-there high given h high_less (high_at ∙ ap (λ all. get_or all high h) same) in
    let within : high < length (once_ended low given) = omega (arith, high_less, length-ended low given) in
    let whole : made ≡ once_ended high (once_ended low given) ++ new ∷ [] =
    ends ∙ ap (once_ended high) (next ∙ ap (once_ended low) (first ∙ ap (λ all. all ++ new ∷ []) same)
    ∙ ended-append low given (new ∷ []) low_less) ∙ ended-append high (once_ended low given) (new ∷ []) within in
    whole ∙ ap (λ (k : Given). once_ended high (once_ended low given) ++ k ∷ []) (new_is ∙ ap fresh is)
    ∙ sym (rw (low_there, high_there))

-- while parts are left there is room for the intervals of the next
pub room-left : (parts : List PartCuts) (all : List Given) (i most : ℕ) (part : PartCuts) → i < length parts → part ≡ get_or parts i part
    → map fresh (bounds_of parts) ≡ all ++ map fresh (bounds_of (drop i parts)) → length (bounds_of parts) ≤ most
    → length all + length (part_bounds_of part) ≤ most
room-left parts all i most part less is whole few =
    let left : drop i parts ≡ part ∷ drop (suc i) parts =
    drop-cons parts i part less ∙ ap (λ (p : PartCuts). p ∷ drop (suc i) parts) (sym is) in
    let rest = bounds_of (drop (suc i) parts) in
    omega (
      arith,
      few,
      length-map (bounds_of parts) fresh,
      ap length whole,
      length-append all (map fresh (bounds_of (drop i parts))),
      length-map (bounds_of (drop i parts)) fresh,
      ap (λ (ps : List PartCuts). length (bounds_of ps)) left,
      length-append (part_bounds_of part) rest,
    )
