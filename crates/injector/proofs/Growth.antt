-- Sources that grow by a line.
use Rattle.std.proofs.Common.{◌≡◌, ℕ, ◌+◌, ◌-◌, ◌<◌, ◌≤◌, List, [], ◌∷◌, ◌++◌, length, map, All, nat_lt, arith, length-append}
use Rattle.std.proofs.lemmas.List.{map-append}
use Rattle.std.proofs.lemmas.List.Elements.{All-push, All-map}
use Rattle.std.proofs.lemmas.List.Sorted.{IsNonDecreasingBy-push}
use Rattle.mw_types.specs.declared.TheConstants.{INPUT_MAX}
use Rattle.injector.specs.Sources.{SourceLine, IsSource}

-- a source stays one under a line within bounds, whose watermark is at least each before it
pub IsSource-push :
    (source : List SourceLine) (line : SourceLine)
    → IsSource source
    → line.item.stamp ≤ INPUT_MAX
    → line.stated ≤ INPUT_MAX
    → All (λ (l : SourceLine). l.stated ≤ line.stated) source
    → line.item.late ≡ nat_lt line.item.stamp line.stated
    → IsSource (source ++ line ∷ [])
IsSource-push source line kept stamp mark below late = record {
  stamps = All-push (λ (l : SourceLine). l.item.stamp ≤ INPUT_MAX) source line kept.stamps stamp;
  marks = All-push (λ (l : SourceLine). l.stated ≤ INPUT_MAX) source line kept.marks mark;
  rising =
      rw (map-append (λ (l : SourceLine). l.stated) source (line ∷ []))
      (IsNonDecreasingBy-push (λ n. n) (map (λ (l : SourceLine). l.stated) source) line.stated kept.rising
      (λ d some. All-map (λ n. n ≤ line.stated) (λ (l : SourceLine). l.stated) source below
      (length (map (λ (l : SourceLine). l.stated) source) - 1) d (omega (arith, some))));
  lateness = All-push (λ (l : SourceLine). l.item.late ≡ nat_lt l.item.stamp l.stated) source line kept.lateness late;
}

-- one more is still few, where there was room for it
pub room-push : {X : Type 0} (n : ℕ) (xs : List X) (x : X) → length xs + 1 < n → length (xs ++ x ∷ []) < n
room-push n xs x room = omega (arith, room, length-append xs (x ∷ []))
