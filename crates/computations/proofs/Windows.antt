-- The window that is due, by the place that a search found.
use Rattle.std.proofs.Common.{◌≡◌, ℕ, ◌≤◌, ◌==◌, List, Some, None, slice_get, find, sym, subst, ◌∙◌}
use Rattle.std.proofs.lemmas.Option.{get_or_from_slice_get}
use Rattle.std.proofs.lemmas.List.Elements.{All-get_or}
use Rattle.mw_types.specs.declared.TheConstants.{MAX_STAMP}
use Rattle.mw_types.specs.declared.state.Window.{Window}
use Rattle.mw_types.specs.Bounds.{AreWindows}
use Rattle.computations.specs.Places.{IsPlace, IsGap}
use Rattle.computations.proofs.Searching.{number-place, find-place, find-gap}

-- the window ends that ascend have this one's at this place
abbrev pub IsWindowPlace : List Window → ℕ → ℕ → Type 0
IsWindowPlace = IsPlace (λ (w : Window). w.end)

-- the window ends that ascend have no such one, which would stand at this place
abbrev pub IsWindowGap : List Window → ℕ → ℕ → Type 0
IsWindowGap = IsGap (λ (w : Window). w.end)

module _ (windows : List Window) (end at : ℕ) where
  -- where no window ends there, none is found
  pub find_none : IsWindowGap windows end at → None ≡ find (λ w. w.end == end) windows
  find_none gap = sym (find-gap (λ w. w.end) windows end at gap)

  module _ (due : Window) (place : IsWindowPlace windows end at) (read : slice_get windows at ≡ Some due) where
    -- the window at its place is the one that is found
    pub find_due : Some due ≡ find (λ w. w.end == end) windows
    find_due = sym (find-place (λ w. w.end) windows end at place ∙ read)

    -- it ends where it was looked for
    pub end_of_due : due.end ≡ end
    end_of_due = number-place (λ w. w.end) windows end at due place read

    -- and its count is within bounds
    pub count_of_due : AreWindows windows → due.count ≤ MAX_STAMP
    count_of_due within = subst (λ (w : Window). w.count ≤ MAX_STAMP) (get_or_from_slice_get windows at due due read) (All-get_or (λ w. w.count ≤ MAX_STAMP) windows at due place.in_range within.counts)
