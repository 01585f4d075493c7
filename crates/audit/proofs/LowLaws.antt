-- The table of the low watermarks of all parts, made in one pass over them.
use Rattle.std.proofs.Common.{◌≡◌, ℕ, zero, suc, ◌+◌, ◌-◌, ◌<◌, ◌≤◌, cond, List, [], ◌∷◌, length, map, get_or, inl, inr, refl, sym, ap, ◌∙◌, subst, arith, length-append}
use Rattle.std.specs.List.{AllByRecursion}
use Rattle.std.proofs.lemmas.List.{get_or_append_left, get_or-append_right}
use Rattle.std.proofs.lemmas.Bool.{cases_lt}
use Rattle.mw_types.specs.declared.TheConstants.{END}
use Rattle.topology.specs.Shapes.{feeds_of, parts_of}
use Rattle.topology.specs.Rules.{IsTopology}
use Rattle.run_history.specs.Cases.{CaseShape, is_injector}
use Rattle.run_history.specs.Runs.{Run}
use Rattle.run_history.specs.Watermarks.{least, low_under, low_watermark, oldest_work, source_mark}
use Rattle.history_laws.proofs.FeedLaws.{feeds-before}
use Rattle.audit.specs.Lows.{low_after, lows_of}

-- two maps are the same where they agree on each element
map-agree : {X Y : Type 0} (P : X → Type 0) (f g : X → Y) → ((x : X) → P x → f x ≡ g x) → (xs : List X) → AllByRecursion P xs
    → map f xs ≡ map g xs
map-agree P f g agree [] each = refl
map-agree P f g agree (x ∷ xs) each = ap (λ y. y ∷ map f xs) (agree x each.0) ∙ ap (λ ys. g x ∷ ys) (map-agree P f g agree xs each.1)

module _ (case : CaseShape) (run : Run) (topology : IsTopology case.topology) where
  fed : (part : ℕ) → AllByRecursion (λ f. f < part) (feeds_of case.topology part)
  fed part = feeds-before case.topology part topology

  -- what a part is fed by, looking back so far
  abbrev fed_by : ℕ → ℕ → ℕ
  fed_by depth f = cond (is_injector case.topology f) (source_mark case run f) (low_under case run depth f)

  -- low watermarks agree where what feeds the part does
  agrees : (depth other part : ℕ) → ((f : ℕ) → f < part → fed_by depth f ≡ fed_by other f)
      → low_under case run (suc depth) part ≡ low_under case run (suc other) part
  agrees depth other part each =
      ap (λ ms. least (oldest_work run part ∷ ms))
      (map-agree (λ f. f < part) (fed_by depth) (fed_by other) each (feeds_of case.topology part) (fed part))

  -- looking back further than a part's number changes nothing
  deeper : (depth part other : ℕ) → part ≤ depth → part ≤ other → low_under case run (suc depth) part ≡ low_under case run
      (suc other) part
  deeper zero part other le less = agrees zero other part (λ f lt. absurd (omega (arith, lt, le)))
  deeper (suc depth) part zero le less = agrees (suc depth) zero part (λ f lt. absurd (omega (arith, lt, less)))
  deeper (suc depth) part (suc other) le less =
      agrees (suc depth) (suc other) part (λ f lt. ap (λ l. cond (is_injector case.topology f) (source_mark case run f) l)
      (deeper depth f other (omega (arith, lt, le)) (omega (arith, lt, less))))

  -- as far as a part's own number is as far as any number above it
  own-near : (parts f : ℕ) → f < parts → low_under case run (suc f) f ≡ low_under case run parts f
  own-near zero f less = absurd (omega (arith, less))
  own-near (suc parts) f less = deeper f f parts (omega arith) (omega (arith, less))

  -- the table has a mark for each part
  length-lows : (parts : ℕ) → length (lows_of case run parts) ≡ parts
  length-lows zero = refl
  length-lows (suc parts) =
      length-append (lows_of case run parts) (low_after case run (lows_of case run parts) parts ∷ [])
      ∙ ap (λ n. n + 1) (length-lows parts) ∙ omega arith

  -- an earlier mark stays, and the next comes behind
  earlier : (parts part : ℕ) → part < parts → get_or (lows_of case run (suc parts)) part END ≡ get_or (lows_of case run parts) part END
  earlier parts part lt =
      get_or_append_left (lows_of case run parts) (low_after case run (lows_of case run parts) parts ∷ []) END part
      (omega (arith, lt, length-lows parts))

  last : (parts : ℕ) → get_or (lows_of case run (suc parts)) parts END ≡ low_after case run (lows_of case run parts) parts
  last parts =
      let n : parts ≤ parts = omega arith in
      let none : parts - parts ≡ 0 = omega arith in
      get_or-append_right (lows_of case run parts) (low_after case run (lows_of case run parts) parts ∷ []) parts parts END
      (length-lows parts) n
      ∙ ap (λ i. get_or (low_after case run (lows_of case run parts) parts ∷ []) i END) none

  -- the table has the low watermark of each part, looking back as far as its own number
  at-own : (parts part : ℕ) → part < parts → get_or (lows_of case run parts) part END ≡ low_under case run (suc part) part
  at-own zero part lt = absurd (omega (arith, lt))
  at-own (suc parts) part lt = elim (cases_lt part parts) [
    | inl less ↦ earlier parts part less ∙ at-own parts part less
    | inr least_one ↦
        let same : part ≡ parts = omega (arith, lt, least_one) in
        subst (λ p. get_or (lows_of case run (suc parts)) p END ≡ low_under case run (suc p) p) (sym same)
        (last parts ∙ ap (λ ms. least (oldest_work run parts ∷ ms)) (map-agree (λ f. f < parts)
        (λ f. cond (is_injector case.topology f) (source_mark case run f) (get_or (lows_of case run parts) f END)) (fed_by parts)
        (λ f less. ap (λ l. cond (is_injector case.topology f) (source_mark case run f) l) (at-own parts f less ∙ own-near parts f less))
        (feeds_of case.topology parts) (fed parts)))
  ]

  -- the table of all parts has the low watermark of each
  pub low-table : (part : ℕ) → part < parts_of case.topology
      → get_or (lows_of case run (parts_of case.topology)) part END ≡ low_watermark case run part
  low-table part lt = at-own (parts_of case.topology) part lt ∙ own-near (parts_of case.topology) part lt

-- the same, for a function that makes the table
pub low_own : (case : CaseShape) (run : Run) → IsTopology case.topology → (part : ℕ) → part < parts_of case.topology
    → get_or (lows_of case run (parts_of case.topology)) part END ≡ low_watermark case run part
low_own case run topology part there = low-table case run topology part there
