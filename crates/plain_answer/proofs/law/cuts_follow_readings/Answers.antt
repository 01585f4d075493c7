use Rattle.std.proofs.Common.{◌≡◌, ℕ, List, refl, ap}
use Rattle.std.specs.Prelude.{◌≢◌}
use Rattle.topology.specs.declared.subscription.By.{By}
use Rattle.topology.specs.declared.subscription.By.TheVariants.{Key, Head, Tail}
use Rattle.topology.specs.Shapes.{extracted}
use Rattle.plain_answer.specs.Splits.{Split, behind_last}
use Rattle.plain_answer.proofs.Cuts.{head-twice, tail-behind}
use Rattle.plain_answer.proofs.law.cuts_follow_readings.Goals as goal

-- a key's own number, of readings by the whole key
whole : (split : Split) (by : By) → by ≢ Head → by ≢ Tail → (key : List ℕ) → split (extracted by key) ≡ split key
whole split Key head tail key = refl
whole split Head head tail key = absurd (head refl)
whole split Tail head tail key = absurd (tail refl)

-- its head's, of those by the head too
heads : (split : Split) (by : By) → by ≢ Tail → (key : List ℕ) → split (extracted Head (extracted by key)) ≡ split (extracted Head key)
heads split Key tail key = refl
heads split Head tail key = ap split (head-twice key)
heads split Tail tail key = absurd (tail refl)

-- that of what stands behind the last slash, of those by the tail too
lasts : (split : Split) (by : By) → by ≢ Head → (key : List ℕ) → split (behind_last (extracted by key)) ≡ split (behind_last key)
lasts split Key head key = refl
lasts split Head head key = absurd (head refl)
lasts split Tail head key = ap split (tail-behind key)

pub returns : goal.returns
returns c = record {
  key = λ shape split head tail. λ k d less j e within key. whole split _ (head k d less j e within) (tail k d less j e within) key;
  head = λ shape split tail. λ k d less j e within key. heads split _ (tail k d less j e within) key;
  last = λ shape split head. λ k d less j e within key. lasts split _ (head k d less j e within) key;
}
