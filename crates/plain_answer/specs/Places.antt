-- The places of a row, one record after another. No clause of another crate cites this module. Own.
use Rattle.std.specs.Prelude.{ℕ, ℤ, List}
use Rattle.std.specs.Int.{int_max}
use Rattle.std.specs.Ordering.{nat_cmp}
use Rattle.mw_types.specs.declared.record.Record.{Record}
use Rattle.row_parts.specs.Contents.{put_in}

-- places with one more: a timestamp that is there stays once, with the greater of the values
abbrev pub with_place : List (ℕ × ℤ) → ℕ × ℤ → List (ℕ × ℤ)
with_place places place =
    put_in (λ (new old : ℕ × ℤ). nat_cmp new.0 old.0)
    (λ (new old : ℕ × ℤ). (old.0, int_max old.1 new.1)) place places

-- the place of a record: its timestamp, with its value
abbrev pub place_of : Record → ℕ × ℤ
place_of r = (r.stamp, r.value)
