-- The print of an id gives the id.
use Rattle.std.proofs.Common.{◌≡◌, ℕ, zero, suc, ◌+◌, ◌-◌, ◌/◌, ◌%◌, ◌<◌, ◌^◌, ◌||◌, Bool, false, cond, List, length, Some, None, option_and_then, nat_lt, nat_le, inl, refl, sym, ap, ap₂, ◌∙◌, arith}
use Rattle.std.specs.Int.{to_be_bytes, w128, byte_at, bytes_high_first}
use Rattle.std.specs.List.{AllByRecursion}
use Rattle.std.proofs.lemmas.List.Elements.{All-from_recursion}
use Rattle.std.proofs.lemmas.Bool.Decides.{nat_tests}
use Rattle.uuid.specs.Text.{lower}
use Rattle.uuid.proofs.RoundTrips.{parses_hyphenated}
use Rattle.uuid.proofs.OrderLemmas.{from_be_bytes-to_be_bytes_16}
use Rattle.mw_types.specs.declared.identity.RecordId.{RecordId}
use Rattle.mw_types.specs.PrintedIds.{id_number, printed_id}
use Rattle.row_parts.specs.Contents.{IsId}
use Rattle.live_outlet.specs.Guesses.{id_of_halves, id_of, id_in}

-- the halves of an id give the id
halves-own : (id : RecordId) → IsId id → id_of_halves (32768 + id.index) (2 ^ 63 + id.commit) ≡ Some id
halves-own id is =
    let commit : id.commit < 2 ^ 32 = is.commit in
    let index : id.index < 512 = is.index in
    let none : (nat_lt (32768 + id.index) 32768 || (nat_le 33280 (32768 + id.index) || (nat_lt (2 ^ 63 + id.commit) (2 ^ 63) || nat_le (2 ^ 63 + 2 ^ 32) (2 ^ 63 + id.commit)))) ≡ false = grind (arith, nat_tests) in
    let c : (2 ^ 63 + id.commit) - 2 ^ 63 ≡ id.commit = omega arith in
    let i : (32768 + id.index) - 32768 ≡ id.index = omega arith in
    ap (λ (b : Bool). cond b None (Some (record { commit = (2 ^ 63 + id.commit) - 2 ^ 63; index = (32768 + id.index) - 32768 }))) none
    ∙ ap₂ (λ (x y : ℕ). Some (record { commit = x; index = y })) c i

-- the number of an id has its halves
number-small : (id : RecordId) → IsId id → id_number id < 2 ^ 128
number-small id is = omega (arith, is.commit, is.index)

number-high : (id : RecordId) → IsId id → id_number id / 2 ^ 64 ≡ 32768 + id.index
number-high id is = omega (arith, is.commit, is.index)

number-low : (id : RecordId) → IsId id → id_number id % 2 ^ 64 ≡ 2 ^ 63 + id.commit
number-low id is = omega (arith, is.commit, is.index)

bytes-own : (id : RecordId) → IsId id → id_of (to_be_bytes w128 (id_number id)) ≡ Some id
bytes-own id is =
    let n = from_be_bytes-to_be_bytes_16 (id_number id) (number-small id is) in
    ap (λ k. id_of_halves (k / 2 ^ 64) (k % 2 ^ 64)) n
    ∙ ap₂ id_of_halves (number-high id is) (number-low id is)
    ∙ halves-own id is

-- the bytes of a number
byte-small : (i n : ℕ) → byte_at i n < 256
byte-small zero n = omega arith
byte-small (suc i) n = omega arith

-- so are those of a number of so many bytes
pub bytes-small : (k n : ℕ) → AllByRecursion (λ b. b < 256) (bytes_high_first k n)
bytes-small zero n = tt
bytes-small (suc k) n = (byte-small k n, bytes-small k n)

bytes-many : (k n : ℕ) → length (bytes_high_first k n) ≡ k
bytes-many zero n = refl
bytes-many (suc k) n = ap suc (bytes-many k n)

-- the print of an id gives the id
pub print-own : (id : RecordId) → IsId id → id_in (printed_id id) ≡ Some id
print-own id is =
    let bytes : List ℕ = to_be_bytes w128 (id_number id) in
    ap (option_and_then id_of) (sym (parses_hyphenated lower bytes (inl refl) (bytes-many 16 (id_number id))
    (All-from_recursion (λ b. b < 256) bytes (bytes-small 16 (id_number id)))))
    ∙ bytes-own id is
