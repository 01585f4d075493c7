-- The law of reading for each part of a row.
use Rattle.std.proofs.Common.{◌≡◌, ℕ, ℤ, zero, suc, ◌^◌, ◌<◌, ◌≤◌, Bool, true, false, ◌&&◌, List, [], ◌∷◌, ◌++◌, length, take, drop, FitsSigned, Option, Some, refl, sym, ap, subst, ◌∙◌, append_assoc, arith}
use Rattle.std.specs.Prelude.{⊤, nat_le, nat_lt}
use Rattle.std.specs.Bool.{Decides}
use Rattle.std.specs.Str.{is_utf8}
use Rattle.std.specs.Int.{w16, w32, w64, to_be_bytes, cast_signed, cast_unsigned}
use Rattle.std.proofs.lemmas.Bool.{ltb-true, lt-ltb, leb-true, le-leb}
use Rattle.std.proofs.lemmas.Int.{of_z-to_z, to_z-of_z}
use Rattle.std.proofs.Math.Facts.{sfits_to_z, Fits-of_z, Fits-of_lt}
use Rattle.std.proofs.lemmas.Bool.Decides.{Decides-and}
use Rattle.std.proofs.lemmas.List.{append-nil, take_at, drop_at, take-append-drop, length-append, length-take}
use Rattle.std.proofs.lemmas.Str.{IsUtf8-from_is_utf8, is_utf8-from_IsUtf8}
use Rattle.list_lemmas.proofs.Lists.{some_same}
use Rattle.mw_types.specs.declared.TheConstants.{MAX_STAMP}
use Rattle.mw_types.specs.declared.state.Window.{Window}
use Rattle.mw_types.specs.declared.state.HeldTotal.{HeldTotal}
use Rattle.mw_types.specs.declared.timer.Timer.{Timer}
use Rattle.mw_types.specs.declared.identity.RecordId.{RecordId}
use Rattle.mw_types.specs.declared.identity.RowName.{RowName}
use Rattle.mw_types.specs.declared.record.Record.{Record}
use Rattle.mw_types.specs.declared.delivery.Delivery.{Delivery}
use Rattle.row_parts.specs.Contents.{IsId, IsDelivery}
use Rattle.mw_types.specs.Bounds.{IsKey}
use Rattle.row_parts.specs.Spelling.{signed_spelling, flag_spelling, key_spelling, id_spelling, window_spelling, held_spelling, timer_spelling, name_spelling, record_spelling, delivery_spelling, DeliveryFits}
use Rattle.row_parts.specs.Reading.{keep, number_at, signed_at, flag_at, key_at, id_at, window_at, held_at, timer_at, name_at, after_key_at, record_at, delivery_at, ◌>>=◌}
use Rattle.row_parts.proofs.Codec.{IsBytes, IsBytes-drop, bind_some, bind_assoc, bind_same, keep_some, Reads, as_read, wide16, wide32, wide64, number_reads, nothing_at, nothing_reads, pair_at, pair_reads, made_reads, more}

pub u16_reads : Reads (to_be_bytes w16) (λ n. n < 2 ^ 16) (number_at w16)
u16_reads = number_reads w16 (2 ^ 16) wide16

pub u32_reads : Reads (to_be_bytes w32) (λ n. n < 2 ^ 32) (number_at w32)
u32_reads = number_reads w32 (2 ^ 32) wide32

pub u64_reads : Reads (to_be_bytes w64) (λ n. n < 2 ^ 64) (number_at w64)
u64_reads = number_reads w64 (2 ^ 64) wide64

pub signed_reads : Reads signed_spelling (FitsSigned w64) signed_at
unfolding signed_at
signed_reads = record {
  takes = λ bytes x fits e.
      let a = bind_some (number_at w64 bytes) (λ n. Some (cast_signed w64 n.0, n.1)) x e in
      let t = u64_reads.takes bytes a.0 fits a.1 in
      let back : cast_unsigned w64 (cast_signed w64 a.0.0) ≡ a.0.0 = of_z-to_z w64 a.0.0 t.2 in
      let whole : bytes ≡ to_be_bytes w64 (cast_unsigned w64 (cast_signed w64 a.0.0)) ++ a.0.1 = t.0
      ∙ ap (λ (n : ℕ). to_be_bytes w64 n ++ a.0.1) (sym back) in
      subst (λ (y : ℤ × List ℕ). (bytes ≡ signed_spelling y.0 ++ y.1) × IsBytes y.1 × FitsSigned w64 y.0)
      (some_same (cast_signed w64 a.0.0, a.0.1) x a.2) (whole, t.1, sfits_to_z {w = w64} {n = a.0.0} (Fits-of_lt t.2));
  again = λ z rest fits. rw (
    u64_reads.again (cast_unsigned w64 z) rest
        (omega (arith, Fits-of_z {w = w64} {z = z} fits)),
    to_z-of_z w64 z fits,
  ) refl;
}

IsBytes-rest : (b : ℕ) (bytes : List ℕ) → IsBytes (b ∷ bytes) → IsBytes bytes
IsBytes-rest b bytes h i = h (suc i)

flag_takes : (bytes : List ℕ) (x : Bool × List ℕ) → IsBytes bytes → flag_at bytes ≡ Some x
    → (bytes ≡ flag_spelling x.0 ++ x.1) × IsBytes x.1 × ⊤
unfolding flag_at
flag_takes [] x fits e = absurd cc
flag_takes (zero ∷ bytes) x fits e =
    subst (λ (y : Bool × List ℕ). (0 ∷ bytes ≡ flag_spelling y.0 ++ y.1) × IsBytes y.1 × ⊤) (some_same (false, bytes) x e)
    (refl, IsBytes-rest 0 bytes fits, tt)
flag_takes (suc zero ∷ bytes) x fits e =
    subst (λ (y : Bool × List ℕ). (1 ∷ bytes ≡ flag_spelling y.0 ++ y.1) × IsBytes y.1 × ⊤) (some_same (true, bytes) x e)
    (refl, IsBytes-rest 1 bytes fits, tt)
flag_takes (suc (suc b) ∷ bytes) x fits e = absurd cc

flag_again : (b : Bool) (rest : List ℕ) → flag_at (flag_spelling b ++ rest) ≡ Some (b, rest)
unfolding flag_at
flag_again true rest = refl
flag_again false rest = refl

pub flag_reads : Reads flag_spelling (λ b. ⊤) flag_at
flag_reads = record { takes = flag_takes; again = λ b rest fits. flag_again b rest }

-- ---- tests

pub always : {X : Type 0} (x : X) → Decides true ⊤
always x = (λ e. tt, λ p. refl)

pub at_most : (a b : ℕ) → Decides (nat_le a b) (a ≤ b)
at_most a b = (leb-true a b, le-leb a b)

pub below : (a b : ℕ) → Decides (nat_lt a b) (a < b)
below a b = (ltb-true a b, lt-ltb a b)

pub both : {P Q : Type 0} {x y : Bool} → Decides x P → Decides y Q → Decides (x && y) (P × Q)
both {P} {Q} {x} {y} p q = Decides-and x y p q

-- ---- parts

key_takes : (bytes : List ℕ) (x : List ℕ × List ℕ) → IsBytes bytes → key_at bytes ≡ Some x
    → (bytes ≡ key_spelling x.0 ++ x.1) × IsBytes x.1 × IsKey x.0
unfolding key_at
key_takes bytes x fits e =
    let a = bind_some (number_at w16 bytes) (λ n. keep (nat_le n.0 256 && nat_le n.0 (length n.1) && is_utf8 (take n.0 n.1))
    (take n.0 n.1, drop n.0 n.1)) x e in
    let n = a.0.0 in
    let rest = a.0.1 in
    let t = u16_reads.takes bytes a.0 fits a.1 in
    let k = keep_some (nat_le n 256 && nat_le n (length rest) && is_utf8 (take n rest)) (take n rest, drop n rest) x a.2 in
    let passed = (both (both (at_most n 256) (at_most n (length rest)))
    (IsUtf8-from_is_utf8 (take n rest), is_utf8-from_IsUtf8 (take n rest))).0 k.0 in
    let len : length (take n rest) ≡ n = omega (arith, length-take n rest, passed.0.1) in
    let parts : bytes ≡ to_be_bytes w16 n ++ (take n rest ++ drop n rest) = t.0
    ∙ ap (λ (l : List ℕ). to_be_bytes w16 n ++ l) (sym (take-append-drop n rest)) in
    let counted : bytes ≡ to_be_bytes w16 (length (take n rest)) ++ (take n rest ++ drop n rest) = subst
    (λ (m : ℕ). bytes ≡ to_be_bytes w16 m ++ (take n rest ++ drop n rest)) (sym len) parts in
    let ended : bytes ≡ to_be_bytes w16 (length (take n rest)) ++ ((take n rest ++ []) ++ drop n rest) = counted
    ∙ ap (λ (l : List ℕ). to_be_bytes w16 (length (take n rest)) ++ (l ++ drop n rest)) (sym (append-nil (take n rest))) in
    let whole : bytes ≡ key_spelling (take n rest) ++ drop n rest = ended
    ∙ sym (append_assoc (to_be_bytes w16 (length (take n rest))) (take n rest ++ []) (drop n rest)) in
    subst (λ (y : List ℕ × List ℕ). (bytes ≡ key_spelling y.0 ++ y.1) × IsBytes y.1 × IsKey y.0) k.1
    (whole, IsBytes-drop n rest t.1, record { short = omega (arith, len, passed.0.0); text = passed.1 })

key_again : (key rest : List ℕ) → IsKey key → key_at (key_spelling key ++ rest) ≡ Some (key, rest)
unfolding key_at
key_again key rest fits =
    let regrouped : key_spelling key ++ rest ≡ to_be_bytes w16 (length key) ++ (key ++ rest) =
    append_assoc (to_be_bytes w16 (length key)) (key ++ []) rest
    ∙ ap (λ (l : List ℕ). to_be_bytes w16 (length key) ++ (l ++ rest)) (append-nil key) in
    let inside : nat_le (length key) (length (key ++ rest)) ≡ true = le-leb _ _ (omega (arith, length-append key rest)) in
    ap key_at regrouped ∙ rw (
      u16_reads.again (length key) (key ++ rest) (omega (arith, fits.short)),
      le-leb
          (length key) 256 fits.short,
      inside,
      take_at key rest (length key) refl,
      drop_at key rest
          (length key) refl,
      is_utf8-from_IsUtf8 key fits.text,
    ) refl

pub key_reads : Reads key_spelling IsKey key_at
key_reads = record { takes = key_takes; again = key_again }

pub id_reads : Reads id_spelling IsId id_at
unfolding id_at
id_reads =
    let test : ℕ × (ℕ × ⊤) → Bool = λ p. nat_lt p.0 (2 ^ 32) && nat_lt p.1.0 512 in
    let to : ℕ × (ℕ × ⊤) → RecordId = λ p. record { commit = p.0; index = p.1.0 } in
    let from : RecordId → ℕ × (ℕ × ⊤) = λ id. (id.commit, (id.index, tt)) in
    let k : ℕ × (ℕ × ⊤) → List ℕ → Option (RecordId × List ℕ) = λ p rest. keep (test p) (to p, rest) in
    let tail = pair_at (number_at w32) nothing_at in
    as_read id_at (λ bytes. more (number_at w64) tail bytes k _
    (λ a. more (number_at w32) nothing_at a.1 (λ p rest. k (a.0, p) rest) _ (λ b. refl)))
    (λ id. refl) (λ id f. ((omega (arith, f.commit), (omega (arith, f.index), tt)), (f.commit, f.index)))
    (λ id f. record { commit = f.1.0; index = f.1.1 })
    (made_reads (pair_at (number_at w64) tail) test (λ p. (p.0 < 2 ^ 32) × (p.1.0 < 512))
    (λ p. both (below p.0 (2 ^ 32)) (below p.1.0 512)) to from (λ id. refl) (λ p. refl)
    (pair_reads (number_at w64) tail u64_reads (pair_reads (number_at w32) nothing_at u32_reads nothing_reads)))

pub window_reads : Reads window_spelling (λ w. (w.end ≤ MAX_STAMP) × (w.count ≤ MAX_STAMP)) window_at
unfolding window_at
window_reads =
    let test : ℕ × (ℕ × ⊤) → Bool = λ p. nat_le p.0 MAX_STAMP && nat_le p.1.0 MAX_STAMP in
    let to : ℕ × (ℕ × ⊤) → Window = λ p. record { end = p.0; count = p.1.0 } in
    let from : Window → ℕ × (ℕ × ⊤) = λ w. (w.end, (w.count, tt)) in
    let k : ℕ × (ℕ × ⊤) → List ℕ → Option (Window × List ℕ) = λ p rest. keep (test p) (to p, rest) in
    let tail = pair_at (number_at w64) nothing_at in
    as_read window_at (λ bytes. more (number_at w64) tail bytes k _
    (λ a. more (number_at w64) nothing_at a.1 (λ p rest. k (a.0, p) rest) _ (λ b. refl)))
    (λ w. refl) (λ w f. ((omega (arith, f.0), (omega (arith, f.1), tt)), f)) (λ w f. f.1)
    (made_reads (pair_at (number_at w64) tail) test (λ p. (p.0 ≤ MAX_STAMP) × (p.1.0 ≤ MAX_STAMP))
    (λ p. both (at_most p.0 MAX_STAMP) (at_most p.1.0 MAX_STAMP)) to from (λ w. refl) (λ p. refl)
    (pair_reads (number_at w64) tail u64_reads (pair_reads (number_at w64) nothing_at u64_reads nothing_reads)))

pub held_reads : Reads held_spelling (λ h. (h.stamp ≤ MAX_STAMP) × FitsSigned w64 h.value) held_at
unfolding held_at
held_reads =
    let test : ℕ × (ℤ × ⊤) → Bool = λ p. nat_le p.0 MAX_STAMP in
    let to : ℕ × (ℤ × ⊤) → HeldTotal = λ p. record { stamp = p.0; value = p.1.0 } in
    let from : HeldTotal → ℕ × (ℤ × ⊤) = λ h. (h.stamp, (h.value, tt)) in
    let k : ℕ × (ℤ × ⊤) → List ℕ → Option (HeldTotal × List ℕ) = λ p rest. keep (test p) (to p, rest) in
    let tail = pair_at signed_at nothing_at in
    as_read held_at (λ bytes. more (number_at w64) tail bytes k _
    (λ a. more signed_at nothing_at a.1 (λ p rest. k (a.0, p) rest) _ (λ b. refl)))
    (λ h. refl) (λ h f. ((omega (arith, f.0), (f.1, tt)), f.0)) (λ h f. (f.1, f.0.1.0))
    (made_reads (pair_at (number_at w64) tail) test (λ p. p.0 ≤ MAX_STAMP) (λ p. at_most p.0 MAX_STAMP) to from (λ h. refl) (λ p. refl)
    (pair_reads (number_at w64) tail u64_reads (pair_reads signed_at nothing_at signed_reads nothing_reads)))

pub timer_reads : Reads timer_spelling (λ t. (t.time ≤ MAX_STAMP) × (t.tag < 2 ^ 64)) timer_at
unfolding timer_at
timer_reads =
    let test : ℕ × (ℕ × (Bool × ⊤)) → Bool = λ p. nat_le p.0 MAX_STAMP in
    let to : ℕ × (ℕ × (Bool × ⊤)) → Timer = λ p. record { tag = p.1.0; time = p.0; late = p.1.1.0 } in
    let from : Timer → ℕ × (ℕ × (Bool × ⊤)) = λ t. (t.time, (t.tag, (t.late, tt))) in
    let k : ℕ × (ℕ × (Bool × ⊤)) → List ℕ → Option (Timer × List ℕ) = λ p rest. keep (test p) (to p, rest) in
    let tail = pair_at flag_at nothing_at in
    let tails = pair_at (number_at w64) tail in
    as_read timer_at (λ bytes. more (number_at w64) tails bytes k _
    (λ a. more (number_at w64) tail a.1 (λ p rest. k (a.0, p) rest) _
    (λ b. more flag_at nothing_at b.1 (λ p rest. k (a.0, (b.0, p)) rest) _ (λ c. refl))))
    (λ t. refl) (λ t f. ((omega (arith, f.0), (f.1, (tt, tt))), f.0)) (λ t f. (f.1, f.0.1.0))
    (made_reads (pair_at (number_at w64) tails) test (λ p. p.0 ≤ MAX_STAMP) (λ p. at_most p.0 MAX_STAMP) to from (λ t. refl) (λ p. refl)
    (pair_reads (number_at w64) tails u64_reads (pair_reads (number_at w64) tail u64_reads
    (pair_reads flag_at nothing_at flag_reads nothing_reads))))

name_reads : Reads name_spelling (λ name. (name.part < 2 ^ 32) × IsKey name.key) name_at
unfolding name_at
name_reads =
    let to : ℕ × (List ℕ × ⊤) → RowName = λ p. record { part = p.0; key = p.1.0 } in
    let from : RowName → ℕ × (List ℕ × ⊤) = λ name. (name.part, (name.key, tt)) in
    let k : ℕ × (List ℕ × ⊤) → List ℕ → Option (RowName × List ℕ) = λ p rest. keep true (to p, rest) in
    let tail = pair_at key_at nothing_at in
    as_read name_at (λ bytes. more (number_at w32) tail bytes k _
    (λ a. more key_at nothing_at a.1 (λ p rest. k (a.0, p) rest) _ (λ b. refl)))
    (λ name. refl) (λ name f. ((f.0, (f.1, tt)), tt)) (λ name f. (f.0.0, f.0.1.0))
    (made_reads (pair_at (number_at w32) tail) (λ p. true) (λ p. ⊤) always to from (λ name. refl) (λ p. refl)
    (pair_reads (number_at w32) tail u32_reads (pair_reads key_at nothing_at key_reads nothing_reads)))

abbrev after_key : List ℕ → Option ((ℕ × (ℤ × (Bool × ⊤))) × List ℕ)
after_key = pair_at (number_at w64) (pair_at signed_at (pair_at flag_at nothing_at))

abbrev tested_stamp : ℕ × (ℤ × (Bool × ⊤)) → List ℕ → Option ((ℕ × (ℤ × Bool)) × List ℕ)
tested_stamp p rest = keep (nat_le p.0 MAX_STAMP) ((p.0, (p.1.0, p.1.1.0)), rest)

after_key_is : (bytes : List ℕ) → after_key_at bytes ≡ (after_key bytes >>= λ p. tested_stamp p.0 p.1)
unfolding after_key_at
after_key_is bytes =
    let third = pair_at flag_at nothing_at in
    more (number_at w64) (pair_at signed_at third) bytes tested_stamp _ (λ a.
    more signed_at third a.1 (λ p rest. tested_stamp (a.0, p) rest) _ (λ b.
    more flag_at nothing_at b.1 (λ p rest. tested_stamp (a.0, (b.0, p)) rest) _ (λ c. refl)))

keep_then : {A B : Type 0} (test : Bool) (x : A) (f : A → B) → (keep test x >>= λ y. Some (f y)) ≡ keep test (f x)
keep_then true x f = refl
keep_then false x f = refl

record_reads : Reads record_spelling (λ r. IsKey r.key × (r.stamp ≤ MAX_STAMP) × FitsSigned w64 r.value) record_at
unfolding record_at
record_reads =
    let test : List ℕ × (ℕ × (ℤ × (Bool × ⊤))) → Bool = λ p. nat_le p.1.0 MAX_STAMP in
    let to : List ℕ × (ℕ × (ℤ × (Bool × ⊤))) → Record = λ p. record { key = p.0; stamp = p.1.0; value = p.1.1.0; late = p.1.1.1.0 } in
    let from : Record → List ℕ × (ℕ × (ℤ × (Bool × ⊤))) = λ r. (r.key, (r.stamp, (r.value, (r.late, tt)))) in
    let k : List ℕ × (ℕ × (ℤ × (Bool × ⊤))) → List ℕ → Option (Record × List ℕ) = λ p rest. keep (test p) (to p, rest) in
    let third = pair_at flag_at nothing_at in
    let second = pair_at signed_at third in
    let first = pair_at (number_at w64) second in
    as_read record_at
    (λ bytes. more key_at first bytes k _ (λ a.
    let made : (ℕ × (ℤ × Bool)) × List ℕ → Record × List ℕ =
    λ rest. (record { key = a.0; stamp = rest.0.0; value = rest.0.1.0; late = rest.0.1.1 }, rest.1) in
    ap (λ o. o >>= λ rest. Some (made rest)) (after_key_is a.1)
    ∙ bind_assoc (after_key a.1) (λ p. tested_stamp p.0 p.1) (λ rest. Some (made rest))
    ∙ bind_same (after_key a.1) _ _ (λ p. keep_then (nat_le p.0.0 MAX_STAMP) ((p.0.0, (p.0.1.0, p.0.1.1.0)), p.1) made)))
    (λ r. refl) (λ r f. ((f.0, (omega (arith, f.1), (f.2, (tt, tt)))), f.1)) (λ r f. (f.0.0, f.1, f.0.1.1.0))
    (made_reads (pair_at key_at first) test (λ p. p.1.0 ≤ MAX_STAMP) (λ p. at_most p.1.0 MAX_STAMP) to from (λ r. refl) (λ p. refl)
    (pair_reads key_at first key_reads (pair_reads (number_at w64) second u64_reads
    (pair_reads signed_at third signed_reads (pair_reads flag_at nothing_at flag_reads nothing_reads)))))

pub delivery_reads : Reads delivery_spelling (λ d. IsDelivery d × DeliveryFits d) delivery_at
unfolding delivery_at
delivery_reads =
    let to : RecordId × (RowName × (Record × ⊤)) → Delivery = λ p. record { id = p.0; to = p.1.0; item = p.1.1.0 } in
    let from : Delivery → RecordId × (RowName × (Record × ⊤)) = λ d. (d.id, (d.to, (d.item, tt))) in
    let k : RecordId × (RowName × (Record × ⊤)) → List ℕ → Option (Delivery × List ℕ) = λ p rest. keep true (to p, rest) in
    let second = pair_at record_at nothing_at in
    let first = pair_at name_at second in
    as_read delivery_at
    (λ bytes. more id_at first bytes k _ (λ a. more name_at second a.1 (λ p rest. k (a.0, p) rest) _
    (λ b. more record_at nothing_at b.1 (λ p rest. k (a.0, (b.0, p)) rest) _ (λ c. refl))))
    (λ d. refl)
    (λ d f. ((f.0.id, ((f.1.part, f.0.to), ((f.0.key, f.0.stamp, f.1.value), tt))), tt))
    (λ d f. (
      record { id = f.0.0; to = f.0.1.0.1; key = f.0.1.1.0.0; stamp = f.0.1.1.0.1 },
      record { part = f.0.1.0.0; value = f.0.1.1.0.2 },
    ))
    (made_reads (pair_at id_at first) (λ p. true) (λ p. ⊤) always to from (λ d. refl) (λ p. refl)
    (pair_reads id_at first id_reads (pair_reads name_at second name_reads (pair_reads record_at nothing_at record_reads nothing_reads))))
