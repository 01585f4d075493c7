-- The bytes of a row that changed, as an edit of those before. Where bytes are edited, as many stand at their
-- front as the head has, and some behind a place go.
use Rattle.std.proofs.Common.{◌≡◌, ◌<◌, ◌+◌, ◌++◌, ◌∙◌, List, ℕ, [], ◌∷◌, ap, ap₂, append_assoc, append-nil, drop, get_or, length, length-append, sym, take, arith}
use Rattle.std.proofs.Math.Seq.{take-append_seam, drop-append_seam}
use Rattle.std.specs.Int.{w32, w64, to_be_bytes}
use Rattle.std.proofs.lemmas.List.{take_more}
use Rattle.std.proofs.lemmas.List.Concat.{flat_map-append}
use Rattle.mw_types.specs.declared.delivery.Delivery.{Delivery}
use Rattle.row_parts.specs.Contents.{Contents}
use Rattle.row_parts.specs.Spelling.{delivery_spelling, id_spelling, list_spelling, spelling_of, state_spelling, timer_spelling}
use Rattle.record_codec.specs.Edits.{deliveries_spelling, head_spelling}

-- the bytes of a row by its parts
parted : (v l f s t n a i : List ℕ) → v ++ (l ++ (f ++ (s ++ (t ++ ((n ++ (a ++ [])) ++ (i ++ []))))))
    ≡ (v ++ (l ++ (f ++ (s ++ (t ++ (n ++ [])))))) ++ (a ++ i)
parted v l f s t n a i = simp (append_assoc, append-nil)

spelling-parted : (row : Contents) → spelling_of row ≡ head_spelling row.last (length row.pending) row
    ++ (deliveries_spelling row.pending ++ list_spelling id_spelling row.seen)
spelling-parted row = parted (1 ∷ []) (to_be_bytes w64 row.last) (to_be_bytes w64 row.floor) (state_spelling row.state)
    (list_spelling timer_spelling row.timers) (to_be_bytes w32 (length row.pending)) (deliveries_spelling row.pending)
    (list_spelling id_spelling row.seen)

-- what stands behind a list
behind : (xs ys : List ℕ) (n : ℕ) → n ≡ length xs → drop n (xs ++ ys) ≡ ys
behind xs ys n is = ap (λ m. drop m (xs ++ ys)) is ∙ drop-append_seam xs ys

-- bytes of which the head is set, and some behind a place are cut out and others put there
edited-parts : (head old front gone put rest : List ℕ) (at : ℕ) → length head ≡ length old → at ≡ length head + length front
    → head ++ (drop (length head) (take at (old ++ (front ++ (gone ++ rest))))
    ++ (put ++ drop (at + length gone) (old ++ (front ++ (gone ++ rest))))) ≡ head ++ (front ++ (put ++ rest))
edited-parts head old front gone put rest at same is =
    let before : length (old ++ front) ≡ at = length-append old front ∙ omega (arith, same, is) in
    let taken : take at (old ++ (front ++ (gone ++ rest))) ≡ old ++ front =
    ap₂ take (sym before) (sym (append_assoc old front (gone ++ rest))) ∙ take-append_seam (old ++ front) (gone ++ rest) in
    let whole : old ++ (front ++ (gone ++ rest)) ≡ ((old ++ front) ++ gone) ++ rest = simp append_assoc in
    let left : drop (at + length gone) (old ++ (front ++ (gone ++ rest))) ≡ rest =
    ap (drop (at + length gone)) whole
    ∙ behind ((old ++ front) ++ gone) rest (at + length gone) (omega (arith, length-append (old ++ front) gone, before)) in
    ap₂ (λ xs ys. head ++ (xs ++ (put ++ ys))) (ap (drop (length head)) taken ∙ behind old front (length head) same) left

-- the bytes of a row some of whose deliveries went, and others came in their place
pub spelling-edited : (old new : Contents) (front gone put rest : List Delivery) (at : ℕ)
    → old.pending ≡ front ++ (gone ++ rest) → new.pending ≡ front ++ (put ++ rest) → old.seen ≡ new.seen
    → length (head_spelling new.last (length new.pending) new) ≡ length (head_spelling old.last (length old.pending) old)
    → at ≡ length (head_spelling new.last (length new.pending) new) + length (deliveries_spelling front)
    → let head = head_spelling new.last (length new.pending) new in
    head ++ (drop (length head) (take at (spelling_of old))
    ++ (deliveries_spelling put ++ drop (at + length (deliveries_spelling gone)) (spelling_of old))) ≡ spelling_of new
spelling-edited old new front gone put rest at was is seen same place =
    let head = head_spelling new.last (length new.pending) new in
    let start = head_spelling old.last (length old.pending) old in
    let ids = list_spelling id_spelling new.seen in
    let f = deliveries_spelling front in
    let g = deliveries_spelling gone in
    let p = deliveries_spelling put in
    let r = deliveries_spelling rest in
    let three : (mid : List Delivery) → deliveries_spelling (front ++ (mid ++ rest)) ++ ids ≡ f ++ (deliveries_spelling mid ++ (r ++ ids)) =
    λ mid. ap (λ l. l ++ ids) (flat_map-append delivery_spelling front (mid ++ rest)
    ∙ ap (λ l. f ++ l) (flat_map-append delivery_spelling mid rest)) ∙ append_assoc f (deliveries_spelling mid ++ r) ids
    ∙ ap (λ l. f ++ l) (append_assoc (deliveries_spelling mid) r ids) in
    let before : spelling_of old ≡ start ++ (f ++ (g ++ (r ++ ids))) =
    spelling-parted old ∙ ap₂ (λ ds i. start ++ (deliveries_spelling ds ++ list_spelling id_spelling i)) was seen
    ∙ ap (λ l. start ++ l) (three gone) in
    let after : spelling_of new ≡ head ++ (f ++ (p ++ (r ++ ids))) =
    spelling-parted new ∙ ap (λ ds. head ++ (deliveries_spelling ds ++ ids)) is ∙ ap (λ l. head ++ l) (three put) in
    ap (λ bytes. head ++ (drop (length head) (take at bytes) ++ (p ++ drop (at + length g) bytes))) before
    ∙ edited-parts head start f g p (r ++ ids) at same place ∙ sym after

-- so many bytes stand behind others once those of one more delivery do
pub behind-more : (so_far bytes more : ℕ) (ds : List Delivery) (i : ℕ) (d : Delivery) → i < length ds → d ≡ get_or ds i d
    → more ≡ length (delivery_spelling d) → bytes ≡ so_far + length (deliveries_spelling (take i ds))
    → bytes + more ≡ so_far + length (deliveries_spelling (take (i + 1) ds))
behind-more so_far bytes more ds i d within read long is =
    let next : take (i + 1) ds ≡ take i ds ++ d ∷ [] = take_more ds i d within ∙ ap (λ x. take i ds ++ x ∷ []) (sym read) in
    let spelt : deliveries_spelling (take (i + 1) ds) ≡ deliveries_spelling (take i ds) ++ delivery_spelling d =
    ap deliveries_spelling next ∙ flat_map-append delivery_spelling (take i ds) (d ∷ [])
    ∙ ap (λ l. deliveries_spelling (take i ds) ++ l) (append-nil (delivery_spelling d)) in
    omega (arith, long, is, ap length spelt, length-append (deliveries_spelling (take i ds)) (delivery_spelling d))

-- how many bytes six parts have
six-length : (v l f s t n : List ℕ) → length (v ++ (l ++ (f ++ (s ++ (t ++ (n ++ []))))))
    ≡ length v + (length l + (length f + (length s + (length t + length n))))
six-length v l f s t n = simp (length-append, append-nil)

-- the bytes before a row's deliveries are as many with any last entry and any number of deliveries
pub head-length : (last count other more : ℕ) (row left : Contents) → length (state_spelling row.state) ≡ length (state_spelling left.state)
    → row.timers ≡ left.timers → length (head_spelling last count row) ≡ length (head_spelling other more left)
head-length last count other more row left state timers =
    let parts : (n m : ℕ) (r : Contents) → length (head_spelling n m r) ≡ 1 + (length (to_be_bytes w64 n)
    + (length (to_be_bytes w64 r.floor) + (length (state_spelling r.state) + (length (list_spelling timer_spelling r.timers)
    + length (to_be_bytes w32 m))))) = λ n m r. six-length (1 ∷ []) (to_be_bytes w64 n) (to_be_bytes w64 r.floor)
    (state_spelling r.state) (list_spelling timer_spelling r.timers) (to_be_bytes w32 m) in
    parts last count row ∙ ap₂ (λ s ts. 1 + (length (to_be_bytes w64 last) + (length (to_be_bytes w64 row.floor)
    + (s + (length (list_spelling timer_spelling ts) + length (to_be_bytes w32 count)))))) state timers ∙ sym (parts other more left)
