-- Pieces appended one behind the other.
use Rattle.std.proofs.Common.{◌≡◌, ◌+◌, ◌-◌, ◌++◌, ◌∙◌, ℕ, List, Option, Some, None, refl, sym, ap, take, drop, length, slice_range, append_assoc, arith}
use Rattle.std.proofs.Math.Seq.{take-add}
use Rattle.std.proofs.lemmas.List.{take_all, length-drop}
use Rattle.std.specs.Io.KnownBytes.{append_known}

-- a part of a piece behind the part before it is the part up to its end
pub append_known-add : (text : Option (List ℕ)) (piece : List ℕ) (m n : ℕ)
    → append_known (append_known text (take m piece)) (take n (drop m piece)) ≡ append_known text (take (m + n) piece)
append_known-add None piece m n = refl
append_known-add (Some bytes) piece m n =
    ap Some (append_assoc bytes (take m piece) (take n (drop m piece)) ∙ ap (λ part. bytes ++ part) (sym (take-add m n piece)))

-- a write of the next part gives the beginning that is longer by it
pub append_known-next : (old text new : Option (List ℕ)) (piece : List ℕ) (m n : ℕ) → text ≡ append_known old (take m piece)
    → new ≡ append_known text (take n (slice_range piece m (length piece))) → new ≡ append_known old (take (m + n) piece)
append_known-next old text new piece m n before next =
    let rest : slice_range piece m (length piece) ≡ drop m piece =
    take_all (length piece - m) (drop m piece) (omega (arith, length-drop m piece)) in
    next ∙ ap (λ part. append_known text (take n part)) rest
    ∙ ap (λ known. append_known known (take n (drop m piece))) before ∙ append_known-add old piece m n
