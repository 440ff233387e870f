-- Texts that are written over the front of a buffer, one after the other.
-- Assumes nothing.
use Rattle.std.proofs.Common.{◌≡◌, ℕ, ◌+◌, ◌<◌, ◌≤◌, List, [], ◌∷◌, ◌++◌, length, get_or, take, drop, Bor, sym, ap, ◌∙◌, arith}
use Rattle.std.proofs.lemmas.Grind.{flat_map-append}
use Rattle.std.proofs.lemmas.List.{append-nil, length-append, take_more, take-append-drop}
use Rattle.fault_line.specs.Buffer.{joined}

-- the first texts and one more
pub joined_more : (parts : List (Bor (List ℕ))) (i : ℕ) (d : Bor (List ℕ)) → i < length parts
    → joined (take (i + 1) parts) ≡ joined (take i parts) ++ (get_or parts i d).now
joined_more parts i d h =
    rw (take_more parts i d h, flat_map-append (λ part. part.now) (take i parts) (get_or parts i d ∷ []), append-nil)

-- one more has its room
pub joined_fits : (parts : List (Bor (List ℕ))) (i : ℕ) (d : Bor (List ℕ)) → i < length parts
    → length (joined (take i parts)) + length (get_or parts i d).now ≤ length (joined parts)
joined_fits parts i d h =
    let all = flat_map-append (λ part. part.now) (take (i + 1) parts) (drop (i + 1) parts) in
    let parted : joined parts ≡ joined (take (i + 1) parts) ++ joined (drop (i + 1) parts) =
    ap joined (sym (take-append-drop (i + 1) parts)) ∙ all in
    let more = joined_more parts i d h in
    omega (arith, simp length-append at (ap length parted), simp length-append at (ap length more))
