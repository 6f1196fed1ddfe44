-- Slots that were never put into stay zero.
use Rattle.std.proofs.Common.{ℕ, ◌≡◌, ◌≢◌, ◌<◌, ◌≤◌, ◌+◌, ◌*◌, ◌%◌, ◌⊎◌, inl, inr, List, get_or, set, ◌∙◌, arith, get_or-set_other}
use Rattle.std.proofs.Math.Nat.{mod-le}
use Rattle.fl_base.specs.declared.fragment.Frag.{Frag}
use Rattle.fl_ring.specs.Way.{slot, IsClear, WritesSlot}
use Rattle.fl_ring.proofs.Places.{slot_within}

-- all of a table of zeros
pub clear_zeros : (b n from : ℕ) (ws : List ℕ) → ((i : ℕ) → get_or ws i 0 ≡ 0) → IsClear b n ws from
clear_zeros b n from ws zeros i le lt = zeros (b + i)

-- a fragment is put into the slot of this index
pub clear_put : (b n sent : ℕ) (f : Frag) (ws ws' : List ℕ) → IsClear b n ws sent → WritesSlot (slot b n sent) f ws ws' → IsClear b n ws' (sent + 1)
clear_put b n sent f ws ws' h w i le lt =
    let place : ℕ = sent % n in
    let low : place ≤ sent = mod-le sent n in
    let above : slot b n sent + 8 ≤ b + i = omega arith in
    w.others (b + i) (inr above) ∙ h i (omega arith) lt

-- a word of the slot of this index is stored
pub clear_word : (b n sent k x : ℕ) (ws : List ℕ) → k < 8 → IsClear b n ws (sent + 1) → IsClear b n (set ws (slot b n sent + k) x) (sent + 1)
clear_word b n sent k x ws small h i le lt =
    let place : ℕ = sent % n in
    let low : place ≤ sent = mod-le sent n in
    let ne : b + i ≢ slot b n sent + k = λ e. omega arith in
    get_or-set_other ws (slot b n sent + k) (b + i) x 0 ne ∙ h i le lt

-- no word of the way changes
pub clear_elsewhere : (b n from : ℕ) (ws ws' : List ℕ) → IsClear b n ws from → ((i : ℕ) → b ≤ i → i < b + 8 * n → get_or ws' i 0 ≡ get_or ws i 0) → IsClear b n ws' from
clear_elsewhere b n from ws ws' h same i le lt = same (b + i) (omega arith) (omega arith) ∙ h i le lt

-- a fragment is put into the other way of two
pub clear_across : (n x y j from : ℕ) (f : Frag) (ws ws' : List ℕ) → 0 < n → ((x ≡ 0) × (y ≡ 8 * n)) ⊎ ((x ≡ 8 * n) × (y ≡ 0)) → WritesSlot (slot x n j) f ws ws' → IsClear y n ws from → IsClear y n ws' from
clear_across n x y j from f ws ws' some apart w h i le lt = w.others (y + i) (away apart) ∙ h i le lt
  where
    away : ((x ≡ 0) × (y ≡ 8 * n)) ⊎ ((x ≡ 8 * n) × (y ≡ 0)) → (y + i < slot x n j) ⊎ (slot x n j + 8 ≤ y + i)
    away (inl (e, d)) = let within = slot_within x n j some in inr (omega arith)
    away (inr (e, d)) = let place : ℕ = j % n in inl (omega arith)
