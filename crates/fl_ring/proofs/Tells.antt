-- What a side has told stands in its last control word.
use Rattle.std.proofs.Common.{ℕ, ◌≡◌, ◌≢◌, ◌<◌, ◌≤◌, ◌+◌, ◌%◌, List, get_or, set, ap, ◌∙◌, arith, get_or-set_other}
use Rattle.fl_base.specs.Control.{told_of}
use Rattle.fl_ring.specs.Way.{slot}
use Rattle.fl_ring.specs.Counts.{LastTells}

-- the control words stay
pub tells_kept : (b n start : ℕ) (ws ws' : List ℕ) (sent told : ℕ) → LastTells b n start ws sent told → ((i : ℕ) → get_or ws' (slot b n i + 7) 0 ≡ get_or ws (slot b n i + 7) 0) → LastTells b n start ws' sent told
tells_kept b n start ws ws' sent told h same = record { since = h.since; none_put = h.none_put; last_put = λ i from last. ap told_of (same i) ∙ h.last_put i from last }

-- a payload word is stored
pub tells_stored : (b n start : ℕ) (ws : List ℕ) (sent told i k x : ℕ) → k < 7 → LastTells b n start ws sent told → LastTells b n start (set ws (slot b n i + k) x) sent told
tells_stored b n start ws sent told i k x small h =
    tells_kept b n start ws (set ws (slot b n i + k) x) sent told h
    (λ j. let ne : slot b n j + 7 ≢ slot b n i + k = λ e. let p : ℕ = j % n in let q : ℕ = i % n in omega arith in get_or-set_other ws (slot b n i + k) (slot b n j + 7) x 0 ne)

-- a control word is put, with the number of all that is told then
pub tells_put : (b n start : ℕ) (ws : List ℕ) (sent sent' told c : ℕ) → start ≤ sent → sent' ≡ sent + 1 → get_or ws (slot b n sent + 7) 0 ≡ c → told_of c ≡ told % 65536 → LastTells b n start ws sent' told
tells_put b n start ws sent sent' told c since one at number = record {
  since = omega arith;
  none_put = λ none. absurd (omega arith);
  last_put = λ i from last. let same : i ≡ sent = omega arith in ap (λ (j : ℕ). told_of (get_or ws (slot b n j + 7) 0)) same ∙ ap told_of at ∙ number;
}
