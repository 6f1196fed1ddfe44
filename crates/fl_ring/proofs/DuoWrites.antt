-- A side writes a fragment: both sides stay in step, and it waits for the other.
use Rattle.std.proofs.Common.{ℕ, ◌≡◌, ◌<◌, ◌≤◌, ◌+◌, ◌%◌, ◌^◌, List, length, ap, subst, ◌∙◌, sym, arith}
use Rattle.fl_base.specs.declared.fragment.Frag.{Frag}
use Rattle.fl_base.specs.Control.{told_of, stamped}
use Rattle.fl_link.specs.Cursor.{TheCursor, epoch_at}
use Rattle.fl_link.proofs.Carried.{epoch-stamped, told-stamped}
use Rattle.fl_ring.specs.Way.{slot, WritesSlot}
use Rattle.fl_ring.specs.Duo.{TheHalf, with_written, with_arrived, written, got}
use Rattle.fl_ring.specs.Halves.{InStep, half_of}
use Rattle.fl_ring.specs.declared.halves.DuoHalf.{DuoHalf}
use Rattle.fl_ring.proofs.Places.{epoch_bit, slot_within}
use Rattle.fl_ring.proofs.DuoSteps.{next_of, wrote, write_steps, written_half, arrived_half, got_is}

-- what a write leaves: the sides in step, the writer's view and the other's
pub record Wrote (n : ℕ) (ws ws' : List ℕ) (a b a' : DuoHalf) (frag : Frag) : Type 0 where
  pub steps : InStep n ws' a' b
  pub writer : half_of n ws' a' b ≡ with_written (half_of n ws a b)
  pub other : half_of n ws' b a' ≡ with_arrived (half_of n ws b a) (written n (half_of n ws a b) frag)

-- The side notes first that all it took is told. Then its next slot is written, and its cursor goes on.
pub write_done : (n : ℕ) (ws ws' : List ℕ) (a b noted : DuoHalf) (frag : Frag) (m : ℕ) (put : TheCursor) → InStep n ws a b → a.put.index < 2 ^ 62 → a.put.index + 1 ≤ a.known + n
    → noted ≡ record a { told = a.take.index } → m ≡ a.take.index % 65536
    → WritesSlot (slot noted.base noted.put.size noted.put.index) (stamped frag (epoch_at noted.put.size noted.put.index) m) ws ws' → put ≡ next_of noted.put
    → Wrote n ws ws' a b (record noted { put = put }) frag
write_done n ws ws' a b noted frag m put s unspent room note number w next =
    let h : TheHalf = half_of n ws a b in
    let f : Frag = written n h frag in
    let bit = epoch_bit n a.put.index in
    let number_is : m ≡ got h % 65536 = number ∙ ap (λ (x : ℕ). x % 65536) (sym (got_is n ws a b s)) in
    let here : WritesSlot (slot a.base a.put.size a.put.index) (stamped frag (epoch_at a.put.size a.put.index) m) ws ws' =
    subst (λ (x : DuoHalf). WritesSlot (slot x.base x.put.size x.put.index) (stamped frag (epoch_at x.put.size x.put.index) m) ws ws') note w in
    let sized : WritesSlot (slot a.base n a.put.index) (stamped frag (epoch_at n a.put.index) m) ws ws' =
    subst (λ (x : ℕ). WritesSlot (slot a.base x a.put.index) (stamped frag (epoch_at x a.put.index) m) ws ws') s.there.put_size here in
    let wrote_f : WritesSlot (slot a.base n a.put.index) f ws ws' = subst (λ (x : ℕ). WritesSlot (slot a.base n a.put.index) (stamped frag (epoch_at n a.put.index) x) ws ws') number_is sized in
    let told_is : told_of f.control ≡ a.take.index % 65536 = told-stamped frag.control (epoch_at n a.put.index) (got h % 65536) bit ∙ sym number_is ∙ number in
    let end : (let x : DuoHalf = record noted { put = put } in x) ≡ wrote a =
    ap (λ (p : TheCursor). let x : DuoHalf = record noted { put = p } in x) next ∙ ap (λ (y : DuoHalf). let x : DuoHalf = record y { put = next_of y.put } in x) note in
    let all : Wrote n ws ws' a b (wrote a) frag = record {
      steps = write_steps n ws ws' a b f s unspent room wrote_f (epoch-stamped frag.control (epoch_at n a.put.index) (got h % 65536) bit) told_is;
      writer = written_half n ws ws' a b f s wrote_f;
      other = arrived_half n ws ws' a b f s room wrote_f;
    } in
    subst (λ (x : DuoHalf). Wrote n ws ws' a b x frag) (sym end) all

-- and there is a slot for it
pub next_within : (n : ℕ) (ws : List ℕ) (a b noted : DuoHalf) → InStep n ws a b → noted ≡ record a { told = a.take.index } → slot noted.base noted.put.size noted.put.index + 8 ≤ length ws
next_within n ws a b noted s note =
    let within : slot a.base n a.put.index + 8 ≤ length ws = omega (arith, slot_within a.base n a.put.index s.there.marked.some, s.there.marked.wide) in
    let sized : slot a.base a.put.size a.put.index + 8 ≤ length ws = subst (λ (x : ℕ). slot a.base x a.put.index + 8 ≤ length ws) (sym s.there.put_size) within in
    subst (λ (x : DuoHalf). slot x.base x.put.size x.put.index + 8 ≤ length ws) (sym note) sized
