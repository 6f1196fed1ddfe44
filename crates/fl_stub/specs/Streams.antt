-- Receive code and bytes that come bit by bit: which payloads they may be the first bytes of. Zeros follow a payload's
-- last byte.
use Rattle.std.specs.Prelude.{◌≡◌, ℕ, ◌+◌, ◌<◌, ◌≤◌, true, List, length, slice_index}
use Rattle.fl_stub.specs.declared.mark.ByteKind.{ByteKind}
use Rattle.fl_stub.specs.declared.op.Column.TheVariants.{Receive}
use Rattle.fl_stub.specs.Structure.{Block, block_fits}
use Rattle.fl_stub.specs.Meaning.{Turns}
use Rattle.fl_stub.specs.Marks.{marks_of, mark_at}

-- the first so many bytes are those of a payload
pub record Follows (n : ℕ) (bytes full : List ℕ) : Type 0 where
  pub each : (p : ℕ) → p < n → slice_index bytes p ≡ slice_index full p

-- a payload of the code, with its tape, that the first so many bytes follow
pub record GoesOn (b : Block) (bytes : List ℕ) (n : ℕ) (tape full : List ℕ) : Type 0 where
  pub turns : Turns b tape full
  pub follows : Follows n bytes full

-- the bytes are some of the first of a payload, and all payloads that they follow are longer
pub record BeginsPayload (b : Block) (bytes : List ℕ) : Type 0 where
  pub tape : List ℕ
  pub full : List ℕ
  pub goes : GoesOn b bytes (length bytes) tape full
  pub longer : (tape2 full2 : List ℕ) → GoesOn b bytes (length bytes) tape2 full2 → length bytes < length full2

-- the bytes are a whole payload with this tape, and zeros
pub record IsPayload (b : Block) (bytes tape : List ℕ) : Type 0 where
  pub full : List ℕ
  pub goes : GoesOn b bytes (length bytes) tape full
  pub short : length full ≤ length bytes

-- a byte up to which the bytes follow a payload, and no payload with that byte; and what stands there in that payload
pub record LeavesPayloads (b : Block) (bytes : List ℕ) (mark : ByteKind) : Type 0 where
  pub p : ℕ
  pub inside : p < length bytes
  pub tape : List ℕ
  pub full : List ℕ
  pub goes : GoesOn b bytes p tape full
  pub none : (tape2 full2 : List ℕ) → GoesOn b bytes (p + 1) tape2 full2 → ⊥
  pub is : mark ≡ mark_at (marks_of b tape) p

-- two payloads of receive code with the same first bytes have the same mark at the next
abbrev pub OneMark : Type 0
OneMark = (b : Block) (tape tape2 full full2 : List ℕ) (p : ℕ) → block_fits Receive b ≡ true
    → Turns b tape full → Turns b tape2 full2 → Follows p full full2 → mark_at (marks_of b tape) p ≡ mark_at (marks_of b tape2) p

-- so bytes leave the payloads of receive code at one mark
abbrev pub OneLeaving : Type 0
OneLeaving = (b : Block) (bytes : List ℕ) (mark mark2 : ByteKind) → block_fits Receive b ≡ true
    → LeavesPayloads b bytes mark → LeavesPayloads b bytes mark2 → mark ≡ mark2
