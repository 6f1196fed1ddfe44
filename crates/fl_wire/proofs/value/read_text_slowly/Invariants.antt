use Rattle.std.proofs.Common.{◌≤◌, ◌-◌, ◌*◌, ◌++◌, length, List, ℕ, ◌≡◌, ◌<◌, ◌/◌, ◌%◌}
use Rattle.fl_wire.specs.Shapes.{texts_of}
use Rattle.fl_wire.specs.Standing.{word_in}
use Rattle.fl_wire.proofs.Steps.{Come}
use Rattle.fl_wire.proofs.value.read_text_slowly.Given as goal

-- the bytes so far, and those that are left
abbrev pub invariant-loop-index : goal.invariant-loop-index
invariant-loop-index l = record {
  within : l.end ≤ 56 * length l.frags;
  later : l.at ≤ l.end;
  known : 0 < l.end % 8 → l.word ≡ word_in l.frags (l.end / 8);
  come : Come (texts_of l.count) (texts_of (l.count - l._index)) l.frags l.at l.end (λ (bs : List ℕ). l.bytes.items ++ bs);
}
