use Rattle.std.proofs.Common.{◌≡◌, ◌+◌, ◌-◌, ◌*◌, ◌/◌, ◌≤◌, map, vec_len}
use Rattle.std.specs.Vec.{vec_capacity}
use Rattle.fl_interface.specs.Interface.{scalar}
use Rattle.fl_value_data.specs.Value.{datum_of}
use Rattle.fl_wire.specs.Shapes.{elements_of}
use Rattle.fl_wire.proofs.Steps.{Come}
use Rattle.fl_wire.proofs.Parts.{put_before}
use Rattle.fl_wire.proofs.value.read_words.Given as goal

-- the numbers of the fragments so far, and those that are left
abbrev pub invariant-loop-next : goal.invariant-loop-next
invariant-loop-next l =
    let i = l.next - l.at / 8 in
    record {
      from : l.at / 8 ≤ l.next;
      within : l.next ≤ l.end;
      count : vec_len l.values ≡ i;
      room : l.count ≤ vec_capacity l.values;
      come : Come (elements_of l.count (scalar l.kind)) (elements_of (l.count - i) (scalar l.kind)) l.frags l.at (l.at + 8 * i) (put_before (map datum_of l.values.items));
    }

abbrev pub decreases-loop-next : goal.decreases-loop-next
decreases-loop-next l = l.end - l.next

-- the numbers so far, and those that are left
abbrev pub invariant-loop-word : goal.invariant-loop-word
invariant-loop-word l =
    let i = 7 * l.frag + l.word - l.at / 8 in
    record {
      count : vec_len l.values ≡ i;
      room : l.count ≤ vec_capacity l.values;
      come : Come (elements_of l.count (scalar l.kind)) (elements_of (l.count - i) (scalar l.kind)) l.frags l.at (l.at + 8 * i) (put_before (map datum_of l.values.items));
    }
