-- The payload of a call, by the places of its leaves, and its fragments.
use Rattle.std.specs.Prelude.{ℕ, ◌+◌, ◌-◌, ◌*◌, ◌==◌, ◌&&◌, nat_lt, nat_le, if◌then◌else◌, List, [], ◌∷◌, map, slice_index}
use Rattle.std.specs.List.{range_with_len}
use Rattle.std.specs.Int.{byte_at, from_le_bytes, w64}
use Rattle.fl_base.specs.declared.fragment.Frag.{Frag}
use Rattle.fl_base.specs.Control.{control_word}
use Rattle.fl_interface.specs.Interface.{TheInterface}
use Rattle.fl_value_data.specs.Value.{TheCall}
use Rattle.fl_value_data.specs.declared.value.PlanNo.{PlanNo}
use Rattle.fl_layout.specs.Leaves.{Leaf, leaves}
use Rattle.fl_layout.specs.Places.{size, place, count}

-- each leaf's bytes stand at its place, little-endian, and every other byte is 0
abbrev pub payload_at : List Leaf → ℕ → ℕ
payload_at [] p = 0
payload_at (leaf ∷ before) p =
    if nat_le (place leaf before) p && nat_lt p (place leaf before + leaf.width)
    then byte_at (p - place leaf before) leaf.value
    else payload_at before p

-- the bytes of these leaves, from 0 to the end of the last one; none where there are no leaves
abbrev pub payload_bytes : List Leaf → List ℕ
payload_bytes ls = map (payload_at ls) (range_with_len 0 (size ls))

-- the payload of a call
abbrev pub payload_of : PlanNo → TheInterface → TheCall → List ℕ
payload_of plan i c = payload_bytes (leaves plan i c)

-- the next 8 payload bytes as a word, zeros after the end
abbrev pub word : List ℕ → ℕ → ℕ
word bytes k = from_le_bytes w64 (map (slice_index bytes) (range_with_len (8 * k) 8))

-- fragment k of a message with these payload bytes, on a circuit: the next 7 words
abbrev pub frag_on : ℕ → ℕ → List ℕ → ℕ → Frag
frag_on circuit msg bytes k = record {
  words = map (word bytes) (range_with_len (7 * k) 7);
  control = control_word (k == 0) msg circuit;
}

-- the fragments of a call on a circuit
abbrev pub frags_on : ℕ → PlanNo → TheInterface → TheCall → List Frag
frags_on circuit plan i c =
    map (frag_on circuit c.msg (payload_of plan i c)) (range_with_len 0 (count plan i c))

-- the fragments of a call off links
abbrev pub frags_of : PlanNo → TheInterface → TheCall → List Frag
frags_of plan i c = frags_on 0 plan i c
