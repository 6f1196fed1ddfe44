-- The greatest payload of a message, by the plan that keeps the arguments in declared order.
use Rattle.std.specs.Prelude.{ℕ, ◌+◌, ◌*◌, List, [], ◌∷◌, max}
use Rattle.fl_interface.specs.Types.{TheArgType, fixed, text, sized}
use Rattle.fl_interface.specs.Sizes.{size_of, align_of, round_up}

-- Where the last argument ends, if what stands before these ends at a place after which alignment `due`
-- is due. A fixed one stands at the next multiple of its alignment; a string or a sized array at the next
-- multiple of 8 with its length in 8 bytes, then as many bytes or elements as it may have; what follows
-- that starts at a multiple of 8.
abbrev pub greatest_end : ℕ → ℕ → List TheArgType → ℕ
greatest_end end due [] = end
greatest_end end due (fixed t ∷ args) = greatest_end (round_up end (max due (align_of t)) + size_of t) 1 args
greatest_end end due (text bound ∷ args) = greatest_end (round_up end 8 + (8 + bound)) 8 args
greatest_end end due (sized bound t ∷ args) = greatest_end (round_up end 8 + (8 + bound * size_of t)) 8 args

-- the length in bytes of the longest payload
abbrev pub greatest_payload : List TheArgType → ℕ
greatest_payload args = greatest_end 0 1 args
