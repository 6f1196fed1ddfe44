-- The commands of scripts, and the table of their lines: for each command the pieces that its line has, in order.
use Rattle.std.specs.Prelude.{ℕ, List, [], ◌∷◌, ◌++◌, map, codes}
use Rattle.fl_base.specs.declared.identity.Side.{Side}
use Rattle.fl_base.specs.declared.identity.Side.TheVariants.{Client, Server}
use Rattle.fl_value_data.specs.declared.value.PlanNo.{PlanNo}
use Rattle.fl_value_data.specs.declared.value.PlanNo.TheVariants.{One, Two}

-- an end as a script names it: a binding, and the client's side or the service's
pub record EndName : Type 0 where
  pub binding : List ℕ
  pub side : Side

-- how a binding's two ends are to be joined
pub data BackEnd : Type 0 where
  -- by queues of so many slots, on one core
  local : ℕ → BackEnd
  -- by a ring of so many slots each way, on two cores
  ump : ℕ → BackEnd
  -- by a circuit over these cores: the first, and the others
  hop : ℕ → List ℕ → BackEnd

-- a command as its line has it: whether its names stand for anything is found later
pub data Command : Type 0 where
  -- the number of cores
  cores : ℕ → Command
  -- a link between two cores, and its slots each way
  link : ℕ → ℕ → ℕ → Command
  -- a dispatcher, and its core
  disp : List ℕ → ℕ → Command
  -- a service, its dispatcher and its interface
  export : List ℕ → List ℕ → List ℕ → Command
  -- a binding, the client's dispatcher, the interface, the service, and how its ends are joined
  bind : List ℕ → List ℕ → List ℕ → List ℕ → BackEnd → Command
  -- an end, and the text of the call that it makes
  call : EndName → List ℕ → Command
  show : EndName → Command
  write : EndName → Command
  turn : List ℕ → Command
  ack : EndName → Command
  register : EndName → Command
  deregister : EndName → Command
  -- an end, the message that it replies to, and the message that is the reply
  reply : EndName → List ℕ → List ℕ → Command
  -- a core whose monitor writes, and the neighbour to which it does
  mwrite : ℕ → ℕ → Command
  -- a core that forwards, and the neighbour from which the fragment came
  forward : ℕ → ℕ → Command
  -- a core that acknowledges, and the neighbour whose fragments it read
  mack : ℕ → ℕ → Command

-- ---- the pieces of lines

-- one word of a line or, for a text, all that is left of it
pub data Piece : Type 0 where
  -- this very word
  the_word : List ℕ → Piece
  a_name : List ℕ → Piece
  a_number : ℕ → Piece
  an_end : EndName → Piece
  -- all that stands behind the words, blanks within it too: the text of a call
  a_text : List ℕ → Piece

-- the last pieces of a `bind` line: how the ends are to be joined
abbrev pub back_end_row : BackEnd → List Piece
back_end_row (local slots) = the_word (codes "local") ∷ a_number slots ∷ []
back_end_row (ump slots) = the_word (codes "ump") ∷ a_number slots ∷ []
back_end_row (hop first others) = the_word (codes "hop") ∷ a_number first ∷ map (λ core. a_number core) others

-- the table
abbrev pub row_of : Command → List Piece
row_of (cores n) = the_word (codes "cores") ∷ a_number n ∷ []
row_of (link a b slots) = the_word (codes "link") ∷ a_number a ∷ a_number b ∷ a_number slots ∷ []
row_of (disp d core) = the_word (codes "disp") ∷ a_name d ∷ a_number core ∷ []
row_of (export s d i) = the_word (codes "export") ∷ a_name s ∷ a_name d ∷ a_name i ∷ []
row_of (bind p d i s back) = the_word (codes "bind") ∷ a_name p ∷ a_name d ∷ a_name i ∷ a_name s ∷ back_end_row back
row_of (call e text) = the_word (codes "call") ∷ an_end e ∷ a_text text ∷ []
row_of (show e) = the_word (codes "show") ∷ an_end e ∷ []
row_of (write e) = the_word (codes "write") ∷ an_end e ∷ []
row_of (turn d) = the_word (codes "turn") ∷ a_name d ∷ []
row_of (ack e) = the_word (codes "ack") ∷ an_end e ∷ []
row_of (register e) = the_word (codes "register") ∷ an_end e ∷ []
row_of (deregister e) = the_word (codes "deregister") ∷ an_end e ∷ []
row_of (reply e message answer) = the_word (codes "reply") ∷ an_end e ∷ a_name message ∷ a_name answer ∷ []
row_of (mwrite core neighbour) = the_word (codes "mwrite") ∷ a_number core ∷ a_number neighbour ∷ []
row_of (forward core neighbour) = the_word (codes "forward") ∷ a_number core ∷ a_number neighbour ∷ []
row_of (mack core neighbour) = the_word (codes "mack") ∷ a_number core ∷ a_number neighbour ∷ []

-- the head of a block that holds an interface's text: it is laid out by plan 2, or by plan 1
abbrev pub heading_row : PlanNo → List Piece
heading_row Two = the_word (codes "idl") ∷ []
heading_row One = the_word (codes "idl") ∷ the_word (codes "1") ∷ []

abbrev pub side_text : Side → List ℕ
side_text Client = codes ".c"
side_text Server = codes ".s"

-- an end: `p.c` or `p.s`
abbrev pub end_text : EndName → List ℕ
end_text e = e.binding ++ side_text e.side
