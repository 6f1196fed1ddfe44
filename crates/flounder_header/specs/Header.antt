-- What a header says: its preface, and the declarations of each message, in their order. What stands in the structs and functions is
-- left open.
use Rattle.std.specs.Prelude.{◌≡◌, ℕ, ◌+◌, List, [], ◌∷◌, ◌++◌, flat_map, codes}
use Rattle.std.specs.Fmt.{decimal}
use Rattle.fl_interface.specs.Interface.{TheMessage, TheInterface}
use Rattle.fl_value_data.specs.declared.value.PlanNo.{PlanNo}
use Rattle.fl_value_data.specs.declared.value.PlanNo.TheVariants.{One, Two}
use Rattle.fl_layout.specs.Layouts.{tape_length, IsGreatest}

-- pieces of text, one behind another
abbrev pub joined : List (List ℕ) → List ℕ
joined pieces = flat_map (λ piece. piece) pieces

-- ---- the preface

abbrev pub plan_text : PlanNo → List ℕ
plan_text One = codes "1"
plan_text Two = codes "2"

-- an interface's name and its plan, and what lets the header be included twice, behind the library's
abbrev pub preface : List ℕ → List ℕ → List ℕ
preface name plan = joined (codes "/* Interface " ∷ name ∷ codes ", plan " ∷ plan ∷ codes ". */\n#ifndef FLOUNDER_" ∷ name
    ∷ codes "_H\n#define FLOUNDER_" ∷ name ∷ codes "_H\n#include <flounder.h>\n" ∷ [])

-- ---- a message

-- the name of a message in C
abbrev pub message_name : List ℕ → List ℕ → List ℕ
message_name interface message = joined (interface ∷ codes "_" ∷ message ∷ [])

-- a message's struct, its number, and how many numbers its tapes have at most
abbrev pub struct_text : List ℕ → List ℕ → List ℕ → List ℕ → List ℕ
struct_text name number members most = joined (codes "\nstruct " ∷ name ∷ codes " {\n" ∷ members
    ∷ codes "};\nenum { " ∷ name ∷ codes "_number = " ∷ number ∷ codes ", " ∷ name ∷ codes "_most = 1 + " ∷ most
    ∷ codes " };\n" ∷ [])

-- the function that puts a call's numbers, by these lines
abbrev pub put_text : List ℕ → List ℕ → List ℕ
put_text name puts = joined (codes "static inline size_t " ∷ name ∷ codes "_put(const struct " ∷ name
    ∷ codes " *m, uint64_t *call)\n{\n    size_t n = 0;\n    (void)m;\n    call[n++] = " ∷ name ∷ codes "_number;\n" ∷ puts
    ∷ codes "    return n;\n}\n" ∷ [])

-- the function that gets a call of its numbers, by these lines
abbrev pub get_text : List ℕ → List ℕ → List ℕ
get_text name gets = joined (codes "static inline int " ∷ name ∷ codes "_get(struct " ∷ name
    ∷ codes " *m, const uint64_t *call, size_t count)\n{\n    struct fl_tape tape = { call, count, 0 };\n"
    ∷ codes "    (void)m;\n    if (fl_next(&tape) != " ∷ name ∷ codes "_number) return 0;\n" ∷ gets
    ∷ codes "    return !tape.wrong && !tape.left;\n}\n" ∷ [])

-- a message's declarations
abbrev pub section_text : List ℕ → List ℕ → List ℕ → List ℕ → List ℕ → List ℕ → List ℕ
section_text name number members most puts gets =
    joined (struct_text name number members most ∷ put_text name puts ∷ get_text name gets ∷ [])

-- A message is declared, by its number. A call's first number is the message's, and behind it stands its tape, which has so many at most.
pub record IsSection (plan : PlanNo) (i : TheInterface) (msg : ℕ) (m : TheMessage) (text : List ℕ) : Type 0 where
  pub members : List ℕ
  pub most : ℕ
  pub is_most : IsGreatest (tape_length plan i) i msg most
  pub puts : List ℕ
  pub gets : List ℕ
  pub spelled : text ≡ section_text (message_name i.name m.name) (decimal msg) members (decimal most) puts gets

-- ---- all of it

-- the declarations of messages, numbered from there
abbrev pub AreSections : PlanNo → TheInterface → ℕ → List TheMessage → List ℕ → Type 0
AreSections plan i from [] text = text ≡ []
AreSections plan i from (m ∷ ms) text = (first rest : List ℕ) × IsSection plan i from m first
    × AreSections plan i (from + 1) ms rest × (text ≡ first ++ rest)

-- an interface's header for calls of a plan: the preface, the declarations of the messages from 0 on, and the end
abbrev pub IsHeader : PlanNo → TheInterface → List ℕ → Type 0
IsHeader plan i text = (sections : List ℕ) × AreSections plan i 0 i.messages sections
    × (text ≡ preface i.name (plan_text plan) ++ (sections ++ codes "\n#endif\n"))
