-- What is printed of a cores file: the line that is refused, or the report of its run.
use Rattle.std.specs.Prelude.{ℕ, ◌==◌, nat_lt, Bool, true, false, if◌then◌else◌, List, [], ◌∷◌, ◌++◌, map, length}
use Rattle.std.specs.Prelude.{position, Option, codes}
use Rattle.std.specs.List.{count_by, flat_map, range_with_len}
use Rattle.std.specs.Fmt.{decimal}
use Rattle.fl_base.specs.declared.identity.EndId.{EndId}
use Rattle.fl_base.specs.declared.identity.Side.{Side}
use Rattle.fl_base.specs.declared.identity.Side.TheVariants.{Client, Server}
use Rattle.fl_base.specs.Given.{given}
use Rattle.fl_model.specs.Events.{handle, opening_refused}
use Rattle.fl_script_lines.specs.Answers.{answer_text, end_named, line}
use Rattle.fl_script_lines.specs.Names.{Names, message_name}
use Rattle.fl_cores_file.specs.CoresFile.{CoresFile, numbered, end_by}
use Rattle.fl_cores_file.specs.Report.{TheReport, Ending, complete, turns_out, at_end, refusal_of}

-- a line that is refused
abbrev pub refusal_text : ℕ → ℕ → List ℕ
refusal_text number fault = line (codes "line " ++ decimal number ++ codes " refused E" ++ decimal fault)

-- ---- the order of names

-- byte by byte; a name stands before a longer one that begins with it
abbrev pub comes_before : List ℕ → List ℕ → Bool
comes_before xs [] = false
comes_before [] (y ∷ ys) = true
comes_before (x ∷ xs) (y ∷ ys) = if x == y then comes_before xs ys else nat_lt x y

-- how many of the names come before this one
abbrev pub rank_of : List (List ℕ) → List ℕ → ℕ
rank_of names name = count_by (λ other. comes_before other name) names

abbrev pub ranks_of : List (List ℕ) → List ℕ
ranks_of names = map (rank_of names) names

-- the place of the name before which so many come
abbrev pub place_at_rank : List (List ℕ) → ℕ → Option ℕ
place_at_rank names rank = position (λ one. one == rank) (ranks_of names)

-- ---- a report

abbrev pub end_at : ℕ → Side → EndId
end_at binding side = record { binding = binding; side = side }

-- what stands before the arguments of a call of a message that an end handled
abbrev pub head_text : Names → EndId → ℕ → List ℕ
head_text names e msg = codes "handle " ++ (end_named names e ++ (codes " " ++ (message_name names e msg ++ 40 ∷ [])))

-- the calls that an end handled, a line each
abbrev pub handled_text : CoresFile → TheReport → EndId → List ℕ
handled_text f r e = flat_map (λ c. line (answer_text f.names (handle e c))) (at_end r.handled (end_by f.numbers e))

-- a binding, by its place among the `bind` lines
abbrev pub binding_text : CoresFile → TheReport → ℕ → List ℕ
binding_text f r place =
    given (refusal_of r (numbered f.numbers place))
    (handled_text f r (end_at place Client) ++ handled_text f r (end_at place Server))
    λ fault. line (answer_text f.names (opening_refused fault (end_at place Client)))

-- the lines of the binding before whose name so many come
abbrev pub text_at_rank : CoresFile → TheReport → ℕ → List ℕ
text_at_rank f r rank = given (place_at_rank f.names.bindings rank) [] (binding_text f r)

abbrev pub ending_text : Ending → List ℕ
ending_text complete = codes "complete"
ending_text turns_out = codes "turns out"

-- bindings in the order of their names, and then how the run ended
abbrev pub report_text : CoresFile → TheReport → List ℕ
report_text f r =
    flat_map (text_at_rank f r) (range_with_len 0 (length f.names.bindings)) ++ line (ending_text r.ending)
