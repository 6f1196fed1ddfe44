-- The text of an answer, without the line feed; and that of a line.
use Rattle.std.specs.Prelude.{ℕ, ◌/◌, ◌%◌, false, List, [], ◌∷◌, ◌++◌, slice_get, unwrap_or, codes}
use Rattle.std.specs.List.{flat_map}
use Rattle.std.specs.Int.{to_be_bytes, w64}
use Rattle.std.specs.Fmt.{decimal, digit_glyph}
use Rattle.fl_base.specs.declared.fragment.Frag.{Frag}
use Rattle.fl_base.specs.declared.identity.EndId.{EndId}
use Rattle.fl_value_data.specs.Value.{TheCall}
use Rattle.fl_value.specs.Printed.{printed_call}
use Rattle.fl_model.specs.Events.{Answer, done, accepted, nothing, full, written, handle, part, ready, quiet}
use Rattle.fl_model.specs.Events.{forwarded, opened, opening_refused, words, refused}
use Rattle.fl_script_lines.specs.Commands.{side_text}
use Rattle.fl_script_lines.specs.Names.{Names, message_name}

-- a byte as two lower-case hexadecimal digits
abbrev pub byte_hex : ℕ → List ℕ
byte_hex byte = digit_glyph false (byte / 16) ∷ digit_glyph false (byte % 16) ∷ []

-- a word as 16 digits
abbrev pub hex : ℕ → List ℕ
hex word = flat_map byte_hex (to_be_bytes w64 word)

-- eight words, parted by single spaces, the control word last
abbrev pub frag_text : Frag → List ℕ
frag_text frag = flat_map (λ word. hex word ++ codes " ") frag.words ++ hex frag.control

-- an end; none of a binding without a name is ever answered
abbrev pub end_named : Names → EndId → List ℕ
end_named n e = unwrap_or (slice_get n.bindings e.binding) [] ++ side_text e.side

-- a call at an end
abbrev pub call_at : Names → EndId → TheCall → List ℕ
call_at n e c = printed_call (message_name n e c.msg) c.args

-- an answer; a refused opening is told with its end, a refused command with its fault alone
abbrev pub answer_text : Names → Answer → List ℕ
answer_text n done = codes "ok"
answer_text n accepted = codes "accepted"
answer_text n nothing = codes "nothing"
answer_text n full = codes "full"
answer_text n (written k of) = codes "written " ++ decimal k ++ codes " of " ++ decimal of
answer_text n (handle e c) = codes "handle " ++ end_named n e ++ codes " " ++ call_at n e c
answer_text n (part e) = codes "part " ++ end_named n e
answer_text n (ready e) = codes "ready " ++ end_named n e
answer_text n (quiet e) = codes "quiet " ++ end_named n e
answer_text n forwarded = codes "forwarded"
answer_text n (opened e) = codes "opened " ++ end_named n e
answer_text n (opening_refused fault e) = codes "refused E" ++ decimal fault ++ codes " " ++ end_named n e
answer_text n (words frag) = frag_text frag
answer_text n (refused fault) = codes "refused E" ++ decimal fault

-- a fault of an interface's text, and where it stands
abbrev pub fault_text : ℕ → ℕ → List ℕ
fault_text number offset = codes "refused E" ++ decimal number ++ codes " at " ++ decimal offset

-- a line that has this text
abbrev pub line : List ℕ → List ℕ
line text = text ++ 10 ∷ []
