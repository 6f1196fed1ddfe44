-- An interface in memory has words for names, so an image can spell it where its enums are short.
use Rattle.std.proofs.Common.{◌≡◌, true, List, [], ◌∷◌, map, refl}
use Rattle.std.specs.List.{list_all}
use Rattle.std.specs.Cmp.{first_so, second_so}
use Rattle.fl_interface.specs.declared.interface.Interface.{Interface}
use Rattle.fl_interface.specs.declared.interface.Message.{Message}
use Rattle.fl_interface.specs.Interface.{TheMessage, TheInterface, message_of, interface_of}
use Rattle.fl_interface.specs.Limits.{is_within_limits}
use Rattle.fl_compile.specs.declared.program.Program.{Program}
use Rattle.fl_compile.specs.Programs.{program_of}
use Rattle.fl_lex.proofs.Classes.{both}
use Rattle.fl_image.specs.Image.{is_name, message_has_short_enums, is_message_spellable, is_spellable, is_writable, has_image}

messages_spelled : (ms : List Message) → list_all message_has_short_enums (map message_of ms) ≡ true → list_all is_message_spellable (map message_of ms) ≡ true
messages_spelled [] h = refl
messages_spelled (m ∷ ms) h =
    both (is_message_spellable (message_of m)) (list_all is_message_spellable (map message_of ms))
    (both (is_name m.name.bytes.items) (message_has_short_enums (message_of m)) m.name.named (first_so (message_has_short_enums (message_of m)) _ h))
    (messages_spelled ms (second_so (message_has_short_enums (message_of m)) _ h))

interface_has : (i : Interface) → is_writable (interface_of i) ≡ true → has_image (interface_of i) ≡ true
interface_has i h =
    let spelled = both (is_name i.name.bytes.items) (list_all is_message_spellable (map message_of i.messages.items)) i.name.named (messages_spelled i.messages.items h) in
    both (is_within_limits (interface_of i)) (is_spellable (interface_of i)) i.within spelled

-- so has a program's
pub program_has : (p : Program) → is_writable (program_of p).interface ≡ true → has_image (program_of p).interface ≡ true
program_has p h = interface_has p.compiled.value.plans.interface h

enums_of : (ms : List TheMessage) → list_all is_message_spellable ms ≡ true → list_all message_has_short_enums ms ≡ true
enums_of [] h = refl
enums_of (m ∷ ms) h =
    both (message_has_short_enums m) (list_all message_has_short_enums ms) (second_so (is_name m.name) _ (first_so (is_message_spellable m) _ h))
    (enums_of ms (second_so (is_message_spellable m) _ h))

-- what an image can spell has short enums
pub spellable_enums : (x : TheInterface) → is_spellable x ≡ true → is_writable x ≡ true
spellable_enums x h = enums_of x.messages (second_so (is_name x.name) _ h)
