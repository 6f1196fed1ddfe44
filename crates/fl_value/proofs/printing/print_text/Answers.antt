use Rattle.std.proofs.Common.{◌≡◌, ◌<◌, ◌≤◌, ◌+◌, ◌-◌, ◌++◌, ◌∷◌, [], ℕ, List, length, take, drop, get_or, refl, ap, ◌∙◌, append_assoc}
use Rattle.std.proofs.lemmas.List.{at_drop_more, drop_all}
use Rattle.std.specs.List.{flat_map}
use Rattle.fl_value.specs.Printed.{printed_byte, printed_text}
use Rattle.fl_value.proofs.Begun.{IsLeft, one_piece_less, none_left, begun_left, begun_piece, not_begun, on_refusal}
use Rattle.fl_value.proofs.Spans.{left_of_slice, shown_span}
use Rattle.fl_value.proofs.printing.print_text.Goals as goal

-- what is printed from a byte on
abbrev bytes_left : List ℕ → ℕ → List ℕ
bytes_left bytes k = flat_map printed_byte (drop k bytes) ++ 34 ∷ []

one_byte : (bytes : List ℕ) (k : ℕ) → k < length bytes → bytes_left bytes k ≡ printed_byte (get_or bytes k 0) ++ bytes_left bytes (k + 1)
one_byte bytes k here =
    at_drop_more (λ (bs : List ℕ). flat_map printed_byte bs ++ 34 ∷ []) bytes k 0 here
    ∙ append_assoc (printed_byte (get_or bytes k 0)) (flat_map printed_byte (drop (k + 1) bytes)) (34 ∷ [])

-- all bytes are printed, and then the closing quote
closed : (bytes : List ℕ) (k : ℕ) (old out new text : List ℕ) → length bytes ≤ k → IsLeft old out text (bytes_left bytes k) → new ≡ out ++ 34 ∷ [] → new ≡ old ++ text
closed bytes k old out new text past left last =
    let end : bytes_left bytes k ≡ (34 ∷ []) ++ [] = ap (λ (bs : List ℕ). flat_map printed_byte bs ++ 34 ∷ []) (drop_all k bytes past) in
    none_left old new text [] refl (one_piece_less old out new text (bytes_left bytes k) (34 ∷ []) [] left end last)

pub loop-byte-init : goal.loop-byte-init
loop-byte-init c =
    let bytes = c.args.bytes.now in
    let n = c.count_shown-shown.result in
    let rest = take (length bytes - n) (drop n bytes) in
    one_piece_less c.args.out.now.items c.push.new.self.items c.extend_from_slice.new.self.items (printed_text bytes) (flat_map printed_byte bytes ++ 34 ∷ []) (take n bytes) (bytes_left rest 0)
    (34 ∷ [], refl, c.in_ok-push.ensures.items) (shown_span bytes rest n c.count_shown-shown.ensures.same (left_of_slice bytes n) (34 ∷ [])) c.in_ok-extend_from_slice.ensures.items

pub loop-byte-preserved : goal.loop-byte-preserved
loop-byte-preserved c =
    let bytes = c.args.bytes.now in
    let n = c.count_shown-shown.result in
    let rest = take (length bytes - n) (drop n bytes) in
    let k = c.loop-byte.byte-index in
    one_piece_less c.args.out.now.items c.loop-byte.out.items c.print_byte.new.out.items (printed_text bytes) (bytes_left rest k) (printed_byte (get_or rest k 0)) (bytes_left rest (k + 1))
    c.loop-byte.invariant (one_byte rest k c.loop-byte-test.true) c.in_ok-print_byte.ensures.printed

pub returns-clause-printed : goal.returns-clause-printed
returns-clause-printed c =
    let bytes = c.args.bytes.now in
    let n = c.count_shown-shown.result in
    let rest = take (length bytes - n) (drop n bytes) in
    closed rest c.loop-byte.byte-index c.args.out.now.items c.loop-byte.out.items c.push-2.new.self.items (printed_text bytes) c.loop-byte-test.false c.loop-byte.invariant c.in_ok-push-2.ensures.items

pub returns-in_err-push-clause-begun : goal.returns-in_err-push-clause-begun
returns-in_err-push-clause-begun c = on_refusal c.from_residual.result (not_begun c.args.out.now.items c.push.new.self.items (printed_text c.args.bytes.now) c.in_err-push.ensures.items)

pub returns-in_err-extend_from_slice-clause-begun : goal.returns-in_err-extend_from_slice-clause-begun
returns-in_err-extend_from_slice-clause-begun c =
    let bytes = c.args.bytes.now in
    on_refusal c.from_residual-in_err-extend_from_slice.result
    (begun_left c.args.out.now.items c.push.new.self.items c.extend_from_slice.new.self.items (printed_text bytes) (flat_map printed_byte bytes ++ 34 ∷ []) (34 ∷ [], refl, c.in_ok-push.ensures.items) c.in_err-extend_from_slice.ensures.items)

pub returns-in_err-print_byte-clause-begun : goal.returns-in_err-print_byte-clause-begun
returns-in_err-print_byte-clause-begun c =
    let bytes = c.args.bytes.now in
    let n = c.count_shown-shown.result in
    let rest = take (length bytes - n) (drop n bytes) in
    let k = c.loop-byte.byte-index in
    on_refusal c.from_residual-in_err-print_byte.result
    (begun_piece c.args.out.now.items c.loop-byte.out.items c.print_byte.new.out.items (printed_text bytes) (bytes_left rest k) (printed_byte (get_or rest k 0)) (bytes_left rest (k + 1))
    c.loop-byte.invariant (one_byte rest k c.loop-byte-test.true) c.in_err-print_byte.ensures.begun)

pub returns-in_err-push-2-clause-begun : goal.returns-in_err-push-2-clause-begun
returns-in_err-push-2-clause-begun c =
    let bytes = c.args.bytes.now in
    let n = c.count_shown-shown.result in
    let rest = take (length bytes - n) (drop n bytes) in
    on_refusal c.from_residual-in_err-push-2.result
    (begun_left c.args.out.now.items c.loop-byte.out.items c.push-2.new.self.items (printed_text bytes) (bytes_left rest c.loop-byte.byte-index) c.loop-byte.invariant c.in_err-push-2.ensures.items)
