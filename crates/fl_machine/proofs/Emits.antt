-- Send code that gives numbers and zeros alone, one after another.
use Rattle.std.proofs.Common.{◌≡◌, ◌≢◌, false, ℕ, ◌+◌, ◌%◌, ◌^◌, ◌<◌, ◌≤◌, true, List, [], ◌∷◌, ◌++◌, drop, length, get_or, slice_get, Some, refl, sym, ◌∙◌, ap, subst, arith, leb}
use Rattle.std.specs.Cmp.{second_so}
use borrow.Author.Tests.{leb-true}
use Rattle.std.proofs.lemmas.List.{drop_more}
use Rattle.fl_stub.specs.declared.op.Op.{Op}
use Rattle.fl_stub.specs.declared.op.Op.TheVariants.{Emit, Pad}
use Rattle.fl_stub.specs.Structure.{is_width, is_within}
use Rattle.fl_stub.specs.Meaning.{number_bytes}
use Rattle.fl_stub.specs.Given.{first_of_tape, rest_of_tape}
use Rattle.fl_stub.specs.Locations.{TheLoop, TheEndLocation, IsLocation, bytes_from}
use Rattle.fl_stub.proofs.Steps.{moved, at_step}
use Rattle.fl_machine.specs.declared.cursor.SendCursor.{SendCursor}
use Rattle.fl_machine.specs.Cursors.{loops_of, location_of}
use Rattle.fl_machine.specs.Filling.{PutsRun}
use Rattle.fl_machine.specs.Straight.{straight_location, cursor_on, GivesNumber}
use Rattle.fl_machine.proofs.Turns.{at_op, width_small, emitted, emit_fits, zeros_bytes, zero_fits}
use Rattle.fl_machine.proofs.Pours.{over_eight, gives_all, puts_more}

pub straight_width : (ops : List Op) (tape : List ℕ) (place next filled width : ℕ) → slice_get ops place ≡ Some (Emit width) → IsLocation ops (straight_location tape place next filled)
    → is_width width ≡ true
straight_width ops tape place next filled width op location =
    at_step ops (straight_location tape place next filled) (Emit width) (drop (place + 1) ops) (at_op ops place (Emit width) op) location refl

pub emit_given : (ops : List Op) (tape : List ℕ) (place next filled width low : ℕ) → slice_get ops place ≡ Some (Emit width) → next < length tape
    → number_bytes width low ≡ number_bytes width (get_or tape next 0) → low < 256 ^ width → IsLocation ops (straight_location tape place next filled)
    → GivesNumber ops (straight_location tape place next filled) (straight_location tape (place + 1) (next + 1) (filled + width)) low width
emit_given ops tape place next filled width low op there bytes small location =
    let s = straight_location tape place next filled in
    let x = get_or tape next 0 in
    let cut : drop next tape ≡ x ∷ drop (next + 1) tape = drop_more tape next 0 there in
    let first : first_of_tape (drop next tape) ≡ x = ap first_of_tape cut in
    let left : rest_of_tape (drop next tape) ≡ drop (next + 1) tape = ap rest_of_tape cut in
    let fits = straight_width ops tape place next filled width op location in
    let few = width_small width fits in
    let taken : number_bytes width (first_of_tape (drop next tape)) ≡ number_bytes width low = ap (number_bytes width) first ∙ sym bytes in
    let made = moved ops s (Emit width) low width (at_op ops place (Emit width) op) location refl fits taken refl few small in
    let t : TheEndLocation = record { place = place + 1; loops = []; tape = rest_of_tape (drop next tape); at = (filled % 8 + width) % 8; value = low; width = width } in
    let u : TheEndLocation = record t { value = 0; width = 0 } in
    let idle : IsLocation ops u = gives_all ops t made.location in
    let given : bytes_from ops s ≡ number_bytes width low ++ bytes_from ops u = made.bytes in
    let phase : (filled % 8 + width) % 8 ≡ (filled + width) % 8 = omega arith in
    let same : u ≡ straight_location tape (place + 1) (next + 1) (filled + width) = λ i. record { place = place + 1; loops = []; tape = left i; at = phase i; value = 0; width = 0 } in
    subst (λ (v : TheEndLocation). GivesNumber ops s v low width) same (record { few = few; small = small; location = idle; bytes = given })

pub zeros_given : (ops : List Op) (tape : List ℕ) (place next filled zeros : ℕ) → slice_get ops place ≡ Some (Pad zeros) → IsLocation ops (straight_location tape place next filled)
    → GivesNumber ops (straight_location tape place next filled) (straight_location tape (place + 1) next (filled + zeros)) 0 zeros
zeros_given ops tape place next filled zeros op location =
    let s = straight_location tape place next filled in
    let so : is_within 7 zeros ≡ true = at_step ops s (Pad zeros) (drop (place + 1) ops) (at_op ops place (Pad zeros) op) location refl in
    let most : zeros ≤ 7 = leb-true zeros 7 (second_so (leb 1 zeros) (leb zeros 7) so) in
    let few : zeros ≤ 8 = omega (arith, most) in
    let small : 0 < 256 ^ zeros = zero_fits zeros in
    let made = moved ops s (Pad zeros) 0 zeros (at_op ops place (Pad zeros) op) location refl so (zeros_bytes zeros) refl few small in
    let t : TheEndLocation = record { place = place + 1; loops = []; tape = drop next tape; at = (filled % 8 + zeros) % 8; value = 0; width = zeros } in
    let u : TheEndLocation = record t { width = 0 } in
    let idle : IsLocation ops u = gives_all ops t made.location in
    let given : bytes_from ops s ≡ number_bytes zeros 0 ++ bytes_from ops u = made.bytes in
    let phase : (filled % 8 + zeros) % 8 ≡ (filled + zeros) % 8 = omega arith in
    let same : u ≡ straight_location tape (place + 1) next (filled + zeros) = λ i. record { place = place + 1; loops = []; tape = drop next tape; at = phase i; value = 0; width = 0 } in
    subst (λ (v : TheEndLocation). GivesNumber ops s v 0 zeros) same (record { few = few; small = small; location = idle; bytes = given })

-- the number to be given put, and on to that of the next instruction, which gives one alone
pub emit_on : (ops : List Op) (tape buffer after : List ℕ) (c : SendCursor) (place next phase value width filled more low : ℕ) → slice_get ops place ≡ Some (Emit more) → next < length tape
    → filled + 8 ≤ 56 → length buffer ≡ 56 → number_bytes more low ≡ number_bytes more (get_or tape next 0) → low < 256 ^ more → after ≡ over_eight buffer filled value
    → IsLocation ops (location_of tape (cursor_on c place next phase value width)) → PutsRun ops (location_of tape c) (location_of tape (cursor_on c place next phase value width)) [] buffer filled
    → IsLocation ops (location_of tape (cursor_on c (place + 1) (next + 1) ((phase % 8 + more) % 8) low more))
    × PutsRun ops (location_of tape c) (location_of tape (cursor_on c (place + 1) (next + 1) ((phase % 8 + more) % 8) low more)) [] after (filled + width)
emit_on ops tape buffer after c place next phase value width filled more low op there room long bytes small is location run =
    let here = cursor_on c place next phase value width in
    let old = cursor_on c place next phase 0 0 in
    let mid = cursor_on c place (next + 1) phase 0 0 in
    let new = cursor_on c (place + 1) (next + 1) ((phase % 8 + more) % 8) low more in
    let x = get_or tape next 0 in
    let cut : drop next tape ≡ x ∷ drop (next + 1) tape = drop_more tape next 0 there in
    let idle : IsLocation ops (location_of tape old) = gives_all ops (location_of tape here) location in
    let around : List TheLoop = loops_of c.loops c.depth in
    let left : drop (next + 1) tape ≡ rest_of_tape (drop next tape) = ap rest_of_tape (sym cut) in
    let at : (phase % 8 + more) % 8 ≡ (phase + more) % 8 = omega arith in
    let made = emitted ops tape old mid new more x low op idle refl (ap first_of_tape (sym cut))
    (λ i. record { place = place; loops = around; tape = left i; at = phase; value = 0; width = 0 }) refl bytes small
    (λ i. record { place = place + 1; loops = around; tape = drop (next + 1) tape; at = at i; value = low; width = more }) in (
      made.location,
      puts_more ops (location_of tape c) (location_of tape here) (location_of tape new) [] buffer after filled value width run long room location.width location.value
          (ap (λ (bs : List ℕ). number_bytes width value ++ bs) made.bytes) is,
    )

pub on_width : (ops : List Op) (tape : List ℕ) (c : SendCursor) (place next phase value width more : ℕ) → slice_get ops place ≡ Some (Emit more) → IsLocation ops (location_of tape (cursor_on c place next phase value width))
    → is_width more ≡ true
on_width ops tape c place next phase value width more op location =
    emit_fits ops tape (cursor_on c place next phase 0 0) more op (gives_all ops (location_of tape (cursor_on c place next phase value width)) location)

pub wide_number : (width : ℕ) → is_width width ≡ true → width ≢ 0
wide_number width fits none = let z : is_width width ≡ false = ap is_width none in absurd (cc)
