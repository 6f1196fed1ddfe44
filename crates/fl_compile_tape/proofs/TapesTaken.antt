-- What prepared code takes from calls' payloads.
use Rattle.std.proofs.Common.{◌≡◌, ℕ, ◌+◌, ◌%◌, true, List, [], ◌++◌, length, refl, sym, ◌∙◌, ap, subst, arith}
use Rattle.std.specs.Prelude.{Option, Some, None, slice_get}
use Rattle.std.proofs.lemmas.Bool.{false≢true}
use Rattle.std.proofs.lemmas.List.{append-nil, length-append}
use Rattle.fl_interface.specs.Interface.{TheMessage}
use Rattle.fl_interface.specs.Limits.{is_within_limits}
use Rattle.fl_interface.specs.Counts.{interface_words_fit}
use Rattle.fl_value_data.specs.Value.{TheCall}
use Rattle.fl_value_data.specs.Fits.{fits_of, fit_message}
use Rattle.fl_value_data.specs.Tape.{tape_of}
use Rattle.fl_value_tape.specs.Packed.{packed_of}
use Rattle.fl_value_unpack.specs.Unpacked.{HasPacked}
use Rattle.fl_wire.specs.Payload.{payload_of}
use Rattle.fl_stub.specs.declared.op.Column.TheVariants.{Send, Receive}
use Rattle.fl_stub_steps.specs.Spreading.{Spread, spread_of, spread_first}
use Rattle.fl_stub_steps.specs.Steps.{TheSteps, IsPlain, steps_in}
use Rattle.fl_stub_steps.specs.declared.step.PreparedCode.{PreparedCode}
use Rattle.fl_compile.specs.Compiled.{message_block}
use Rattle.fl_compile.specs.Programs.{TheProgram, code_in, Prepares}
use Rattle.fl_compile.proofs.Lawful.{call_turns, compiles_to_code}
use Rattle.fl_compile.proofs.Spreading.{packs, plain_payload, prepared_for, no_code}
use Rattle.fl_compile.proofs.Alike.{means_send}
use Rattle.fl_compile.specs.PackedLaws.{IsPrepared}
use Rattle.fl_stub_steps.specs.Taking.{steps_taken}
use Rattle.fl_stub_steps.proofs.TakesBack.{takes_back}
use Rattle.fl_compile_tape.specs.TapeLaws.{TakesPackedCalls, HasPayload}

pub takes_packed_calls : TakesPackedCalls
takes_packed_calls column plan i m c steps after has fits means whole =
    let code = compiles_to_code Send plan i c.msg m has in
    takes_back Send (message_block Send plan m) steps (tape_of plan i c) (payload_of plan i c) after code.fits (means_send column plan m steps means) (call_turns Send plan i m c has fits) whole
    ∙ ap (λ (z : List ℕ). spread_of z after) (packs plan i m c has fits)

-- ---- of a program

taken_at : (p : TheProgram) (c : TheCall) (steps : TheSteps) (after : List ℕ) (o : Option TheMessage) → is_within_limits p.interface ≡ true → interface_words_fit p.interface ≡ true
    → fits_of p.interface c ≡ true → IsPrepared Receive p c.msg steps → (length (payload_of p.plan p.interface c) + length after) % 8 ≡ 0 → slice_get p.interface.messages c.msg ≡ o
    → steps_taken steps (spread_first (payload_of p.plan p.interface c ++ after)) ≡ spread_of (packed_of p.plan p.interface c) after
taken_at p c steps after None within words fits prepared whole e = absurd (false≢true (subst (λ (o : Option TheMessage). fit_message o c.args ≡ true) e fits))
taken_at p c steps after (Some m) within words fits prepared whole e =
    takes_packed_calls Receive p.plan p.interface m c steps after (record { within = within; words = words; message = e }) fits (prepared m e) whole

-- what the steps of its message's receive code take from the payload of a call is its packed tape
pub packed_taken : (p : TheProgram) (msg : ℕ) (code : PreparedCode) (bytes old new left : List ℕ) (c : TheCall) → is_within_limits p.interface ≡ true → interface_words_fit p.interface ≡ true
    → Prepares (code_in Receive p msg) code → old ≡ [] → spread_of new left ≡ steps_taken (steps_in code) (spread_of old bytes) → HasPayload p msg bytes c → HasPacked p.plan p.interface msg new c
packed_taken p msg code bytes old new left c within words prepares none is h =
    let own : Prepares (code_in Receive p c.msg) code = subst (λ (k : ℕ). Prepares (code_in Receive p k) code) (sym h.message) prepares in
    let payload = payload_of p.plan p.interface c in
    let whole : (length payload + length h.after) % 8 ≡ 0 = omega (arith, h.eights, ap length h.prefix, length-append payload h.after) in
    let all = is ∙ ap (λ (g : List ℕ). steps_taken (steps_in code) (spread_of g bytes)) none ∙ ap (λ (bs : List ℕ). steps_taken (steps_in code) (spread_first bs)) h.prefix
    ∙ taken_at p c (steps_in code) h.after (slice_get p.interface.messages c.msg) within words h.fits (prepared_for Receive p c code within words own) whole refl in
    record {
      message = h.message;
      fits = h.fits;
      after = [];
      prefix = ap (λ (s : Spread). s.given) all ∙ sym (append-nil (packed_of p.plan p.interface c));
    }

-- where the code puts nothing between a tape's bytes, the payload is the packed tape
pub packed_plain : (p : TheProgram) (msg : ℕ) (code : PreparedCode) (bytes : List ℕ) (c : TheCall) → is_within_limits p.interface ≡ true → interface_words_fit p.interface ≡ true
    → Prepares (code_in Receive p msg) code → IsPlain (steps_in code) → HasPayload p msg bytes c → HasPacked p.plan p.interface msg bytes c
packed_plain p msg code bytes c within words prepares plain h =
    let own : Prepares (code_in Receive p c.msg) code = subst (λ (k : ℕ). Prepares (code_in Receive p k) code) (sym h.message) prepares in
    let takes : IsPrepared Receive p c.msg (steps_in code) = prepared_for Receive p c code within words own in
    let sends : IsPrepared Send p c.msg (steps_in code) = λ m e. means_send Receive p.plan m (steps_in code) (takes m e) in
    let same = plain_payload p c (steps_in code) within words h.fits sends plain in
    record {
      message = h.message;
      fits = h.fits;
      after = h.after;
      prefix = h.prefix ∙ ap (λ (bs : List ℕ). bs ++ h.after) (sym same);
    }

-- a call's message has code
pub has_code : (p : TheProgram) (msg : ℕ) (bytes : List ℕ) → code_in Send p msg ≡ None → ((c : TheCall) × HasPayload p msg bytes c) → ⊥
has_code p msg bytes none (c, h) = no_code p c h.fits (ap (code_in Send p) h.message ∙ none)
