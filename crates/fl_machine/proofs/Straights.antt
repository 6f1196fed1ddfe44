-- Code without loops, instruction by instruction.
use Rattle.std.proofs.Common.{◌≡◌, ◌≢◌, ℕ, ◌+◌, ◌-◌, ◌%◌, ◌<◌, ◌≤◌, inl, true, false, List, [], ◌∷◌, ◌++◌, take, drop, length, slice_get, Some, None, refl, sym, ◌∙◌, ap, subst, arith}
use Rattle.std.specs.Option.{option_map}
use Rattle.fl_base.specs.declared.fragment.Frag.{Frag}
use Rattle.fl_base.specs.Control.{control_word, message_of, body}
use Rattle.fl_interface.specs.Interface.{TheInterface}
use Rattle.fl_interface.specs.Limits.{is_within_limits}
use Rattle.fl_interface.specs.Counts.{interface_words_fit}
use Rattle.fl_value_data.specs.declared.value.PlanNo.{PlanNo}
use Rattle.fl_wire.specs.Headers.{Line}
use Rattle.fl_wire.specs.Wrong.{start_fault}
use Rattle.fl_wire.proofs.Frames.{start_control}
use Rattle.fl_stub.specs.Code.{TheCode}
use Rattle.fl_stub.specs.Streams.{IsPayload}
use Rattle.fl_compile.specs.Codes.{compiled_code}
use Rattle.fl_stub.specs.declared.op.Op.{Op}
use Rattle.fl_stub.specs.declared.op.Op.TheVariants.{Emit, Pad, Align, Length as LengthOp, Times, Each, Back, End, Read, ReadBool, ReadEnum, ReadChar, Skip, ReadLength, ReadText, Done}
use Rattle.fl_stub.specs.declared.op.Column.TheVariants.{Receive}
use Rattle.fl_stub.specs.declared.mark.ByteKind.TheVariants.{Length}
use Rattle.fl_stub.specs.Structure.{IsCode}
use Rattle.fl_stub.specs.Frames.{block_of}
use Rattle.fl_stub.specs.Rests.{TheField, rest_all, is_taken, taken_field, is_silent, told}
use Rattle.fl_stub.proofs.Stances.{first_stance, first_reach}
use Rattle.fl_machine.specs.declared.intake.ByteField.{ByteField}
use Rattle.fl_machine.specs.declared.intake.RecvCursor.{RecvCursor}
use Rattle.fl_stub.specs.Meaning.{number_bytes}
use Rattle.fl_machine.specs.Taking.{field_view, IsTaking, IsAtField, Stands, IsFed, HasField, Passes, Grows, words_bytes}
use Rattle.fl_machine.specs.Straight.{is_straight, straight_intake, straight_behind, HasNumber}
use Rattle.fl_machine.specs.declared.recv.PartialCall.{PartialCall}
use Rattle.fl_machine.specs.declared.recv.TapedCall.{TapedCall}
use Rattle.fl_machine.specs.Receiving.{parts_of, whole_of, TheHeld, AddsLast, IsEnded}
use Rattle.fl_machine.proofs.Feeding.{taking, none_begun, is_whole, ended, adds_last}
use Rattle.fl_machine.proofs.Intakes.{takes_here, has_field, here_of, over_step, passes_none, whole_here}

-- ---- a straight instruction

pub straight_loud : (op : Op) (phase : ℕ) → is_straight op ≡ true → is_silent op phase ≡ false
straight_loud (Read width) phase e = refl
straight_loud ReadBool phase e = refl
straight_loud (ReadEnum count) phase e = refl
straight_loud ReadChar phase e = refl
straight_loud ReadText phase e = refl
straight_loud (Skip zeros) phase e = refl
straight_loud (Emit n) phase e = absurd cc
straight_loud (Pad n) phase e = absurd cc
straight_loud Align phase e = absurd cc
straight_loud (LengthOp n) phase e = absurd cc
straight_loud (Times n) phase e = absurd cc
straight_loud Each phase e = absurd cc
straight_loud Back phase e = absurd cc
straight_loud End phase e = absurd cc
straight_loud (ReadLength n) phase e = absurd cc
straight_loud Done phase e = absurd cc

pub straight_same : (op : Op) (at : ℕ) → is_straight op ≡ true → taken_field op 0 ≡ taken_field op at
straight_same (Read width) at e = refl
straight_same ReadBool at e = refl
straight_same (ReadEnum count) at e = refl
straight_same ReadChar at e = refl
straight_same ReadText at e = refl
straight_same (Skip zeros) at e = refl
straight_same (Emit n) at e = absurd cc
straight_same (Pad n) at e = absurd cc
straight_same Align at e = absurd cc
straight_same (LengthOp n) at e = absurd cc
straight_same (Times n) at e = absurd cc
straight_same Each at e = absurd cc
straight_same Back at e = absurd cc
straight_same End at e = absurd cc
straight_same (ReadLength n) at e = absurd cc
straight_same Done at e = absurd cc

pub straight_mark : (op : Op) → is_straight op ≡ true → (taken_field op 0).mark ≢ Length
straight_mark (Read width) e = λ m. absurd cc
straight_mark ReadBool e = λ m. absurd cc
straight_mark (ReadEnum count) e = λ m. absurd cc
straight_mark ReadChar e = λ m. absurd cc
straight_mark ReadText e = λ m. absurd cc
straight_mark (Skip zeros) e = λ m. absurd cc
straight_mark (Emit n) e = absurd cc
straight_mark (Pad n) e = absurd cc
straight_mark Align e = absurd cc
straight_mark (LengthOp n) e = absurd cc
straight_mark (Times n) e = absurd cc
straight_mark Each e = absurd cc
straight_mark Back e = absurd cc
straight_mark End e = absurd cc
straight_mark (ReadLength n) e = absurd cc
straight_mark Done e = absurd cc

pub straight_more : (op : Op) → is_straight op ≡ true → op ≢ Done
straight_more op e d = let z : is_straight op ≡ false = ap is_straight d in absurd cc

-- ---- at the first instruction

pub straight_new : (ops : List Op) → IsCode Receive ops (block_of ops) → Stands ops [] (straight_intake 0 0 0) []
straight_new ops code = record {
  at = record {
    done = [];
    stance = first_stance ops (block_of ops) code;
    phase = refl;
    reach = first_reach ops code;
    waiting = inl (refl, refl);
    bytes_are = refl;
    quiet = λ busy. absurd (busy refl);
  };
  shows = record { each = λ p inside. absurd (omega (arith, inside)) };
}

-- ---- one instruction

straight_quiet : (ops : List Op) (c : RecvCursor) (op : Op) → slice_get ops c.place ≡ Some op → is_straight op ≡ true → IsAtField ops c
straight_quiet ops c op there straight other found =
    let both : Some op ≡ Some other = sym there ∙ found in
    let same : op ≡ other = cc in
    subst (λ (o : Op). is_silent o c.phase ≡ false) same (straight_loud op c.phase straight)

pub straight_takes : (ops : List Op) (c : RecvCursor) (op : Op) → slice_get ops c.place ≡ Some op → is_straight op ≡ true → IsTaking ops c → is_taken op ≡ true
straight_takes ops c op there straight s = (takes_here ops c op there s (straight_quiet ops c op there straight) (straight_more op straight)).taken

straight_field : (ops : List Op) (c : RecvCursor) (op : Op) (f : ByteField) → slice_get ops c.place ≡ Some op → is_straight op ≡ true → IsTaking ops c
    → ((at : ℕ) → 0 % 8 ≡ at % 8 → field_view f ≡ taken_field op at) → HasField ops c f
straight_field ops c op f there straight s view =
    has_field ops c op f there s (straight_quiet ops c op there straight) (straight_more op straight) (λ at same. view 0 refl ∙ straight_same op at straight)

pub straight_narrow : (ops : List Op) (taken : List ℕ) (c : RecvCursor) (all left : List ℕ) (op : Op) (f : ByteField) → slice_get ops c.place ≡ Some op → is_straight op ≡ true → IsFed ops taken c all left
    → ((at : ℕ) → 0 % 8 ≡ at % 8 → field_view f ≡ taken_field op at) → f.width ≤ 8
straight_narrow ops taken c all left op f there straight fed view =
    (here_of ops taken c all left f fed (straight_field ops c op f there straight fed.at.stance view)).reach.sound.0.width

-- past a straight instruction, from wherever a run stands that has got no byte of a number
straight_over : (ops : List Op) (taken taken2 all buffer : List ℕ) (c : RecvCursor) (count2 used : ℕ) (op : Op) (f : ByteField) (x : ℕ)
    → IsFed ops taken c all (drop used (take 56 buffer)) → c.have ≡ 0 → c.value ≡ 0 → slice_get ops c.place ≡ Some op → is_straight op ≡ true
    → ((at : ℕ) → 0 % 8 ≡ at % 8 → field_view f ≡ taken_field op at) → HasNumber f buffer used x → taken2 ≡ taken ++ told f.told x
    → IsFed ops taken2 (record c { place = c.place + 1; count = count2; phase = (c.phase % 8 + f.width) % 8; value = 0; have = 0 }) all (drop (used + f.width) (take 56 buffer))
straight_over ops taken taken2 all buffer c count2 used op f x fed idle none there straight view number put =
    let c1 : RecvCursor = record c { count = count2 } in
    let stance : IsTaking ops c = fed.at.stance in
    let field = straight_field ops c op f there straight stance view in
    let field1 : HasField ops c1 f = record { op = field.op; there = field.there; taken = field.taken; view = field.view; wide = field.wide } in
    let mark : f.mark ≢ Length = λ m. straight_mark op straight (sym (ap TheField.mark (view 0 refl)) ∙ m) in
    let c2 : RecvCursor = record c1 { place = c.place + 1; phase = (c1.phase % 8 + f.width) % 8; value = 0; have = 0 } in
    let over = over_step ops c1 f x field1 stance mark in
    let grown : Grows c.have c.value x (f.width) (drop used (take 56 buffer)) (drop (used + f.width) (take 56 buffer))
    = subst (λ (h : ℕ). Grows h c.value x f.width (drop used (take 56 buffer)) (drop (used + f.width) (take 56 buffer))) (sym idle)
    (subst (λ (v : ℕ). Grows 0 v x f.width (drop used (take 56 buffer)) (drop (used + f.width) (take 56 buffer))) (sym none) number.grows) in
    whole_here ops taken taken2 c c1 c2 c2 all (drop used (take 56 buffer)) (drop (used + f.width) (take 56 buffer)) f x f.width
    fed field grown (omega (arith, idle)) number.last number.least refl put over (passes_none ops c2 over.stance)

pub straight_step : (ops : List Op) (taken taken2 all buffer : List ℕ) (place count count2 used : ℕ) (op : Op) (f : ByteField) (x : ℕ)
    → IsFed ops taken (straight_intake place count used) all (drop used (take 56 buffer)) → slice_get ops place ≡ Some op → is_straight op ≡ true
    → ((at : ℕ) → 0 % 8 ≡ at % 8 → field_view f ≡ taken_field op at) → HasNumber f buffer used x → taken2 ≡ taken ++ told f.told x
    → IsFed ops taken2 (straight_intake (place + 1) count2 (used + f.width)) all (drop (used + f.width) (take 56 buffer))
straight_step ops taken taken2 all buffer place count count2 used op f x fed there straight view number put =
    let c : RecvCursor = straight_intake place count used in
    let made = straight_over ops taken taken2 all buffer c count2 used op f x fed refl refl there straight view number put in
    let phase : (used % 8 % 8 + f.width) % 8 ≡ (used + f.width) % 8 = omega arith in
    subst (λ (p : ℕ). IsFed ops taken2 (record (straight_intake (place + 1) count2 0) { phase = p }) all (drop (used + f.width) (take 56 buffer))) phase made

-- ---- where a fragment begins

-- a run that has got no byte of a number
pub straight_begin : (ops : List Op) (taken : List ℕ) (c : RecvCursor) (phase : ℕ) (all left : List ℕ) → IsFed ops taken c all left → c.have ≡ 0 → phase % 8 ≡ c.phase % 8
    → IsFed ops taken (straight_behind c c.place c.count phase) all left
straight_begin ops taken c phase all left fed idle same =
    let a = fed.at in
    record {
      prefix = fed.prefix;
      at = record {
        done = a.done;
        stance = a.stance;
        phase = same ∙ a.phase;
        reach = a.reach;
        waiting = inl (refl, refl);
        bytes_are = a.bytes_are ∙ ap (λ (w : ℕ). a.done ++ number_bytes w c.value) idle;
        quiet = λ busy. absurd (busy refl);
      };
      joined = fed.joined;
    }

pub straight_on : (ops : List Op) (taken taken2 all buffer : List ℕ) (c : RecvCursor) (place count count2 used phase : ℕ) (op : Op) (f : ByteField) (x : ℕ)
    → IsFed ops taken (straight_behind c place count phase) all (drop used (take 56 buffer)) → slice_get ops place ≡ Some op → is_straight op ≡ true
    → ((at : ℕ) → 0 % 8 ≡ at % 8 → field_view f ≡ taken_field op at) → HasNumber f buffer used x → taken2 ≡ taken ++ told f.told x
    → IsFed ops taken2 (straight_behind c (place + 1) count2 ((phase % 8 + (used + f.width - used)) % 8)) all (drop (used + f.width) (take 56 buffer))
straight_on ops taken taken2 all buffer c place count count2 used phase op f x fed there straight view number put =
    let made = straight_over ops taken taken2 all buffer (straight_behind c place count phase) count2 used op f x fed refl refl there straight view number put in
    let same : (phase % 8 + f.width) % 8 ≡ (phase % 8 + (used + f.width - used)) % 8 = omega arith in
    subst (λ (p : ℕ). IsFed ops taken2 (straight_behind c (place + 1) count2 p) all (drop (used + f.width) (take 56 buffer))) same made

-- further on by more bytes
pub phase_further : (phase from used end : ℕ) → from ≤ used → used ≤ end → ((phase % 8 + (used - from)) % 8 % 8 + (end - used)) % 8 ≡ (phase % 8 + (end - from)) % 8
phase_further phase from used end first second = omega (arith, first, second)

pub straight_wide : (ops : List Op) (taken : List ℕ) (c : RecvCursor) (all left : List ℕ) (op : Op) (f : ByteField) → slice_get ops c.place ≡ Some op → is_straight op ≡ true → IsFed ops taken c all left
    → ((at : ℕ) → 0 % 8 ≡ at % 8 → field_view f ≡ taken_field op at) → 0 < f.width
straight_wide ops taken c all left op f there straight fed view = (straight_field ops c op f there straight fed.at.stance view).wide

-- on to the next instruction that takes bytes
pub straight_settled : (ops : List Op) (taken : List ℕ) (c d : RecvCursor) (all left : List ℕ) → IsFed ops taken c all left → c.have ≡ 0 → c.value ≡ 0 → Passes ops c d → IsFed ops taken d all left
straight_settled ops taken c d all left fed idle none p =
    let a = fed.at in
    let have : d.have ≡ c.have = ap RecvCursor.have p.others in
    let value : d.value ≡ c.value = ap RecvCursor.value p.others in
    record {
      prefix = fed.prefix;
      at = record {
        done = a.done;
        stance = p.stance;
        phase = ap (λ (x : RecvCursor). x.phase % 8) p.others ∙ a.phase;
        reach = p.leads (length a.done) a.phase (rest_all (block_of ops)) taken a.done a.reach;
        waiting = inl (have ∙ idle, value ∙ none);
        bytes_are = a.bytes_are ∙ (λ i. a.done ++ number_bytes (sym have i) (sym value i));
        quiet = λ busy. absurd (busy (have ∙ idle));
      };
      joined = fed.joined;
    }

-- ---- a whole call in one fragment

no_bytes : (bytes : List ℕ) → length bytes ≡ 0 → bytes ≡ []
no_bytes [] e = refl
no_bytes (x ∷ bytes) e = absurd (omega (arith, e))

pub straight_ends : (plan : PlanNo) (i : TheInterface) (f : Frag) (code : TheCode) (ops : List Op) (tape : List ℕ) (e : TapedCall) → is_within_limits i ≡ true → interface_words_fit i ≡ true → Line f
    → start_fault i f ≡ None → e.msg.0 ≡ message_of f.control → Some code ≡ option_map (compiled_code Receive plan) (slice_get i.messages e.msg.0) → ops ≡ code.ops
    → e.count ≤ length tape → IsPayload (block_of ops) (words_bytes f.words) (take e.count tape)
    → IsEnded plan i tape e × AddsLast plan i [] f (let t : TheHeld = record { parts = []; whole = whole_of plan i tape e } in t)
straight_ends plan i f code ops tape e within words line none own exact lent few whole =
    let b : PartialCall = record { msg = e.msg; fed = 0; intake = straight_intake 0 0 0 } in
    let begun = none_begun plan i [] b f within words none own refl refl straight_new in
    let control : body f.control ≡ control_word true e.msg.0 0 = start_control i f none ∙ ap (λ (m : ℕ). control_word true m 0) (sym own) in
    let x = taking plan i [] b f code ops within words line begun control exact lent in
    let empty : x.bytes ≡ [] = no_bytes x.bytes x.long in
    let all : IsPayload (block_of ops) (x.bytes ++ words_bytes f.words) (take e.count tape)
    = subst (λ (bytes : List ℕ). IsPayload (block_of ops) (bytes ++ words_bytes f.words) (take e.count tape)) (sym empty) whole in
    (ended plan i (parts_of plan i [] b ++ f ∷ []) tape e few (is_whole plan i [] b f ops tape e x refl all), adds_last plan i [] b f ops tape e x refl few all)
